-- What running the lines of a scene comes to.
-- A reader learns here that the history of a scene is a function of its lines.
use Rattle.std.specs.Prelude.{◌≡◌, ℕ, zero, suc, List, [], ◌∷◌, Option, Some, None, Result, Ok, Err}
use Rattle.pipe_model.specs.declared.reply.Reply.{Reply}
use Rattle.pipe_model.specs.declared.entry.StepFault.{StepFault}
use Rattle.scene_text.specs.declared.scenes.SceneWhat.{SceneWhat}
use Rattle.scene_text.specs.declared.scenes.SceneWhat.TheVariants.{One, Pump}
use Rattle.scene_text.specs.declared.scenes.SceneLine.{SceneLine}
use Rattle.scene_text.specs.Scenes.{PlainScene}
use Rattle.world_core.specs.Steps.{Seen, fresh_world, step_answer, after_step, pump_answer, after_pump}

-- a world at the end of a run, and the fault of the first step that was refused
pub record Ran : Type 0 where
  pub world : Seen
  pub stop : Option StepFault

-- a run that was not stopped, and one that was
abbrev pub ended : Seen → Ran
ended w = record { world = w; stop = None }

abbrev pub stopped : Seen → StepFault → Ran
stopped w fault = record { world = w; stop = Some fault }

-- the fault of an answer, if it has one
abbrev pub stop_of : {T : Type 0} → Result T StepFault → Option StepFault
stop_of (Ok x) = None
stop_of (Err fault) = Some fault

-- after a pump's answer: it stops where nothing was due or the step was refused, else goes on
abbrev pub pumped : Result (Option Reply) StepFault → Seen → Ran → Ran
pumped (Ok None) w rest = ended w
pumped (Ok (Some reply)) w rest = rest
pumped (Err fault) w rest = stopped w fault

-- at most so many pumps, all by the scene's own actor
abbrev pub pumps : ℕ → Seen → Ran
pumps zero w = ended w
pumps (suc n) w = pumped (pump_answer w) w (pumps n (after_pump 0 w))

-- one line: an event, or pumps
abbrev pub run_what : SceneWhat → Seen → Ran
run_what (One event) w = record { world = after_step 0 event w; stop = stop_of (step_answer event w) }
run_what (Pump count) w = pumps count w

-- a run goes on where it was not stopped
abbrev pub unless_stopped : Option StepFault → Ran → Ran → Ran
unless_stopped None rest now = rest
unless_stopped (Some fault) rest now = now

-- the lines in order, up to the first step that is refused
abbrev pub runs : List SceneLine → Seen → Ran
runs [] w = ended w
runs (line ∷ lines) w = let now : Ran = run_what line.what w in unless_stopped now.stop (runs lines now.world) now

-- a scene, in a world in which nothing has happened
abbrev pub run_of : PlainScene → Ran
run_of scene = runs scene.lines (fresh_world scene.setup scene.payload scene.room)

-- setup and payload stay
pub record SameScene (old new : Seen) : Type 0 where
  pub setup : new.setup ≡ old.setup
  pub payload : new.payload ≡ old.payload
