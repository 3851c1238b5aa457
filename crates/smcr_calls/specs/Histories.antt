-- What a run of a scene has written: the text or the trace of a lawful history.
-- A reader learns here what was written, of which input, and what is said of the history in it.
use Rattle.std.specs.Prelude.{◌≡◌, ℕ, List, Option, Ok}
use Rattle.byte_port.specs.Causes.{Grew, IsRead}
use Rattle.pipe_model.specs.declared.entry.StepFault.{StepFault}
use Rattle.pipe_model.specs.Lawful.{IsLawful}
use Rattle.scene_text.specs.Scenes.{PlainScene}
use Rattle.scene_text.specs.Grammar.{scene_of}
use Rattle.scene_text.specs.HistoryText.{history_text}
use Rattle.wire_trace.specs.Files.{posts_in, file_of}
use Rattle.world_core.specs.Steps.{Seen}
use Rattle.smcr_calls.specs.declared.top.Status.{Status}
use Rattle.smcr_calls.specs.declared.top.Status.TheVariants as statuses
use Rattle.smcr_calls.specs.Runs.{run_of}

-- a status that says that a scene was run, to its end or until its room was spent
abbrev pub HasRun : Status → Type 0
HasRun statuses.Ok = Unit {0}
HasRun statuses.NoMemory = ⊥
HasRun statuses.Usage = ⊥
HasRun statuses.Refused = ⊥
HasRun statuses.ReadFault = ⊥
HasRun statuses.WriteFault = ⊥
HasRun statuses.Spent = Unit {0}
HasRun statuses.TooLong = ⊥

-- The text of the history of a world was written: of the one in which the scene was run that the input is which the source had left.
-- That history is lawful, with the bytes that the world handed out.
pub record WroteHistory (left old new : Option (List ℕ)) : Type 0 where
  pub input : List ℕ
  pub read : IsRead left input
  pub scene : PlainScene
  pub scene_is : scene_of input ≡ Ok scene
  pub world : Seen
  pub world_is : world ≡ (run_of scene).world
  pub stop : Option StepFault
  pub stop_is : stop ≡ (run_of scene).stop
  pub wrote : Grew old new (history_text (record { names = scene.names; actors = scene.actors; payload = scene.payload; heard = world.heard }) world.history stop)
  pub lawful : IsLawful scene.setup scene.payload world.history world.heard

-- The trace of the history of such a world was written, and no more: all posts of its entries, of which a refused step has none.
pub record WroteTrace (left old new : Option (List ℕ)) : Type 0 where
  pub input : List ℕ
  pub read : IsRead left input
  pub scene : PlainScene
  pub scene_is : scene_of input ≡ Ok scene
  pub world : Seen
  pub world_is : world ≡ (run_of scene).world
  pub wrote : Grew old new (file_of (posts_in world.history))
  pub lawful : IsLawful scene.setup scene.payload world.history world.heard
