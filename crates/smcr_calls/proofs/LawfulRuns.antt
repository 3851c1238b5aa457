-- The world of each scene that is run has a lawful history: line by line, pump by pump.
use Rattle.std.proofs.Common.{◌≡◌, ◌∙◌, ℕ, zero, suc, Bool, true, false, List, [], ◌∷◌, length, Option, Some, None, Result, Ok, Err, refl, ap, sym, subst}
use Rattle.std.specs.Prelude.{nat_lt, if◌then◌else◌, codes}
use Rattle.std.specs.List.{All}
use Rattle.std.specs.Str.Lines.{lines}
use Rattle.std.proofs.lemmas.List.Elements.{All-head, All-tail}
use Rattle.byte_port.specs.Causes.{Grew, IsRead}
use Rattle.pipe_model.specs.declared.setup.Setup.{Setup}
use Rattle.pipe_model.specs.declared.reply.Reply.{Reply}
use Rattle.pipe_model.specs.declared.entry.StepFault.{StepFault}
use Rattle.pipe_model.specs.Lawful.{IsLawful}
use Rattle.scene_text.specs.declared.faults.SceneFault.{SceneFault}
use Rattle.scene_text.specs.declared.scenes.SceneWhat.{SceneWhat}
use Rattle.scene_text.specs.declared.scenes.SceneWhat.TheVariants.{One, Pump}
use Rattle.scene_text.specs.declared.scenes.SceneLine.{SceneLine}
use Rattle.scene_text.specs.Scenes.{PlainScene, WhatFits, LineFits, IsSound, with_sockets}
use Rattle.scene_text.specs.Settings.{empty_draft}
use Rattle.scene_text.specs.Grammar.{after_lines, scene_of}
use Rattle.scene_text.specs.HistoryText.{history_text}
use Rattle.scene_text.proofs.Ranges.{bind_ok}
use Rattle.scene_text.proofs.Sound.{lines_sound}
use Rattle.world_core.specs.Steps.{Seen, fresh_world, pump_answer, after_pump}
use Rattle.world_core.specs.LawfulWorlds.{IsLawfulWorld}
use Rattle.world_core.proofs.LawfulWorlds.{fresh_is_lawful, history_is_lawful, pump_stays_lawful, step_stays_lawful}
use Rattle.smcr_words.specs.Commands.{command_of}
use Rattle.smcr_words.specs.declared.Command.{Command}
use Rattle.smcr_words.specs.declared.Command.TheVariants.{Run, Trace}
use Rattle.smcr_calls.specs.declared.top.Status.{Status}
use Rattle.smcr_calls.specs.declared.top.Status.TheVariants as statuses
use Rattle.smcr_calls.specs.declared.top.TheConstants.{MOST_INPUT_BYTES}
use Rattle.smcr_calls.specs.Answers.{Answer}
use Rattle.smcr_calls.specs.Runs.{Ran, pumped, pumps, run_what, unless_stopped, runs, run_of, SameScene}
use Rattle.smcr_calls.specs.Top.{answer_to, served, ran_answer, traced_answer, scene_answer, due_answer, Gives, Tells}
use Rattle.smcr_calls.specs.Histories.{HasRun, WroteHistory, WroteTrace}
use Rattle.smcr_calls.proofs.Runs.{scene-step, scene-pump, scene-more}
use Rattle.smcr_calls.proofs.Worlds.{world_takes}

-- a world after some lines: lawful, with the setup and the payload of the first one
record Went (old new : Seen) : Type 0 where
  lawful : IsLawfulWorld new
  scene : SameScene old new

stays : (w : Seen) → IsLawfulWorld w → Went w w
stays w l = record { lawful = l; scene = record { setup = refl; payload = refl } }

-- pump by pump
either-pump : (a : Result (Option Reply) StepFault) (w : Seen) (rest : Ran) → IsLawfulWorld w → Went w rest.world → Went w (pumped a w rest).world
either-pump (Ok None) w rest l went = stays w l
either-pump (Ok (Some reply)) w rest l went = went
either-pump (Err fault) w rest l went = stays w l

pumps-went : (n : ℕ) (w : Seen) → IsLawfulWorld w → Went w (pumps n w).world
pumps-went zero w l = stays w l
pumps-went (suc n) w l =
    let next = pumps-went n (after_pump 0 w) (pump_stays_lawful w l 0) in
    either-pump (pump_answer w) w (pumps n (after_pump 0 w)) l (record { lawful = next.lawful; scene = scene-more w (after_pump 0 w) _ (scene-pump 0 w) next.scene })

-- one line
line-went : (what : SceneWhat) (w : Seen) → IsLawfulWorld w → WhatFits w.setup (length w.payload) what → Went w (run_what what w).world
line-went (One event) w l fits = record { lawful = step_stays_lawful w l 0 event fits; scene = scene-step 0 event w }
line-went (Pump count) w l fits = pumps-went count w l

either-line : (stop : Option StepFault) (w : Seen) (rest now : Ran) → Went w now.world → Went w rest.world → Went w (unless_stopped stop rest now).world
either-line None w rest now went more = more
either-line (Some fault) w rest now went more = went

-- lines that fit a world fit one with its setup and payload
fit-still : (old new : Seen) → SameScene old new → (lines : List SceneLine) → All (LineFits old.setup (length old.payload)) lines → All (LineFits new.setup (length new.payload)) lines
fit-still old new same lines fits =
    subst (λ (bytes : List ℕ). All (LineFits new.setup (length bytes)) lines) (sym same.payload) (subst (λ (setup : Setup). All (LineFits setup (length old.payload)) lines) (sym same.setup) fits)

-- line by line
lines-went : (lines : List SceneLine) (w : Seen) → IsLawfulWorld w → All (LineFits w.setup (length w.payload)) lines → Went w (runs lines w).world
lines-went [] w l fits = stays w l
lines-went (line ∷ lines) w l fits =
    let now : Ran = run_what line.what w in
    let went : Went w now.world = line-went line.what w l (All-head (LineFits w.setup (length w.payload)) line lines fits) in
    let later = lines-went lines now.world went.lawful (fit-still w now.world went.scene lines (All-tail (LineFits w.setup (length w.payload)) line lines fits)) in
    either-line now.stop w (runs lines now.world) now went (record { lawful = later.lawful; scene = scene-more w now.world _ went.scene later.scene })

-- a scene that is read is sound
scene-sound : (input : List ℕ) (scene : PlainScene) → scene_of input ≡ Ok scene → IsSound scene
scene-sound input scene e =
    let draft = bind_ok (after_lines 1 (lines input) empty_draft) (λ draft. Ok (with_sockets draft.scene)) scene e in
    let same : with_sockets draft.0.scene ≡ scene = cc in
    subst IsSound same (lines_sound (lines input) draft.0 draft.1)

run-went : (scene : PlainScene) → IsSound scene → Went (fresh_world scene.setup scene.payload scene.room) (run_of scene).world
run-went scene sound = lines-went scene.lines (fresh_world scene.setup scene.payload scene.room) (fresh_is_lawful scene.setup scene.payload scene.room (world_takes scene.setup scene.room sound.settings)) sound.lines

-- the world of a scene that is run is lawful
pub run_is_lawful : (input : List ℕ) (scene : PlainScene) → scene_of input ≡ Ok scene → IsLawful scene.setup scene.payload (run_of scene).world.history (run_of scene).world.heard
run_is_lawful input scene e =
    let w : Seen = (run_of scene).world in
    let went = run-went scene (scene-sound input scene e) in
    let same = went.scene in
    subst (λ (setup : Setup). IsLawful setup scene.payload w.history w.heard) same.setup (subst (λ (bytes : List ℕ). IsLawful w.setup bytes w.history w.heard) same.payload (history_is_lawful w went.lawful))

payload-is : (input : List ℕ) (scene : PlainScene) → scene_of input ≡ Ok scene → (run_of scene).world.payload ≡ scene.payload
payload-is input scene e = let went = run-went scene (scene-sound input scene e) in let same = went.scene in same.payload

-- a status that was given where a scene was run
not-run : (status other : Status) → other ≡ status → HasRun status → HasRun other
not-run status other e h = subst (λ s. HasRun s) (sym e) h

-- an answer to a scene was given, and its text written, for an input that the source had left
record Answered (answer : PlainScene → Answer) (left old new : Option (List ℕ)) : Type 0 where
  input : List ℕ
  read : IsRead left input
  scene : PlainScene
  scene_is : scene_of input ≡ Ok scene
  wrote : Grew old new (answer scene).text

-- so it was with the status of a run
module _ (answer : PlainScene → Answer) (left old new : Option (List ℕ)) (status : Status) (run : HasRun status) where
  module _ (input : List ℕ) (read : IsRead left input) where
    answered-by : (r : Result PlainScene SceneFault) → scene_of input ≡ r → (scene_answer answer r).status ≡ status → Grew old new (scene_answer answer r).text → Answered answer left old new
    answered-by (Err fault) e s g = absurd (not-run status statuses.Refused s run)
    answered-by (Ok scene) e s g = record { input = input; read = read; scene = scene; scene_is = e; wrote = g }

    -- what is answered where an input may be too long
    abbrev answer_by : Bool → Answer
    answer_by long = if long then record { status = statuses.TooLong; text = codes "too long\n" } else scene_answer answer (scene_of input)

    answered-unless : (long : Bool) → (answer_by long).status ≡ status → Grew old new (answer_by long).text → Answered answer left old new
    answered-unless true s g = absurd (not-run status statuses.TooLong s run)
    answered-unless false s g = answered-by (scene_of input) refl s g

  module _ (command : Command) (is : (input : List ℕ) → answer_to command input ≡ scene_answer answer (scene_of input)) (words : List (List ℕ)) (of_command : command_of words ≡ Some command) where
    gives-answer : Gives status words left old new → Answered answer left old new
    gives-answer g =
        let due : due_answer words g.0 ≡ answer_by g.0 g.1 (nat_lt MOST_INPUT_BYTES (length g.0)) =
        ap (λ c. served c g.0) of_command ∙ ap (λ (a : Answer). if nat_lt MOST_INPUT_BYTES (length g.0) then record { status = statuses.TooLong; text = codes "too long\n" } else a) (is g.0) in
        answered-unless g.0 g.1 (nat_lt MOST_INPUT_BYTES (length g.0)) (ap (λ (a : Answer). a.status) (sym due) ∙ g.2) (subst (Grew old new) (ap (λ (a : Answer). a.text) due) g.3)

module _ (answer : PlainScene → Answer) (command : Command) (is : (input : List ℕ) → answer_to command input ≡ scene_answer answer (scene_of input)) where
  tells-answer : (status : Status) (words : List (List ℕ)) (left old new : Option (List ℕ)) → Tells status words left old new → command_of words ≡ Some command → HasRun status → Answered answer left old new
  tells-answer statuses.Ok words left old new t c run = gives-answer answer left old new statuses.Ok run command is words c t
  tells-answer statuses.Spent words left old new t c run = gives-answer answer left old new statuses.Spent run command is words c t
  tells-answer statuses.NoMemory words left old new t c run = absurd run
  tells-answer statuses.Usage words left old new t c run = absurd run
  tells-answer statuses.Refused words left old new t c run = absurd run
  tells-answer statuses.ReadFault words left old new t c run = absurd run
  tells-answer statuses.WriteFault words left old new t c run = absurd run
  tells-answer statuses.TooLong words left old new t c run = absurd run

-- what a status tells of a run says that its history was written
pub tells_history : (status : Status) (words : List (List ℕ)) (left old new : Option (List ℕ)) → Tells status words left old new → command_of words ≡ Some Run → HasRun status → WroteHistory left old new
tells_history status words left old new t command run =
    let a = tells-answer (λ scene. ran_answer scene (run_of scene)) Run (λ input. refl) status words left old new t command run in
    let w : Seen = (run_of a.scene).world in
    record {
      input = a.input;
      read = a.read;
      scene = a.scene;
      scene_is = a.scene_is;
      world = w;
      world_is = refl;
      stop = (run_of a.scene).stop;
      stop_is = refl;
      wrote = subst (λ (bytes : List ℕ). Grew old new (history_text (record { names = a.scene.names; actors = a.scene.actors; payload = bytes; heard = w.heard }) w.history (run_of a.scene).stop)) (payload-is a.input a.scene a.scene_is) a.wrote;
      lawful = run_is_lawful a.input a.scene a.scene_is;
    }

-- and of a trace, that the trace of that history was
pub tells_trace : (status : Status) (words : List (List ℕ)) (left old new : Option (List ℕ)) → Tells status words left old new → command_of words ≡ Some Trace → HasRun status → WroteTrace left old new
tells_trace status words left old new t command run =
    let a = tells-answer (λ scene. traced_answer (run_of scene)) Trace (λ input. refl) status words left old new t command run in
    record {
      input = a.input;
      read = a.read;
      scene = a.scene;
      scene_is = a.scene_is;
      world = (run_of a.scene).world;
      world_is = refl;
      wrote = a.wrote;
      lawful = run_is_lawful a.input a.scene a.scene_is;
    }
