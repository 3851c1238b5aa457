-- What the program answers and writes.
-- A reader learns here what each list of words and each input gets, and what stands in its place
-- where memory, a read or a write fails.
use Rattle.std.specs.Prelude.{◌≡◌, ℕ, ◌≤◌, nat_lt, if◌then◌else◌, List, [], length, codes, ◌⊎◌, Option, Some, None, Result, Ok, Err, take}
use Rattle.std.specs.Str.Lines.{lines}
use Rattle.byte_port.specs.Causes.{Grew, IsRead}
use Rattle.pipe_model.specs.declared.entry.Entry.{Entry}
use Rattle.pipe_model.specs.declared.entry.StepFault.{StepFault}
use Rattle.scene_text.specs.declared.faults.SceneFault.{SceneFault}
use Rattle.scene_text.specs.Scenes.{PlainScene}
use Rattle.scene_text.specs.Grammar.{scene_of}
use Rattle.scene_text.specs.HistoryText.{Printed, history_text}
use Rattle.smcr_words.specs.Commands.{command_of}
use Rattle.smcr_words.specs.declared.Command.{Command}
use Rattle.smcr_words.specs.declared.Command.TheVariants.{Run, Show, Trace}
use Rattle.wire_trace.specs.Files.{posts_in, file_of}
use Rattle.smcr_calls.specs.declared.top.Status.{Status}
use Rattle.smcr_calls.specs.declared.top.Status.TheVariants as statuses
use Rattle.smcr_calls.specs.declared.top.TheConstants.{MOST_INPUT_BYTES}
use Rattle.smcr_calls.specs.Answers.{Answer, refusal_answer}
use Rattle.smcr_calls.specs.Runs.{Ran, run_of}
use Rattle.smcr_calls.specs.ShowLines.{after_lines, show_answer}

abbrev pub IsCommand : List (List ℕ) → Type 0
IsCommand words = (command : Command) × (command_of words ≡ Some command)

-- a run that a refused step stopped has spent its room
abbrev pub status_of : Option StepFault → Status
status_of None = statuses.Ok
status_of (Some fault) = statuses.Spent

-- the text of a history, and the status that goes with the step that stopped it
abbrev pub history_answer : Printed → List Entry → Option StepFault → Answer
history_answer p history stop = record { status = status_of stop; text = history_text p history stop }

-- a scene that was run: the text of its history
abbrev pub ran_answer : PlainScene → Ran → Answer
ran_answer scene r = history_answer (record { names = scene.names; actors = scene.actors; payload = r.world.payload; heard = r.world.heard }) r.world.history r.stop

-- the trace of a history, and the status that goes with the step that stopped it
abbrev pub trace_of : List Entry → Option StepFault → Answer
trace_of history stop = record { status = status_of stop; text = file_of (posts_in history) }

-- a scene that was run: the trace of its history
abbrev pub traced_answer : Ran → Answer
traced_answer r = trace_of r.world.history r.stop

-- what the scene is answered that an input is, or the first line that is refused
abbrev pub scene_answer : (PlainScene → Answer) → Result PlainScene SceneFault → Answer
scene_answer answer (Ok scene) = answer scene
scene_answer answer (Err fault) = refusal_answer fault

-- an input to `run`: the history of the scene that it is
abbrev pub run_answer : List ℕ → Answer
run_answer input = scene_answer (λ scene. ran_answer scene (run_of scene)) (scene_of input)

-- an input to `trace`: the trace of the same history
abbrev pub trace_answer : List ℕ → Answer
trace_answer input = scene_answer (λ scene. traced_answer (run_of scene)) (scene_of input)

-- what a command makes of an input
abbrev pub answer_to : Command → List ℕ → Answer
answer_to Run input = run_answer input
answer_to Show input = show_answer input
answer_to Trace input = trace_answer input

-- an input gets the command's answer, unless it is too long; without a command there is the usage line
abbrev pub served : Option Command → List ℕ → Answer
served None input = record { status = statuses.Usage; text = codes "usage: smcr run|show|trace\n" }
served (Some command) input = if nat_lt MOST_INPUT_BYTES (length input) then record { status = statuses.TooLong; text = codes "too long\n" } else answer_to command input

-- what words and an input are answered where memory, source and sink serve
abbrev pub due_answer : List (List ℕ) → List ℕ → Answer
due_answer words input = served (command_of words) input

-- a text was written and the status stands, or a front of it was and the write failed
abbrev pub Finishes : Status → Status → List ℕ → Option (List ℕ) → Option (List ℕ) → Type 0
Finishes result status text old new = ((result ≡ status) × Grew old new text) ⊎ ((result ≡ statuses.WriteFault) × ((n : ℕ) × Grew old new (take n text)))

-- The due answer was given, and its text written, for an input that the source had left.
abbrev pub Gives : Status → List (List ℕ) → Option (List ℕ) → Option (List ℕ) → Option (List ℕ) → Type 0
Gives status words left old new = (input : List ℕ) × IsRead left input × ((due_answer words input).status ≡ status) × Grew old new (due_answer words input).text

-- The due answer, whose text could not be written: a front of it was.
abbrev pub GivesUp : List (List ℕ) → Option (List ℕ) → Option (List ℕ) → Option (List ℕ) → Type 0
GivesUp words left old new = (input : List ℕ) × IsRead left input × ((n : ℕ) × Grew old new (take n (due_answer words input).text))

-- What each status says of the words, of what the source had left, and of what the sink holds then:
-- with want of memory, whatever the words are, and with a failed read of a command's input nothing
-- was written; a failed write stands in place of the due answer, and every other status is the due
-- one.
abbrev pub Tells : Status → List (List ℕ) → Option (List ℕ) → Option (List ℕ) → Option (List ℕ) → Type 0
Tells statuses.Ok words left old new = Gives statuses.Ok words left old new
Tells statuses.NoMemory words left old new = new ≡ old
Tells statuses.Usage words left old new = Gives statuses.Usage words left old new
Tells statuses.Refused words left old new = Gives statuses.Refused words left old new
Tells statuses.ReadFault words left old new = IsCommand words × (new ≡ old)
Tells statuses.WriteFault words left old new = GivesUp words left old new
Tells statuses.Spent words left old new = Gives statuses.Spent words left old new
Tells statuses.TooLong words left old new = Gives statuses.TooLong words left old new

-- What each status says where the words are a command.
abbrev pub Serves : Status → Command → Option (List ℕ) → Option (List ℕ) → Option (List ℕ) → Type 0
Serves status command left old new = (words : List (List ℕ)) → command_of words ≡ Some command → Tells status words left old new

-- an input that is a scene, of which no step is refused
abbrev pub IsRunWhole : List ℕ → Type 0
IsRunWhole input = (scene : PlainScene) × (scene_of input ≡ Ok scene) × ((run_of scene).stop ≡ None)

-- An input that a command takes to its end: it is not too long, each of its lines is one of the
-- command's, and no step is refused.
abbrev pub IsGood : Command → List ℕ → Type 0
IsGood Run input = (length input ≤ MOST_INPUT_BYTES) × IsRunWhole input
IsGood Trace input = (length input ≤ MOST_INPUT_BYTES) × IsRunWhole input
IsGood Show input = (length input ≤ MOST_INPUT_BYTES) × ((text : List ℕ) × (after_lines 1 (lines input) [] ≡ Ok text))
