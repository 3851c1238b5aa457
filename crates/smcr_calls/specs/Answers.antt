-- Answers: a status and the text that goes with it.
-- A reader learns here how a refusal is told, which statuses come where memory, source and sink serve, and what each leaves
-- on a page and with a sink.
use Rattle.std.specs.Prelude.{◌≡◌, ℕ, ◌≤◌, Bool, true, false, List, [], ◌++◌, codes, take, Option}
use Rattle.std.specs.Fmt.{decimal}
use Rattle.byte_port.specs.Causes.{Rose, Grew}
use Rattle.byte_port.specs.Pages.{Stands}
use Rattle.scene_text.specs.declared.faults.LineKind.{LineKind}
use Rattle.scene_text.specs.declared.faults.LineKind.TheVariants as kinds
use Rattle.scene_text.specs.declared.faults.SceneFault.{SceneFault}
use Rattle.scene_text.specs.declared.faults.SceneFault.TheVariants as faults
use Rattle.smcr_calls.specs.declared.top.Status.{Status}
use Rattle.smcr_calls.specs.declared.top.Status.TheVariants as statuses

-- what is answered, and the text that goes with it
pub record Answer : Type 0 where
  pub status : Status
  pub text : List ℕ

-- the word of a kind of fault
abbrev pub kind_text : LineKind → List ℕ
kind_text kinds.Char = codes "char"
kind_text kinds.Word = codes "word"
kind_text kinds.Count = codes "count"
kind_text kinds.Order = codes "order"
kind_text kinds.Again = codes "again"
kind_text kinds.Name = codes "name"
kind_text kinds.Side = codes "side"
kind_text kinds.Number = codes "number"
kind_text kinds.Bytes = codes "bytes"
kind_text kinds.Subnet = codes "subnet"
kind_text kinds.Answer = codes "answer"
kind_text kinds.Range = codes "range"

-- what a line is refused for
abbrev pub reason_text : List ℕ → List ℕ
reason_text what = codes ": " ++ (what ++ codes "\n")

-- the line that says which line of a scene is refused, and for what
abbrev pub refused_text : ℕ → List ℕ → List ℕ
refused_text line what = codes "line " ++ (decimal line ++ reason_text what)

-- what there is to say of a text that is refused
abbrev pub refusal_text : SceneFault → List ℕ
refusal_text faults.NoMemory = []
refusal_text (faults.BadLine line kind) = refused_text line (kind_text kind)
refusal_text (faults.TooMany line limit) = refused_text line (codes "too many")

abbrev pub refusal_answer : SceneFault → Answer
refusal_answer fault = record { status = statuses.Refused; text = refusal_text fault }

-- a status that comes where memory, source and sink serve
abbrev pub IsDue : Status → Type 0
IsDue statuses.Ok = Unit {0}
IsDue statuses.NoMemory = ⊥
IsDue statuses.Usage = Unit {0}
IsDue statuses.Refused = Unit {0}
IsDue statuses.ReadFault = ⊥
IsDue statuses.WriteFault = ⊥
IsDue statuses.Spent = Unit {0}
IsDue statuses.TooLong = Unit {0}

-- Where the text of an answer stands, by the status with which putting it ended, behind what a sink
-- held and what was on the page: all of it, or a front of it where the sink failed, or, without
-- memory, nothing.
abbrev pub Puts : Status → Answer → Option (List ℕ) → List ℕ → Option (List ℕ) → List ℕ → Type 0
Puts statuses.Ok answer held page now left = (answer.status ≡ statuses.Ok) × Stands true held page now left answer.text
Puts statuses.NoMemory answer held page now left = (now ≡ held) × (left ≡ page)
Puts statuses.Usage answer held page now left = ⊥
Puts statuses.Refused answer held page now left = (answer.status ≡ statuses.Refused) × Stands true held page now left answer.text
Puts statuses.ReadFault answer held page now left = ⊥
Puts statuses.WriteFault answer held page now left = Stands false held page now left answer.text
Puts statuses.Spent answer held page now left = (answer.status ≡ statuses.Spent) × Stands true held page now left answer.text
Puts statuses.TooLong answer held page now left = ⊥

-- whether the whole text of an answer was put
abbrev pub is_put : Status → Bool
is_put statuses.Ok = true
is_put statuses.NoMemory = false
is_put statuses.Usage = false
is_put statuses.Refused = true
is_put statuses.ReadFault = false
is_put statuses.WriteFault = false
is_put statuses.Spent = true
is_put statuses.TooLong = false

-- What a sink has of an answer once the page, which was empty before, has gone to it.
abbrev pub Sends : Status → Answer → Option (List ℕ) → Option (List ℕ) → Type 0
Sends statuses.Ok answer old new = (answer.status ≡ statuses.Ok) × Grew old new answer.text
Sends statuses.NoMemory answer old new = new ≡ old
Sends statuses.Usage answer old new = ⊥
Sends statuses.Refused answer old new = (answer.status ≡ statuses.Refused) × Grew old new answer.text
Sends statuses.ReadFault answer old new = ⊥
Sends statuses.WriteFault answer old new = (n : ℕ) × Grew old new (take n answer.text)
Sends statuses.Spent answer old new = (answer.status ≡ statuses.Spent) × Grew old new answer.text
Sends statuses.TooLong answer old new = ⊥

-- the count of a sink's faults never falls, and the status of a failed write comes only where it rose
pub record IsCaused (before now : ℕ) (status : Status) : Type 0 where
  pub later : before ≤ now
  pub failed : status ≡ statuses.WriteFault → Rose before now
