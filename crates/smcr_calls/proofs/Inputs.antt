-- What is due for an input, and what a status says once the text is written.
use Rattle.std.proofs.Common.{◌≡◌, ◌∙◌, ℕ, ◌<◌, ◌≤◌, inl, inr, nat_lt, List, [], ◌++◌, length, take, codes, refl, sym, ap, subst, arith, Option, Some, None, length-append}
use Rattle.std.proofs.lemmas.Bool.{cond-true, cond-false}
use Rattle.std.proofs.lemmas.Bool.Decides.{nat_tests}
use Rattle.byte_port.specs.Causes.{IsRead, Grew}
use Rattle.smcr_words.specs.Commands.{command_of}
use Rattle.smcr_words.specs.declared.Command.{Command}
use Rattle.smcr_calls.specs.declared.top.Status.{Status}
use Rattle.smcr_calls.specs.declared.top.Status.TheVariants as statuses
use Rattle.smcr_calls.specs.declared.top.TheConstants.{MOST_INPUT_BYTES}
use Rattle.smcr_calls.specs.Answers.{Answer, IsDue, Sends}
use Rattle.smcr_calls.specs.Top.{answer_to, served, due_answer, Finishes, Gives, Serves, Tells}

-- there is an input that a source may have left
pub some_input : (left : Option (List ℕ)) → (input : List ℕ) × IsRead left input
some_input None = ([], tt)
some_input (Some bytes) = (bytes, refl)

pub due-usage : (words : List (List ℕ)) (input : List ℕ) → command_of words ≡ None → due_answer words input ≡ record { status = statuses.Usage; text = codes "usage: smcr run|show|trace\n" }
due-usage words input e = ap (λ command. served command input) e

pub due-long : (words : List (List ℕ)) (command : Command) (input rest : List ℕ) → command_of words ≡ Some command → MOST_INPUT_BYTES < length input → due_answer words (input ++ rest) ≡ record { status = statuses.TooLong; text = codes "too long\n" }
due-long words command input rest e long =
    let longer : MOST_INPUT_BYTES < length (input ++ rest) = omega (arith, length-append input rest) in
    ap (λ c. served c (input ++ rest)) e ∙ cond-true (nat_lt MOST_INPUT_BYTES (length (input ++ rest))) _ _ (grind (arith, nat_tests, longer))

pub due-command : (words : List (List ℕ)) (command : Command) (input : List ℕ) → command_of words ≡ Some command → length input ≤ MOST_INPUT_BYTES → due_answer words input ≡ answer_to command input
due-command words command input e short = ap (λ c. served c input) e ∙ cond-false (nat_lt MOST_INPUT_BYTES (length input)) _ _ (grind (arith, nat_tests, short))

-- a due status that was given
given : (status : Status) (words : List (List ℕ)) (left old new : Option (List ℕ)) → IsDue status → Gives status words left old new → Tells status words left old new
given statuses.Ok words left old new due g = g
given statuses.NoMemory words left old new due g = absurd due
given statuses.Usage words left old new due g = g
given statuses.Refused words left old new due g = g
given statuses.ReadFault words left old new due g = absurd due
given statuses.WriteFault words left old new due g = absurd due
given statuses.Spent words left old new due g = g
given statuses.TooLong words left old new due g = g

-- the due answer was finished: its status stands, or the write failed
pub told : (result : Status) (answer : Answer) (words : List (List ℕ)) (input : List ℕ) (left old new : Option (List ℕ)) → IsRead left input → due_answer words input ≡ answer → IsDue answer.status →
    Finishes result answer.status answer.text old new → Tells result words left old new
told result answer words input left old new read e due (inl f) =
    subst (λ s. Tells s words left old new) (sym f.0) (given answer.status words left old new due (input, read, ap (λ (a : Answer). a.status) e, subst (Grew old new) (ap (λ (a : Answer). a.text) (sym e)) f.1))
told result answer words input left old new read e due (inr f) =
    subst (λ s. Tells s words left old new) (sym f.0) (input, read, (f.1.0, subst (λ text. Grew old new (take f.1.0 text)) (ap (λ (a : Answer). a.text) (sym e)) f.1.1))

-- the answer to an input was sent: what that tells
module _ (command : Command) (input : List ℕ) (left old new : Option (List ℕ)) (read : IsRead left input) (short : length input ≤ MOST_INPUT_BYTES) (words : List (List ℕ)) (is : command_of words ≡ Some command) where
  due : due_answer words input ≡ answer_to command input
  due = due-command words command input is short

  gives : (status : Status) → ((answer_to command input).status ≡ status) × Grew old new (answer_to command input).text → Gives status words left old new
  gives status g = (input, read, ap (λ (a : Answer). a.status) due ∙ g.0, subst (Grew old new) (ap (λ (a : Answer). a.text) (sym due)) g.1)

  told_by : (status : Status) → Sends status (answer_to command input) old new → Tells status words left old new
  told_by statuses.Ok s = gives statuses.Ok s
  told_by statuses.NoMemory s = s
  told_by statuses.Usage s = absurd s
  told_by statuses.Refused s = gives statuses.Refused s
  told_by statuses.ReadFault s = absurd s
  told_by statuses.WriteFault s = (input, read, (s.0, subst (λ text. Grew old new (take s.0 text)) (ap (λ (a : Answer). a.text) (sym due)) s.1))
  told_by statuses.Spent s = gives statuses.Spent s
  told_by statuses.TooLong s = absurd s

pub serves : (status : Status) (command : Command) (input : List ℕ) (left old new : Option (List ℕ)) → IsRead left input → length input ≤ MOST_INPUT_BYTES → Sends status (answer_to command input) old new → Serves status command left old new
serves status command input left old new read short s words is = told_by command input left old new read short words is status s

-- an input that is too long was told so
pub serves_long : (status : Status) (command : Command) (input rest : List ℕ) (left old new : Option (List ℕ)) → IsRead left (input ++ rest) → MOST_INPUT_BYTES < length input → Finishes status statuses.TooLong (codes "too long\n") old new →
    Serves status command left old new
serves_long status command input rest left old new read long f words is = told status (record { status = statuses.TooLong; text = codes "too long\n" }) words (input ++ rest) left old new read (due-long words command input rest is long) tt f

-- words that are no command were told so
pub tells_usage : (status : Status) (words : List (List ℕ)) (left old new : Option (List ℕ)) → command_of words ≡ None → Finishes status statuses.Usage (codes "usage: smcr run|show|trace\n") old new → Tells status words left old new
tells_usage status words left old new none f =
    let some = some_input left in
    told status (record { status = statuses.Usage; text = codes "usage: smcr run|show|trace\n" }) words some.0 left old new some.1 (due-usage words some.0 none) tt f

-- without memory, and where the source failed, nothing was written
pub serves_no_memory : (command : Command) (left old : Option (List ℕ)) → Serves statuses.NoMemory command left old old
serves_no_memory command left old words is = refl

pub serves_no_read : (command : Command) (left old : Option (List ℕ)) → Serves statuses.ReadFault command left old old
serves_no_read command left old words is = ((command, is), refl)
