-- A good input of a command is answered to its end, unless memory, the source or the sink fails.
use Rattle.std.proofs.Common.{◌≡◌, ◌∙◌, ℕ, ◌⊎◌, inl, inr, List, Option, Some, Result, refl, sym, ap, subst}
use Rattle.byte_port.specs.Causes.{IsRead}
use Rattle.scene_text.specs.declared.faults.SceneFault.{SceneFault}
use Rattle.scene_text.specs.Scenes.{PlainScene}
use Rattle.smcr_words.specs.Commands.{command_of}
use Rattle.smcr_words.specs.declared.Command.{Command}
use Rattle.smcr_words.specs.declared.Command.TheVariants.{Run, Show, Trace}
use Rattle.smcr_calls.specs.declared.top.Status.{Status}
use Rattle.smcr_calls.specs.declared.top.Status.TheVariants as statuses
use Rattle.smcr_calls.specs.Answers.{Answer}
use Rattle.smcr_calls.specs.Runs.{run_of}
use Rattle.smcr_calls.specs.ShowLines.{lines_answer}
use Rattle.smcr_calls.specs.Top.{status_of, ran_answer, traced_answer, scene_answer, due_answer, Gives, Tells, IsGood}
use Rattle.smcr_calls.proofs.Inputs.{due-command}

-- what is due for it has status 0
good_due : (words : List (List ℕ)) (command : Command) (input : List ℕ) → command_of words ≡ Some command → IsGood command input → (due_answer words input).status ≡ statuses.Ok
good_due words Run input is (short, (scene, read, on)) =
    ap (λ (a : Answer). a.status) (due-command words Run input is short) ∙ ap (λ (r : Result PlainScene SceneFault). (scene_answer (λ s. ran_answer s (run_of s)) r).status) read ∙ ap status_of on
good_due words Trace input is (short, (scene, read, on)) =
    ap (λ (a : Answer). a.status) (due-command words Trace input is short) ∙ ap (λ (r : Result PlainScene SceneFault). (scene_answer (λ s. traced_answer (run_of s)) r).status) read ∙ ap status_of on
good_due words Show input is (short, (text, read)) =
    ap (λ (a : Answer). a.status) (due-command words Show input is short) ∙ ap (λ (r : Result (List ℕ) SceneFault). (lines_answer r).status) read

-- so no other status was given for it
module _ (words : List (List ℕ)) (input : List ℕ) (due : (due_answer words input).status ≡ statuses.Ok) (left old new : Option (List ℕ)) (is : left ≡ Some input) where
  given_for : (status : Status) → Gives status words left old new → statuses.Ok ≡ status
  given_for status g =
      let same : g.0 ≡ input = subst (λ (l : Option (List ℕ)). IsRead l g.0) is g.1 in
      sym due ∙ ap (λ bytes. (due_answer words bytes).status) (sym same) ∙ g.2

  module _ {S K : Type 0} (no_read : S → ⊥) (no_write : K → ⊥) where
    only : (result : Status) → (result ≡ statuses.ReadFault → S) → (result ≡ statuses.WriteFault → K) → Tells result words left old new → (result ≡ statuses.Ok) ⊎ (result ≡ statuses.NoMemory)
    only statuses.Ok r w t = inl refl
    only statuses.NoMemory r w t = inr refl
    only statuses.Usage r w t = absurd (let e = given_for statuses.Usage t in cc)
    only statuses.Refused r w t = absurd (let e = given_for statuses.Refused t in cc)
    only statuses.ReadFault r w t = absurd (no_read (r refl))
    only statuses.WriteFault r w t = absurd (no_write (w refl))
    only statuses.Spent r w t = absurd (let e = given_for statuses.Spent t in cc)
    only statuses.TooLong r w t = absurd (let e = given_for statuses.TooLong t in cc)

pub completes : {S K : Type 0} (words : List (List ℕ)) (command : Command) (input : List ℕ) (left old new : Option (List ℕ)) (result : Status) → Tells result words left old new → (result ≡ statuses.ReadFault → S) → (result ≡ statuses.WriteFault → K) →
    command_of words ≡ Some command → left ≡ Some input → IsGood command input → (S → ⊥) → (K → ⊥) → (result ≡ statuses.Ok) ⊎ (result ≡ statuses.NoMemory)
completes words command input left old new result t r w of_command is good no_read no_write = only words input (good_due words command input of_command good) left old new is no_read no_write result r w t
