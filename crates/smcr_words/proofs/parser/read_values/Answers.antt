use Rattle.std.proofs.Common.{◌≡◌, ◌∙◌, ◌<◌, ◌≤◌, ◌⊎◌, Bool, true, false, List, [], ◌∷◌, length, Option, Some, None, is_some, option_map, sym, ap, ap₂, subst, true≢false, codes, arith, ⊎_elim}
use Rattle.clap.specs.Words.{App, Row, Text, app_of, found_of, first_value, kind_of, rows_of, matches_of, first_of}
use Rattle.clap.specs.Simple.{is_simple as simple}
use Rattle.clap.specs.Faults.{fault_of, is_simple_and_free}
use Rattle.clap.specs.Kinds.{Kinds, IsAmong}
use Rattle.clap.specs.declared.error.kind.ErrorKind.{ErrorKind}
use Rattle.clap.specs.declared.error.kind.ErrorKind.TheVariants.{OutOfMemory}
use Rattle.clap.specs.declared.parser.matches.Found.{Found}
use Rattle.clap.proofs.WalkLemmas.{first_value-rows}
use Rattle.smcr_words.specs.Reading.{smcr, values_of, option_listed}
use Rattle.smcr_words.specs.declared.WordsFault.{WordsFault}
use Rattle.smcr_words.specs.declared.WordsFault.TheVariants.{Usage, NoMemory}
use Rattle.smcr_words.proofs.Reading.{reads, accepts, is_simple, is_simple_app}
use Rattle.smcr_words.proofs.parser.read_values.Goals as goal
use Rattle.smcr_words.proofs.parser.read_values.Goals.{in-OutOfMemory, in_default-kind}

some_text : (a b : Text) → Some a ≡ Some b → a ≡ b
some_text a b e = ap unwrap e
  where
    unwrap : Option Text → Text
    unwrap None = []
    unwrap (Some x) = x

module _ (app : App) (ws : List Text) (f : Found) (other : Type 0) (is : app ≡ smcr) (kinds : is_simple_and_free app ≡ true → fault_of app ws ≡ []) (found : simple app ≡ true → (rows_of f ≡ matches_of app ws) × other) where
  abbrev rows : List Row
  rows = rows_of f

  read_rows : (vs : List Text) × (values_of ws ≡ Some vs) × ((a : Text) × (v : Option Text) × (vs ≡ a ∷ option_listed v) × (first_of (codes "command") rows ≡ Some a) × (first_of (codes "value") rows ≡ v))
  read_rows =
      let none : fault_of smcr ws ≡ [] = subst (λ (a : App). fault_of a ws ≡ []) is (kinds (ap is_simple_and_free is ∙ is_simple)) in
      let same : rows ≡ matches_of smcr ws = (found (ap simple is ∙ is_simple_app)).0 ∙ ap (λ (a : App). matches_of a ws) is in
      let r = reads ws none in
      (r.0, r.1, (r.2.0, r.2.1, r.2.2, ap (first_of (codes "command")) same ∙ r.2.3, ap (first_of (codes "value")) same ∙ r.2.4))

  read_ok : (command : Text) (value : Option Text) → Some command ≡ first_value f (codes "command") → value ≡ first_value f (codes "value") → values_of ws ≡ Some (command ∷ option_listed value)
  read_ok command value c v =
      let r = read_rows in
      let one : r.2.0 ≡ command = sym (some_text command r.2.0 (c ∙ first_value-rows f (codes "command") ∙ r.2.3)) in
      let two : r.2.1 ≡ value = sym (v ∙ first_value-rows f (codes "value") ∙ r.2.4) in
      r.1 ∙ ap Some r.2.2 ∙ ap₂ (λ (a : Text) (b : Option Text). Some (a ∷ option_listed b)) one two

  never_none : None ≡ first_value f (codes "command") → ⊥
  never_none n = let r = read_rows in true≢false (sym (ap is_some (n ∙ first_value-rows f (codes "command") ∙ r.2.3)))

among : (k : ErrorKind) (kinds : Kinds) → IsAmong k kinds → 0 < length kinds
among k [] a = absurd a
among k (x ∷ kinds) a = omega arith

refused : (app : App) (ws : List Text) (k : ErrorKind) → app ≡ smcr → (is_simple_and_free app ≡ true → (k ≡ OutOfMemory) ⊎ IsAmong k (fault_of app ws)) → (k ≡ OutOfMemory → ⊥)
    → (vs : List Text) → values_of ws ≡ Some vs → 0 < length vs → length vs ≤ 2 → ⊥
refused app ws k is kinds other vs e some most =
    ⊎_elim other (λ a. let n : length (fault_of app ws) ≡ 0 = ap (λ (f : Kinds). length f) (ap (λ (x : App). fault_of x ws) is ∙ accepts ws vs e some most) in let m = among k (fault_of app ws) a in omega arith)
    (kinds (ap is_simple_and_free is ∙ is_simple))

not_memory : NoMemory ≡ Usage → ⊥
not_memory e = true≢false (ap is_memory e)
  where
    is_memory : WordsFault → Bool
    is_memory NoMemory = true
    is_memory Usage = false

pub returns-in-Some-clause-ok : goal.returns-in-Some-clause-ok
returns-in-Some-clause-ok c = read_ok _ _ (found_of c.in-Ok-try_get_matches_from.matches) _ c.in-Ok.ensures c.in-Ok-try_get_matches_from.ensures.kinds c.in-Ok-try_get_matches_from.ensures.matches
    c.in-Some.command.now (option_map (λ s. s.now) c.get_str-in-Some.result) c.in-Some.ensures c.get_str-in-Some.ensures

pub returns-in-Ok-try_get_matches_from-clause-err : goal.returns-in-Ok-try_get_matches_from-clause-err
returns-in-Ok-try_get_matches_from-clause-err c = absurd (never_none _ _ (found_of c.in-Ok-try_get_matches_from.matches) _ c.in-Ok.ensures c.in-Ok-try_get_matches_from.ensures.kinds c.in-Ok-try_get_matches_from.ensures.matches
    c.in-None.ensures)

pub returns-clause-err : goal.returns-clause-err
returns-clause-err c = elim c.match-kind.branch [
  | in-OutOfMemory w ↦ λ u. absurd (not_memory (sym w.result-is ∙ u))
  | in_default-kind w ↦ λ u. refused (app_of c.in-Ok.command) _ (kind_of c.in-Err.error) c.in-Ok.ensures c.in-Err.ensures.kinds (λ m. w.in_default-kind.not-OutOfMemory (c.kind.ensures ∙ m))
]
