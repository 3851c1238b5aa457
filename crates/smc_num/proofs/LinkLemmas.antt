-- What a table of links has on a slot after it was changed.
use Rattle.std.proofs.Common.{◌≡◌, ◌∙◌, ℕ, ◌==◌, nat_lt, Bool, true, false, cond, if◌then◌else◌, List, [], ◌∷◌, Option, Some, option_map, refl, sym, ap}
use Rattle.std.proofs.lemmas.Bool.{eqb-true, eq-eqb}
use Rattle.smc_num.specs.declared.LinkPhase.{LinkPhase}
use Rattle.smc_num.specs.Links.{Known, at_slot, put, with_phase, set_phase}

-- of two links of one slot the later one is found in place of the earlier
instead : (new known : Known) (k : ℕ) (rest : Option Known) → new.link.slot ≡ known.link.slot
    → cond (new.link.slot == k) (Some new) rest ≡ cond (new.link.slot == k) (Some new) (cond (known.link.slot == k) (Some known) rest)
instead new known k rest same = by_tests (new.link.slot == k) (known.link.slot == k) refl refl
  where
    by_tests : (b c : Bool) → (new.link.slot == k) ≡ b → (known.link.slot == k) ≡ c → cond b (Some new) rest ≡ cond b (Some new) (cond c (Some known) rest)
    by_tests true c e f = refl
    by_tests false true e f = let t = eq-eqb _ _ (same ∙ eqb-true _ _ f) in cc
    by_tests false false e f = refl

-- two links of different slots are found in either order
apart : (new known : Known) (k : ℕ) (rest : Option Known) → (new.link.slot == known.link.slot) ≡ false
    → cond (known.link.slot == k) (Some known) (cond (new.link.slot == k) (Some new) rest) ≡ cond (new.link.slot == k) (Some new) (cond (known.link.slot == k) (Some known) rest)
apart new known k rest other = by_tests (known.link.slot == k) (new.link.slot == k) refl refl
  where
    by_tests : (b c : Bool) → (known.link.slot == k) ≡ b → (new.link.slot == k) ≡ c → cond b (Some known) (cond c (Some new) rest) ≡ cond c (Some new) (cond b (Some known) rest)
    by_tests true true e f = let t = eq-eqb _ _ (eqb-true _ _ f ∙ sym (eqb-true _ _ e)) in cc
    by_tests true false e f = refl
    by_tests false true e f = refl
    by_tests false false e f = refl

-- a link that is put on its slot
pub at_slot-put : (new : Known) (k : ℕ) (table : List Known) → at_slot k (put new table) ≡ (if new.link.slot == k then Some new else at_slot k table)
at_slot-put new k [] = refl
at_slot-put new k (known ∷ table) = by_order (new.link.slot == known.link.slot) refl (nat_lt new.link.slot known.link.slot) (at_slot-put new k table)
  where
    by_order : (same : Bool) → (new.link.slot == known.link.slot) ≡ same → (lower : Bool) → at_slot k (put new table) ≡ (if new.link.slot == k then Some new else at_slot k table)
        → at_slot k (if same then new ∷ table else if lower then new ∷ known ∷ table else known ∷ put new table) ≡ (if new.link.slot == k then Some new else at_slot k (known ∷ table))
    by_order true e lower rest = instead new known k (at_slot k table) (eqb-true _ _ e)
    by_order false e true rest = refl
    by_order false e false rest = ap (λ o. cond (known.link.slot == k) (Some known) o) rest ∙ apart new known k (at_slot k table) e

-- a phase leaves a link on its slot
slot-with_phase : (j : ℕ) (phase : LinkPhase) (known : Known) → (with_phase j phase known).link.slot ≡ known.link.slot
slot-with_phase j phase known = by_test (known.link.slot == j)
  where
    by_test : (b : Bool) → (if b then record known { phase = phase } else known).link.slot ≡ known.link.slot
    by_test true = refl
    by_test false = refl

-- a function of what is found, by whether the first is found
option_map-cond : (f : Known → Known) (b : Bool) (known : Known) (rest : Option Known) → cond b (Some (f known)) (option_map f rest) ≡ option_map f (cond b (Some known) rest)
option_map-cond f true known rest = refl
option_map-cond f false known rest = refl

-- a slot that gets a phase
pub at_slot-set_phase : (j k : ℕ) (phase : LinkPhase) (table : List Known) → at_slot k (set_phase j phase table) ≡ option_map (with_phase j phase) (at_slot k table)
at_slot-set_phase j k phase [] = refl
at_slot-set_phase j k phase (known ∷ table) =
    ap (λ s. cond (s == k) (Some (with_phase j phase known)) (at_slot k (set_phase j phase table))) (slot-with_phase j phase known)
    ∙ (ap (λ o. cond (known.link.slot == k) (Some (with_phase j phase known)) o) (at_slot-set_phase j k phase table)
    ∙ option_map-cond (with_phase j phase) (known.link.slot == k) known (at_slot k table))
