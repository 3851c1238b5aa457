-- The rule holds of the table when it is made, and gives the machine back when one seat is left.
use Rattle.std.proofs.Common.{◌≡◌, ℕ, zero, suc, ◌<◌, ◌≤◌, ◌^◌, inl, inr, List, [], ◌∷◌, length, false, true≢false, sym, refl, ap, ◌∙◌, subst, map, Option, Some, None, is_some, arith}
use mathlib.Core.Option.{some, some-injective, some-ne-none}
use lib.ListN.{get_elem?}
use Rattle.atomic_table.specs.Table.{State, opening, Final, Seen}
use Rattle.turn_cell.specs.declared.rule.SeatView.{SeatView}
use Rattle.turn_cell.specs.Views.{first_view}
use Rattle.turn_cell.specs.Keeping.{AtHome, Kept}
use Rattle.turn_cell.specs.Plays.{IsLast}
use Rattle.turn_cell.proofs.PlaceLemmas.{times-up_to, Rising-up_to}
use Rattle.turn_cell.proofs.ListLemmas.{starts_itself}
use Rattle.turn_cell.proofs.Standings.{within, whole_list, each_once}
use Rattle.turn_cell.proofs.TakeStep.{works_less}

module _ {E M F : Type 0} (list : M → List E) (fixed_of : M → F) (fixed : F) (seats : ℕ) where
  pub opens : (slots : List (Option M)) (m : M) (log : List E) (count : ℕ) → 1 ≤ seats → slots ≡ Some m ∷ [] → list m ≡ log → fixed_of m ≡ fixed → count ≡ length log → length log < 2 ^ 32
      → Kept list fixed_of fixed seats (opening (count ∷ 0 ∷ []) slots (first_view log seats))
  opens slots m log count some_seat is same part len short = inl record {
    k = 0;
    log = log;
    machine = m;
    words = ap (λ n. n ∷ 0 ∷ []) len;
    homes = ap (λ xs. map some xs) is;
    list_is = same;
    fixed_is = part;
    few = omega arith;
    short = short;
    views = record { each = one; sum = omega arith; once = (λ p. let e = times-up_to p (length log) in omega (arith, e)) };
  }
    where
      one : (id : ℕ) (v : SeatView E) → get_elem? (first_view log seats ∷ []) id ≡ some v → AtHome 0 log v
      one zero v e = subst (λ u. AtHome 0 log u) (some-injective (first_view log seats) v e) record {
        idle = refl;
        begins = starts_itself log;
        begins_beside = (log, refl);
        last = inl (omega arith);
        met = inl (omega arith);
        owns = record { rising = (Rising-up_to (length log)).0; below = (Rising-up_to (length log)).1; spent = (λ z. absurd (omega (arith, z, some_seat))) };
      }
      one (suc id) v e = absurd (some-ne-none v (sym e))

  module _ (id : ℕ) (v : SeatView E) (idle : v.has_turn ≡ false) (all : seats ≤ v.seats) (words : List ℕ) (slots : List (Option M)) (slot : Option M) (found : get_elem? slots 0 ≡ some slot) where
    -- the machine is in the slot
    closes : (s : State (Option M) (SeatView E)) → Kept list fixed_of fixed seats s → get_elem? s.views id ≡ some v → ((k : ℕ) (y : Option M) → get_elem? s.homes k ≡ some (some y) → get_elem? slots k ≡ some y)
        → (m : M) × (slot ≡ Some m) × IsLast list fixed_of fixed seats v m
    closes s (inl h) at values =
        let P : ℕ → SeatView E → Type 0 = λ _ u. AtHome h.k h.log u in
        let is : v.seats ≡ seats = (let a = within P seats (length h.log) s.views h.views id v at in omega (arith, a, all)) in
        let seen = whole_list P seats (length h.log) s.views h.views id v at (λ i u o. o.owns) is h.log refl (h.views.each id v at).begins in (
          h.machine,
          some-injective slot (Some h.machine) (sym found ∙ values 0 (Some h.machine) (ap (λ hs. get_elem? hs 0) h.homes)),
          record {
            all = is;
            list_is = h.list_is ∙ seen;
            fixed_is = h.fixed_is;
            once = each_once P seats (length h.log) s.views h.views id v at (λ i u o. o.owns) is (length (list h.machine)) (ap (λ (xs : List E). length xs) h.list_is);
          },
        )
    closes s (inr h) at values = let less = works_less list fixed_of fixed seats id v idle s h at in absurd (omega (arith, less, all))

    module _ (ends : Final (Seen (Kept list fixed_of fixed seats) id v) words slots) where
      pub not_empty : slot ≡ None → ⊥
      not_empty n = let c = closes ends.0 ends.1.0 ends.1.1 ends.4 in true≢false (sym (ap is_some (sym n ∙ c.1)))

      pub is_last : (m : M) → slot ≡ Some m → IsLast list fixed_of fixed seats v m
      is_last m is = let c = closes ends.0 ends.1.0 ends.1.1 ends.4 in subst (λ x. IsLast list fixed_of fixed seats v x) (ap (pick c.0) (sym c.1 ∙ is)) c.2
        where
          pick : M → Option M → M
          pick d None = d
          pick d (Some x) = x
