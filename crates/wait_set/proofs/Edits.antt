-- What an edit of a rising list does at each place.
use Rattle.std.proofs.Common.{◌≡◌, ℕ, zero, suc, ◌+◌, ◌-◌, ◌<◌, ◌≤◌, List, [], ◌∷◌, length, set, Some, None, refl, sym, ap, ◌∙◌, subst, arith}
use Rattle.std.specs.Prelude.{is_some}
use Rattle.std.specs.List.{insert, remove}
use Rattle.std.proofs.lemmas.List.{get_or-set_same, get_or-set_other, length-set}
use Rattle.std.proofs.lemmas.List.Edits.{length-insert, get_or-insert_below, get_or-insert_at, get_or-insert_above, length-remove, get_or-remove_below, get_or-remove_above}
use Rattle.std.proofs.lemmas.Bool.Decides.{nat_tests}
use mathlib.Core.Logic.{dite}
use native.Mathlib.Decide.{ℕ_discrete, dec_le}
use Rattle.wait_set.specs.declared.member.Waiting.{Waiting}
use Rattle.wait_set.specs.declared.member.Member.{Member}
use Rattle.wait_set.specs.Waiting.{waiting_at, nobody, place_of, IsRising}
use Rattle.wait_set.specs.Picks.{IsAdded, IsRemoved, OthersStay}
use Rattle.wait_set.specs.Search.{IsAt, IsGapFor}
use Rattle.wait_set.proofs.Places.{none_from, waiting_at-index, apart}

-- the place of one member
abbrev of : Waiting → ℕ
of w = w.member.place

-- one member is replaced by one with its place
module _ (xs : List Waiting) (i : ℕ) (w : Waiting) (same : w.member.place ≡ place_of xs i) where
  place_of-set : (k : ℕ) → i < length xs → place_of (set xs i w) k ≡ place_of xs k
  place_of-set k in_range =
      dite (ℕ_discrete k i)
      (λ e. subst (λ j. place_of (set xs i w) j ≡ place_of xs j) (sym e) (ap (λ (x : Waiting). x.member.place) (get_or-set_same xs i w nobody in_range) ∙ same))
      (λ ne. ap (λ (x : Waiting). x.member.place) (get_or-set_other xs i k w nobody ne))

  pub rising-set : i < length xs → IsRising xs → IsRising (set xs i w)
  rising-set in_range rising j k lt below =
      let long = length-set xs i w in
      let less = rising j k lt (omega (arith, below, long)) in
      omega (arith, less, place_of-set j in_range, place_of-set k in_range)

  pub waiting_at-set_same : i < length xs → IsRising xs → waiting_at (set xs i w) (place_of xs i) ≡ Some w
  waiting_at-set_same in_range rising =
      let long = length-set xs i w in
      subst (λ p. waiting_at (set xs i w) p ≡ Some w) (place_of-set i in_range)
      (waiting_at-index (set xs i w) i (rising-set in_range rising) (omega (arith, in_range, long)) ∙ ap (λ x. Some x) (get_or-set_same xs i w nobody in_range))

pub waiting_at-set_other : (xs : List Waiting) (i : ℕ) (w : Waiting) → w.member.place ≡ place_of xs i → OthersStay (place_of xs i) xs (set xs i w)
waiting_at-set_other [] i w same p ne = refl
waiting_at-set_other (x ∷ xs) zero w same p ne = grind (arith, nat_tests)
waiting_at-set_other (x ∷ xs) (suc i) w same p ne = grind (arith, nat_tests, waiting_at-set_other xs i w same p ne)

-- a new member goes into the gap for its place
insert_others : (xs : List Waiting) (i : ℕ) (w : Waiting) → OthersStay w.member.place xs (insert xs i w)
insert_others xs zero w p ne = grind (arith, nat_tests)
insert_others [] (suc i) w p ne = grind (arith, nat_tests)
insert_others (x ∷ xs) (suc i) w p ne = grind (arith, nat_tests, insert_others xs i w p ne)

rising-insert : (xs : List Waiting) (i : ℕ) (w : Waiting) → IsGapFor xs w.member.place i → IsRising xs → IsRising (insert xs i w)
rising-insert xs at w gap rising i j lt in_range =
    let new = insert xs at w in
    let long = length-insert xs at w gap.in_range in
    let lower : (k : ℕ) → k < at → place_of new k ≡ place_of xs k = λ k below. ap of (get_or-insert_below xs at w nobody k below gap.in_range) in
    let here : (k : ℕ) → k ≡ at → place_of new k ≡ w.member.place = λ k e. subst (λ q. place_of new q ≡ w.member.place) (sym e) (ap of (get_or-insert_at xs at w nobody gap.in_range)) in
    let higher : (k : ℕ) → at < k → place_of new k ≡ place_of xs (k - 1) = λ k above. subst (λ q. place_of new q ≡ place_of xs (k - 1)) {x = k - 1 + 1} (omega arith) (ap of (get_or-insert_above xs at w nobody (k - 1) (omega arith) gap.in_range)) in
    grind (arith, lower i, here i, higher i, lower j, here j, higher j, rising i j, rising i (j - 1), rising (i - 1) (j - 1), gap.lower_before i, gap.higher_after (j - 1))

adds : (xs : List Waiting) (i : ℕ) (member : Member) → IsGapFor xs member.place i → IsRising xs → IsAdded member xs (insert xs i (record { member = member; picked = 0 }))
adds xs i member gap rising =
    let w : Waiting = record { member = member; picked = 0 } in
    let long = length-insert xs i w gap.in_range in
    let up = rising-insert xs i w gap rising in
    let here = get_or-insert_at xs i w nobody gap.in_range in record {
      there = subst (λ p. waiting_at (insert xs i w) p ≡ Some w) (ap of here) (waiting_at-index (insert xs i w) i up (let g = gap.in_range in omega (arith, g, long)) ∙ ap (λ x. Some x) here);
      others = insert_others xs i w;
      count = long;
      rising = up;
    }

pub added_in : (found kept shown new : List Waiting) (i : ℕ) (member : Member) → found ≡ kept → kept ≡ shown → IsRising kept → IsGapFor found member.place i → new ≡ insert kept i (record { member = member; picked = 0 }) → IsAdded member shown new
added_in found kept shown new i member read view rising gap is =
    subst (λ xs. IsAdded member xs new) view (subst (λ xs. IsAdded member kept xs) (sym is) (adds kept i member (subst (λ xs. IsGapFor xs member.place i) read gap) rising))

-- a member is taken out
remove_others : (xs : List Waiting) (i : ℕ) → i < length xs → OthersStay (place_of xs i) xs (remove xs i)
remove_others [] i in_range p ne = absurd (omega arith)
remove_others (x ∷ xs) zero in_range p ne = grind (arith, nat_tests)
remove_others (x ∷ xs) (suc i) in_range p ne = grind (arith, nat_tests, remove_others xs i (omega arith) p ne)

module _ (xs : List Waiting) (i : ℕ) (in_range : i < length xs) (rising : IsRising xs) where
  kept_lower : (k : ℕ) → k < i → place_of (remove xs i) k ≡ place_of xs k
  kept_lower k lt = ap of (get_or-remove_below xs i nobody k lt in_range)

  kept_higher : (k : ℕ) → i ≤ k → place_of (remove xs i) k ≡ place_of xs (k + 1)
  kept_higher k le = ap of (get_or-remove_above xs i nobody k le in_range)

  rising-remove : IsRising (remove xs i)
  rising-remove j k lt below =
      let long = length-remove xs i in_range in
      grind (arith, kept_lower j, kept_higher j, kept_lower k, kept_higher k, rising j k, rising j (k + 1), rising (j + 1) (k + 1))

  gone : waiting_at (remove xs i) (place_of xs i) ≡ None
  gone = none_from (remove xs i) (place_of xs i) (λ k below same.
      let long = length-remove xs i in_range in
      dite (dec_le (suc k) i)
      (λ lt. apart xs k i rising lt in_range (sym (kept_lower k lt) ∙ same))
      (λ ge. apart xs i (k + 1) rising (omega (arith, ge)) (omega (arith, below, long)) (sym same ∙ kept_higher k (omega (arith, ge)))))

  removes : (p : ℕ) → place_of xs i ≡ p → IsRemoved p xs (remove xs i)
  removes p has = subst (λ q. IsRemoved q xs (remove xs i)) has record {
    gone = ap (λ o. is_some o) gone;
    others = remove_others xs i in_range;
    count = length-remove xs i in_range;
    rising = rising-remove;
  }

pub removed_in : (found kept shown new : List Waiting) (i p : ℕ) → found ≡ kept → kept ≡ shown → IsRising kept → IsAt found p i → new ≡ remove kept i → IsRemoved p shown new
removed_in found kept shown new i p read view rising at is =
    let here : IsAt kept p i = subst (λ xs. IsAt xs p i) read at in
    subst (λ xs. IsRemoved p xs new) view (subst (λ xs. IsRemoved p kept xs) (sym is) (removes kept i here.in_range rising p here.has_place))
