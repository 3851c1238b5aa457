-- Members by place and by index, and what an edit does to both.
use Rattle.std.proofs.Common.{◌≡◌, ◌≢◌, ℕ, zero, suc, ◌<◌, ◌≤◌, Bool, true, false, List, [], ◌∷◌, length, get_or, eqb, Some, None, IsSome, IsNone, Result, Ok, Err, IfOk, IfErr, refl, sym, ap, ◌∙◌, subst, arith}
use Rattle.std.specs.Prelude.{Option, is_some}
use Rattle.std.specs.List.Sorted.{IsSearchInRange, IsBinarySearchResult, IsNonDecreasingBy}
use Rattle.std.specs.Ordering.{nat_cmp, ordering_index}
use Rattle.std.proofs.lemmas.Cmp.{ranked}
use Rattle.std.proofs.lemmas.List.Sorted.{IsNonDecreasingBy-from_default}
use Rattle.std.proofs.lemmas.Bool.Decides.{nat_tests}
use mathlib.Core.Bool.{false≢true}
use mathlib.Core.Logic.{dite}
use native.Mathlib.Decide.{ℕ_discrete, dec_le}
use Rattle.wait_set.specs.declared.member.Waiting.{Waiting}
use Rattle.wait_set.specs.Waiting.{waiting_at, nobody, place_of, IsRising}
use Rattle.wait_set.specs.Search.{IsAt, IsGapFor}

rising_tail : (x : Waiting) (xs : List Waiting) → IsRising (x ∷ xs) → IsRising xs
rising_tail x xs rising i j lt in_range = rising (suc i) (suc j) (omega arith) (omega arith)

-- where no member has the place, none is found
pub none_from : (xs : List Waiting) (p : ℕ) → ((i : ℕ) → i < length xs → place_of xs i ≢ p) → waiting_at xs p ≡ None
none_from [] p absent = refl
none_from (x ∷ xs) p absent = grind (arith, nat_tests, absent 0 (omega arith), none_from xs p (λ i in_range. absent (suc i) (omega arith)))

-- the member at an index is found by its place
pub waiting_at-index : (xs : List Waiting) (i : ℕ) → IsRising xs → i < length xs → waiting_at xs (place_of xs i) ≡ Some (get_or xs i nobody)
waiting_at-index [] i rising in_range = absurd (omega arith)
waiting_at-index (x ∷ xs) zero rising in_range = grind (arith, nat_tests)
waiting_at-index (x ∷ xs) (suc i) rising in_range = grind (arith, nat_tests, rising 0 (suc i) (omega arith) in_range, waiting_at-index xs i (rising_tail x xs rising) (omega arith))

-- a member that is found has an index
pub record Indexed (xs : List Waiting) (p : ℕ) (w : Waiting) : Type 0 where
  pub index : ℕ
  pub in_range : index < length xs
  pub place : place_of xs index ≡ p
  pub is : get_or xs index nobody ≡ w

index_more : (x : Waiting) (xs : List Waiting) (p : ℕ) (w : Waiting) (t : Bool) → eqb x.member.place p ≡ t → waiting_at (x ∷ xs) p ≡ Some w → (waiting_at xs p ≡ Some w → Indexed xs p w) → Indexed (x ∷ xs) p w
index_more x xs p w true e found tail = record { index = 0; in_range = omega arith; place = grind (arith, nat_tests); is = grind (arith, nat_tests, found) }
index_more x xs p w false e found tail = let t = tail (grind (arith, nat_tests, found)) in record { index = suc t.index; in_range = (let r = t.in_range in omega (arith, r)); place = t.place; is = t.is }

pub index_of : (xs : List Waiting) (p : ℕ) (w : Waiting) → waiting_at xs p ≡ Some w → Indexed xs p w
index_of [] p w found = absurd (cc)
index_of (x ∷ xs) p w found = index_more x xs p w (eqb x.member.place p) refl found (index_of xs p w)

-- a member that is there is found
pub found_at : (xs : List Waiting) (p : ℕ) → IsSome (waiting_at xs p) → (w : Waiting) × (waiting_at xs p ≡ Some w)
found_at xs p some = cases (waiting_at xs p) refl some
  where
    cases : (o : Option Waiting) → waiting_at xs p ≡ o → IsSome o → (w : Waiting) × (waiting_at xs p ≡ Some w)
    cases None e h = absurd (false≢true h)
    cases (Some w) e h = (w, e)

-- no member has the place where none is found
pub none_at : (xs : List Waiting) (i : ℕ) (p : ℕ) → IsRising xs → IsNone (waiting_at xs p) → i < length xs → place_of xs i ≢ p
none_at xs i p rising none in_range e =
    let is : waiting_at xs p ≡ Some (get_or xs i nobody) = subst (λ q. waiting_at xs q ≡ Some (get_or xs i nobody)) e (waiting_at-index xs i rising in_range) in
    false≢true (sym none ∙ ap (λ o. is_some o) is)

-- an index that a search found, and a gap
is_some_at : (xs : List Waiting) (p i : ℕ) → IsRising xs → IsAt xs p i → IsSome (waiting_at xs p)
is_some_at xs p i rising at = ap (λ o. is_some o) (subst (λ q. waiting_at xs q ≡ Some (get_or xs i nobody)) at.has_place (waiting_at-index xs i rising at.in_range))

is_none_in_gap : (xs : List Waiting) (p i : ℕ) → IsGapFor xs p i → IsNone (waiting_at xs p)
is_none_in_gap xs p i gap = ap (λ o. is_some o) (none_from xs p (λ k in_range e.
    dite (dec_le (suc k) i)
    (λ before. let l = gap.lower_before k before in omega (arith, l, e))
    (λ after. let h = gap.higher_after k (omega (arith, after)) in_range in omega (arith, h, e))))

-- the same after a list was read through a reference and a view
pub some_in : (found kept shown : List Waiting) (p i : ℕ) → found ≡ kept → kept ≡ shown → IsRising kept → IsAt found p i → IsSome (waiting_at shown p)
some_in found kept shown p i read view rising at = subst (λ xs. IsSome (waiting_at xs p)) view (is_some_at kept p i rising (subst (λ xs. IsAt xs p i) read at))

pub none_in : (found kept shown : List Waiting) (p i : ℕ) → found ≡ kept → kept ≡ shown → IsGapFor found p i → IsNone (waiting_at shown p)
none_in found kept shown p i read view gap = is_none_in_gap shown p i (subst (λ xs. IsGapFor xs p i) (read ∙ view) gap)

-- a bound on the places that are found is one on the places of all
all_below : (xs : List Waiting) (n : ℕ) → IsRising xs → ((p : ℕ) → IsSome (waiting_at xs p) → p < n) → (i : ℕ) → i < length xs → place_of xs i < n
all_below xs n rising below i in_range = below (place_of xs i) (is_some_at xs (place_of xs i) i rising (record { in_range = in_range; has_place = refl }))

pub all_below_in : (found kept shown : List Waiting) (n : ℕ) → found ≡ kept → kept ≡ shown → IsRising kept → ((p : ℕ) → IsSome (waiting_at shown p) → p < n) → (i : ℕ) → i < length found → place_of found i < n
all_below_in found kept shown n read view rising below =
    all_below found n (subst (λ xs. IsRising xs) (sym read) rising) (λ p some. below p (subst (λ xs. IsSome (waiting_at xs p)) (read ∙ view) some))

-- in a rising list, the places are in the order of the indices
pub below_from : (xs : List Waiting) (i j : ℕ) → IsRising xs → i < length xs → place_of xs i < place_of xs j → i < j
below_from xs i j rising in_range lt =
    dite (dec_le (suc i) j) (λ low. low) (λ high. dite (ℕ_discrete i j)
    (λ same. absurd (let e = ap (place_of xs) same in omega (arith, e, lt)))
    (λ apart. absurd (let above = rising j i (omega arith) in_range in omega (arith, above, lt))))

pub apart : (xs : List Waiting) (i j : ℕ) → IsRising xs → i < j → j < length xs → place_of xs i ≢ place_of xs j
apart xs i j rising lt in_range same = let below = rising i j lt in_range in omega (arith, below, same)

-- a binary search ends at the place, or at the gap for it
module _ (xs : List Waiting) (rising : IsRising xs) (p : ℕ) where
  comparisons_rise : IsNonDecreasingBy (λ w. ordering_index (nat_cmp w.member.place p)) xs
  comparisons_rise = IsNonDecreasingBy-from_default (λ (w : Waiting). ordering_index (nat_cmp w.member.place p)) xs nobody (λ i j le in_range.
      let places_rise : place_of xs i ≤ place_of xs j = grind (arith, rising i j, λ (same : i ≡ j). ap (place_of xs) same) in
      grind (arith, nat_tests))

  pub searched : (r : Result ℕ ℕ) → IsSearchInRange r (length xs) → IsBinarySearchResult (λ w. nat_cmp w.member.place p) xs r → record { there : IfOk r (IsAt xs p); absent : IfErr r (IsGapFor xs p) }
  searched (Ok at) in_range equal = record { there = record { in_range = in_range; has_place = ranked _ p _ (sym (equal nobody)) }; absent = tt }
  searched (Err at) in_range parted = record {
    there = tt;
    absent = record {
      in_range = in_range;
      lower_before = λ j lt. ranked _ p _ (sym ((parted comparisons_rise).0 j nobody (omega arith) lt));
      higher_after = λ j le lt. ranked _ p _ (sym ((parted comparisons_rise).1 j nobody le lt));
    };
  }
