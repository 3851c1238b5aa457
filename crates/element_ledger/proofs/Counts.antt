-- How many elements a side has, and how many of them are free.
use Rattle.std.proofs.Common.{◌≡◌, ◌∙◌, ℕ, zero, suc, ◌+◌, ◌*◌, ◌<◌, ◌≤◌, ◌^◌, Bool, true, false, cond, List, [], ◌∷◌, length, map, filter, drop, get_or, sym, ap, arith}
use Rattle.std.specs.Prelude.{flat_map}
use Rattle.std.specs.List.{range_with_len}
use Rattle.std.proofs.lemmas.List.{length-map, length-append}
use Rattle.std.proofs.lemmas.List.FromFn.{length-map-range_with_len}
use Rattle.smc_num.specs.Places.{Place, places_in, all_places}
use Rattle.element_ledger.specs.Lendings.{Row}

-- no more pass than there are
pub few_pass : (test : Row → Bool) (rows : List Row) → length (filter test rows) ≤ length rows
few_pass test [] = omega arith
few_pass test (r ∷ rows) = by_test (test r) (few_pass test rows)
  where
    by_test : (b : Bool) → length (filter test rows) ≤ length rows → length (cond b (r ∷ filter test rows) (filter test rows)) ≤ suc (length rows)
    by_test true le = omega (arith, le)
    by_test false le = omega (arith, le)

-- one that passes counts among those that are left
pub passes_one : (test : Row → Bool) (rows : List Row) (i : ℕ) (d : Row) → i < length rows → test (get_or rows i d) ≡ true → 1 ≤ length (filter test (drop i rows))
passes_one test [] i d below free = absurd (omega (arith, below))
passes_one test (r ∷ rows) zero d below free =
    let one : length (filter test (r ∷ rows)) ≡ suc (length (filter test rows)) = ap (λ b. length (cond b (r ∷ filter test rows) (filter test rows))) free in omega (arith, one)
passes_one test (r ∷ rows) (suc i) d below free = passes_one test rows i d (omega (arith, below)) free

-- a side has few elements
few_from : (elements a m : ℕ) → elements ≤ 255 → length (flat_map (places_in elements) (range_with_len a m)) ≤ 255 * m
few_from elements a zero small = omega arith
few_from elements a (suc m) small =
    let here : length (places_in elements a) ≡ elements = length-map-range_with_len (λ i. let p : Place = record { rmb = a; index = i } in p) 1 elements in
    let rest = few_from elements (a + 1) m small in
    let whole = length-append (places_in elements a) (flat_map (places_in elements) (range_with_len (a + 1) m)) in
    omega (arith, here, rest, whole, small)

pub few_rows : (rmbs elements : ℕ) (rows : List Row) → rmbs ≤ 255 → elements ≤ 255 → map (λ r. r.place) rows ≡ all_places rmbs elements → length rows < 2 ^ 16
few_rows rmbs elements rows few small all =
    let long : length rows ≡ length (all_places rmbs elements) = sym (length-map rows (λ (r : Row). r.place)) ∙ ap length all in
    let most = few_from elements 1 rmbs small in
    omega (arith, long, most, few)
