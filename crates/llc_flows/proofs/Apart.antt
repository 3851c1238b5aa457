-- Lists with at most one element a slot: they stay so when elements go, and have at most eight.
use Rattle.std.proofs.Common.{◌≡◌, ◌∙◌, ℕ, ◌≤◌, ◌<◌, ◌==◌, ◌||◌, Bool, true, false, cond, List, [], ◌∷◌, length, map, filter, refl, sym, ap, arith}
use Rattle.std.specs.List.{list_any, IsDistinct, AllByRecursion}
use Rattle.std.proofs.lemmas.Bool.{eqb-true, eq-eqb, ne_eqb}
use Rattle.std.proofs.lemmas.List.{length-map}
use Rattle.std.proofs.lemmas.Map.Keys.{IsDistinct-cons}
use Rattle.std.proofs.lemmas.Map.Steps.{length-le_from_distinct_below}
use Rattle.llc_flows.specs.Slots.{AreApart}

or_false : (a b : Bool) → (a || b) ≡ false → (a ≡ false) × (b ≡ false)
or_false true b e = cc
or_false false b e = (refl, e)

-- a filter brings in no element that passes a test
none-filter : {X : Type 0} (p test : X → Bool) (xs : List X) → list_any test xs ≡ false → list_any test (filter p xs) ≡ false
none-filter p test [] e = refl
none-filter p test (x ∷ xs) e = let both = or_false (test x) (list_any test xs) e in by_test (p x) both.0 (none-filter p test xs both.1)
  where
    by_test : (b : Bool) → test x ≡ false → list_any test (filter p xs) ≡ false → list_any test (cond b (x ∷ filter p xs) (filter p xs)) ≡ false
    by_test true other rest = ap (λ b. b || list_any test (filter p xs)) other ∙ rest
    by_test false other rest = rest

pub apart-filter : {X : Type 0} (slot : X → ℕ) (p : X → Bool) (xs : List X) → AreApart slot xs → AreApart slot (filter p xs)
apart-filter slot p [] apart = tt
apart-filter slot p (x ∷ xs) apart = by_test (p x) (apart-filter slot p xs apart.1)
  where
    by_test : (b : Bool) → AreApart slot (filter p xs) → AreApart slot (cond b (x ∷ filter p xs) (filter p xs))
    by_test true rest = ((apart.0.0, apart.0.1, none-filter p (λ y. slot x == slot y) xs apart.0.2), rest)
    by_test false rest = rest

-- that no element is for a slot may be read from either side
pub none_turned : {X : Type 0} (slot : X → ℕ) (k : ℕ) (xs : List X) → list_any (λ x. slot x == k) xs ≡ false → list_any (λ x. k == slot x) xs ≡ false
none_turned slot k [] e = refl
none_turned slot k (x ∷ xs) e =
    let both = or_false (slot x == k) (list_any (λ x. slot x == k) xs) e in
    ap (λ b. b || list_any (λ x. k == slot x) xs) (turned k (slot x) both.0) ∙ none_turned slot k xs both.1
  where
    turned : (a b : ℕ) → (b == a) ≡ false → (a == b) ≡ false
    turned a b e = ne_eqb a b (λ same. let t = eq-eqb b a (sym same) in let wrong : true ≡ false = sym t ∙ e in cc)

module _ {X : Type 0} (slot : X → ℕ) where
  apart_from : (k : ℕ) (xs : List X) → list_any (λ y. k == slot y) xs ≡ false → AllByRecursion (λ m. (k == m) ≡ false) (map slot xs)
  apart_from k [] e = tt
  apart_from k (x ∷ xs) e = let both = or_false (k == slot x) (list_any (λ y. k == slot y) xs) e in (both.0, apart_from k xs both.1)

  above_zero : (xs : List X) → AreApart slot xs → AllByRecursion (λ m. (0 == m) ≡ false) (map slot xs)
  above_zero [] apart = tt
  above_zero (x ∷ xs) apart = (let low = apart.0.0 in ne_eqb 0 (slot x) (λ e. omega (arith, low, e)), above_zero xs apart.1)

  distinct : (xs : List X) → AreApart slot xs → IsDistinct (λ a b. a == b) (map slot xs)
  unfolding IsDistinct
  distinct [] apart = tt
  distinct (x ∷ xs) apart = IsDistinct-cons _ _ _ (apart_from (slot x) xs apart.0.2) (distinct xs apart.1)

  below : (xs : List X) (q : ℕ) → AreApart slot xs → list_any (λ m. q == m) (map slot xs) ≡ true → q < 9
  below [] q apart has = absurd (let e : false ≡ true = has in cc)
  below (x ∷ xs) q apart has = by_test (q == slot x) refl has (below xs q apart.1)
    where
      by_test : (b : Bool) → (q == slot x) ≡ b → (b || list_any (λ m. q == m) (map slot xs)) ≡ true → (list_any (λ m. q == m) (map slot xs) ≡ true → q < 9) → q < 9
      by_test true e h rest = let same = eqb-true q (slot x) e in let high = apart.0.1 in omega (arith, same, high)
      by_test false e h rest = rest h

  below_or_zero : (xs : List X) (q : ℕ) → AreApart slot xs → (b : Bool) → (q == 0) ≡ b → (b || list_any (λ m. q == m) (map slot xs)) ≡ true → q < 9
  below_or_zero xs q apart true e h = let same = eqb-true q 0 e in omega (arith, same)
  below_or_zero xs q apart false e h = below xs q apart h

  -- with 0 in front, the slots are different numbers below 9
  pub at_most_eight : (xs : List X) → AreApart slot xs → length xs ≤ 8
  at_most_eight xs apart =
      let le = length-le_from_distinct_below (0 ∷ map slot xs) 9 (IsDistinct-cons _ _ _ (above_zero xs apart) (distinct xs apart)) (λ q h. below_or_zero xs q apart (q == 0) refl h) in
      let same : length (map slot xs) ≡ length xs = length-map xs slot in
      omega (arith, le, same)

  -- so there is room for an element of one more slot
  pub room_for : (x : X) (xs : List X) → AreApart slot (x ∷ xs) → length xs < 8
  room_for x xs apart = let most = at_most_eight (x ∷ xs) apart in omega (arith, most)
