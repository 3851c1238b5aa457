-- Keys of which no two are for one RMB and slot: they stay so, and there are no more of them than RMBs on slots.
use Rattle.std.proofs.Common.{◌≡◌, ◌∙◌, ℕ, ◌+◌, ◌-◌, ◌*◌, ◌/◌, ◌%◌, ◌<◌, ◌≤◌, ◌==◌, ◌&&◌, ◌||◌, Bool, true, false, not, cond, List, [], ◌∷◌, ◌++◌, length, map, filter, refl, sym, ap, arith}
use Rattle.std.specs.List.{list_any, IsDistinct, AllByRecursion}
use Rattle.std.proofs.lemmas.Bool.{eqb-true, eq-eqb, ne_eqb}
use Rattle.std.proofs.lemmas.Nat.{div-mul-add, mod-mul-add, mul-add-lt}
use Rattle.std.proofs.lemmas.List.{length-map}
use Rattle.std.proofs.lemmas.Map.Keys.{IsDistinct-cons}
use Rattle.std.proofs.lemmas.Map.Steps.{length-le_from_distinct_below}
use Rattle.smc_num.specs.Keys.{Key, is_for, binds, has_one, AreBoundApart, IsInRange, AreInRange}

or_false : (a b : Bool) → (a || b) ≡ false → (a ≡ false) × (b ≡ false)
or_false true b e = cc
or_false false b e = (refl, e)

-- a filter brings in no key
none-filter : (test : Key → Bool) (rmb slot : ℕ) (keys : List Key) → has_one rmb slot keys ≡ false → has_one rmb slot (filter test keys) ≡ false
none-filter test rmb slot [] e = refl
none-filter test rmb slot (k ∷ keys) e = let both = or_false (is_for rmb slot k) (has_one rmb slot keys) e in by_test (test k) both.0 (none-filter test rmb slot keys both.1)
  where
    by_test : (b : Bool) → is_for rmb slot k ≡ false → has_one rmb slot (filter test keys) ≡ false → has_one rmb slot (cond b (k ∷ filter test keys) (filter test keys)) ≡ false
    by_test true other rest = ap (λ b. b || has_one rmb slot (filter test keys)) other ∙ rest
    by_test false other rest = rest

pub apart-filter : (test : Key → Bool) (keys : List Key) → AreBoundApart keys → AreBoundApart (filter test keys)
apart-filter test [] apart = tt
apart-filter test (k ∷ keys) apart = by_test (test k) (none-filter test k.rmb k.link.slot keys apart.0) (apart-filter test keys apart.1)
  where
    by_test : (b : Bool) → has_one k.rmb k.link.slot (filter test keys) ≡ false → AreBoundApart (filter test keys) → AreBoundApart (cond b (k ∷ filter test keys) (filter test keys))
    by_test true none rest = (none, rest)
    by_test false none rest = rest

pub in_range-filter : (rmbs links : ℕ) (test : Key → Bool) (keys : List Key) → AreInRange rmbs links keys → AreInRange rmbs links (filter test keys)
in_range-filter rmbs links test [] within = tt
in_range-filter rmbs links test (k ∷ keys) within = by_test (test k) (in_range-filter rmbs links test keys within.1)
  where
    by_test : (b : Bool) → AreInRange rmbs links (filter test keys) → AreInRange rmbs links (cond b (k ∷ filter test keys) (filter test keys))
    by_test true rest = (within.0, rest)
    by_test false rest = rest

-- two keys are for one RMB and slot either way round
is_for-flip : (a b : Key) → is_for a.rmb a.link.slot b ≡ is_for b.rmb b.link.slot a
is_for-flip a b = ap (λ t. t && (b.link.slot == a.link.slot)) (eq-flip b.rmb a.rmb) ∙ ap (λ t. (a.rmb == b.rmb) && t) (eq-flip b.link.slot a.link.slot)
  where
    eq-flip : (m n : ℕ) → (m == n) ≡ (n == m)
    eq-flip m n = by_test (m == n) refl
      where
        by_test : (t : Bool) → (m == n) ≡ t → t ≡ (n == m)
        by_test true e = sym (eq-eqb n m (sym (eqb-true m n e)))
        by_test false e = sym (ne_eqb n m (λ same. let t = eq-eqb m n (sym same) in cc))

none-push : (k new : Key) (keys : List Key) → has_one k.rmb k.link.slot keys ≡ false → is_for k.rmb k.link.slot new ≡ false → has_one k.rmb k.link.slot (keys ++ new ∷ []) ≡ false
none-push k new [] none other = ap (λ b. b || false) other
none-push k new (j ∷ keys) none other =
    let both = or_false (is_for k.rmb k.link.slot j) (has_one k.rmb k.link.slot keys) none in
    ap (λ b. b || has_one k.rmb k.link.slot (keys ++ new ∷ [])) both.0 ∙ none-push k new keys both.1 other

pub apart-push : (new : Key) (keys : List Key) → AreBoundApart keys → has_one new.rmb new.link.slot keys ≡ false → AreBoundApart (keys ++ new ∷ [])
apart-push new [] apart none = (refl, tt)
apart-push new (k ∷ keys) apart none =
    let both = or_false (is_for new.rmb new.link.slot k) (has_one new.rmb new.link.slot keys) none in
    (none-push k new keys apart.0 (is_for-flip k new ∙ both.0), apart-push new keys apart.1 both.1)

pub in_range-push : (rmbs links : ℕ) (new : Key) (keys : List Key) → AreInRange rmbs links keys → IsInRange rmbs links new.rmb new.link.slot → AreInRange rmbs links (keys ++ new ∷ [])
in_range-push rmbs links new [] within here = (here, tt)
in_range-push rmbs links new (k ∷ keys) within here = (within.0, in_range-push rmbs links new keys within.1 here)

-- what a filter removes is gone
pub none_left : (rmb slot : ℕ) (keys : List Key) → has_one rmb slot (filter (λ k. not (is_for rmb slot k)) keys) ≡ false
none_left rmb slot [] = refl
none_left rmb slot (k ∷ keys) = by_test (is_for rmb slot k) refl (none_left rmb slot keys)
  where
    by_test : (b : Bool) → is_for rmb slot k ≡ b → has_one rmb slot (filter (λ j. not (is_for rmb slot j)) keys) ≡ false
        → has_one rmb slot (cond (not b) (k ∷ filter (λ j. not (is_for rmb slot j)) keys) (filter (λ j. not (is_for rmb slot j)) keys)) ≡ false
    by_test true e rest = rest
    by_test false e rest = ap (λ b. b || has_one rmb slot (filter (λ j. not (is_for rmb slot j)) keys)) e ∙ rest

-- where RMB and slot of a key stand, counted RMB by RMB
abbrev cell : ℕ → Key → ℕ
cell links k = (k.rmb - 1) * links + (k.link.slot - 1)

cells : ℕ → List Key → List ℕ
cells links keys = map (cell links) keys

module _ (rmbs links : ℕ) where
  -- keys of other RMBs or slots stand elsewhere
  other_cell : (a b : Key) → IsInRange rmbs links a.rmb a.link.slot → IsInRange rmbs links b.rmb b.link.slot → is_for a.rmb a.link.slot b ≡ false → (cell links a == cell links b) ≡ false
  other_cell a b here there other = ne_eqb (cell links a) (cell links b) (λ same.
      let a1 = here.0 in let a3 = here.2 in let a4 = here.3 in let b1 = there.0 in let b3 = there.2 in let b4 = there.3 in
      let rows : a.rmb - 1 ≡ b.rmb - 1 = sym (div-mul-add (a.rmb - 1) links (a.link.slot - 1) (omega (arith, a3, a4))) ∙ (ap (λ n. n / links) same ∙ div-mul-add (b.rmb - 1) links (b.link.slot - 1) (omega (arith, b3, b4))) in
      let columns : a.link.slot - 1 ≡ b.link.slot - 1 = sym (mod-mul-add (a.rmb - 1) links (a.link.slot - 1) (omega (arith, a3, a4))) ∙ (ap (λ n. n % links) same ∙ mod-mul-add (b.rmb - 1) links (b.link.slot - 1) (omega (arith, b3, b4))) in
      let r = eq-eqb b.rmb a.rmb (omega (arith, rows, a1, b1)) in
      let s = eq-eqb b.link.slot a.link.slot (omega (arith, columns, a3, b3)) in
      let both : is_for a.rmb a.link.slot b ≡ true = ap (λ t. t && (b.link.slot == a.link.slot)) r ∙ s in
      cc)

  cells_apart : (k : Key) (keys : List Key) → IsInRange rmbs links k.rmb k.link.slot → AreInRange rmbs links keys → has_one k.rmb k.link.slot keys ≡ false → AllByRecursion (λ m. (cell links k == m) ≡ false) (cells links keys)
  unfolding cells
  cells_apart k [] here within none = tt
  cells_apart k (j ∷ keys) here within none =
      let both = or_false (is_for k.rmb k.link.slot j) (has_one k.rmb k.link.slot keys) none in
      (other_cell k j here within.0 both.0, cells_apart k keys here within.1 both.1)

  cells_distinct : (keys : List Key) → AreBoundApart keys → AreInRange rmbs links keys → IsDistinct (λ a b. a == b) (cells links keys)
  unfolding cells IsDistinct
  cells_distinct [] apart within = tt
  cells_distinct (k ∷ keys) apart within = IsDistinct-cons _ _ _ (cells_apart k keys within.0 within.1 apart.0) (cells_distinct keys apart.1 within.1)

  cells_below : (keys : List Key) (q : ℕ) → AreInRange rmbs links keys → list_any (λ m. q == m) (cells links keys) ≡ true → q < rmbs * links
  unfolding cells
  cells_below [] q within has = absurd (let e : false ≡ true = has in cc)
  cells_below (k ∷ keys) q within has = by_test (q == cell links k) refl has (cells_below keys q within.1)
    where
      by_test : (b : Bool) → (q == cell links k) ≡ b → (b || list_any (λ m. q == m) (cells links keys)) ≡ true → (list_any (λ m. q == m) (cells links keys) ≡ true → q < rmbs * links) → q < rmbs * links
      by_test true e h rest =
          let same = eqb-true q (cell links k) e in
          let k1 = within.0.0 in let k2 = within.0.1 in let k3 = within.0.2 in let k4 = within.0.3 in
          let low = mul-add-lt (k.rmb - 1) links (k.link.slot - 1) rmbs (omega (arith, k1, k2)) (omega (arith, k3, k4)) in
          omega (arith, same, low)
      by_test false e h rest = rest h

  -- there are at most as many keys as RMBs on slots
  pub at_most : (keys : List Key) → AreBoundApart keys → AreInRange rmbs links keys → length keys ≤ rmbs * links
  unfolding cells
  at_most keys apart within =
      let le = length-le_from_distinct_below (cells links keys) (rmbs * links) (cells_distinct keys apart within) (λ q. cells_below keys q within) in
      let same : length (cells links keys) ≡ length keys = length-map keys (cell links) in
      omega (arith, le, same)

-- one more is bound, in the place of its RMB's earlier one for the same slot
pub apart-binds : (new : Key) (keys : List Key) → AreBoundApart keys → AreBoundApart (binds new keys)
apart-binds new keys apart =
    let test : Key → Bool = λ k. not (is_for new.rmb new.link.slot k) in
    apart-push new (filter (λ k. not (is_for new.rmb new.link.slot k)) keys) (apart-filter test keys apart) (none_left new.rmb new.link.slot keys)

pub in_range-binds : (rmbs links : ℕ) (new : Key) (keys : List Key) → AreInRange rmbs links keys → IsInRange rmbs links new.rmb new.link.slot → AreInRange rmbs links (binds new keys)
in_range-binds rmbs links new keys within here =
    let test : Key → Bool = λ k. not (is_for new.rmb new.link.slot k) in
    in_range-push rmbs links new (filter (λ k. not (is_for new.rmb new.link.slot k)) keys) (in_range-filter rmbs links test keys within) here
