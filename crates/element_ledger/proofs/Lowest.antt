-- The first free element in a ledger's order is the lowest free place.
use Rattle.std.proofs.Common.{◌≡◌, ◌∙◌, ℕ, zero, suc, ◌+◌, ◌<◌, ◌==◌, ◌&&◌, ◌||◌, Bool, true, false, not, cond, List, [], ◌∷◌, ◌++◌, map, filter, Option, Some, None, option_map, refl, sym, ap, subst, arith}
use Rattle.std.specs.Prelude.{flat_map, find}
use Rattle.std.specs.List.{list_any, range_with_len, AllByRecursion}
use Rattle.std.proofs.lemmas.Bool.{eqb-true, eq-eqb, ne_eqb}
use Rattle.smc_num.specs.Places.{Place, same_place, places_in, all_places, is_free, lowest_free}
use Rattle.element_ledger.specs.Lendings.{Row, is_lent, first_free, lent_places}

-- no place stands twice
abbrev pub AreApart : List Place → Type 0
AreApart [] = Unit {0}
AreApart (p ∷ ps) = (list_any (same_place p) ps ≡ false) × AreApart ps

and_false : (a b : Bool) → b ≡ false → (a && b) ≡ false
and_false true b e = e
and_false false b e = refl

pub or_false : (a b : Bool) → (a || b) ≡ false → (a ≡ false) × (b ≡ false)
or_false true b e = cc
or_false false b e = (refl, e)

none-append : (test : Place → Bool) (ps qs : List Place) → list_any test ps ≡ false → list_any test qs ≡ false → list_any test (ps ++ qs) ≡ false
none-append test [] qs none others = others
none-append test (p ∷ ps) qs none others = let both = or_false (test p) (list_any test ps) none in ap (λ b. b || list_any test (ps ++ qs)) both.0 ∙ none-append test ps qs both.1 others

apart-append : (ps qs : List Place) → AreApart ps → AreApart qs → AllByRecursion (λ p. list_any (same_place p) qs ≡ false) ps → AreApart (ps ++ qs)
apart-append [] qs apart others none = others
apart-append (p ∷ ps) qs apart others none = (none-append (same_place p) ps qs apart.0 none.0, apart-append ps qs apart.1 others none.1)

-- an element of an RMB
abbrev in_rmb : ℕ → ℕ → Place
in_rmb rmb i = record { rmb = rmb; index = i }

-- in an RMB the places rise
none_higher : (rmb i b k : ℕ) → i < b → list_any (same_place (in_rmb rmb i)) (map (in_rmb rmb) (range_with_len b k)) ≡ false
none_higher rmb i b zero below = refl
none_higher rmb i b (suc k) below =
    ap (λ t. t || list_any (same_place (in_rmb rmb i)) (map (in_rmb rmb) (range_with_len (b + 1) k))) (and_false (rmb == rmb) (i == b) (ne_eqb i b (λ e. omega (arith, e, below))))
    ∙ none_higher rmb i (b + 1) k (omega (arith, below))

row_apart : (rmb b k : ℕ) → AreApart (map (in_rmb rmb) (range_with_len b k))
row_apart rmb b zero = tt
row_apart rmb b (suc k) = (none_higher rmb b (b + 1) k (omega arith), row_apart rmb (b + 1) k)

-- and so do the RMBs
none_in_rmb : (p : Place) (rmb b k : ℕ) → p.rmb < rmb → list_any (same_place p) (map (in_rmb rmb) (range_with_len b k)) ≡ false
none_in_rmb p rmb b zero below = refl
none_in_rmb p rmb b (suc k) below =
    ap (λ t. (t && (p.index == b)) || list_any (same_place p) (map (in_rmb rmb) (range_with_len (b + 1) k))) (ne_eqb p.rmb rmb (λ e. omega (arith, e, below)))
    ∙ none_in_rmb p rmb (b + 1) k below

none_above : (p : Place) (n a m : ℕ) → p.rmb < a → list_any (same_place p) (flat_map (places_in n) (range_with_len a m)) ≡ false
none_above p n a zero below = refl
none_above p n a (suc m) below = none-append (same_place p) (places_in n a) (flat_map (places_in n) (range_with_len (a + 1) m)) (none_in_rmb p a 1 n below) (none_above p n (a + 1) m (omega (arith, below)))

row_below : (n a m b k : ℕ) → AllByRecursion (λ p. list_any (same_place p) (flat_map (places_in n) (range_with_len (a + 1) m)) ≡ false) (map (in_rmb a) (range_with_len b k))
row_below n a m b zero = tt
row_below n a m b (suc k) = (none_above (in_rmb a b) n (a + 1) m (omega arith), row_below n a m (b + 1) k)

pub rows_apart : (n a m : ℕ) → AreApart (flat_map (places_in n) (range_with_len a m))
rows_apart n a zero = tt
rows_apart n a (suc m) = apart-append (places_in n a) (flat_map (places_in n) (range_with_len (a + 1) m)) (row_apart a 1 n) (rows_apart n (a + 1) m) (row_below n a m 1 n)

-- where no element has a place, no lent one has it
none_lent : (test : Place → Bool) (rows : List Row) → list_any test (map (λ r. r.place) rows) ≡ false → list_any test (lent_places rows) ≡ false
none_lent test [] none = refl
none_lent test (r ∷ rows) none = let both = or_false (test r.place) (list_any test (map (λ q. q.place) rows)) none in by_test (is_lent r) both.0 (none_lent test rows both.1)
  where
    by_test : (b : Bool) → test r.place ≡ false → list_any test (lent_places rows) ≡ false → list_any test (map (λ q. q.place) (cond b (r ∷ filter is_lent rows) (filter is_lent rows))) ≡ false
    by_test true here rest = ap (λ t. t || list_any test (lent_places rows)) here ∙ rest
    by_test false here rest = rest

-- each of these is free by its place exactly where it is lent to nobody
abbrev Agree : List Place → List Row → Type 0
Agree taken rows = AllByRecursion (λ r. is_free taken r.place ≡ not (is_lent r)) rows

pub same_refl : (p : Place) → same_place p p ≡ true
same_refl p = ap (λ b. b && (p.index == p.index)) (eq-eqb p.rmb p.rmb refl) ∙ eq-eqb p.index p.index refl

pub same-flip : (p q : Place) → same_place p q ≡ false → same_place q p ≡ false
same-flip p q e = by_test (same_place q p) refl
  where
    by_test : (b : Bool) → same_place q p ≡ b → b ≡ false
    by_test false f = refl
    by_test true f =
        let both = both_true (q.rmb == p.rmb) (q.index == p.index) f in
        let same : same_place p q ≡ true = ap (λ b. b && (p.index == q.index)) (eq-eqb p.rmb q.rmb (sym (eqb-true q.rmb p.rmb both.0))) ∙ eq-eqb p.index q.index (sym (eqb-true q.index p.index both.1)) in
        let wrong : true ≡ false = sym same ∙ e in cc
      where
        both_true : (a b : Bool) → (a && b) ≡ true → (a ≡ true) × (b ≡ true)
        both_true true b e = (refl, e)
        both_true false b e = cc

-- one row more in front
extend : (r : Row) (rows rest : List Row) → list_any (same_place r.place) (map (λ q. q.place) rest) ≡ false → Agree (lent_places rows) rest → Agree (lent_places (r ∷ rows)) rest
extend r rows [] none agree = tt
extend r rows (q ∷ rest) none agree =
    let both = or_false (same_place r.place q.place) (list_any (same_place r.place) (map (λ p. p.place) rest)) none in
    (by_test (is_lent r) (same-flip r.place q.place both.0) agree.0, extend r rows rest both.1 agree.1)
  where
    by_test : (b : Bool) → same_place q.place r.place ≡ false → is_free (lent_places rows) q.place ≡ not (is_lent q)
        → not (list_any (same_place q.place) (map (λ p. p.place) (cond b (r ∷ filter is_lent rows) (filter is_lent rows)))) ≡ not (is_lent q)
    by_test true other free = ap (λ t. not (t || list_any (same_place q.place) (lent_places rows))) other ∙ free
    by_test false other free = free

agree : (rows : List Row) → AreApart (map (λ r. r.place) rows) → Agree (lent_places rows) rows
agree [] apart = tt
agree (r ∷ rows) apart = (by_test (is_lent r) (none_lent (same_place r.place) rows apart.0), extend r rows rows apart.0 (agree rows apart.1))
  where
    by_test : (b : Bool) → list_any (same_place r.place) (lent_places rows) ≡ false → not (list_any (same_place r.place) (map (λ p. p.place) (cond b (r ∷ filter is_lent rows) (filter is_lent rows)))) ≡ not b
    by_test true none = ap (λ t. not (t || list_any (same_place r.place) (lent_places rows))) (same_refl r.place)
    by_test false none = ap not none

first_agrees : (taken : List Place) (rows : List Row) → Agree taken rows → find (is_free taken) (map (λ r. r.place) rows) ≡ option_map (λ r. r.place) (first_free rows)
first_agrees taken [] agree = refl
first_agrees taken (r ∷ rows) agree =
    ap (λ b. cond b (Some r.place) (find (is_free taken) (map (λ q. q.place) rows))) agree.0 ∙ by_test (not (is_lent r)) (first_agrees taken rows agree.1)
  where
    by_test : (b : Bool) → find (is_free taken) (map (λ q. q.place) rows) ≡ option_map (λ q. q.place) (first_free rows)
        → cond b (Some r.place) (find (is_free taken) (map (λ q. q.place) rows)) ≡ option_map (λ q. q.place) (cond b (Some r) (first_free rows))
    by_test true rest = refl
    by_test false rest = rest

-- the first free element is the lowest
pub first_is_lowest : (rmbs elements : ℕ) (rows : List Row) → map (λ r. r.place) rows ≡ all_places rmbs elements → option_map (λ r. r.place) (first_free rows) ≡ lowest_free rmbs elements (lent_places rows)
first_is_lowest rmbs elements rows all =
    sym (first_agrees (lent_places rows) rows (agree rows (subst (λ ps. AreApart ps) (sym all) (rows_apart elements 1 rmbs)))) ∙ ap (λ ps. find (is_free (lent_places rows)) ps) all

pair_of : (o : Option Row) → option_map {U = ℕ × ℕ} (λ (r : Row). (r.place.rmb, r.place.index)) o ≡ option_map {U = ℕ × ℕ} (λ (p : Place). (p.rmb, p.index)) (option_map (λ r. r.place) o)
pair_of None = refl
pair_of (Some r) = refl

pub lowest_pair : (rmbs elements : ℕ) (rows : List Row) → map (λ r. r.place) rows ≡ all_places rmbs elements
    → option_map {U = ℕ × ℕ} (λ (r : Row). (r.place.rmb, r.place.index)) (first_free rows) ≡ option_map {U = ℕ × ℕ} (λ (p : Place). (p.rmb, p.index)) (lowest_free rmbs elements (lent_places rows))
lowest_pair rmbs elements rows all = pair_of (first_free rows) ∙ ap (λ o. option_map {U = ℕ × ℕ} (λ (p : Place). (p.rmb, p.index)) o) (first_is_lowest rmbs elements rows all)
