-- What is true of every table stays true of its keys when one is bound or some are removed.
use Rattle.std.proofs.Common.{◌≡◌, ◌∙◌, ℕ, ◌+◌, ◌-◌, ◌*◌, ◌<◌, ◌≤◌, ◌==◌, ◌||◌, Bool, true, false, not, cond, List, [], ◌∷◌, ◌++◌, length, map, filter, Option, Some, None, option_map, unwrap_or, refl, sym, ap, subst, arith}
use Rattle.std.specs.Prelude.{find, is_some}
use Rattle.std.specs.List.{list_any, IsDistinct, AllByRecursion}
use Rattle.std.proofs.lemmas.Bool.{eqb-true, eq-eqb, ne_eqb}
use Rattle.std.proofs.lemmas.List.{length-map}
use Rattle.std.proofs.lemmas.Map.Keys.{IsDistinct-cons}
use Rattle.std.proofs.lemmas.Map.Steps.{length-le_from_distinct_below}
use mathlib.Core.Logic.{dite}
use native.Mathlib.Decide.{dec_le}
use Rattle.smc_num.specs.declared.LinkId.{LinkId}
use Rattle.smc_num.specs.Names.{no_link}
use Rattle.smc_num.specs.Keys.{Key, is_used, lowest_unused, IsLowestUnused, is_for, key_for_slot, number_for, registers, has_one, AreBoundApart, IsInRange, AreInRange}
use Rattle.smc_num.proofs.KeyLemmas.{lowest_unused_is}
use Rattle.smc_num.proofs.KeyPlaces.{apart-filter as bound_apart-filter, apart-binds, at_most as at_most_places}
use Rattle.rkey_table.specs.Tables.{AreApart, AreWithin, IsTable, AllUsed}
use Rattle.rkey_table.proofs.Numbers.{lowest_unused_le}

or_false : (a b : Bool) → (a || b) ≡ false → (a ≡ false) × (b ≡ false)
or_false true b e = cc
or_false false b e = (refl, e)

-- two numbers differ either way round
other_way : (a b : ℕ) → (a == b) ≡ false → (b == a) ≡ false
other_way a b e = ne_eqb b a (λ same. let t = eq-eqb a b (sym same) in cc)

-- a filter brings in no number
pub unused-filter : (test : Key → Bool) (n : ℕ) (keys : List Key) → is_used n keys ≡ false → is_used n (filter test keys) ≡ false
unused-filter test n [] e = refl
unused-filter test n (k ∷ keys) e = let both = or_false (n == k.key) (is_used n keys) e in by_test (test k) both.0 (unused-filter test n keys both.1)
  where
    by_test : (b : Bool) → (n == k.key) ≡ false → is_used n (filter test keys) ≡ false → is_used n (cond b (k ∷ filter test keys) (filter test keys)) ≡ false
    by_test true other rest = ap (λ b. b || is_used n (filter test keys)) other ∙ rest
    by_test false other rest = rest

-- nor does it bring two of them together
pub apart-filter : (test : Key → Bool) (keys : List Key) → AreApart keys → AreApart (filter test keys)
apart-filter test [] apart = tt
apart-filter test (k ∷ keys) apart = by_test (test k) (unused-filter test k.key keys apart.0) (apart-filter test keys apart.1)
  where
    by_test : (b : Bool) → is_used k.key (filter test keys) ≡ false → AreApart (filter test keys) → AreApart (cond b (k ∷ filter test keys) (filter test keys))
    by_test true unused rest = (unused, rest)
    by_test false unused rest = rest

pub within-filter : (base places : ℕ) (test : Key → Bool) (keys : List Key) → AreWithin base places keys → AreWithin base places (filter test keys)
within-filter base places test [] within = tt
within-filter base places test (k ∷ keys) within = by_test (test k) (within-filter base places test keys within.2)
  where
    by_test : (b : Bool) → AreWithin base places (filter test keys) → AreWithin base places (cond b (k ∷ filter test keys) (filter test keys))
    by_test true rest = (within.0, within.1, rest)
    by_test false rest = rest

-- a key with a number that no other has goes to the end
unused-push : (n : ℕ) (keys : List Key) (new : Key) → is_used n keys ≡ false → (n == new.key) ≡ false → is_used n (keys ++ new ∷ []) ≡ false
unused-push n [] new unused other = ap (λ b. b || false) other
unused-push n (k ∷ keys) new unused other =
    let both = or_false (n == k.key) (is_used n keys) unused in
    ap (λ b. b || is_used n (keys ++ new ∷ [])) both.0 ∙ unused-push n keys new both.1 other

apart-push : (keys : List Key) (new : Key) → AreApart keys → is_used new.key keys ≡ false → AreApart (keys ++ new ∷ [])
apart-push [] new apart unused = (refl, tt)
apart-push (k ∷ keys) new apart unused =
    let both = or_false (new.key == k.key) (is_used new.key keys) unused in
    (unused-push k.key keys new apart.0 (other_way new.key k.key both.0), apart-push keys new apart.1 both.1)

within-push : (base places : ℕ) (keys : List Key) (new : Key) → AreWithin base places keys → base < new.key → new.key ≤ base + places → AreWithin base places (keys ++ new ∷ [])
within-push base places [] new within low high = (low, high, tt)
within-push base places (k ∷ keys) new within low high = (within.0, within.1, within-push base places keys new within.2 low high)

-- the number that an RMB has for a slot is used, and is one of the table's
found_used : (rmb slot n : ℕ) (keys : List Key) → key_for_slot rmb slot keys ≡ Some n → is_used n keys ≡ true
found_used rmb slot n [] has = cc
found_used rmb slot n (k ∷ keys) has = by_test (is_for rmb slot k) has (found_used rmb slot n keys)
  where
    by_test : (b : Bool) → option_map (λ (j : Key). j.key) (cond b (Some k) (find (is_for rmb slot) keys)) ≡ Some n → (key_for_slot rmb slot keys ≡ Some n → is_used n keys ≡ true) → is_used n (k ∷ keys) ≡ true
    by_test true e rest = let same : k.key ≡ n = cc in ap (λ b. b || is_used n keys) (eq-eqb n k.key (sym same))
    by_test false e rest = or_true (n == k.key) (is_used n keys) (rest e)
      where
        or_true : (a b : Bool) → b ≡ true → (a || b) ≡ true
        or_true true b t = refl
        or_true false b t = t

found_within : (base places rmb slot n : ℕ) (keys : List Key) → AreWithin base places keys → key_for_slot rmb slot keys ≡ Some n → (base < n) × (n ≤ base + places)
found_within base places rmb slot n [] within has = cc
found_within base places rmb slot n (k ∷ keys) within has = by_test (is_for rmb slot k) has (found_within base places rmb slot n keys within.2)
  where
    by_test : (b : Bool) → option_map (λ (j : Key). j.key) (cond b (Some k) (find (is_for rmb slot) keys)) ≡ Some n → (key_for_slot rmb slot keys ≡ Some n → (base < n) × (n ≤ base + places)) → (base < n) × (n ≤ base + places)
    by_test true e rest = let same : k.key ≡ n = cc in subst (λ m. (base < m) × (m ≤ base + places)) same (within.0, within.1)
    by_test false e rest = rest e

-- among the keys that are left no other has it
found_unused : (rmb slot n : ℕ) (keys : List Key) → AreApart keys → key_for_slot rmb slot keys ≡ Some n → is_used n (filter (λ k. not (is_for rmb slot k)) keys) ≡ false
found_unused rmb slot n [] apart has = cc
found_unused rmb slot n (k ∷ keys) apart has = by_test (is_for rmb slot k) has (found_unused rmb slot n keys apart.1)
  where
    by_test : (b : Bool) → option_map (λ (j : Key). j.key) (cond b (Some k) (find (is_for rmb slot) keys)) ≡ Some n
        → (key_for_slot rmb slot keys ≡ Some n → is_used n (filter (λ j. not (is_for rmb slot j)) keys) ≡ false)
        → is_used n (cond (not b) (k ∷ filter (λ j. not (is_for rmb slot j)) keys) (filter (λ j. not (is_for rmb slot j)) keys)) ≡ false
    by_test true e rest = let same : k.key ≡ n = cc in unused-filter (λ j. not (is_for rmb slot j)) n keys (subst (λ m. is_used m keys ≡ false) same apart.0)
    by_test false e rest =
        let used = found_used rmb slot n keys e in
        let other : (n == k.key) ≡ false = ne_eqb n k.key (λ same. let none : is_used n keys ≡ false = subst (λ m. is_used m keys ≡ false) (sym same) apart.0 in cc) in
        ap (λ b. b || is_used n (filter (λ j. not (is_for rmb slot j)) keys)) other ∙ rest e

-- the number that is given is one of the table's, and no other key has it
pub record IsFitting (base places rmb slot n : ℕ) (keys : List Key) : Type 0 where
  pub low : base < n
  pub high : n ≤ base + places
  pub unused : is_used n (filter (λ k. not (is_for rmb slot k)) keys) ≡ false

fits : (base places rmb slot : ℕ) (keys : List Key) → AreApart keys → AreWithin base places keys → (key_for_slot rmb slot keys ≡ None → length keys < places)
    → IsFitting base places rmb slot (number_for base rmb slot keys) keys
fits base places rmb slot keys apart within room = by_number (key_for_slot rmb slot keys) refl
  where
    by_number : (o : Option ℕ) → key_for_slot rmb slot keys ≡ o → IsFitting base places rmb slot (unwrap_or o (lowest_unused base keys)) keys
    by_number (Some n) e = let in_range = found_within base places rmb slot n keys within e in record { low = in_range.0; high = in_range.1; unused = found_unused rmb slot n keys apart e }
    by_number None e =
        let lowest : IsLowestUnused base keys (lowest_unused base keys) = lowest_unused_is base keys in
        let short = room e in
        let le = lowest_unused_le base keys in
        record { low = lowest.above; high = omega (arith, short, le); unused = unused-filter (λ k. not (is_for rmb slot k)) (lowest_unused base keys) keys lowest.unused }

-- how far a number is behind the first one
offsets : ℕ → List Key → List ℕ
offsets base keys = map (λ k. k.key - (base + 1)) keys

module _ (base places : ℕ) where
  offsets_apart : (n : ℕ) (keys : List Key) → base < n → AreWithin base places keys → is_used n keys ≡ false → AllByRecursion (λ m. (n - (base + 1) == m) ≡ false) (offsets base keys)
  unfolding offsets
  offsets_apart n [] low within unused = tt
  offsets_apart n (k ∷ keys) low within unused =
      let both = or_false (n == k.key) (is_used n keys) unused in (
        ne_eqb (n - (base + 1)) (k.key - (base + 1)) (λ same. let there = within.0 in let t = eq-eqb n k.key (omega (arith, same, low, there)) in cc),
        offsets_apart n keys low within.2 both.1,
      )

  offsets_distinct : (keys : List Key) → AreApart keys → AreWithin base places keys → IsDistinct (λ a b. a == b) (offsets base keys)
  unfolding offsets IsDistinct
  offsets_distinct [] apart within = tt
  offsets_distinct (k ∷ keys) apart within = IsDistinct-cons _ _ _ (offsets_apart k.key keys within.0 within.2 apart.0) (offsets_distinct keys apart.1 within.2)

  offsets_below : (keys : List Key) (q : ℕ) → AreWithin base places keys → list_any (λ m. q == m) (offsets base keys) ≡ true → q < places
  unfolding offsets
  offsets_below [] q within has = absurd (let e : false ≡ true = has in cc)
  offsets_below (k ∷ keys) q within has = by_test (q == k.key - (base + 1)) refl has (offsets_below keys q within.2)
    where
      by_test : (b : Bool) → (q == k.key - (base + 1)) ≡ b → (b || list_any (λ m. q == m) (offsets base keys)) ≡ true → (list_any (λ m. q == m) (offsets base keys) ≡ true → q < places) → q < places
      by_test true e h rest = let same = eqb-true q (k.key - (base + 1)) e in let low = within.0 in let high = within.1 in omega (arith, same, low, high)
      by_test false e h rest = rest h

  -- there are at most as many keys as numbers
  pub at_most : (keys : List Key) → AreApart keys → AreWithin base places keys → length keys ≤ places
  unfolding offsets
  at_most keys apart within =
      let le = length-le_from_distinct_below (offsets base keys) places (offsets_distinct keys apart within) (λ q. offsets_below keys q within) in
      let same : length (offsets base keys) ≡ length keys = length-map keys (λ k. k.key - (base + 1)) in
      omega (arith, le, same)

-- an RMB is registered
pub registered : (base places rmb : ℕ) (link : LinkId) (keys : List Key) → IsTable (record { base = base; places = places; keys = keys }) → (key_for_slot rmb link.slot keys ≡ None → length keys < places)
    → IsTable (record { base = base; places = places; keys = registers base rmb keys link })
registered base places rmb link keys table room =
    let f = fits base places rmb link.slot keys table.apart table.within room in
    let new : Key = record { key = number_for base rmb link.slot keys; rmb = rmb; link = link } in
    let rest = filter (λ k. not (is_for rmb link.slot k)) keys in
    record {
      apart = apart-push rest new (apart-filter (λ k. not (is_for rmb link.slot k)) keys table.apart) f.unused;
      bound_apart = apart-binds new keys table.bound_apart;
      within = within-push base places rest new (within-filter base places (λ k. not (is_for rmb link.slot k)) keys table.within) f.low f.high;
    }

-- and there is room for it
pub room_for : (base places rmb : ℕ) (link : LinkId) (keys : List Key) → IsTable (record { base = base; places = places; keys = keys }) → (key_for_slot rmb link.slot keys ≡ None → length keys < places)
    → length (registers base rmb keys link) ≤ places
room_for base places rmb link keys table room = let new = registered base places rmb link keys table room in at_most base places (registers base rmb keys link) new.apart new.within

-- keys go
pub filtered : (base places : ℕ) (test : Key → Bool) (keys : List Key) → IsTable (record { base = base; places = places; keys = keys }) → IsTable (record { base = base; places = places; keys = filter test keys })
filtered base places test keys table = record { apart = apart-filter test keys table.apart; bound_apart = bound_apart-filter test keys table.bound_apart; within = within-filter base places test keys table.within }

-- where there is a key for each number, all are in use
pub all_used : (base places : ℕ) (keys : List Key) → IsTable (record { base = base; places = places; keys = keys }) → length keys ≡ places → AllUsed (record { base = base; places = places; keys = keys })
all_used base places keys table many =
    let lowest : IsLowestUnused base keys (lowest_unused base keys) = lowest_unused_is base keys in
    let n = lowest_unused base keys in
    dite (dec_le n (base + places))
    (λ le.
    let one_more : Key = record { key = n; rmb = 0; link = no_link } in
    let longer = at_most base places (one_more ∷ keys) (lowest.unused, table.apart) (lowest.above, le, table.within) in
    absurd (omega (arith, longer, many)))
    (λ gt. omega (arith, gt))

-- where all are in use, there is a key for each number
pub many_where_used : (base places : ℕ) (keys : List Key) → AllUsed (record { base = base; places = places; keys = keys }) → places ≤ length keys
many_where_used base places keys used = let le = lowest_unused_le base keys in omega (arith, used, le)

-- an RMB without a key for a slot is none of those that have one there
none_there : (rmb slot : ℕ) (keys : List Key) → is_some (key_for_slot rmb slot keys) ≡ false → has_one rmb slot keys ≡ false
none_there rmb slot [] none = refl
none_there rmb slot (k ∷ keys) none = by_test (is_for rmb slot k) none (none_there rmb slot keys)
  where
    by_test : (b : Bool) → is_some (option_map (λ (j : Key). j.key) (cond b (Some k) (find (is_for rmb slot) keys))) ≡ false → (is_some (key_for_slot rmb slot keys) ≡ false → has_one rmb slot keys ≡ false) → (b || has_one rmb slot keys) ≡ false
    by_test true e rest = cc
    by_test false e rest = rest e

-- where there are numbers for all RMBs on all slots, and all numbers are in use, each RMB has one for each slot
pub each_has_one : (base places rmbs links rmb slot : ℕ) (keys : List Key) → AreBoundApart keys → AreInRange rmbs links keys → rmbs * links ≤ places → IsInRange rmbs links rmb slot
    → AllUsed (record { base = base; places = places; keys = keys }) → is_some (key_for_slot rmb slot keys) ≡ false → ⊥
each_has_one base places rmbs links rmb slot keys apart within enough here used none =
    let one_more : Key = record { key = 0; rmb = rmb; link = record no_link { slot = slot } } in
    let few = at_most_places rmbs links (one_more ∷ keys) (none_there rmb slot keys none, apart) (here, within) in
    let many = many_where_used base places keys used in
    omega (arith, few, many, enough)
