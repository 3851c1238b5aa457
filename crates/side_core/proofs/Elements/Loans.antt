-- An element that is lent or given back, among the others of its side.
-- A reader learns here how many elements are free then, and that the elements of two connections are never at one place.
use Rattle.std.proofs.Common.{◌≡◌, ◌≢◌, ◌∙◌, ℕ, zero, suc, ◌+◌, ◌<◌, ◌≤◌, ◌==◌, ◌&&◌, not, cond, Bool, true, false, List, [], ◌∷◌, ◌++◌, length, map, filter, Option, Some, None, All, refl, sym, ap, subst, arith, true≢false, unwrap_or}
use Rattle.std.specs.Prelude.{slice_index_or}
use Rattle.std.specs.List.{range_with_len, AllByRecursion}
use Rattle.std.proofs.lemmas.Bool.{eqb-true}
use Rattle.std.proofs.lemmas.List.{get_or-map, get_or_at, length-append, length-map}
use Rattle.std.proofs.lemmas.List.Elements.{filter-append}
use Rattle.smc_num.specs.Places.{Place, same_place, all_places}
use Rattle.element_ledger.specs.declared.Element.{Element}
use Rattle.element_ledger.specs.declared.rows.Lending.{Lending}
use Rattle.element_ledger.specs.Lendings.{Row, Rows, IsLedger, StandsOnce, HasLending, first_free, is_lent, lending_of, changes_at, place_of, lends, freed}
use Rattle.element_ledger.proofs.Once.{are_apart, stands_once, has_lending}
use Rattle.element_ledger.proofs.Changes.{free_one}
use Rattle.side_core.proofs.Elements.Counting.{free_count}
use Rattle.side_core.proofs.Elements.Verdicts.{by_if}

both_true : (a b : Bool) → (a && b) ≡ true → (a ≡ true) × (b ≡ true)
both_true true b e = (refl, e)
both_true false b e = absurd (true≢false (sym e))

same_is : (p q : Place) → same_place p q ≡ true → p ≡ q
same_is p q e =
    let both = both_true (p.rmb == q.rmb) (p.index == q.index) e in
    ap (λ n. let x : Place = record { rmb = n; index = p.index } in x) (eqb-true p.rmb q.rmb both.0)
    ∙ ap (λ n. let x : Place = record { rmb = q.rmb; index = n } in x) (eqb-true p.index q.index both.1)

-- what stands once at a place is alone there
alone : (r q : Row) (rows : List Row) → StandsOnce r rows → StandsOnce q rows → r.place ≡ q.place → r ≡ q
alone r q rows first second same =
    let whole : second.before ++ r ∷ second.after ≡ second.before ++ q ∷ second.after =
    sym (second.change (λ x. r)) ∙ ap (λ p. map (changes_at p (λ x. r)) rows) (sym same) ∙ first.change (λ x. r) ∙ sym first.whole ∙ second.whole in
    sym (get_or_at second.before r second.after r (length second.before) refl)
    ∙ ap (λ xs. slice_index_or xs (length second.before) r) whole
    ∙ get_or_at second.before q second.after r (length second.before) refl

-- elements that are lent to different connections are apart
pub apart : (v : Rows) (e f : Element) (l k : Lending) → IsLedger v → lending_of e v.rows ≡ Some l → lending_of f v.rows ≡ Some k → l.conn ≢ k.conn → same_place (place_of e) (place_of f) ≡ false
apart v e f l k ledger has other differ = by_test (same_place (place_of e) (place_of f)) refl
  where
    here : HasLending e l v.rows
    here = has_lending v e l ledger has

    there : HasLending f k v.rows
    there = has_lending v f k ledger other

    by_test : (b : Bool) → same_place (place_of e) (place_of f) ≡ b → b ≡ false
    by_test false at = refl
    by_test true at =
        let one : here.row ≡ there.row = alone here.row there.row v.rows here.once there.once (here.place ∙ same_is (place_of e) (place_of f) at ∙ sym there.place) in
        let lent : Some l ≡ Some k = sym here.lending ∙ ap (λ (r : Row). r.lending) one ∙ there.lending in
        absurd (differ (ap (λ (o : Option Lending). (unwrap_or o l).conn) lent))

-- how many are free before and after one, and itself
count_at : (before after : List Row) (r : Row) → free_count (before ++ r ∷ after) ≡ free_count before + (cond (not (is_lent r)) 1 0 + free_count after)
count_at before after r =
    ap length (filter-append (λ (x : Row). not (is_lent x)) before (r ∷ after))
    ∙ length-append (filter (λ (x : Row). not (is_lent x)) before) (filter (λ (x : Row). not (is_lent x)) (r ∷ after))
    ∙ ap (λ n. free_count before + n) (by_test (not (is_lent r)))
  where
    by_test : (b : Bool) → length (cond b (r ∷ filter (λ x. not (is_lent x)) after) (filter (λ x. not (is_lent x)) after)) ≡ cond b 1 0 + free_count after
    by_test true = omega arith
    by_test false = omega arith

-- how many are free where one changes
count_changed : (r : Row) (f : Row → Row) (rows : List Row) (b c : Bool) → StandsOnce r rows → not (is_lent r) ≡ b → not (is_lent (f r)) ≡ c → free_count (map (changes_at r.place f) rows) + cond b 1 0 ≡ free_count rows + cond c 1 0
count_changed r f rows b c once old new =
    let was : free_count rows ≡ free_count once.before + (cond b 1 0 + free_count once.after) = ap free_count once.whole ∙ count_at once.before once.after r ∙ ap (λ t. free_count once.before + (cond t 1 0 + free_count once.after)) old in
    let is : free_count (map (changes_at r.place f) rows) ≡ free_count once.before + (cond c 1 0 + free_count once.after) = ap free_count (once.change f) ∙ count_at once.before once.after (f r) ∙ ap (λ t. free_count once.before + (cond t 1 0 + free_count once.after)) new in
    omega (arith, was, is)

-- the first free element is free
first_passes : (rows : List Row) (r : Row) → first_free rows ≡ Some r → not (is_lent r) ≡ true
first_passes [] r e = absurd (let n : None ≡ Some r = e in cc)
first_passes (q ∷ rows) r e = by_test (not (is_lent q)) refl e (first_passes rows r)
  where
    by_test : (b : Bool) → not (is_lent q) ≡ b → cond b (Some q) (first_free rows) ≡ Some r → (first_free rows ≡ Some r → not (is_lent r) ≡ true) → not (is_lent r) ≡ true
    by_test true at is rest = let same : q ≡ r = cc in ap (λ y. not (is_lent y)) (sym same) ∙ at
    by_test false at is rest = rest is

-- one less is free where the first free one is lent
pub one_less : (v : Rows) (r : Row) (s : ℕ) → IsLedger v → first_free v.rows ≡ Some r → free_count (map (changes_at r.place (lends s)) v.rows) + 1 ≡ free_count v.rows
one_less v r s ledger has =
    let e = count_changed r (lends s) v.rows true false (stands_once (λ x. not (is_lent x)) v.rows r (are_apart v ledger) has) (first_passes v.rows r has) refl in
    omega (arith, e)

-- and one more where an element is given back
pub one_more : (v : Rows) (e : Element) (l : Lending) → IsLedger v → lending_of e v.rows ≡ Some l → free_count (map (changes_at (place_of e) freed) v.rows) ≡ free_count v.rows + 1
one_more v e l ledger has =
    let here = has_lending v e l ledger has in
    let lent : not (is_lent here.row) ≡ false = ap (λ (o : Option Lending). not (lent_by o)) here.lending in
    let more : free_count (map (changes_at here.row.place freed) v.rows) + 0 ≡ free_count v.rows + 1 = count_changed here.row freed v.rows false true here.once lent refl in
    ap (λ p. free_count (map (changes_at p freed) v.rows)) (sym here.place) ∙ omega (arith, more)
  where
    lent_by : Option Lending → Bool
    lent_by None = false
    lent_by (Some x) = true

-- a change of an element leaves its place
pub places_stay : (p : Place) (f : Row → Row) (rows : List Row) → ((r : Row) → (f r).place ≡ r.place) → map (λ r. r.place) (map (changes_at p f) rows) ≡ map (λ r. r.place) rows
places_stay p f [] keeps = refl
places_stay p f (r ∷ rows) keeps =
    ap (λ x. x ∷ map (λ q. q.place) (map (changes_at p f) rows)) (by_if (λ (x : Row). x.place ≡ r.place) (same_place p r.place) (f r) r (λ _. keeps r) (λ _. refl))
    ∙ ap (λ xs. r.place ∷ xs) (places_stay p f rows keeps)

-- and how often each was lent, up to one
pub epochs_stay : (p : Place) (f : Row → Row) (rows : List Row) (n m : ℕ) → n ≤ m → ((r : Row) → r.epoch ≤ n → (f r).epoch ≤ m) → All (λ r. r.epoch ≤ n) rows → All (λ r. r.epoch ≤ m) (map (changes_at p f) rows)
epochs_stay p f rows n m more keeps all k d below =
    let within : k < length rows = omega (arith, below, length-map rows (changes_at p f)) in
    let old : (slice_index_or rows k d).epoch ≤ n = all k d within in
    subst (λ (r : Row). r.epoch ≤ m) (sym (get_or-map (changes_at p f) rows k d d within))
    (by_if (λ (x : Row). x.epoch ≤ m) (same_place p (slice_index_or rows k d).place) (f (slice_index_or rows k d)) (slice_index_or rows k d) (λ _. keeps (slice_index_or rows k d) old) (λ _. omega (arith, old, more)))

-- a place among so many
abbrev IsAmong : ℕ → Place → Type 0
IsAmong n p = (1 ≤ p.index) × (p.index ≤ n)

among : (n a k : ℕ) → 1 ≤ a → a + k ≤ n + 1 → AllByRecursion (IsAmong n) (map (λ i. let p : Place = record { rmb = 1; index = i } in p) (range_with_len a k) ++ [])
among n a zero low high = tt
among n a (suc k) low high = ((low, omega (arith, high)), among n (a + 1) k (omega arith) (omega (arith, high)))

all_at : (P : Place → Type 0) (rows : List Row) → AllByRecursion P (map (λ r. r.place) rows) → AllByRecursion (λ r. P r.place) rows
all_at P [] all = tt
all_at P (r ∷ rows) all = (all.0, all_at P rows all.1)

-- the first free element of a side with one RMB is one of its elements
pub first_among : (n : ℕ) (rows : List Row) (r : Row) → map (λ q. q.place) rows ≡ all_places 1 n → first_free rows ≡ Some r → (1 ≤ r.place.index) × (r.place.index ≤ n)
first_among n rows r places has = free_one (λ q. IsAmong n q.place) rows r (all_at (IsAmong n) rows (subst (AllByRecursion (IsAmong n)) (sym places) (among n 1 n (omega arith) (omega arith)))) has
