-- A change of an element's lending leaves every element in its place, and the elements of a new ledger are those of the side.
use Rattle.std.proofs.Common.{◌≡◌, ◌∙◌, ℕ, zero, suc, ◌+◌, ◌==◌, ◌&&◌, Bool, true, false, not, cond, List, [], ◌∷◌, ◌++◌, map, Some, None, refl, sym, ap, subst, arith, append_assoc}
use Rattle.std.specs.Prelude.{flat_map, find, if◌then◌else◌, option_and_then}
use Rattle.std.specs.List.{range_with_len, AllByRecursion}
use Rattle.std.proofs.lemmas.List.FromFn.{map-range_with_len_more}
use Rattle.smc_num.specs.Places.{Place, same_place, places_in, all_places}
use Rattle.std.proofs.lemmas.Bool.{eq-eqb}
use Rattle.element_ledger.specs.declared.Element.{Element}
use Rattle.element_ledger.specs.declared.rows.Change.{Change}
use Rattle.element_ledger.specs.Lendings.{Row, fresh, first_free, is_lent, changes_at, changed, changed_lending, lends, freed, is_now, lending_of, next_lending, place_of}

-- the place of an element
abbrev place : Row → Place
place r = r.place

-- what leaves each element in its place leaves all
places_kept : (f : Row → Row) (rows : List Row) → ((r : Row) → (f r).place ≡ r.place) → map (λ r. r.place) (map f rows) ≡ map (λ r. r.place) rows
places_kept f [] keeps = refl
places_kept f (r ∷ rows) keeps = ap (λ p. p ∷ map (λ q. q.place) (map f rows)) (keeps r) ∙ ap (λ ps. r.place ∷ ps) (places_kept f rows keeps)

changes_keep : (p : Place) (f : Row → Row) → ((r : Row) → (f r).place ≡ r.place) → (r : Row) → (changes_at p f r).place ≡ r.place
changes_keep p f keeps r = by_test (same_place p r.place)
  where
    by_test : (b : Bool) → (if b then f r else r).place ≡ r.place
    by_test true = keeps r
    by_test false = refl

pub changed_places : (p : Place) (change : Change) (rows : List Row) → map (λ r. r.place) (map (changes_at p (changed change)) rows) ≡ map (λ r. r.place) rows
changed_places p change rows = places_kept (changes_at p (changed change)) rows (changes_keep p (changed change) (λ r. refl))

pub lent_places_kept : (p : Place) (conn : ℕ) (rows : List Row) → map (λ r. r.place) (map (changes_at p (lends conn)) rows) ≡ map (λ r. r.place) rows
lent_places_kept p conn rows = places_kept (changes_at p (lends conn)) rows (changes_keep p (lends conn) (λ r. refl))

pub freed_places : (rows : List Row) → map (λ r. r.place) (map freed rows) ≡ map (λ r. r.place) rows
freed_places rows = places_kept freed rows (λ r. refl)

pub fresh_places : (ps : List Place) → map (λ r. r.place) (map fresh ps) ≡ ps
fresh_places [] = refl
fresh_places (p ∷ ps) = ap (λ qs. p ∷ qs) (fresh_places ps)

-- one element more of an RMB
pub places_in-more : (n rmb : ℕ) → places_in (n + 1) rmb ≡ places_in n rmb ++ record { rmb = rmb; index = n + 1 } ∷ []
places_in-more n rmb = map-range_with_len_more (λ i. let p : Place = record { rmb = rmb; index = i } in p) 1 n (n + 1) (omega arith)

-- one RMB more
flat-more : (f : ℕ → List Place) (a n : ℕ) → flat_map f (range_with_len a (suc n)) ≡ flat_map f (range_with_len a n) ++ f (a + n)
flat-more f a zero = append_nil (f a) ∙ ap f (let e : a ≡ a + 0 = omega arith in e)
  where
    append_nil : (ps : List Place) → ps ++ [] ≡ ps
    append_nil [] = refl
    append_nil (p ∷ ps) = ap (λ qs. p ∷ qs) (append_nil ps)
flat-more f a (suc n) =
    ap (λ ps. f a ++ ps) (flat-more f (a + 1) n) ∙ (sym (append_assoc (f a) (flat_map f (range_with_len (a + 1) n)) (f (a + 1 + n)))
    ∙ ap (λ k. flat_map f (range_with_len a (suc n)) ++ f k) (let e : a + 1 + n ≡ a + suc n = omega arith in e))

pub all_places-more : (n elements : ℕ) → all_places (n + 1) elements ≡ all_places n elements ++ places_in elements (n + 1)
all_places-more n elements =
    ap (λ k. flat_map (places_in elements) (range_with_len 1 k)) (let e : n + 1 ≡ suc n = omega arith in e)
    ∙ (flat-more (places_in elements) 1 n ∙ ap (λ k. all_places n elements ++ places_in elements k) (let e : 1 + n ≡ n + 1 = omega arith in e))

pub map-append : (ps qs : List Place) → map fresh (ps ++ qs) ≡ map fresh ps ++ map fresh qs
map-append [] qs = refl
map-append (p ∷ ps) qs = ap (λ rs. fresh p ∷ rs) (map-append ps qs)

-- what holds of each element holds of the first free one
pub free_one : (P : Row → Type 0) (rows : List Row) (r : Row) → AllByRecursion P rows → first_free rows ≡ Some r → P r
free_one P [] r all has = absurd (let e : None ≡ Some r = has in let f : false ≡ true = cc in cc)
free_one P (q ∷ rows) r all has = by_test (not (is_lent q)) has (free_one P rows r all.1)
  where
    by_test : (b : Bool) → cond b (Some q) (first_free rows) ≡ Some r → (first_free rows ≡ Some r → P r) → P r
    by_test true e rest = let same : q ≡ r = cc in subst P same all.0
    by_test false e rest = rest e

same_refl : (p : Place) → same_place p p ≡ true
same_refl p = ap (λ b. b && (p.index == p.index)) (eq-eqb p.rmb p.rmb refl) ∙ eq-eqb p.index p.index refl

-- a change of a lending is a change of that lending
pub lending_of-changed : (e : Element) (change : Change) (rows : List Row)
    → lending_of e (map (changes_at (place_of e) (changed change)) rows) ≡ option_and_then (changed_lending change) (lending_of e rows)
lending_of-changed e change [] = refl
lending_of-changed e change (r ∷ rows) = by_place (same_place (place_of e) r.place) refl (lending_of-changed e change rows)
  where
    by_place : (b : Bool) → same_place (place_of e) r.place ≡ b
        → lending_of e (map (changes_at (place_of e) (changed change)) rows) ≡ option_and_then (changed_lending change) (lending_of e rows)
        → option_and_then (λ (q : Row). q.lending) (cond (same_place (place_of e) (if b then changed change r else r).place && ((if b then changed change r else r).epoch == e.epoch)) (Some (if b then changed change r else r)) (find (is_now e) (map (changes_at (place_of e) (changed change)) rows)))
        ≡ option_and_then (changed_lending change) (option_and_then (λ (q : Row). q.lending) (cond (b && (r.epoch == e.epoch)) (Some r) (find (is_now e) rows)))
    by_place true at rest = ap (λ t. option_and_then (λ (q : Row). q.lending) (cond (t && (r.epoch == e.epoch)) (Some (changed change r)) (find (is_now e) (map (changes_at (place_of e) (changed change)) rows)))) at ∙ by_epoch (r.epoch == e.epoch) rest
      where
        by_epoch : (c : Bool) → lending_of e (map (changes_at (place_of e) (changed change)) rows) ≡ option_and_then (changed_lending change) (lending_of e rows)
            → option_and_then (λ (q : Row). q.lending) (cond c (Some (changed change r)) (find (is_now e) (map (changes_at (place_of e) (changed change)) rows))) ≡ option_and_then (changed_lending change) (option_and_then (λ (q : Row). q.lending) (cond c (Some r) (find (is_now e) rows)))
        by_epoch true rest = refl
        by_epoch false rest = rest
    by_place false at rest = ap (λ t. option_and_then (λ (q : Row). q.lending) (cond (t && (r.epoch == e.epoch)) (Some r) (find (is_now e) (map (changes_at (place_of e) (changed change)) rows)))) at ∙ rest

-- an element that is lent is lent to that connection
pub lending_of-lends : (conn : ℕ) (rows : List Row) (r : Row) → first_free rows ≡ Some r
    → lending_of (next_lending r) (map (changes_at (place_of (next_lending r)) (lends conn)) rows) ≡ Some (record { conn = conn; own = false; peer = false })
lending_of-lends conn [] r has = absurd (let e : None ≡ Some r = has in let f : false ≡ true = cc in cc)
lending_of-lends conn (q ∷ rows) r has = by_place (same_place r.place q.place) refl (not (is_lent q)) has (lending_of-lends conn rows r)
  where
    by_place : (b : Bool) → same_place r.place q.place ≡ b → (c : Bool) → cond c (Some q) (first_free rows) ≡ Some r
        → (first_free rows ≡ Some r → lending_of (next_lending r) (map (changes_at r.place (lends conn)) rows) ≡ Some (record { conn = conn; own = false; peer = false }))
        → option_and_then (λ (p : Row). p.lending) (cond (same_place r.place (if b then lends conn q else q).place && ((if b then lends conn q else q).epoch == r.epoch + 1)) (Some (if b then lends conn q else q)) (find (is_now (next_lending r)) (map (changes_at r.place (lends conn)) rows)))
        ≡ Some (record { conn = conn; own = false; peer = false })
    by_place true at true e rest =
        let same : q ≡ r = cc in
        let epochs : (q.epoch + 1 == r.epoch + 1) ≡ true = eq-eqb (q.epoch + 1) (r.epoch + 1) (ap (λ (p : Row). p.epoch + 1) same) in
        ap (λ t. option_and_then (λ (p : Row). p.lending) (cond (t && (q.epoch + 1 == r.epoch + 1)) (Some (lends conn q)) (find (is_now (next_lending r)) (map (changes_at r.place (lends conn)) rows)))) at
        ∙ ap (λ t. option_and_then (λ (p : Row). p.lending) (cond t (Some (lends conn q)) (find (is_now (next_lending r)) (map (changes_at r.place (lends conn)) rows)))) epochs
    by_place true at false e rest =
        ap (λ t. option_and_then (λ (p : Row). p.lending) (cond (t && (q.epoch + 1 == r.epoch + 1)) (Some (lends conn q)) (find (is_now (next_lending r)) (map (changes_at r.place (lends conn)) rows)))) at
        ∙ by_epoch (q.epoch + 1 == r.epoch + 1) (rest e)
      where
        by_epoch : (c : Bool) → lending_of (next_lending r) (map (changes_at r.place (lends conn)) rows) ≡ Some (record { conn = conn; own = false; peer = false })
            → option_and_then (λ (p : Row). p.lending) (cond c (Some (lends conn q)) (find (is_now (next_lending r)) (map (changes_at r.place (lends conn)) rows))) ≡ Some (record { conn = conn; own = false; peer = false })
        by_epoch true rest = refl
        by_epoch false rest = rest
    by_place false at true e rest =
        let same : q ≡ r = cc in
        let wrong : false ≡ true = sym at ∙ (ap (λ (p : Row). same_place r.place p.place) same ∙ same_refl r.place) in cc
    by_place false at false e rest =
        ap (λ t. option_and_then (λ (p : Row). p.lending) (cond (t && (q.epoch == r.epoch + 1)) (Some q) (find (is_now (next_lending r)) (map (changes_at r.place (lends conn)) rows)))) at ∙ rest e
