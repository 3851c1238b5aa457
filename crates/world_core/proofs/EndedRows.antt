-- A lending ends: the row of its element is free again and no other changes, and one element more is free.
use Rattle.std.proofs.Common.{◌≡◌, ◌∙◌, ℕ, ◌+◌, ◌<◌, ◌≤◌, ◌==◌, ◌&&◌, ◌||◌, not, Bool, true, false, cond, if◌then◌else◌, List, [], ◌∷◌, length, map, filter, refl, ap, sym, suc, zero, arith, true≢false, eqb-true, ne_eqb}
use Rattle.std.proofs.lemmas.Bool.{eqb-false}
use Rattle.std.specs.Prelude.{Option, Some, None, option_map}
use Rattle.std.specs.List.{list_any, range_with_len}
use Rattle.std.proofs.lemmas.List.{append-nil}
use Rattle.smc_num.specs.Places.{Place, same_place, all_places, is_free}
use Rattle.element_ledger.specs.Lendings.{Row, fresh, changes_at, freed}
use Rattle.pipe_model.specs.Lending.{Lending, lent_places}
use Rattle.world_core.specs.Lent.{EachLending, HavePlaces}
use Rattle.world_core.specs.Managers.{row_of, lent_to, lending_at, lending_on, epoch_in}
use Rattle.world_core.proofs.StartedRows.{same-place-sym, same-place-self}

-- the lendings but that of a socket
abbrev pub others_of : ℕ → List Lending → List Lending
others_of s ls = filter (λ k. not ((k.s == s) && true)) ls

-- that each lending of a socket is of this place
abbrev pub AreOf : ℕ → Place → List Lending → Type 0
AreOf s p ls = EachLending (λ k. (k.s == s) ≡ true → k.place ≡ p) ls

place-same : (p q : Place) → same_place p q ≡ true → p ≡ q
place-same p q e =
    let both = parts (p.rmb == q.rmb) (p.index == q.index) e in
    ap (λ n. let r : Place = record { rmb = n; index = p.index } in r) (eqb-true p.rmb q.rmb both.0) ∙ ap (λ n. let r : Place = record { rmb = q.rmb; index = n } in r) (eqb-true p.index q.index both.1)
  where
    parts : (a b : Bool) → (a && b) ≡ true → (a ≡ true) × (b ≡ true)
    parts true b e = (refl, e)
    parts false b e = absurd (true≢false (sym e))

-- nothing is lent to the socket then, and to another what was
pub none-left : (s : ℕ) (ls : List Lending) → lending_on s (others_of s ls) ≡ None
none-left s [] = refl
none-left s (k ∷ ks) = by (k.s == s) refl (none-left s ks)
  where
    by : (b : Bool) → (k.s == s) ≡ b → lending_on s (others_of s ks) ≡ None → lending_on s (cond (not (b && true)) (k ∷ others_of s ks) (others_of s ks)) ≡ None
    by true e rest = rest
    by false e rest = ap (λ b. cond b (Some k) (lending_on s (others_of s ks))) e ∙ rest

pub others-left : (s t : ℕ) (ls : List Lending) → (t == s) ≡ false → lending_on t (others_of s ls) ≡ lending_on t ls
others-left s t [] d = refl
others-left s t (k ∷ ks) d = by (k.s == s) refl (others-left s t ks d)
  where
    by : (b : Bool) → (k.s == s) ≡ b → lending_on t (others_of s ks) ≡ lending_on t ks → lending_on t (cond (not (b && true)) (k ∷ others_of s ks) (others_of s ks)) ≡ cond (k.s == t) (Some k) (lending_on t ks)
    by true e rest =
        let apart : (k.s == t) ≡ false = ne_eqb k.s t (λ h. true≢false (sym (ap (λ n. n == s) (sym h) ∙ e) ∙ d)) in
        rest ∙ sym (ap (λ b. cond b (Some k) (lending_on t ks)) apart)
    by false e rest = ap (λ (q : Option Lending). cond (k.s == t) (Some k) q) rest

-- at another place what was
place-else : (s : ℕ) (p q : Place) (ls : List Lending) → AreOf s p ls → same_place q p ≡ false → lending_at q (others_of s ls) ≡ lending_at q ls
place-else s p q [] a d = refl
place-else s p q (k ∷ ks) a d = by (k.s == s) refl (place-else s p q ks a.1 d)
  where
    by : (b : Bool) → (k.s == s) ≡ b → lending_at q (others_of s ks) ≡ lending_at q ks → lending_at q (cond (not (b && true)) (k ∷ others_of s ks) (others_of s ks)) ≡ cond (same_place q k.place) (Some k) (lending_at q ks)
    by true e rest = rest ∙ sym (ap (λ b. cond b (Some k) (lending_at q ks)) (ap (λ r. same_place q r) (a.0 e) ∙ d))
    by false e rest = ap (λ (o : Option Lending). cond (same_place q k.place) (Some k) o) rest

-- at its own place nothing
no-place : (s : ℕ) (q : Place) (ls : List Lending) → EachLending (λ m. same_place q m.place ≡ false) ls → lending_at q (others_of s ls) ≡ None
no-place s q [] a = refl
no-place s q (k ∷ ks) a = by (not ((k.s == s) && true)) (no-place s q ks a.1)
  where
    by : (b : Bool) → lending_at q (others_of s ks) ≡ None → lending_at q (cond b (k ∷ others_of s ks) (others_of s ks)) ≡ None
    by true rest = ap (λ b. cond b (Some k) (lending_at q (others_of s ks))) a.0 ∙ rest
    by false rest = rest

found-apart : (s : ℕ) (k : Lending) (ks : List Lending) (m : Lending) → EachLending (λ m. same_place k.place m.place ≡ false) ks → lending_on s ks ≡ Some m → same_place k.place m.place ≡ false
found-apart s k [] m a e = cc
found-apart s k (l ∷ ls) m a e = by (l.s == s) e (λ r. found-apart s k ls m a.1 r)
  where
    some-is : (a b : Lending) → Some a ≡ Some b → a ≡ b
    some-is a b e = cc

    by : (b : Bool) → cond b (Some l) (lending_on s ls) ≡ Some m → (lending_on s ls ≡ Some m → same_place k.place m.place ≡ false) → same_place k.place m.place ≡ false
    by true e rest = ap (λ (n : Lending). same_place k.place n.place) (sym (some-is l m e)) ∙ a.0
    by false e rest = rest e

place-none : (s : ℕ) (l : Lending) (ls : List Lending) → HavePlaces ls → lending_on s ls ≡ Some l → lending_at l.place (others_of s ls) ≡ None
place-none s l [] h e = refl
place-none s l (k ∷ ks) h e = by (k.s == s) e (λ r. place-none s l ks h.1 r)
  where
    some-is : (a b : Lending) → Some a ≡ Some b → a ≡ b
    some-is a b e = cc

    by : (b : Bool) → cond b (Some k) (lending_on s ks) ≡ Some l → (lending_on s ks ≡ Some l → lending_at l.place (others_of s ks) ≡ None) → lending_at l.place (cond (not (b && true)) (k ∷ others_of s ks) (others_of s ks)) ≡ None
    by true e rest = ap (λ (n : Lending). lending_at n.place (others_of s ks)) (sym (some-is k l e)) ∙ no-place s k.place ks h.0
    by false e rest =
        let apart : same_place l.place k.place ≡ false = same-place-sym l.place k.place ∙ found-apart s k ks l h.0 e in
        ap (λ b. cond b (Some k) (lending_at l.place (others_of s ks))) apart ∙ rest e

-- whether nothing was found
abbrev is_none_at : Option Lending → Bool
is_none_at None = true
is_none_at (Some l) = false

-- the rows
module _ (s : ℕ) (l : Lending) (all ls : List Lending) (places : HavePlaces ls) (found : lending_on s ls ≡ Some l) (of : AreOf s l.place ls) where
  row-place : (q : Place) (o : Option ℕ) (n : ℕ) → (lent_to o (record (fresh q) { epoch = n })).place ≡ q
  row-place q None n = refl
  row-place q (Some s) n = refl

  frees : (q : Place) (o : Option ℕ) (n : ℕ) → freed (lent_to o (record (fresh q) { epoch = n })) ≡ record (fresh q) { epoch = n }
  frees q None n = refl
  frees q (Some s) n = refl

  row-frees : (q : Place) → row_of all (others_of s ls) q ≡ changes_at l.place freed (row_of all ls q)
  row-frees q = by (same_place q l.place) refl
    where
      tested : (b : Bool) → same_place q l.place ≡ b → same_place l.place (row_of all ls q).place ≡ b
      tested b e = ap (λ p. same_place l.place p) (row-place q (option_map (λ (l : Lending). l.s) (lending_at q ls)) (epoch_in q all)) ∙ (same-place-sym l.place q ∙ e)

      by : (b : Bool) → same_place q l.place ≡ b → row_of all (others_of s ls) q ≡ changes_at l.place freed (row_of all ls q)
      by true e =
          ap (λ o. lent_to (option_map (λ (l : Lending). l.s) o) (record (fresh q) { epoch = epoch_in q all })) (ap (λ r. lending_at r (others_of s ls)) (place-same q l.place e) ∙ place-none s l ls places found)
          ∙ (sym (frees q (option_map (λ (l : Lending). l.s) (lending_at q ls)) (epoch_in q all))
          ∙ ap (λ b. if b then freed (row_of all ls q) else row_of all ls q) (sym (tested true e)))
      by false e =
          ap (λ o. lent_to (option_map (λ (l : Lending). l.s) o) (record (fresh q) { epoch = epoch_in q all })) (place-else s l.place q ls of e)
          ∙ ap (λ b. if b then freed (row_of all ls q) else row_of all ls q) (sym (tested false e))

  pub rows-free : (ps : List Place) → map (row_of all (others_of s ls)) ps ≡ map (changes_at l.place freed) (map (row_of all ls) ps)
  rows-free [] = refl
  rows-free (p ∷ ps) = ap (λ r. r ∷ map (row_of all (others_of s ls)) ps) (row-frees p) ∙ ap (λ (rs : List Row). changes_at l.place freed (row_of all ls p) ∷ rs) (rows-free ps)

  -- which places are free
  free-found : (q : Place) (ks : List Lending) → is_free (lent_places ks) q ≡ is_none_at (lending_at q ks)
  free-found q [] = refl
  free-found q (k ∷ ks) = by (same_place q k.place) (free-found q ks)
    where
      by : (b : Bool) → is_free (lent_places ks) q ≡ is_none_at (lending_at q ks) → not (b || list_any (same_place q) (lent_places ks)) ≡ is_none_at (cond b (Some k) (lending_at q ks))
      by true e = refl
      by false e = e

  free-here : (q : Place) → same_place q l.place ≡ true → is_free (lent_places (others_of s ls)) q ≡ true
  free-here q e = free-found q (others_of s ls) ∙ ap (λ o. is_none_at o) (ap (λ r. lending_at r (others_of s ls)) (place-same q l.place e) ∙ place-none s l ls places found)

  free-else : (q : Place) → same_place q l.place ≡ false → is_free (lent_places (others_of s ls)) q ≡ is_free (lent_places ls) q
  free-else q e = free-found q (others_of s ls) ∙ (ap (λ o. is_none_at o) (place-else s l.place q ls of e) ∙ sym (free-found q ls))

  taken-here : (q : Place) → same_place q l.place ≡ true → is_free (lent_places ls) q ≡ false
  taken-here q e = free-found q ls ∙ ap (λ o. is_none_at o) (ap (λ r. lending_at r ls) (place-same q l.place e)) ∙ at-own ls found
    where
      at-own : (ks : List Lending) → lending_on s ks ≡ Some l → is_none_at (lending_at l.place ks) ≡ false
      at-own [] e = cc
      at-own (k ∷ ks) e = by (k.s == s) (same_place l.place k.place) refl e (λ r. at-own ks r)
        where
          some-is : (a b : Lending) → Some a ≡ Some b → a ≡ b
          some-is a b e = cc

          by : (b c : Bool) → same_place l.place k.place ≡ c → cond b (Some k) (lending_on s ks) ≡ Some l → (lending_on s ks ≡ Some l → is_none_at (lending_at l.place ks) ≡ false) → is_none_at (cond c (Some k) (lending_at l.place ks)) ≡ false
          by b true c e rest = refl
          by true false c e rest = absurd (true≢false (sym (ap (λ (n : Lending). same_place l.place n.place) (some-is k l e) ∙ same-place-self l.place) ∙ c))
          by false false c e rest = rest e

  abbrev elements-from : ℕ → ℕ → List Place
  elements-from from n = map (λ i. let place : Place = record { rmb = 1; index = i } in place) (range_with_len from n)

  higher : (from n : ℕ) → l.place.index < from → length (filter (is_free (lent_places (others_of s ls))) (elements-from from n)) ≡ length (filter (is_free (lent_places ls)) (elements-from from n))
  higher from zero h = refl
  higher from (suc n) h =
      let q : Place = record { rmb = 1; index = from } in
      let apart : same_place q l.place ≡ false = ap (λ b. (1 == l.place.rmb) && b) (ne_eqb from l.place.index (λ e. omega (arith, e, h))) ∙ and-false (1 == l.place.rmb) in
      by (is_free (lent_places (others_of s ls)) q) (is_free (lent_places ls) q) (free-else q apart) (higher (from + 1) n (omega (arith, h)))
    where
      and-false : (b : Bool) → (b && false) ≡ false
      and-false true = refl
      and-false false = refl

      by : (b c : Bool) → b ≡ c → length (filter (is_free (lent_places (others_of s ls))) (elements-from (from + 1) n)) ≡ length (filter (is_free (lent_places ls)) (elements-from (from + 1) n))
          → length (cond b (record { rmb = 1; index = from } ∷ filter (is_free (lent_places (others_of s ls))) (elements-from (from + 1) n)) (filter (is_free (lent_places (others_of s ls))) (elements-from (from + 1) n)))
          ≡ length (cond c (record { rmb = 1; index = from } ∷ filter (is_free (lent_places ls)) (elements-from (from + 1) n)) (filter (is_free (lent_places ls)) (elements-from (from + 1) n)))
      by true true e r = ap suc r
      by false false e r = r
      by true false e r = cc
      by false true e r = cc

  one-more : (from n : ℕ) → l.place.rmb ≡ 1 → from ≤ l.place.index → l.place.index < from + n
      → length (filter (is_free (lent_places (others_of s ls))) (elements-from from n)) ≡ length (filter (is_free (lent_places ls)) (elements-from from n)) + 1
  one-more from zero rmb low high = absurd (omega (arith, low, high))
  one-more from (suc n) rmb low high = by_test (same_place (record { rmb = 1; index = from }) l.place) refl (λ low2. one-more (from + 1) n rmb low2 (omega (arith, high)))
    where
      more : (k : ℕ) → suc k ≡ k + 1
      more k = omega arith

      pair : (b c : Bool) → b ≡ c → length (filter (is_free (lent_places (others_of s ls))) (elements-from (from + 1) n)) ≡ length (filter (is_free (lent_places ls)) (elements-from (from + 1) n)) + 1
          → length (cond b (record { rmb = 1; index = from } ∷ filter (is_free (lent_places (others_of s ls))) (elements-from (from + 1) n)) (filter (is_free (lent_places (others_of s ls))) (elements-from (from + 1) n)))
          ≡ length (cond c (record { rmb = 1; index = from } ∷ filter (is_free (lent_places ls)) (elements-from (from + 1) n)) (filter (is_free (lent_places ls)) (elements-from (from + 1) n))) + 1
      pair true true e r = omega (arith, r)
      pair false false e r = r
      pair true false e r = cc
      pair false true e r = cc

      alone : (b c : Bool) → b ≡ true → c ≡ false → length (filter (is_free (lent_places (others_of s ls))) (elements-from (from + 1) n)) ≡ length (filter (is_free (lent_places ls)) (elements-from (from + 1) n))
          → length (cond b (record { rmb = 1; index = from } ∷ filter (is_free (lent_places (others_of s ls))) (elements-from (from + 1) n)) (filter (is_free (lent_places (others_of s ls))) (elements-from (from + 1) n)))
          ≡ length (cond c (record { rmb = 1; index = from } ∷ filter (is_free (lent_places ls)) (elements-from (from + 1) n)) (filter (is_free (lent_places ls)) (elements-from (from + 1) n))) + 1
      alone true false e f r = more (length (filter (is_free (lent_places (others_of s ls))) (elements-from (from + 1) n))) ∙ ap (λ k. k + 1) r
      alone true true e f r = cc
      alone false c e f r = cc

      by_test : (b : Bool) → same_place (record { rmb = 1; index = from }) l.place ≡ b
          → (from + 1 ≤ l.place.index → length (filter (is_free (lent_places (others_of s ls))) (elements-from (from + 1) n)) ≡ length (filter (is_free (lent_places ls)) (elements-from (from + 1) n)) + 1)
          → length (filter (is_free (lent_places (others_of s ls))) (elements-from from (suc n))) ≡ length (filter (is_free (lent_places ls)) (elements-from from (suc n))) + 1
      by_test true e rest =
          let same : from ≡ l.place.index = ap (λ (r : Place). r.index) (place-same (record { rmb = 1; index = from }) l.place e) in
          alone (is_free (lent_places (others_of s ls)) (record { rmb = 1; index = from })) (is_free (lent_places ls) (record { rmb = 1; index = from })) (free-here (record { rmb = 1; index = from }) e) (taken-here (record { rmb = 1; index = from }) e)
          (higher (from + 1) n (omega (arith, same)))
      by_test false e rest =
          let apart : from ≡ l.place.index → ⊥ = λ h. true≢false (sym (ap (λ (r : Place). same_place r l.place) (ap (λ n. let r : Place = record { rmb = n; index = from } in r) (sym rmb) ∙ ap (λ n. let r : Place = record { rmb = l.place.rmb; index = n } in r) h) ∙ same-place-self l.place) ∙ e) in
          pair (is_free (lent_places (others_of s ls)) (record { rmb = 1; index = from })) (is_free (lent_places ls) (record { rmb = 1; index = from })) (free-else (record { rmb = 1; index = from }) e) (rest (not-same from l.place.index low apart))
        where
          not-same : (a b : ℕ) → a ≤ b → (a ≡ b → ⊥) → a + 1 ≤ b
          not-same a b le n = by (a == b) refl
            where
              by : (c : Bool) → (a == b) ≡ c → a + 1 ≤ b
              by true e = absurd (n (eqb-true a b e))
              by false e = omega (arith, le, eqb-false a b e)

  pub spare-more : (elements : ℕ) → l.place.rmb ≡ 1 → 1 ≤ l.place.index → l.place.index ≤ elements
      → length (filter (is_free (lent_places (others_of s ls))) (all_places 1 elements)) ≡ length (filter (is_free (lent_places ls)) (all_places 1 elements)) + 1
  spare-more elements rmb low high =
      ap (λ (ps : List Place). length (filter (is_free (lent_places (others_of s ls))) ps)) (append-nil (elements-from 1 elements))
      ∙ (one-more 1 elements rmb low (omega (arith, high))
      ∙ ap (λ (ps : List Place). length (filter (is_free (lent_places ls)) ps) + 1) (sym (append-nil (elements-from 1 elements))))
