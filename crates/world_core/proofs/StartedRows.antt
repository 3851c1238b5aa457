-- A lending of the lowest free element begins: its row changes and no other, one element less is free, and other lendings keep their epochs.
use Rattle.std.proofs.Common.{true≢false, ◌≡◌, ◌∙◌, ℕ, ◌+◌, ◌-◌, ◌<◌, ◌==◌, ◌&&◌, ◌||◌, not, Bool, true, false, cond, if◌then◌else◌, List, [], ◌∷◌, length, map, filter, refl, ap, sym, suc, zero, arith, eq-eqb, eqb-true, ne_eqb}
use Rattle.std.specs.Prelude.{Option, Some, None, option_map, unwrap_or}
use Rattle.std.specs.List.{list_any, range_with_len}
use Rattle.std.proofs.lemmas.List.{append-nil}
use Rattle.smc_num.specs.declared.Side.{Side}
use Rattle.smc_num.specs.Names.{head, no_link}
use Rattle.smc_num.specs.Places.{Place, same_place, all_places, is_free}
use Rattle.element_ledger.specs.Lendings.{Row, fresh, lends, changes_at, next_lending}
use Rattle.pipe_model.specs.declared.setup.Setup.{Setup}
use Rattle.pipe_model.specs.declared.entry.Entry.{Entry}
use Rattle.pipe_model.specs.Words.{rmbs_of, elements_of}
use Rattle.pipe_model.specs.Lending.{Lending, lendings, lent, lent_places, free_places}
use Rattle.side_core.specs.Desk.{next_element}
use Rattle.world_core.specs.Managers.{desk_of, row_of, lent_to, lending_at, lending_on, epoch_in, heard_on, end_of, conn_of}
use Rattle.world_core.proofs.LentRows.{free-is}
use Rattle.world_core.proofs.SameManagers.{SameRoute, routed-conn, conn_from, route_from}
use Rattle.pipe_model.specs.Connections.{named_link, is_up}
use Rattle.pipe_model.specs.Ends.{Half}
use Rattle.side_core.specs.Records.{Connection}

pub eqb-sym : (a b : ℕ) → (a == b) ≡ (b == a)
eqb-sym a b = by (a == b) refl
  where
    by : (c : Bool) → (a == b) ≡ c → c ≡ (b == a)
    by true e = sym (eq-eqb b a (sym (eqb-true a b e)))
    by false e = sym (ne_eqb b a (λ h. true≢false (sym (eq-eqb a b (sym h)) ∙ e)))

pub same-place-sym : (p q : Place) → same_place p q ≡ same_place q p
same-place-sym p q = ap (λ b. b && (p.index == q.index)) (eqb-sym p.rmb q.rmb) ∙ ap (λ b. (q.rmb == p.rmb) && b) (eqb-sym p.index q.index)

pub same-place-self : (p : Place) → same_place p p ≡ true
same-place-self p = ap (λ b. b && (p.index == p.index)) (eq-eqb p.rmb p.rmb refl) ∙ eq-eqb p.index p.index refl

-- one row
module _ (l : Lending) (all ls : List Lending) where
  epoch-more : (q : Place) (b : Bool) → same_place q l.place ≡ b → epoch_in q (l ∷ all) ≡ (if b then epoch_in q all + 1 else epoch_in q all)
  epoch-more q true e = ap (λ b. length (cond b (l ∷ filter (λ l. same_place q l.place) all) (filter (λ l. same_place q l.place) all))) e ∙ one-more (epoch_in q all)
    where
      one-more : (n : ℕ) → suc n ≡ n + 1
      one-more n = omega arith
  epoch-more q false e = ap (λ b. length (cond b (l ∷ filter (λ l. same_place q l.place) all) (filter (λ l. same_place q l.place) all))) e

  lent-over : (q : Place) (o : Option ℕ) (n : ℕ) → lends l.s (lent_to o (record (fresh q) { epoch = n })) ≡ lent_to (Some l.s) (record (fresh q) { epoch = n + 1 })
  lent-over q None n = refl
  lent-over q (Some s) n = refl

  row-place : (q : Place) (o : Option ℕ) (n : ℕ) → (lent_to o (record (fresh q) { epoch = n })).place ≡ q
  row-place q None n = refl
  row-place q (Some s) n = refl

  row-changes : (q : Place) → row_of (l ∷ all) (l ∷ ls) q ≡ changes_at l.place (lends l.s) (row_of all ls q)
  row-changes q = by (same_place q l.place) refl
    where
      found : Option ℕ
      found = option_map (λ (l : Lending). l.s) (lending_at q ls)

      tested : (b : Bool) → same_place q l.place ≡ b → same_place l.place (row_of all ls q).place ≡ b
      tested b e = ap (λ p. same_place l.place p) (row-place q (option_map (λ (l : Lending). l.s) (lending_at q ls)) (epoch_in q all)) ∙ (same-place-sym l.place q ∙ e)

      by : (b : Bool) → same_place q l.place ≡ b → row_of (l ∷ all) (l ∷ ls) q ≡ changes_at l.place (lends l.s) (row_of all ls q)
      by true e =
          ap (λ n. lent_to (option_map (λ (l : Lending). l.s) (cond (same_place q l.place) (Some l) (lending_at q ls))) (record (fresh q) { epoch = n })) (epoch-more q true e)
          ∙ (ap (λ b. lent_to (option_map (λ (l : Lending). l.s) (cond b (Some l) (lending_at q ls))) (record (fresh q) { epoch = epoch_in q all + 1 })) e
          ∙ (sym (lent-over q (option_map (λ (l : Lending). l.s) (lending_at q ls)) (epoch_in q all))
          ∙ ap (λ b. if b then lends l.s (row_of all ls q) else row_of all ls q) (sym (tested true e))))
      by false e =
          ap (λ n. lent_to (option_map (λ (l : Lending). l.s) (cond (same_place q l.place) (Some l) (lending_at q ls))) (record (fresh q) { epoch = n })) (epoch-more q false e)
          ∙ (ap (λ b. lent_to (option_map (λ (l : Lending). l.s) (cond b (Some l) (lending_at q ls))) (record (fresh q) { epoch = epoch_in q all })) e
          ∙ ap (λ b. if b then lends l.s (row_of all ls q) else row_of all ls q) (sym (tested false e)))

  pub rows-change : (ps : List Place) → map (row_of (l ∷ all) (l ∷ ls)) ps ≡ map (changes_at l.place (lends l.s)) (map (row_of all ls) ps)
  rows-change [] = refl
  rows-change (p ∷ ps) = ap (λ r. r ∷ map (row_of (l ∷ all) (l ∷ ls)) ps) (row-changes p) ∙ ap (λ (rs : List Row). changes_at l.place (lends l.s) (row_of all ls p) ∷ rs) (rows-change ps)

  -- that of the lending itself is one more
  pub epoch-here : epoch_in l.place (l ∷ all) ≡ epoch_in l.place all + 1
  epoch-here = epoch-more l.place true (same-place-self l.place)

  -- another lending keeps its epoch
  pub epoch-stays : (m : Lending) → same_place m.place l.place ≡ false → epoch_in m.place (l ∷ all) ≡ epoch_in m.place all
  epoch-stays m d = epoch-more m.place false d

-- a lending is not of a place that is free
pub not-of-free : (t : ℕ) (p : Place) (ls : List Lending) (m : Lending) → is_free (lent_places ls) p ≡ true → lending_on t ls ≡ Some m → same_place m.place p ≡ false
not-of-free t p [] m f e = cc
not-of-free t p (l ∷ ls) m f e = by (l.s == t) (same_place p l.place) (list_any (same_place p) (lent_places ls)) refl f e (λ r. not-of-free t p ls m r)
  where
    some-is : (a b : Lending) → Some a ≡ Some b → a ≡ b
    some-is a b e = cc

    by : (b c d : Bool) → same_place p l.place ≡ c → not (c || d) ≡ true → cond b (Some l) (lending_on t ls) ≡ Some m → (not d ≡ true → lending_on t ls ≡ Some m → same_place m.place p ≡ false) → same_place m.place p ≡ false
    by true false d c f e rest = same-place-sym m.place p ∙ (ap (λ (k : Lending). same_place p k.place) (sym (some-is l m e)) ∙ c)
    by true true d c f e rest = absurd (true≢false (sym f))
    by false false d c f e rest = rest f e
    by false true d c f e rest = absurd (true≢false (sym f))

-- one element less is free
abbrev elements-from : ℕ → ℕ → List Place
elements-from from n = map (λ i. let place : Place = record { rmb = 1; index = i } in place) (range_with_len from n)

module _ (p : Place) (ps : List Place) where
  higher-free : (from n : ℕ) → p.index < from → filter (is_free (p ∷ ps)) (elements-from from n) ≡ filter (is_free ps) (elements-from from n)
  higher-free from zero l = refl
  higher-free from (suc n) l =
      let q : Place = record { rmb = 1; index = from } in
      let apart : same_place q p ≡ false = ap (λ b. (1 == p.rmb) && b) (ne_eqb from p.index (λ h. omega (arith, h, l))) ∙ and-false (1 == p.rmb) in
      ap (λ b. cond (not (b || list_any (same_place q) ps)) (q ∷ filter (is_free (p ∷ ps)) (elements-from (from + 1) n)) (filter (is_free (p ∷ ps)) (elements-from (from + 1) n))) apart
      ∙ ap (λ (rs : List Place). cond (is_free ps q) (q ∷ rs) rs) (higher-free (from + 1) n (omega (arith, l)))
    where
      and-false : (b : Bool) → (b && false) ≡ false
      and-false true = refl
      and-false false = refl

  one-less : (from n : ℕ) → head (filter (is_free ps) (elements-from from n)) ≡ Some p → length (filter (is_free (p ∷ ps)) (elements-from from n)) + 1 ≡ length (filter (is_free ps) (elements-from from n))
  one-less from zero e = cc
  one-less from (suc n) e = by (list_any (same_place (record { rmb = 1; index = from })) ps) e (λ r. one-less (from + 1) n r)
    where
      some-is : (a b : Place) → Some a ≡ Some b → a ≡ b
      some-is a b e = cc

      taken : (c : Bool) → c ≡ true → (d : Bool) → length (cond (not (c || d)) (record { rmb = 1; index = from } ∷ filter (is_free (p ∷ ps)) (elements-from (from + 1) n)) (filter (is_free (p ∷ ps)) (elements-from (from + 1) n))) ≡ length (filter (is_free (p ∷ ps)) (elements-from (from + 1) n))
      taken true e d = refl
      taken false e d = cc

      by : (d : Bool) → head (cond (not d) (record { rmb = 1; index = from } ∷ filter (is_free ps) (elements-from (from + 1) n)) (filter (is_free ps) (elements-from (from + 1) n))) ≡ Some p
          → (head (filter (is_free ps) (elements-from (from + 1) n)) ≡ Some p → length (filter (is_free (p ∷ ps)) (elements-from (from + 1) n)) + 1 ≡ length (filter (is_free ps) (elements-from (from + 1) n)))
          → length (cond (not (same_place (record { rmb = 1; index = from }) p || d)) (record { rmb = 1; index = from } ∷ filter (is_free (p ∷ ps)) (elements-from (from + 1) n)) (filter (is_free (p ∷ ps)) (elements-from (from + 1) n))) + 1
          ≡ length (cond (not d) (record { rmb = 1; index = from } ∷ filter (is_free ps) (elements-from (from + 1) n)) (filter (is_free ps) (elements-from (from + 1) n)))
      by true e rest = ap (λ b. length (cond (not b) (record { rmb = 1; index = from } ∷ filter (is_free (p ∷ ps)) (elements-from (from + 1) n)) (filter (is_free (p ∷ ps)) (elements-from (from + 1) n))) + 1) (or-true (same_place (record { rmb = 1; index = from }) p)) ∙ rest e
        where
          or-true : (b : Bool) → (b || true) ≡ true
          or-true true = refl
          or-true false = refl
      by false e rest =
          let q : Place = record { rmb = 1; index = from } in
          let same : q ≡ p = some-is q p e in
          let index : from ≡ p.index = ap (λ (r : Place). r.index) same in
          ap (λ n. n + 1) (taken (same_place q p) (ap (λ r. same_place q r) (sym same) ∙ same-place-self q) false)
          ∙ (ap (λ (rs : List Place). length rs + 1) (higher-free (from + 1) n (omega (arith, index)))
          ∙ plus (length (filter (is_free ps) (elements-from (from + 1) n))))
        where
          plus : (k : ℕ) → k + 1 ≡ suc k
          plus k = omega arith

-- of a side with one RMB
module _ (setup : Setup) (payload : List ℕ) (x : Side) (past : List Entry) (one : rmbs_of setup x ≡ 1) (p : Place) (free : head (free_places setup payload x past) ≡ Some p) where
  all-are : (taken : List Place) → filter (is_free taken) (all_places (rmbs_of setup x) (elements_of setup x)) ≡ filter (is_free taken) (elements-from 1 (elements_of setup x))
  all-are taken = ap (λ n. filter (is_free taken) (all_places n (elements_of setup x))) one ∙ ap (λ (ps : List Place). filter (is_free taken) ps) (append-nil (elements-from 1 (elements_of setup x)))

  pub spare-less : length (filter (is_free (p ∷ lent_places (lent setup payload x past))) (all_places (rmbs_of setup x) (elements_of setup x))) ≡ length (free_places setup payload x past) - 1
  spare-less =
      let r = one-less p (lent_places (lent setup payload x past)) 1 (elements_of setup x) (ap (λ (ps : List Place). head ps) (sym (all-are (lent_places (lent setup payload x past)))) ∙ free) in
      let a = ap (λ (ps : List Place). length ps) (all-are (p ∷ lent_places (lent setup payload x past))) in
      let b = ap (λ (ps : List Place). length ps) (all-are (lent_places (lent setup payload x past))) in
      omega (arith, r, a, b)

  -- that place is free
  pub free-of : is_free (lent_places (lent setup payload x past)) p ≡ true
  free-of = by (all_places (rmbs_of setup x) (elements_of setup x)) free
    where
      some-is : (a b : Place) → Some a ≡ Some b → a ≡ b
      some-is a b e = cc

      one-free : (qs : List Place) (q : Place) (b : Bool) → is_free (lent_places (lent setup payload x past)) q ≡ b → head (cond b (q ∷ filter (is_free (lent_places (lent setup payload x past))) qs) (filter (is_free (lent_places (lent setup payload x past))) qs)) ≡ Some p
          → (head (filter (is_free (lent_places (lent setup payload x past))) qs) ≡ Some p → is_free (lent_places (lent setup payload x past)) p ≡ true) → is_free (lent_places (lent setup payload x past)) p ≡ true
      one-free qs q true f e rest = ap (λ r. is_free (lent_places (lent setup payload x past)) r) (sym (some-is q p e)) ∙ f
      one-free qs q false f e rest = rest e

      by : (qs : List Place) → head (filter (is_free (lent_places (lent setup payload x past))) qs) ≡ Some p → is_free (lent_places (lent setup payload x past)) p ≡ true
      by [] e = cc
      by (q ∷ qs) e = one-free qs q (is_free (lent_places (lent setup payload x past)) q) refl e (λ r. by qs r)

  -- the element that is lent next
  pub next-is : next_element (desk_of setup payload x past) ≡ record { rmb = p.rmb; index = p.index; epoch = epoch_in p (lendings x past) + 1 }
  next-is =
      ap (λ o. unwrap_or (option_map next_lending o) (record { rmb = 0; index = 0; epoch = 0 })) (free-is setup payload x past ∙ ap (λ o. option_map (row_of (lendings x past) (lent setup payload x past)) o) free)
      ∙ by (option_map (λ (l : Lending). l.s) (lending_at p (lent setup payload x past)))
    where
      by : (o : Option ℕ) → next_lending (lent_to o (record (fresh p) { epoch = epoch_in p (lendings x past) })) ≡ record { rmb = p.rmb; index = p.index; epoch = epoch_in p (lendings x past) + 1 }
      by None = refl
      by (Some s) = refl

-- a connection beside that of the lending
module _ (setup : Setup) (payload : List ℕ) (x : Side) (e : Entry) (past : List Entry) (l : Lending) (one : rmbs_of setup x ≡ 1) (free : head (free_places setup payload x past) ≡ Some l.place) (all : lendings x (e ∷ past) ≡ l ∷ lendings x past) where
  pub conn-beside : (t : ℕ) → SameRoute x (e ∷ past) past t → end_of setup payload x t (e ∷ past) ≡ end_of setup payload x t past → lending_on t (lent setup payload x (e ∷ past)) ≡ lending_on t (lent setup payload x past)
      → conn_of setup payload x (e ∷ past) t ≡ conn_of setup payload x past t
  conn-beside t same end lending =
      routed-conn setup payload x (e ∷ past) past t same
      ∙ (ap (λ (ls : List Lending). conn_from t (named_link t past) (is_up x t past) ls (heard_on x t past) (end_of setup payload x t (e ∷ past)) (lent setup payload x (e ∷ past))) all
      ∙ (ap (λ h. conn_from t (named_link t past) (is_up x t past) (l ∷ lendings x past) (heard_on x t past) h (lent setup payload x (e ∷ past))) end
      ∙ (ap (λ q. option_map (λ k. let c : Connection Half = record { route = route_from (named_link t past) (is_up x t past) (l ∷ lendings x past) (heard_on x t past) k; end = end_of setup payload x t past } in c) q) lending
      ∙ by (lending_on t (lent setup payload x past)) refl)))
    where
      by : (q : Option Lending) → lending_on t (lent setup payload x past) ≡ q
          → option_map (λ k. let c : Connection Half = record { route = route_from (named_link t past) (is_up x t past) (l ∷ lendings x past) (heard_on x t past) k; end = end_of setup payload x t past } in c) q
          ≡ option_map (λ k. let c : Connection Half = record { route = route_from (named_link t past) (is_up x t past) (lendings x past) (heard_on x t past) k; end = end_of setup payload x t past } in c) q
      by None i = refl
      by (Some m) i =
          let apart : same_place m.place l.place ≡ false = not-of-free t l.place (lent setup payload x past) m (free-of setup payload x past one l.place free) i in
          ap (λ n. Some (record { route = record { link = unwrap_or (named_link t past) no_link; up = is_up x t past; element = record { rmb = m.place.rmb; index = m.place.index; epoch = n }; token = m.token; peer = heard_on x t past }; end = end_of setup payload x t past }))
          (epoch-stays l (lendings x past) (lent setup payload x past) m apart)
