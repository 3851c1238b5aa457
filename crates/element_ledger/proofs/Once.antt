-- Each element stands once in a ledger, and a change of one leaves the others.
use Rattle.std.proofs.Common.{◌≡◌, ◌∙◌, ℕ, ◌==◌, ◌&&◌, Bool, true, false, not, cond, List, [], ◌∷◌, map, Option, Some, None, is_some, refl, sym, ap, subst}
use Rattle.std.specs.Prelude.{find, if◌then◌else◌, option_and_then}
use Rattle.std.specs.List.{list_any}
use Rattle.std.proofs.lemmas.Bool.{eqb-true}
use Rattle.smc_num.specs.Places.{Place, same_place}
use Rattle.element_ledger.specs.declared.Element.{Element}
use Rattle.element_ledger.specs.declared.rows.Lending.{Lending}
use Rattle.element_ledger.specs.declared.rows.Change.TheVariants.{OwnGone, PeerGone, GivenBack}
use Rattle.element_ledger.specs.Lendings.{Row, Rows, IsLedger, StandsOnce, HasLending, first_free, is_lent, is_now, lending_of, changes_at, changed, changed_lending, lends, freed, place_of}
use Rattle.element_ledger.proofs.Lowest.{AreApart, rows_apart, or_false, same_refl, same-flip}

both_true : (a b : Bool) → (a && b) ≡ true → (a ≡ true) × (b ≡ true)
both_true true b e = (refl, e)
both_true false b e = cc

same_is : (p q : Place) → same_place p q ≡ true → p ≡ q
same_is p q e =
    let both = both_true (p.rmb == q.rmb) (p.index == q.index) e in
    ap (λ n. let x : Place = record { rmb = n; index = p.index } in x) (eqb-true p.rmb q.rmb both.0)
    ∙ ap (λ n. let x : Place = record { rmb = q.rmb; index = n } in x) (eqb-true p.index q.index both.1)

-- the places of a ledger are apart
pub are_apart : (v : Rows) → IsLedger v → AreApart (map (λ r. r.place) v.rows)
are_apart v ledger = subst (λ ps. AreApart ps) (sym ledger) (rows_apart v.elements 1 v.rmbs)

-- what is found is among them
not_found : (test : Row → Bool) (at : Place → Bool) (rows : List Row) (r : Row) → find test rows ≡ Some r → list_any at (map (λ q. q.place) rows) ≡ false → at r.place ≡ false
not_found test at [] r has none = absurd (let e : None ≡ Some r = has in let f : false ≡ true = cc in cc)
not_found test at (q ∷ rows) r has none = by_test (test q) has (not_found test at rows r)
  where
    both : (at q.place ≡ false) × (list_any at (map (λ q. q.place) rows) ≡ false)
    both = or_false (at q.place) (list_any at (map (λ q. q.place) rows)) none

    by_test : (b : Bool) → cond b (Some q) (find test rows) ≡ Some r → (find test rows ≡ Some r → list_any at (map (λ q. q.place) rows) ≡ false → at r.place ≡ false) → at r.place ≡ false
    by_test true e rest = let same : q ≡ r = cc in ap (λ x. at x.place) (sym same) ∙ both.0
    by_test false e rest = rest e both.1

-- and passes the test
found_passes : (test : Row → Bool) (rows : List Row) (r : Row) → find test rows ≡ Some r → test r ≡ true
found_passes test [] r has = absurd (let e : None ≡ Some r = has in let f : false ≡ true = cc in cc)
found_passes test (q ∷ rows) r has = by_test (test q) refl has (found_passes test rows r)
  where
    by_test : (b : Bool) → test q ≡ b → cond b (Some q) (find test rows) ≡ Some r → (find test rows ≡ Some r → test r ≡ true) → test r ≡ true
    by_test true at e rest = let same : q ≡ r = cc in ap test (sym same) ∙ at
    by_test false at e rest = rest e

-- a change of what is not there is none
none_changes : (p : Place) (f : Row → Row) (rows : List Row) → list_any (same_place p) (map (λ r. r.place) rows) ≡ false → map (changes_at p f) rows ≡ rows
none_changes p f [] none = refl
none_changes p f (r ∷ rows) none =
    let both = or_false (same_place p r.place) (list_any (same_place p) (map (λ q. q.place) rows)) none in
    ap (λ b. (if b then f r else r) ∷ map (changes_at p f) rows) both.0 ∙ ap (λ rs. r ∷ rs) (none_changes p f rows both.1)

stands_first : (r : Row) (rows : List Row) → list_any (same_place r.place) (map (λ q. q.place) rows) ≡ false → StandsOnce r (r ∷ rows)
stands_first r rows none = record {
  before = [];
  after = rows;
  whole = refl;
  change = λ f. ap (λ b. (if b then f r else r) ∷ map (changes_at r.place f) rows) (same_refl r.place) ∙ ap (λ rs. f r ∷ rs) (none_changes r.place f rows none);
}

stands_later : (q r : Row) (rows : List Row) → same_place r.place q.place ≡ false → StandsOnce r rows → StandsOnce r (q ∷ rows)
stands_later q r rows apart once = record {
  before = q ∷ once.before;
  after = once.after;
  whole = ap (λ rs. q ∷ rs) once.whole;
  change = λ f. ap (λ b. (if b then f q else q) ∷ map (changes_at r.place f) rows) apart ∙ ap (λ rs. q ∷ rs) (once.change f);
}

-- what is found stands once
pub stands_once : (test : Row → Bool) (rows : List Row) (r : Row) → AreApart (map (λ q. q.place) rows) → find test rows ≡ Some r → StandsOnce r rows
stands_once test [] r apart has = absurd (let e : None ≡ Some r = has in let f : false ≡ true = cc in cc)
stands_once test (q ∷ rows) r apart has = by_test (test q) has (stands_once test rows r apart.1)
  where
    by_test : (b : Bool) → cond b (Some q) (find test rows) ≡ Some r → (find test rows ≡ Some r → StandsOnce r rows) → StandsOnce r (q ∷ rows)
    by_test true e rest = let same : q ≡ r = cc in subst (λ x. StandsOnce x (q ∷ rows)) same (stands_first q rows apart.0)
    by_test false e rest = stands_later q r rows (same-flip q.place r.place (not_found test (same_place q.place) rows r e apart.0)) (rest e)

-- two that are found at one place are one
one_at : (t u : Row → Bool) (rows : List Row) (r q : Row) → AreApart (map (λ x. x.place) rows) → find t rows ≡ Some r → find u rows ≡ Some q → same_place r.place q.place ≡ true → r ≡ q
one_at t u [] r q apart has other same = absurd (let e : None ≡ Some r = has in let f : false ≡ true = cc in cc)
one_at t u (x ∷ rows) r q apart has other same = by_both (t x) (u x) has other (one_at t u rows r q apart.1)
  where
    by_both : (b c : Bool) → cond b (Some x) (find t rows) ≡ Some r → cond c (Some x) (find u rows) ≡ Some q
        → (find t rows ≡ Some r → find u rows ≡ Some q → same_place r.place q.place ≡ true → r ≡ q) → r ≡ q
    by_both true true d e rest = cc
    by_both true false d e rest =
        let this : x ≡ r = cc in
        let wrong : true ≡ false = sym same ∙ (ap (λ y. same_place y.place q.place) (sym this) ∙ not_found u (same_place x.place) rows q e apart.0) in cc
    by_both false true d e rest =
        let this : x ≡ q = cc in
        let wrong : true ≡ false = sym same ∙ (ap (λ y. same_place r.place y.place) (sym this) ∙ same-flip x.place r.place (not_found t (same_place x.place) rows r d apart.0)) in cc
    by_both false false d e rest = rest d e same

-- an element that is lent
pub has_lending : (v : Rows) (e : Element) (l : Lending) → IsLedger v → lending_of e v.rows ≡ Some l → HasLending e l v.rows
has_lending v e l ledger has = by_row (find (is_now e) v.rows) refl has
  where
    by_row : (o : Option Row) → find (is_now e) v.rows ≡ o → option_and_then (λ (r : Row). r.lending) o ≡ Some l → HasLending e l v.rows
    by_row None at h = absurd (let n : None ≡ Some l = h in let f : false ≡ true = cc in cc)
    by_row (Some r) at h =
        let now = both_true (same_place (place_of e) r.place) (r.epoch == e.epoch) (found_passes (is_now e) v.rows r at) in
        record {
          row = r;
          place = sym (same_is (place_of e) r.place now.0);
          epoch = eqb-true r.epoch e.epoch now.1;
          lending = h;
          once = stands_once (is_now e) v.rows r (are_apart v ledger) at;
        }

-- the lending of an element where a row comes first
abbrev found : Element → Row → Option Row → Option Lending
found e r rest = option_and_then (λ (q : Row). q.lending) (cond (is_now e r) (Some r) rest)

-- a change of an element leaves the lendings of all others
pub others_stay : (p : Place) (f : Row → Row) (e : Element) (rows : List Row) → ((r : Row) → (f r).place ≡ r.place) → same_place p (place_of e) ≡ false
    → lending_of e (map (changes_at p f) rows) ≡ lending_of e rows
others_stay p f e [] keeps other = refl
others_stay p f e (r ∷ rows) keeps other = by_place (same_place p r.place) refl (others_stay p f e rows keeps other)
  where
    by_place : (b : Bool) → same_place p r.place ≡ b → lending_of e (map (changes_at p f) rows) ≡ lending_of e rows
        → found e (if b then f r else r) (find (is_now e) (map (changes_at p f) rows)) ≡ found e r (find (is_now e) rows)
    by_place true at rest =
        let apart : same_place (place_of e) r.place ≡ false = same-flip r.place (place_of e) (ap (λ q. same_place q (place_of e)) (sym (same_is p r.place at)) ∙ other) in
        let new : is_now e (f r) ≡ false = ap (λ q. same_place (place_of e) q && ((f r).epoch == e.epoch)) (keeps r) ∙ ap (λ t. t && ((f r).epoch == e.epoch)) apart in
        let old : is_now e r ≡ false = ap (λ t. t && (r.epoch == e.epoch)) apart in
        ap (λ t. option_and_then (λ (q : Row). q.lending) (cond t (Some (f r)) (find (is_now e) (map (changes_at p f) rows)))) new
        ∙ (rest ∙ sym (ap (λ t. option_and_then (λ (q : Row). q.lending) (cond t (Some r) (find (is_now e) rows))) old))
    by_place false at rest = by_now (is_now e r) rest
      where
        by_now : (t : Bool) → lending_of e (map (changes_at p f) rows) ≡ lending_of e rows
            → option_and_then (λ (q : Row). q.lending) (cond t (Some r) (find (is_now e) (map (changes_at p f) rows))) ≡ option_and_then (λ (q : Row). q.lending) (cond t (Some r) (find (is_now e) rows))
        by_now true rest = refl
        by_now false rest = rest

-- the first free element is another than a lent one
free_apart : (v : Rows) (r : Row) (e : Element) (l : Lending) → IsLedger v → first_free v.rows ≡ Some r → lending_of e v.rows ≡ Some l → same_place r.place (place_of e) ≡ false
free_apart v r e l ledger free has = by_test (same_place r.place (place_of e)) refl (find (is_now e) v.rows) refl has
  where
    by_test : (b : Bool) → same_place r.place (place_of e) ≡ b → (o : Option Row) → find (is_now e) v.rows ≡ o → option_and_then (λ (q : Row). q.lending) o ≡ Some l → b ≡ false
    by_test false at o is h = refl
    by_test true at None is h = absurd (let n : None ≡ Some l = h in let f : false ≡ true = cc in cc)
    by_test true at (Some q) is h =
        let now = both_true (same_place (place_of e) q.place) (q.epoch == e.epoch) (found_passes (is_now e) v.rows q is) in
        let there : same_place r.place q.place ≡ true = ap (λ p. same_place r.place p) (sym (same_is (place_of e) q.place now.0)) ∙ at in
        let one : r ≡ q = one_at (λ x. not (is_lent x)) (is_now e) v.rows r q (are_apart v ledger) free is there in
        let nobody : not (is_lent q) ≡ true = ap (λ x. not (is_lent x)) (sym one) ∙ found_passes (λ x. not (is_lent x)) v.rows r free in
        lent_to q.lending h nobody
      where
        lent_to : (o : Option Lending) → o ≡ Some l → not (is_some o) ≡ true → true ≡ false
        lent_to None e n = cc
        lent_to (Some k) e n = sym n

pub lent_stays : (v : Rows) (r : Row) (conn : ℕ) (e : Element) (l : Lending) → IsLedger v → first_free v.rows ≡ Some r → lending_of e v.rows ≡ Some l
    → lending_of e (map (changes_at r.place (lends conn)) v.rows) ≡ Some l
lent_stays v r conn e l ledger free has = others_stay r.place (lends conn) e v.rows (λ q. refl) (free_apart v r e l ledger free has) ∙ has

-- two changes of an element are one
twice : (p : Place) (f g : Row → Row) (rows : List Row) → ((r : Row) → (f r).place ≡ r.place) → map (changes_at p g) (map (changes_at p f) rows) ≡ map (changes_at p (λ r. g (f r))) rows
twice p f g [] keeps = refl
twice p f g (r ∷ rows) keeps = ap (λ q. q ∷ map (changes_at p g) (map (changes_at p f) rows)) (by_test (same_place p r.place) refl) ∙ ap (λ rs. changes_at p (λ q. g (f q)) r ∷ rs) (twice p f g rows keeps)
  where
    by_test : (b : Bool) → same_place p r.place ≡ b → changes_at p g (if b then f r else r) ≡ (if b then g (f r) else r)
    by_test true at = ap (λ t. if t then g (f r) else f r) (ap (λ q. same_place p q) (keeps r) ∙ at)
    by_test false at = ap (λ t. if t then g r else r) at

same_change : (p : Place) (f g : Row → Row) (rows : List Row) → ((r : Row) → f r ≡ g r) → map (changes_at p f) rows ≡ map (changes_at p g) rows
same_change p f g [] same = refl
same_change p f g (r ∷ rows) same = ap (λ q. (if same_place p r.place then q else r) ∷ map (changes_at p f) rows) (same r) ∙ ap (λ rs. changes_at p g r ∷ rs) (same_change p f g rows same)

-- both ends go, and the element is given back
all_gone : (r : Row) → changed GivenBack (changed PeerGone (changed OwnGone r)) ≡ freed r
all_gone r = ap (λ o. let x : Row = record r { lending = o } in x) (by_lending r.lending)
  where
    by_lending : (o : Option Lending) → option_and_then (changed_lending GivenBack) (option_and_then (changed_lending PeerGone) (option_and_then (changed_lending OwnGone) o)) ≡ None
    by_lending None = refl
    by_lending (Some l) = refl

pub gone_is_freed : (p : Place) (rows : List Row)
    → map (changes_at p (changed GivenBack)) (map (changes_at p (changed PeerGone)) (map (changes_at p (changed OwnGone)) rows)) ≡ map (changes_at p freed) rows
gone_is_freed p rows =
    ap (λ rs. map (changes_at p (changed GivenBack)) rs) (twice p (changed OwnGone) (changed PeerGone) rows (λ r. refl))
    ∙ (twice p (λ r. changed PeerGone (changed OwnGone r)) (changed GivenBack) rows (λ r. refl)
    ∙ same_change p (λ r. changed GivenBack (changed PeerGone (changed OwnGone r))) freed rows all_gone)
