-- Over every history an element is lent only where it is the lowest free one, so each earlier lending of it is done with.
use Rattle.std.proofs.Common.{Bool, List, [], ap, arith, eqb-true, false, filter, filter_map, flat_map, inl, inr, length, map, not, refl, subst, suc, sym, true, true≢false, zero, ℕ, ◌++◌, ◌==◌, ◌||◌, ◌∙◌, ◌∷◌, ◌≡◌, ◌≤◌, ◌⊎◌}
use Rattle.std.specs.Prelude.{All, IsTrue, unwrap_or}
use Rattle.std.proofs.lemmas.List.Elements.{All-cons, All-nil}
use Rattle.smc_num.specs.Places.{is_free, places_in}
use Rattle.pipe_model.specs.Lending.{IsRelent, free_places, lent_places}
use Rattle.std.specs.List.{list_any, range_with_len}
use Rattle.history_laws.specs.Words.{A, B, Entry, RelendsOnlyDone, Lending, LinkId, Place, Setup, Side, all_places, elements_of, group_of, head, is_done_with, lacks, lendings, lends, lends_by, lent, new_offer, next_free, rmbs_of, same_place}
use Rattle.history_laws.specs.Lists.{IsAmong}
use Rattle.history_laws.specs.Made.{IsMadeAll, IsMade}
use Rattle.history_laws.proofs.Offers.{accept-new, all-offers, confirm-new, free-lends-all, of-entry, states}
use Rattle.history_laws.proofs.Basics.{by-bool, rmb-of}
use Rattle.history_laws.specs.Offers.{Accepts, Confirms, HasOffers, HasStates, Offers, OffersAccept, OffersConfirm, OffersNone}
use Rattle.history_laws.proofs.Posts.{data-free}
use Rattle.lending_laws.specs.Owed.{OwedAfter, OwedLendings}
use Rattle.lending_laws.proofs.Lendings.Owed.{all-grouped, all-psn, owed-now}
use Rattle.lending_laws.proofs.Lendings.Groups.{ConfirmFacts, accept-facts-of, confirm-facts-of, group-after}
use Rattle.lending_laws.specs.Lendings.{HasElements}
use Rattle.lending_laws.proofs.Lendings.Lendings.{in-filter, in-new}
use Rattle.lending_laws.proofs.Lendings.Done.{are-done}

-- all of a list, by what is in it
pub all-of : {X : Type 0} (P : X → Type 0) (xs : List X) → ((x : X) → IsAmong x xs → P x) → All P xs
all-of P [] f = All-nil P
all-of P (x ∷ xs) f = All-cons P x xs (f x (inl refl)) (all-of P xs (λ y i. f y (inr i)))

-- after each history what is lent is of the side's group
pub all-groups : (setup : Setup) (payload : List ℕ) (past : List Entry) → IsMadeAll setup payload past → OwedLendings setup payload past → (x : Side) (l : Lending) → IsAmong l (lent setup payload x past) → (l.group ≡ group_of x past) × ((l.group == 0) ≡ false)
all-groups setup payload [] m w x l i = absurd i
all-groups setup payload (e ∷ past) m w x l i =
    let one = m.0 in
    let rest = w.1 in
    let now = owed-now setup payload past rest.1 in
    group-after setup payload past one.0 e one.1 (states setup payload past m.1) (all-offers setup payload past m.1) now.own (all-psn setup payload past m.1 B) (all-grouped setup payload past m.1 rest.1) x (all-groups setup payload past m.1 rest.1 x) l i

-- free places
free-is : (p : Place) (ls : List Lending) → is_free (lent_places ls) p ≡ true → (l : Lending) → IsAmong l ls → same_place p l.place ≡ false
free-is p [] f l i = absurd i
free-is p (m ∷ ls) f l i = by (same_place p m.place) refl f (free-is p ls) i
  where
    by : (b : Bool) → same_place p m.place ≡ b → not (b || list_any (same_place p) (lent_places ls)) ≡ true → (is_free (lent_places ls) p ≡ true → (l : Lending) → IsAmong l ls → same_place p l.place ≡ false) → IsAmong l (m ∷ ls) → same_place p l.place ≡ false
    by true q g rest j = absurd (true≢false (sym g))
    by false q g rest (inl k) = ap (λ (n : Lending). same_place p n.place) k ∙ q
    by false q g rest (inr j) = rest g l j

-- the place of a new lending is the next free one
pub new-place : (setup : Setup) (payload : List ℕ) (x : Side) (s : ℕ) (first : Bool) (link : LinkId) (past : List Entry) → (lends_by s link (new_offer setup payload x first link past)).place ≡ next_free setup payload x past
new-place setup payload x s first link past = ap (λ n. let p : Place = record { rmb = n; index = (next_free setup payload x past).index } in p) (rmb-of (next_free setup payload x past).rmb)

some-length : (ps : List Place) → (length ps == 0) ≡ false → (d : Place) → IsAmong (unwrap_or (head ps) d) ps
some-length [] e d = absurd (true≢false e)
some-length (p ∷ ps) e d = inl refl

-- a side of which no element is lent has a free one
none-free : (ps : List Place) → filter (is_free []) ps ≡ ps
none-free [] = refl
none-free (p ∷ ps) = ap (λ (qs : List Place). p ∷ qs) (none-free ps)

cons-some : (p : Place) (ps : List Place) → (length (p ∷ ps) == 0) ≡ false
cons-some p ps = by-bool ((length (p ∷ ps) == 0) ≡ false) (length (p ∷ ps) == 0) (λ z. absurd (let w : suc (length ps) ≡ 0 = eqb-true (length (p ∷ ps)) 0 z in omega (arith, w))) (λ z. z)

flat-some : (rmbs elements : ℕ) → 1 ≤ rmbs → 1 ≤ elements → (length (all_places rmbs elements) == 0) ≡ false
flat-some zero elements a b = absurd (omega (arith, a))
flat-some (suc r) zero a b = absurd (omega (arith, b))
flat-some (suc r) (suc n) a b = cons-some (record { rmb = 1; index = 1 }) (map (λ i. let place : Place = record { rmb = 1; index = i } in place) (range_with_len 2 n) ++ flat_map (places_in (suc n)) (range_with_len 2 r))

-- nothing is in an empty list
none-in-it : (ls : List Lending) → ((l : Lending) → IsAmong l ls → ⊥) → ls ≡ []
none-in-it [] f = refl
none-in-it (l ∷ ls) f = absurd (f l (inl refl))

module _ (setup : Setup) (elements : HasElements setup) (payload : List ℕ) (e : Entry) (past : List Entry) (m : IsMadeAll setup payload (e ∷ past)) (w : OwedLendings setup payload past) where
  abbrev one : (before : ℕ) × IsMade setup payload past before e
  one = m.0

  abbrev st : (s : ℕ) → HasStates s past
  st = states setup payload past m.1

  abbrev off : (s : ℕ) → HasOffers s past
  off = all-offers setup payload past m.1

  now : OwedAfter setup payload past
  now = owed-now setup payload past w

  -- the next free place is free, where one is
  is-next : (x : Side) → (length (free_places setup payload x past) == 0) ≡ false → (IsAmong (next_free setup payload x past) (all_places (rmbs_of setup x) (elements_of setup x))) × (is_free (lent_places (lent setup payload x past)) (next_free setup payload x past) ≡ true)
  is-next x f = in-filter (is_free (lent_places (lent setup payload x past))) (next_free setup payload x past) (all_places (rmbs_of setup x) (elements_of setup x)) (some-length (free_places setup payload x past) f (record { rmb = 0; index = 0 }))

  -- and one is, for whoever offers
  accept-free : (a : Accepts setup payload e past) → (length (free_places setup payload B past) == 0) ≡ false
  accept-free a = let f = accept-facts-of setup payload past one.0 e one.1 st off now.own (all-psn setup payload past m.1 B) (all-grouped setup payload past m.1 w) a in f.some

  confirm-free : (c : Confirms setup payload e past) → (length (free_places setup payload A past) == 0) ≡ false
  confirm-free c = by c.first refl (confirm-facts-of setup payload past one.0 e one.1 st off now.own (all-psn setup payload past m.1 B) (all-grouped setup payload past m.1 w) c)
    where
      by : (b : Bool) → c.first ≡ b → ConfirmFacts c.offer (lacks setup payload A past) c.first → (length (free_places setup payload A past) == 0) ≡ false
      by false i f = f.some i
      by true i f =
          let none : lent setup payload A past ≡ [] = none-in-it (lent setup payload A past) (λ l j. let g = all-groups setup payload past m.1 w A l j in true≢false (sym (f.fresh i) ∙ (ap (λ n. n == 0) (sym g.0) ∙ g.1))) in
          ap (λ (ls : List Lending). length (filter (is_free (lent_places ls)) (all_places (rmbs_of setup A) (elements_of setup A))) == 0) none
          ∙ (ap (λ (ps : List Place). length ps == 0) (none-free (all_places (rmbs_of setup A) (elements_of setup A))) ∙ flat-some (rmbs_of setup A) (elements_of setup A) (elements.rmbs A) (elements.elements A))

  -- a new lending is of a place in range that is not lent
  abbrev FreshPlace : Side → Lending → Type 0
  FreshPlace x l = (IsAmong l.place (all_places (rmbs_of setup x) (elements_of setup x))) × ((k : Lending) → IsAmong k (lent setup payload x past) → same_place l.place k.place ≡ false)

  pub fresh-place : (x : Side) (l : Lending) → IsAmong l (filter_map (lends x) e.posts) → FreshPlace x l
  fresh-place x l i = by (of-entry setup payload past one.0 e one.1 st off) x i
    where
      placed : (y : Side) (p : Place) → l.place ≡ p → (IsAmong p (all_places (rmbs_of setup y) (elements_of setup y))) × (is_free (lent_places (lent setup payload y past)) p ≡ true) → FreshPlace y l
      placed y p q r = (subst (λ k. IsAmong k (all_places (rmbs_of setup y) (elements_of setup y))) (sym q) r.0, λ k j. ap (λ n. same_place n k.place) q ∙ free-is p (lent setup payload y past) r.1 k j)

      by : Offers setup payload e past → (y : Side) → IsAmong l (filter_map (lends y) e.posts) → FreshPlace y l
      by (OffersNone f) y j = absurd (subst (λ ls. IsAmong l ls) (free-lends-all y e.posts f) j)
      by (OffersAccept a) A j = absurd (subst (λ ls. IsAmong l ls) (ap (λ ps. filter_map (lends A) ps) a.posts_are ∙ free-lends-all A a.more (data-free a.more a.plain)) j)
      by (OffersConfirm c) B j = absurd (subst (λ ls. IsAmong l ls) (ap (λ ps. filter_map (lends B) ps) c.posts_are ∙ free-lends-all B c.more (data-free c.more c.plain)) j)
      by (OffersAccept a) B j =
          let n = accept-new setup payload past one.0 e one.1 st off a in
          placed B (next_free setup payload B past) (ap (λ (k : Lending). k.place) (in-new setup payload past one.0 e one.1 st off B n l j) ∙ new-place setup payload B n.s n.first n.link past) (is-next B (accept-free a))
      by (OffersConfirm c) A j =
          let n = confirm-new setup payload past one.0 e one.1 st off c in
          placed A (next_free setup payload A past) (ap (λ (k : Lending). k.place) (in-new setup payload past one.0 e one.1 st off A n l j) ∙ new-place setup payload A n.s n.first n.link past) (is-next A (confirm-free c))

  -- each earlier lending of the same element is done with
  relent : (x : Side) (l : Lending) → IsAmong l (filter_map (lends x) e.posts) → IsRelent x l past
  relent x l i = all-of (λ k. IsTrue (is_done_with x k past)) (filter (λ k. same_place l.place k.place) (lendings x past)) (λ k j.
      let q = in-filter (λ k. same_place l.place k.place) k (lendings x past) j in
      let d = are-done setup payload past m.1 w x in
      let f = fresh-place x l i in
      by k q.1 f.1 (d.done k q.0))
    where
      by : (k : Lending) → same_place l.place k.place ≡ true → ((n : Lending) → IsAmong n (lent setup payload x past) → same_place l.place n.place ≡ false) → IsAmong k (lent setup payload x past) ⊎ (is_done_with x k past ≡ true) → IsTrue (is_done_with x k past)
      by k same free (inl j) = absurd (true≢false (sym same ∙ free k j))
      by k same free (inr d) = d

  pub is-lent : (x : Side) → RelendsOnlyDone x e past
  is-lent x = all-of (λ l. IsRelent x l past) (filter_map (lends x) e.posts) (relent x)
