-- No more ends of a side are up than it has elements: each has one of its own.
use Rattle.std.proofs.Common.{◌≡◌, ◌∙◌, ◌==◌, ℕ, ◌+◌, ◌*◌, ◌≤◌, ◌<◌, Bool, true, false, if◌then◌else◌, List, [], ◌∷◌, length, map, refl, ap, sym, subst, ◌&&◌, true≢false, arith, suc, zero, eqb-true, eq-eqb, mul-le-mul_left}
use Rattle.std.specs.Prelude.{Option, Some, is_some, cond, find}
use Rattle.std.proofs.lemmas.List.{length-map}
use Rattle.smc_num.specs.declared.Side.{Side}
use Rattle.smc_num.specs.Places.{same_place}
use Rattle.clc_wire.specs.declared.offer.Offer.{Offer}
use Rattle.pipe_model.specs.declared.setup.Setup.{Setup}
use Rattle.pipe_model.specs.declared.entry.Entry.{Entry}
use Rattle.pipe_model.specs.Words.{elements_of}
use Rattle.pipe_model.specs.Connections.{IsUp, is_up, early_state}
use Rattle.pipe_model.specs.Lending.{Lending, lends_by, lendings, lent}
use Rattle.pipe_model.specs.Fallback.{is_fallen_state, is_fallen}
use Rattle.world_core.specs.Played.{IsOneLink, IsPlayed}
use Rattle.world_core.specs.OneLink.{the_link}
use Rattle.world_core.specs.Sockets.{IsOffer, is_first}
use Rattle.world_core.specs.Lent.{EachLending, HaveSockets, HavePlaces, IsOfOffer}
use Rattle.world_core.specs.Room.{sum_below, ups_below, FitsElements}
use Rattle.world_core.proofs.PlayedWorlds.{played}
use Rattle.world_core.proofs.LinkFacts.{up-has-offers}
use Rattle.world_core.proofs.LendingFacts.{each-map, turned, sub-lent, played-lendings, at-most}
use Rattle.world_core.proofs.Records.{still-lent}
use Rattle.world_core.proofs.Counts.{sum-more}
use Rattle.world_core.proofs.LinkRoom.{has-room}
use Rattle.world_core.proofs.NeverOver.{was-never-over}

-- an element of the one RMB
abbrev Fits : ℕ → Lending → Type 0
Fits elements l = (l.place.rmb ≡ 1) × ((1 ≤ l.place.index) × (l.place.index ≤ elements))

-- a lending named by its element, in the place of its socket
abbrev by_index : Lending → Lending
by_index l = record l { s = l.place.index }

apart : (elements : ℕ) (l : Lending) (ms : List Lending) → Fits elements l → EachLending (Fits elements) ms → EachLending (λ m. same_place l.place m.place ≡ false) ms → EachLending (λ m. (m.s == l.place.index) ≡ false) (map by_index ms)
apart elements l [] f g h = tt
apart elements l (m ∷ ms) f g h =
    let a = g.0 in
    let same : (l.place.rmb == m.place.rmb) ≡ true = eq-eqb l.place.rmb m.place.rmb (f.0 ∙ sym a.0) in
    let differ : (l.place.index == m.place.index) ≡ false = sym (ap (λ b. b && (l.place.index == m.place.index)) same) ∙ h.0 in
    (turned m.place.index l.place.index differ, apart elements l ms f g.1 h.1)

have : (elements : ℕ) (ls : List Lending) → EachLending (Fits elements) ls → HavePlaces ls → HaveSockets (map by_index ls)
have elements [] f h = tt
have elements (l ∷ ls) f h = (apart elements l ls f.0 f.1 h.0, have elements ls f.1 h.1)

low : (elements : ℕ) (ls : List Lending) → EachLending (Fits elements) ls → EachLending (λ l. l.s < elements + 1) (map by_index ls)
low elements [] f = tt
low elements (l ∷ ls) f = let a = f.0 in let b = a.1 in (omega (arith, b.1), low elements ls f.1)

not-zero : (elements : ℕ) (ls : List Lending) → EachLending (Fits elements) ls → EachLending (λ m. (m.s == 0) ≡ false) (map by_index ls)
not-zero elements [] f = tt
not-zero elements (l ∷ ls) f = let a = f.0 in let b = a.1 in (test (l.place.index == 0) refl b.0, not-zero elements ls f.1)
  where
    test : (b : Bool) → (l.place.index == 0) ≡ b → 1 ≤ l.place.index → b ≡ false
    test false e o = refl
    test true e o = let g : l.place.index ≡ 0 = eqb-true l.place.index 0 e in absurd (omega (arith, g, o))

-- so many lendings of different elements are no more than the elements
few-lent : (elements : ℕ) (ls : List Lending) → EachLending (Fits elements) ls → HavePlaces ls → length ls ≤ elements
few-lent elements ls f h =
    let zero_one : Lending = record { place = record { rmb = 1; index = 0 }; s = 0; group = 0; token = 0 } in
    let most : length (zero_one ∷ map by_index ls) ≤ elements + 1 = at-most (elements + 1) (zero_one ∷ map by_index ls) (not-zero elements ls f, have elements ls f h) (omega arith, low elements ls f) in
    let same : length (map by_index ls) ≡ length ls = length-map ls by_index in
    omega (arith, most, same)

-- sockets with a lending are no more than the lendings
abbrev hits : List Lending → ℕ → ℕ
hits [] s = 0
hits (l ∷ ls) s = (if l.s == s then 1 else 0) + hits ls s

sum-none : (n : ℕ) → sum_below (λ s. 0) n ≤ 0
sum-none zero = omega arith
sum-none (suc n) = let a = sum-none n in omega (arith, a)

sum-both : (f g : ℕ → ℕ) (n : ℕ) → sum_below (λ s. f s + g s) n ≡ sum_below f n + sum_below g n
sum-both f g zero = omega arith
sum-both f g (suc n) = let a = sum-both f g n in omega (arith, a)

abbrev one_at : ℕ → ℕ → ℕ
one_at a s = if a == s then 1 else 0

sum-at-before : (a n : ℕ) → n ≤ a → sum_below (one_at a) n ≤ 0
sum-at-before a zero l = omega arith
sum-at-before a (suc n) l = let b = sum-at-before a n (omega (arith, l)) in test (a == n) refl b
  where
    test : (c : Bool) → (a == n) ≡ c → sum_below (one_at a) n ≤ 0 → sum_below (one_at a) n + (if c then 1 else 0) ≤ 0
    test true e o = let g : a ≡ n = eqb-true a n e in absurd (omega (arith, g, l))
    test false e o = omega (arith, o)

sum-at : (a n : ℕ) → sum_below (one_at a) n ≤ 1
sum-at a zero = omega arith
sum-at a (suc n) = let b = sum-at a n in test (a == n) refl b
  where
    test : (c : Bool) → (a == n) ≡ c → sum_below (one_at a) n ≤ 1 → sum_below (one_at a) n + (if c then 1 else 0) ≤ 1
    test true e o = let g : a ≡ n = eqb-true a n e in let h = sum-at-before a n (omega (arith, g)) in omega (arith, h)
    test false e o = omega (arith, o)

few-hits : (ls : List Lending) (n : ℕ) → sum_below (hits ls) n ≤ length ls
few-hits [] n = sum-none n
few-hits (l ∷ ls) n =
    let a = sum-both (one_at l.s) (hits ls) n in
    let b = sum-at l.s n in
    let c = few-hits ls n in
    omega (arith, a, b, c)

found-hits : (ls : List Lending) (s : ℕ) (k : Lending) → find (λ l. l.s == s) ls ≡ Some k → 1 ≤ hits ls s
found-hits [] s k e = absurd (true≢false (sym (ap (λ (q : Option Lending). is_some q) e)))
found-hits (l ∷ ls) s k e = test (l.s == s) e (found-hits ls s k)
  where
    test : (b : Bool) → cond b (Some l) (find (λ m. m.s == s) ls) ≡ Some k → (find (λ m. m.s == s) ls ≡ Some k → 1 ≤ hits ls s) → 1 ≤ (if b then 1 else 0) + hits ls s
    test true f rest = omega arith
    test false f rest = let a = rest f in omega (arith, a)

module _ (setup : Setup) (one : IsOneLink setup) (payload : List ℕ) (x : Side) (past : List Entry) (n : ℕ) (p : IsPlayed setup payload past n) where
  abbrev L : List Lending
  L = lent setup payload x past

  fits-one : (l : Lending) → IsOfOffer x past l → Fits (elements_of setup x) l
  fits-one l q =
      let w = played setup one payload past n p in
      let world = w.world in
      let h = world.sockets l.s in
      let at = h.stands in
      let r = q.1 in
      let o : Offer = q.0 in
      let i : IsOffer setup x (is_first h.at) o = at.offers x (record { link = the_link; offer = o }) (sym (at.offer x) ∙ r.0) in (
        ap (λ (m : Lending). m.place.rmb) r.1 ∙ i.rmb,
        (
          subst (λ (m : Lending). 1 ≤ m.place.index) (sym r.1) i.low,
          subst (λ (m : Lending). m.place.index ≤ elements_of setup x) (sym r.1) i.high,
        ),
      )

  lent-fits : EachLending (Fits (elements_of setup x)) L
  lent-fits =
      let a = played-lendings setup one payload past n p x in
      sub-lent setup payload x (Fits (elements_of setup x)) past (each-map (IsOfOffer x past) (Fits (elements_of setup x)) fits-one (lendings x past) a.offers)

  up-lent : (s : ℕ) (u : Bool) → is_up x s past ≡ u → (if u then 1 else 0) ≤ hits L s
  up-lent s false e = omega arith
  up-lent s true e =
      let w = played setup one payload past n p in
      let o = up-has-offers setup w.stage past w.world x s e x in
      let stands : is_fallen x s past ≡ false = ap (λ b. is_fallen_state (if b then IsUp else early_state x s past)) e in
      let r = still-lent setup one payload past n p x (was-never-over setup one payload past n p x) s o.0 o.1 stands in
      found-hits L s (lends_by s the_link o.0) r.0

  -- each end that is up has an element of its own
  few-ups : ups_below x past setup.sockets ≤ elements_of setup x
  few-ups =
      let a = played-lendings setup one payload past n p x in
      let b = few-lent (elements_of setup x) L lent-fits a.places in
      let c = few-hits L setup.sockets in
      let d = sum-more (λ s. if is_up x s past then 1 else 0) (hits L) setup.sockets (λ s. up-lent s (is_up x s past) refl) in
      omega (arith, b, c, d)

  pub fits-elements : FitsElements setup x past
  fits-elements =
      let r = has-room setup one payload x past n p in
      let m : setup.depth * ups_below x past setup.sockets ≤ setup.depth * elements_of setup x = mul-le-mul_left setup.depth few-ups in
      record { ups = few-ups; posts = omega (arith, r, m) }
