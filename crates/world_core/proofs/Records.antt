-- A token names the lending of its socket while that stands, and only the offer of first contact is marked as first.
use Rattle.pipe_model.specs.Lending.{lent}
use Rattle.std.proofs.Common.{◌≡◌, ap, arith, cond, inl, inr, refl, subst, suc, sym, ◌∙◌}
use Rattle.std.specs.Prelude.{find, Bool, List, None, Option, Some, [], false, if◌then◌else◌, true, ℕ, ◌==◌, ◌∷◌}
use Rattle.std.proofs.lemmas.Bool.{eqb-true, eqb-false, eq-eqb, ne_eqb}
use Rattle.pipe_model.specs.declared.entry.Entry.{Entry}
use Rattle.smc_num.specs.declared.Side.{Side}
use Rattle.pipe_model.specs.Fallback.{is_fallen, is_fallen_state}
use Rattle.clc_wire.specs.declared.offer.Offer.{Offer}
use Rattle.world_core.proofs.StillLent.{fallen-end, lent-or-fell}
use Rattle.pipe_model.specs.declared.setup.Setup.{Setup}
use Rattle.world_core.proofs.PlayedWorlds.{played}
use Rattle.pipe_model.specs.Lending.{Lending, lends_by, record_of}
use Rattle.world_core.specs.OneLink.{Asking, Begun, LiveAtA, LiveAtBoth, Made, NoLink, Stage, the_link, is_of_first}
use Rattle.pipe_model.specs.History.{Offered, offered}
use Rattle.world_core.proofs.LendingFacts.{each-map, played-lendings, sub-lent, tokens-tell, offer-on-link}
use Rattle.world_core.specs.Sockets.{AwaitsLink, Fallen, FirstAccepted, FirstConfirmed, FirstUp, FirstUpAtA, IsOffer, IsWorld, Proposed, Refused, Socket, Unopened, first_step, is_first, is_unoffered, on_link, suits}
use Rattle.world_core.specs.Played.{IsOneLink, IsPlayed}
use Rattle.world_core.specs.Lent.{AreLendings, EachLending, IsOfOffer, WasNeverOver}

-- two tests that agree find the same
find-alike : (f g : Lending → Bool) (ls : List Lending) → EachLending (λ l. f l ≡ g l) ls → find f ls ≡ find g ls
find-alike f g [] a = refl
find-alike f g (l ∷ ls) a = ap (λ b. cond b (Some l) (find f ls)) a.0 ∙ ap (λ (o : Option Lending). cond (g l) (Some l) o) (find-alike f g ls a.1)

-- what is found is of the list, and passes the test
pub found-is : (P : Lending → Type 0) (f : Lending → Bool) (ls : List Lending) (l : Lending) → EachLending P ls → find f ls ≡ Some l → P l × (f l ≡ true)
found-is P f [] l a e = absurd (let wrong : None ≡ Some l = e in cc)
found-is P f (k ∷ ls) l a e = by_test (f k) refl e (found-is P f ls l a.1)
  where
    some-is : (a b : Lending) → Some a ≡ Some b → a ≡ b
    some-is a b e = cc

    by_test : (b : Bool) → f k ≡ b → cond b (Some k) (find f ls) ≡ Some l → (find f ls ≡ Some l → P l × (f l ≡ true)) → P l × (f l ≡ true)
    by_test true h i rest = (subst P (some-is k l i) a.0, ap f (sym (some-is k l i)) ∙ h)
    by_test false h i rest = rest i

module _ (setup : Setup) (payload : List ℕ) (x : Side) (past : List Entry) (a : AreLendings setup payload x past) where
  on-is : (o q : Offer) → on_link o ≡ on_link q → o ≡ q
  on-is o q e = ap (λ (r : Offered). r.offer) (some-is (record { link = the_link; offer = o }) (record { link = the_link; offer = q }) e)
    where
      some-is : (a b : Offered) → Some a ≡ Some b → a ≡ b
      some-is a b e = cc

  -- the token of a lending is that of the offer just where the socket is
  token-is : (s : ℕ) (o : Offer) → offered x s past ≡ on_link o → (l : Lending) → IsOfOffer x past l → (l.token == o.token) ≡ (l.s == s)
  token-is s o e l of = by_test (l.s == s) refl
    where
      by_test : (b : Bool) → (l.s == s) ≡ b → (l.token == o.token) ≡ b
      by_test true h =
          let same : l.s ≡ s = eqb-true l.s s h in
          let offer : of.0 ≡ o = on-is of.0 o (sym of.1.0 ∙ (ap (λ n. offered x n past) same ∙ e)) in
          eq-eqb l.token o.token (ap (λ (m : Lending). m.token) of.1.1 ∙ ap (λ (q : Offer). q.token) offer)
      by_test false h = ne_eqb l.token o.token (λ same. eqb-false l.s s h (tokens-tell setup payload x past a l.s s (record { link = the_link; offer = of.0 }) (record { link = the_link; offer = o }) of.1.0 e (sym (ap (λ (m : Lending). m.token) of.1.1) ∙ same)))

  -- a token names the lending of its socket
  pub record-is : (s : ℕ) (o : Offer) → offered x s past ≡ on_link o → find (λ l. l.s == s) (lent setup payload x past) ≡ Some (lends_by s the_link o) → record_of setup payload x o.token past ≡ Some (lends_by s the_link o)
  record-is s o e found =
      find-alike (λ l. l.token == o.token) (λ l. l.s == s) (lent setup payload x past) (each-map (IsOfOffer x past) (λ l. (l.token == o.token) ≡ (l.s == s)) (token-is s o e) (lent setup payload x past) (sub-lent setup payload x (IsOfOffer x past) past a.offers))
      ∙ found

  -- and no other
  pub record-of-offer : (token : ℕ) (l : Lending) → record_of setup payload x token past ≡ Some l → (o : Offer) × ((offered x l.s past ≡ on_link o) × ((l ≡ lends_by l.s the_link o) × (o.token ≡ token)))
  record-of-offer token l e =
      let f = found-is (IsOfOffer x past) (λ m. m.token == token) (lent setup payload x past) l (sub-lent setup payload x (IsOfOffer x past) past a.offers) e in
      let of = f.0 in
      (of.0, (of.1.0, (of.1.1, sym (ap (λ (m : Lending). m.token) of.1.1) ∙ eqb-true l.token token f.1)))

-- an element that was offered stays lent
pub still-lent : (setup : Setup) → IsOneLink setup → (payload : List ℕ) (past : List Entry) (n : ℕ) → IsPlayed setup payload past n → (x : Side) → WasNeverOver setup payload x past → (s : ℕ) (o : Offer) → offered x s past ≡ on_link o → is_fallen x s past ≡ false
    → (find (λ l. l.s == s) (lent setup payload x past) ≡ Some (lends_by s the_link o)) × (record_of setup payload x o.token past ≡ Some (lends_by s the_link o))
still-lent setup one payload past n p x never s o e not_fallen =
    let g = played setup one payload past n p in
    let w = g.world in
    let h = w.sockets s in
    elim (lent-or-fell setup one payload past n p x never s o e) [
      | inl found ↦ (found, record-is setup payload x past (played-lendings setup one payload past n p x) s o e found)
      | inr fell ↦ absurd (let yes_fallen : true ≡ false = sym (ap is_fallen_state (fallen-end setup h.at s past x h.stands fell)) ∙ not_fallen in cc)
    ]

-- which offers are marked as first
first-step-is : (k : Socket) (n : ℕ) → (first_step k == suc n) ≡ true → is_first k ≡ true
first-step-is (FirstAccepted o) n e = refl
first-step-is (FirstConfirmed o p) n e = refl
first-step-is (AwaitsLink o p) n e = refl
first-step-is (FirstUpAtA o p) n e = refl
first-step-is (FirstUp o p) n e = refl
first-step-is _ n e = absurd (let same : 0 ≡ suc n = eqb-true 0 (suc n) e in omega arith)

not-first : (k : Socket) → is_unoffered k ≡ true → is_first k ≡ false
not-first Unopened e = refl
not-first Fallen e = refl
not-first Proposed e = refl
not-first (Refused r) e = refl
not-first _ e = cc

no-step-first : (k : Socket) → (first_step k == 0) ≡ true → is_first k ≡ false
no-step-first (FirstAccepted o) e = cc
no-step-first (FirstConfirmed o p) e = cc
no-step-first (AwaitsLink o p) e = cc
no-step-first (FirstUpAtA o p) e = cc
no-step-first (FirstUp o p) e = cc
no-step-first _ e = refl

by-socket : (b : Bool) (k : Socket) (n : ℕ) (v : Bool) → (if b then first_step k == suc n else v) ≡ true → (v ≡ true → is_first k ≡ false) → is_first k ≡ b
by-socket true k n v e f = first-step-is k n e
by-socket false k n v e f = f e

first-where : (stage : Stage) (s : ℕ) (k : Socket) → suits stage s k ≡ true → is_first k ≡ is_of_first stage s
first-where NoLink s k e = not-first k e
first-where (Begun t) s k e = by-socket (s == t) k 0 (is_unoffered k) e (not-first k)
first-where (Made t) s k e = by-socket (s == t) k 1 (is_unoffered k) e (not-first k)
first-where (Asking t qp) s k e = by-socket (s == t) k 2 (is_unoffered k) e (not-first k)
first-where (LiveAtA t qp) s k e = by-socket (s == t) k 3 (is_unoffered k) e (not-first k)
first-where (LiveAtBoth t) s k e = by-socket (s == t) k 4 (first_step k == 0) e (no-step-first k)

pub offer-facts : (setup : Setup) (stage : Stage) (past : List Entry) → IsWorld setup stage past → (x : Side) (s : ℕ) (o : Offer) → offered x s past ≡ on_link o → IsOffer setup x (is_of_first stage s) o
offer-facts setup stage past w x s o e =
    let h = w.sockets s in
    let at = h.stands in
    subst (λ first. IsOffer setup x first o) (first-where stage s h.at h.suits_is) (at.offers x (record { link = the_link; offer = o }) (sym (at.offer x) ∙ e))

pub all-offers : (setup : Setup) (stage : Stage) (past : List Entry) → IsWorld setup stage past → (x : Side) (s : ℕ) (q : Offered) → offered x s past ≡ Some q → (q.link ≡ the_link) × IsOffer setup x (is_of_first stage s) q.offer
all-offers setup stage past w x s q e =
    let link = offer-on-link setup stage past w x s q e in
    (link, offer-facts setup stage past w x s q.offer (e ∙ ap (λ n. let r : Offered = record { link = n; offer = q.offer } in Some r) link))
