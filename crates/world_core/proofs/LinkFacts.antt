-- What follows of the one link: no group ends, an end that is up has offers on both sides, and knows the peer's key.
use Rattle.std.proofs.Common.{◌≡◌, ap, arith, inl, inr, refl, subst, sym, ◌∙◌}
use Rattle.std.proofs.lemmas.Bool.{eq-eqb}
use Rattle.pipe_model.specs.Connections.{is_up}
use Rattle.smc_num.specs.declared.Side.{Side}
use Rattle.pipe_model.specs.Fallback.{untaken}
use Rattle.std.specs.Option.{option_or}
use Rattle.world_core.proofs.TakenMessages.{live-with, not-both}
use Rattle.pipe_model.specs.History.{Offered, offer_in, offered}
use Rattle.world_core.proofs.Moves.{KeepsGroups, keeps-group}
use Rattle.smc_num.specs.Keys.{Key, bound}
use Rattle.clc_wire.specs.declared.offer.Offer.{Offer}
use Rattle.world_core.proofs.QuietEvents.{by-side}
use Rattle.world_core.proofs.PlayedWorlds.{played}
use Rattle.smc_num.specs.Names.{head, other}
use Rattle.pipe_model.specs.declared.entry.Entry.{Entry}
use Rattle.smc_num.specs.declared.Side.TheVariants.{A, B}
use Rattle.pipe_model.specs.Keys.{Keys, book_of, last_bound}
use Rattle.pipe_model.specs.declared.setup.Setup.{Setup}
use Rattle.world_core.specs.Played.{IsOneLink, IsPlayed}
use Rattle.world_core.specs.Sockets.{AwaitsLink, Confirmed, Fallen, FirstAccepted, FirstConfirmed, FirstUp, FirstUpAtA, HasSocket, IsOffer, IsWorld, Proposed, Refused, Socket, Unopened, Up, first_step, is_first, is_unoffered, offered_at, on_link, suits, untaken_at, up_at}
use Rattle.std.specs.Prelude.{Bool, List, None, Option, Some, [], false, filter_map, if◌then◌else◌, is_some, true, ℕ, ◌==◌, ◌||◌, ◌∷◌, ◌⊎◌, ◌≤◌}
use Rattle.pipe_model.specs.Fabric.{has_ended, loses_group_with, peer, Fabric, group_of}
use Rattle.world_core.specs.OneLink.{Asking, Begun, LiveAtA, LiveAtBoth, Made, NoLink, Stage, book_at, fabric_at, keys_at, the_key, the_keys, the_link, IsAtStage, groups_at}
use Rattle.pipe_model.specs.Posts.{groups_begun}

-- a side that has a group has offered
offers-at : (k : Socket) → is_unoffered k ≡ true → (x : Side) → offered_at k x ≡ None
offers-at Unopened e x = refl
offers-at Fallen e x = refl
offers-at Proposed e x = refl
offers-at (Refused r) e x = refl
offers-at _ e x = cc

first-at-a : (k : Socket) → (first_step k == 1) ≡ true → offered_at k A ≡ None
first-at-a (FirstAccepted o) e = refl
first-at-a _ e = cc

-- no offer of a side without a group
none-by : (stage : Stage) (s : ℕ) (k : Socket) → suits stage s k ≡ true → (x : Side) → (peer x (fabric_at stage)).group ≡ 0 → offered_at k x ≡ None
none-by NoLink s k e x z = offers-at k e x
none-by (Begun t) s k e A z = by_test (s == t) e
  where
    by_test : (b : Bool) → (if b then first_step k == 1 else is_unoffered k) ≡ true → offered_at k A ≡ None
    by_test true h = first-at-a k h
    by_test false h = offers-at k h A
none-by (Begun t) s k e B z = absurd (omega arith)
none-by (Made t) s k e A z = absurd (omega arith)
none-by (Made t) s k e B z = absurd (omega arith)
none-by (Asking t qp) s k e A z = absurd (omega arith)
none-by (Asking t qp) s k e B z = absurd (omega arith)
none-by (LiveAtA t qp) s k e A z = absurd (omega arith)
none-by (LiveAtA t qp) s k e B z = absurd (omega arith)
none-by (LiveAtBoth t) s k e A z = absurd (omega arith)
none-by (LiveAtBoth t) s k e B z = absurd (omega arith)

pub offers-none : (setup : Setup) (stage : Stage) (past : List Entry) → IsWorld setup stage past → (x : Side) → (peer x (fabric_at stage)).group ≡ 0 → (s : ℕ) → offered x s past ≡ None
offers-none setup stage past w x z s = let h = w.sockets s in let at = h.stands in at.offer x ∙ none-by stage s h.at h.suits_is x z

-- the socket of first contact
abbrev first-socket : Stage → ℕ
first-socket NoLink = 0
first-socket (Begun t) = t
first-socket (Made t) = t
first-socket (Asking t qp) = t
first-socket (LiveAtA t qp) = t
first-socket (LiveAtBoth t) = t

pub then-it : (t : ℕ) (u v : Bool) → (if t == t then u else v) ≡ true → u ≡ true
then-it t u v e = sym (ap (λ c. if c then u else v) (eq-eqb t t refl)) ∙ e

some-at-two : (k : Socket) → (first_step k == 2) ≡ true → (x : Side) → is_some (offered_at k x) ≡ true
some-at-two (FirstConfirmed o p) e A = refl
some-at-two (FirstConfirmed o p) e B = refl
some-at-two _ e x = cc

some-at-three : (k : Socket) → (first_step k == 3) ≡ true → (x : Side) → is_some (offered_at k x) ≡ true
some-at-three (AwaitsLink o p) e A = refl
some-at-three (AwaitsLink o p) e B = refl
some-at-three _ e x = cc

some-at-four : (k : Socket) → (first_step k == 4) ≡ true → (x : Side) → is_some (offered_at k x) ≡ true
some-at-four (FirstUpAtA o p) e A = refl
some-at-four (FirstUpAtA o p) e B = refl
some-at-four _ e x = cc

some-at-five : (k : Socket) → (first_step k == 5) ≡ true → (x : Side) → is_some (offered_at k x) ≡ true
some-at-five (FirstUp o p) e A = refl
some-at-five (FirstUp o p) e B = refl
some-at-five _ e x = cc

some-at-one : (k : Socket) → (first_step k == 1) ≡ true → is_some (offered_at k B) ≡ true
some-at-one (FirstAccepted o) e = refl
some-at-one _ e = cc

some-by : (stage : Stage) (k : Socket) (x : Side) → suits stage (first-socket stage) k ≡ true → ((peer x (fabric_at stage)).group ≡ 0) ⊎ (is_some (offered_at k x) ≡ true)
some-by NoLink k A e = inl refl
some-by NoLink k B e = inl refl
some-by (Begun t) k A e = inl refl
some-by (Begun t) k B e = inr (some-at-one k (then-it t (first_step k == 1) (is_unoffered k) e))
some-by (Made t) k x e = inr (some-at-two k (then-it t (first_step k == 2) (is_unoffered k) e) x)
some-by (Asking t qp) k x e = inr (some-at-three k (then-it t (first_step k == 3) (is_unoffered k) e) x)
some-by (LiveAtA t qp) k x e = inr (some-at-four k (then-it t (first_step k == 4) (is_unoffered k) e) x)
some-by (LiveAtBoth t) k x e = inr (some-at-five k (then-it t (first_step k == 5) (first_step k == 0) e) x)

some-stays : (a b : Option Offered) → is_some b ≡ true → is_some (option_or a b) ≡ true
some-stays None b e = e
some-stays (Some o) b e = refl

group-is : (stage : Stage) (x : Side) → ((peer x (fabric_at stage)).group ≡ 0) ⊎ ((peer x (fabric_at stage)).group ≡ 1)
group-is NoLink A = inl refl
group-is NoLink B = inl refl
group-is (Begun t) A = inl refl
group-is (Begun t) B = inr refl
group-is (Made t) A = inr refl
group-is (Made t) B = inr refl
group-is (Asking t qp) A = inr refl
group-is (Asking t qp) B = inr refl
group-is (LiveAtA t qp) A = inr refl
group-is (LiveAtA t qp) B = inr refl
group-is (LiveAtBoth t) A = inr refl
group-is (LiveAtBoth t) B = inr refl

-- a group stays
pub groups-stay : (setup : Setup) (from to : Stage) (e : Entry) (older : List Entry) → IsWorld setup from older → IsWorld setup to (e ∷ older) → KeepsGroups from to
groups-stay setup from to e older w v x = by_first (some-by from h.at x h.suits_is) (group-is from x) (group-is to x)
  where
    h : HasSocket setup from (first-socket from) older
    h = w.sockets (first-socket from)

    by_first : ((peer x (fabric_at from)).group ≡ 0) ⊎ (is_some (offered_at h.at x) ≡ true) → ((peer x (fabric_at from)).group ≡ 0) ⊎ ((peer x (fabric_at from)).group ≡ 1) → ((peer x (fabric_at to)).group ≡ 0) ⊎ ((peer x (fabric_at to)).group ≡ 1)
        → ((peer x (fabric_at from)).group ≡ 0) ⊎ ((peer x (fabric_at from)).group ≡ (peer x (fabric_at to)).group)
    by_first (inl z) a b = inl z
    by_first (inr some) (inl z) b = inl z
    by_first (inr some) (inr a) (inr b) = inr (a ∙ sym b)
    by_first (inr some) (inr a) (inl z) =
        let at = h.stands in
        let was : is_some (offered x (first-socket from) older) ≡ true = ap (λ (o : Option Offered). is_some o) (at.offer x) ∙ some in
        let now : is_some (offered x (first-socket from) (e ∷ older)) ≡ true = some-stays (head (filter_map (offer_in x (first-socket from)) e.posts)) (offered x (first-socket from) older) was in
        let none : is_some (offered x (first-socket from) (e ∷ older)) ≡ false = ap (λ (o : Option Offered). is_some o) (offers-none setup to (e ∷ older) v x z (first-socket from)) in
        let wrong : true ≡ false = sym now ∙ none in cc

pub no-group-ends-with : (setup : Setup) (from to : Stage) (e : Entry) (older : List Entry) → IsWorld setup from older → IsWorld setup to (e ∷ older) → (x : Side) (g : ℕ) → loses_group_with x g e older ≡ false
no-group-ends-with setup from to e older w v = keeps-group setup e older from to w.link v.link (groups-stay setup from to e older w v)

pub no-group-ends : (setup : Setup) → IsOneLink setup → (payload : List ℕ) (past : List Entry) (n : ℕ) → IsPlayed setup payload past n → (x : Side) (g : ℕ) → has_ended x g past ≡ false
no-group-ends setup one payload [] n p x g = refl
no-group-ends setup one payload (e ∷ older) n p x g =
    let before = played setup one payload older p.0 p.3 in
    let after = played setup one payload (e ∷ older) n p in
    ap (λ b. b || has_ended x g older) (no-group-ends-with setup before.stage after.stage e older before.world after.world x g) ∙ no-group-ends setup one payload older p.0 p.3 x g

-- which sockets have an end that is up
pub data IsUpAs (x : Side) (k : Socket) : Type 0 where
  in-first : (o p : Offer) → x ≡ A → k ≡ FirstUpAtA o p → IsUpAs x k
  in-both : (o p : Offer) → k ≡ FirstUp o p → IsUpAs x k
  in-later : (o p : Offer) → x ≡ A → k ≡ Confirmed o p → IsUpAs x k
  in-later-both : (o p : Offer) → k ≡ Up o p → IsUpAs x k

pub up-as : (x : Side) (k : Socket) → up_at k x ≡ true → IsUpAs x k
up-as A (FirstUpAtA o p) e = in-first o p refl refl
up-as A (FirstUp o p) e = in-both o p refl
up-as B (FirstUp o p) e = in-both o p refl
up-as A (Confirmed o p) e = in-later o p refl refl
up-as A (Up o p) e = in-later-both o p refl
up-as B (Up o p) e = in-later-both o p refl
up-as A _ e = cc
up-as B _ e = cc

-- what holds of each of them holds of a socket with an end that is up
pub by-up : (P : Socket → Side → Type 0) → ((o p : Offer) → P (FirstUpAtA o p) A) → ((o p : Offer) (x : Side) → P (FirstUp o p) x) → ((o p : Offer) → P (Confirmed o p) A) → ((o p : Offer) (x : Side) → P (Up o p) x)
    → (k : Socket) (x : Side) → up_at k x ≡ true → P k x
by-up P f b l u (FirstUpAtA o p) A e = f o p
by-up P f b l u (FirstUp o p) x e = b o p x
by-up P f b l u (Confirmed o p) A e = l o p
by-up P f b l u (Up o p) x e = u o p x
by-up P f b l u _ A e = cc
by-up P f b l u _ B e = cc

-- an end that is up: both sides have offered
both-at : (x : Side) (k : Socket) → IsUpAs x k → (y : Side) → (o : Offer) × (offered_at k y ≡ on_link o)
both-at x k (in-first o p e f) A = (p, ap (λ j. offered_at j A) f)
both-at x k (in-first o p e f) B = (o, ap (λ j. offered_at j B) f)
both-at x k (in-both o p f) A = (p, ap (λ j. offered_at j A) f)
both-at x k (in-both o p f) B = (o, ap (λ j. offered_at j B) f)
both-at x k (in-later o p e f) A = (p, ap (λ j. offered_at j A) f)
both-at x k (in-later o p e f) B = (o, ap (λ j. offered_at j B) f)
both-at x k (in-later-both o p f) A = (p, ap (λ j. offered_at j A) f)
both-at x k (in-later-both o p f) B = (o, ap (λ j. offered_at j B) f)

pub up-has-offers : (setup : Setup) (stage : Stage) (past : List Entry) → IsWorld setup stage past → (x : Side) (s : ℕ) → is_up x s past ≡ true → (y : Side) → (o : Offer) × (offered y s past ≡ on_link o) × IsOffer setup y o.first o
up-has-offers setup stage past w x s up y =
    let h = w.sockets s in
    let at = h.stands in
    let b = both-at x h.at (up-as x h.at (sym (at.up x) ∙ up)) y in
    let i : IsOffer setup y (is_first h.at) b.0 = at.offers y (record { link = the_link; offer = b.0 }) b.1 in
    (b.0, at.offer y ∙ b.1, subst (λ first. IsOffer setup y first b.0) (sym i.first_is) i)

-- the link is live where an end is up
abbrev pub is_live_at : Side → Stage → Bool
is_live_at A (LiveAtA t qp) = true
is_live_at x (LiveAtBoth t) = true
is_live_at x _ = false

up-live : (stage : Stage) (s : ℕ) (x : Side) (k : Socket) → suits stage s k ≡ true → IsUpAs x k → is_live_at x stage ≡ true
up-live stage s x k e (in-first o p f g) = subst (λ y. is_live_at y stage ≡ true) (sym f) (by_stage stage (subst (λ j. suits stage s j ≡ true) g e))
  where
    by_stage : (st : Stage) → suits st s (FirstUpAtA o p) ≡ true → is_live_at A st ≡ true
    by_stage NoLink h = cc
    by_stage (Begun t) h = absurd (not-both (s == t) h)
    by_stage (Made t) h = absurd (not-both (s == t) h)
    by_stage (Asking t qp) h = absurd (not-both (s == t) h)
    by_stage (LiveAtA t qp) h = refl
    by_stage (LiveAtBoth t) h = refl
up-live stage s x k e (in-both o p g) = by_stage stage x (subst (λ j. suits stage s j ≡ true) g e)
  where
    by_stage : (st : Stage) (y : Side) → suits st s (FirstUp o p) ≡ true → is_live_at y st ≡ true
    by_stage NoLink y h = cc
    by_stage (Begun t) y h = absurd (not-both (s == t) h)
    by_stage (Made t) y h = absurd (not-both (s == t) h)
    by_stage (Asking t qp) y h = absurd (not-both (s == t) h)
    by_stage (LiveAtA t qp) y h = absurd (not-both (s == t) h)
    by_stage (LiveAtBoth t) A h = refl
    by_stage (LiveAtBoth t) B h = refl
up-live stage s x k e (in-later o p f g) =
    let u = live-with stage s (Confirmed o p) refl refl (subst (λ j. suits stage s j ≡ true) g e) in
    ap (λ st. is_live_at x st) u.1 ∙ by-side (λ y. is_live_at y (LiveAtBoth u.0) ≡ true) refl refl x
up-live stage s x k e (in-later-both o p g) =
    let u = live-with stage s (Up o p) refl refl (subst (λ j. suits stage s j ≡ true) g e) in
    ap (λ st. is_live_at x st) u.1 ∙ by-side (λ y. is_live_at y (LiveAtBoth u.0) ≡ true) refl refl x

pub live-where-up : (setup : Setup) (stage : Stage) (past : List Entry) → IsWorld setup stage past → (x : Side) (s : ℕ) → is_up x s past ≡ true → is_live_at x stage ≡ true
live-where-up setup stage past w x s up = let h = w.sockets s in let at = h.stands in up-live stage s x h.at h.suits_is (up-as x h.at (sym (at.up x) ∙ up))

-- the peer's key is known there, and bound at the peer
known-at : (stage : Stage) (x : Side) → is_live_at x stage ≡ true → (book_at x stage ≡ the_key (other x) ∷ []) × (keys_at (other x) stage ≡ the_keys (other x))
known-at (LiveAtA t qp) A e = (refl, refl)
known-at (LiveAtBoth t) A e = (refl, refl)
known-at (LiveAtBoth t) B e = (refl, refl)
known-at _ A e = cc
known-at _ B e = cc

bound-at : (x : Side) → bound 1 the_link (the_key x ∷ []) ≡ Some (the_key x).key
bound-at A = refl
bound-at B = refl

pub up-knows-key : (setup : Setup) (stage : Stage) (past : List Entry) → IsWorld setup stage past → (x : Side) (s : ℕ) → is_up x s past ≡ true
    → (bound 1 the_link (book_of x past) ≡ Some (the_key (other x)).key) × (last_bound (other x) 1 the_link past ≡ Some (the_key (other x)).key)
up-knows-key setup stage [] w x s up = cc
up-knows-key setup stage (e ∷ older) w x s up =
    let at = w.link in
    let k = known-at stage x (live-where-up setup stage (e ∷ older) w x s up) in (
      ap (λ (ks : List Key). bound 1 the_link ks) (at.book x ∙ k.0) ∙ bound-at (other x),
      ap (λ (ks : Keys). option_or (bound 1 the_link ks.keys) (last_bound (other x) 1 the_link older)) (at.keys (other x) ∙ k.1)
          ∙ ap (λ (o : Option ℕ). option_or o (last_bound (other x) 1 the_link older)) (bound-at (other x)),
    )

-- no message waits for an end that is up
none-waits-at : (setup : Setup) (x : Side) (k : Socket) → IsUpAs x k → untaken_at setup k (other x) ≡ []
none-waits-at setup x k (in-first o p e f) = ap (λ j. untaken_at setup j (other x)) f
none-waits-at setup x k (in-both o p f) = ap (λ j. untaken_at setup j (other x)) f
none-waits-at setup x k (in-later o p e f) = ap (λ j. untaken_at setup j (other x)) f ∙ ap (λ y. untaken_at setup (Confirmed o p) (other y)) e
none-waits-at setup x k (in-later-both o p f) = ap (λ j. untaken_at setup j (other x)) f

pub none-waits-for-up : (setup : Setup) (stage : Stage) (past : List Entry) → IsWorld setup stage past → (x : Side) (s : ℕ) → is_up x s past ≡ true → untaken (other x) s past ≡ []
none-waits-for-up setup stage past w x s up = let h = w.sockets s in let at = h.stands in at.messages (other x) ∙ none-waits-at setup x h.at (up-as x h.at (sym (at.up x) ∙ up))

-- groups are few
groups-few : (stage : Stage) → groups_at stage ≤ 1
groups-few NoLink = omega arith
groups-few (Begun t) = omega arith
groups-few (Made t) = omega arith
groups-few (Asking t qp) = omega arith
groups-few (LiveAtA t qp) = omega arith
groups-few (LiveAtBoth t) = omega arith

pub few-groups : (setup : Setup) (stage : Stage) (past : List Entry) → IsAtStage setup stage past → groups_begun past ≤ 1
few-groups setup stage past at = let few = groups-few stage in let same = at.groups in omega (arith, few, same)

pub few-at : (setup : Setup) (stage : Stage) (past : List Entry) → IsAtStage setup stage past → (x : Side) → group_of x past ≤ 1
few-at setup stage past at x = by_group (group-is stage x)
  where
    same : group_of x past ≡ (peer x (fabric_at stage)).group
    same = ap (λ (f : Fabric). (peer x f).group) at.fabric_is

    by_group : ((peer x (fabric_at stage)).group ≡ 0) ⊎ ((peer x (fabric_at stage)).group ≡ 1) → group_of x past ≤ 1
    by_group (inl z) = let zero_now : group_of x past ≡ 0 = same ∙ z in omega arith
    by_group (inr i) = let one_now : group_of x past ≡ 1 = same ∙ i in omega arith
