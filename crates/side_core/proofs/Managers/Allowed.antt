-- What a manager may do with a message that comes to it.
-- A reader learns here, step by step of the handshake, that all which the step needs is there.
use Rattle.std.proofs.Common.{◌≡◌, ◌∙◌, ℕ, ◌<◌, ◌≤◌, ◌==◌, Bool, true, false, List, length, Option, Some, None, IsSome, option_map, is_some, refl, sym, ap, subst, arith, true≢false}
use Rattle.std.proofs.lemmas.Bool.{eq-eqb, and_from}
use Rattle.smc_num.specs.declared.LinkId.{LinkId}
use Rattle.clc_wire.specs.declared.offer.Offer.{Offer}
use Rattle.clc_wire.specs.declared.message.ClcMessage.{ClcMessage}
use Rattle.clc_wire.specs.declared.message.ClcMessage.TheVariants.{Proposal, Accept, Confirm, Decline as DeclineMessage}
use Rattle.pipe_model.specs.declared.verdict.ClcStep.{ClcStep}
use Rattle.pipe_model.specs.declared.verdict.ClcStep.TheVariants.{SendAccept, SendConfirm, AskKey, Wait, Decline, Fell, Ready, Lost, Wrong}
use Rattle.pipe_model.specs.Words.{passes}
use Rattle.pipe_model.specs.Ends.{Half}
use Rattle.pipe_model.specs.Connections.{EndState, WaitsProposal, WaitsAnswer, WaitsConfirm}
use Rattle.conn_end.specs.Kept.{Kept}
use Rattle.side_core.specs.declared.route.Route.{Route}
use Rattle.side_core.specs.Records.{Connection, Records, conn_at, route_at, is_aimed_at, aimer, StandsAt, AllStand}
use Rattle.side_core.specs.Setups.{CanStart, CanBegin}
use Rattle.side_core.specs.Desk.{Desk, lacks_of}
use Rattle.side_core.specs.Manager.{Manager, hand_at, state_at}
use Rattle.side_core.specs.Acting.{IsSoundAt}
use Rattle.side_core.specs.Taking.{verdict_at, IsOffer, MayHear, MayLend, MayTake}
use Rattle.side_core.specs.Fit.{Suits, HasElement, IsFit, beside, IsAwaiting, MayQuit, Allows}
use Rattle.side_core.proofs.Elements.{above_none, free_count, some_free, key_known, alike_position, Tells, told}

-- records that stand for plain ones have their routes
route_same : (k : Option (Connection Kept)) (c : Option (Connection Half)) → StandsAt k c → option_map (λ (x : Connection Kept). x.route) k ≡ option_map (λ (x : Connection Half). x.route) c
route_same None None stands = refl
route_same (Some k) (Some c) stands = ap Some stands.route
route_same None (Some c) stands = absurd stands
route_same (Some k) None stands = absurd stands

pub routes_same : (s : ℕ) (r : Records Kept) (p : Records Half) → AllStand r p → route_at s r ≡ route_at s p
routes_same s r p all = route_same (conn_at s r) (conn_at s p) (all.each s)

-- and their tokens name the same sockets
aimed_same : (token : ℕ) (k : Option (Connection Kept)) (c : Option (Connection Half)) → StandsAt k c → is_aimed_at token k ≡ is_aimed_at token c
aimed_same token None None stands = refl
aimed_same token (Some k) (Some c) stands = ap (λ (x : Route). passes (λ (o : Offer). o.token == token) x.peer) stands.route
aimed_same token None (Some c) stands = absurd stands
aimed_same token (Some k) None stands = absurd stands

pub aimers_same : (token : ℕ) (r : Records Kept) (p : Records Half) → AllStand r p → aimer token r ≡ aimer token p
aimers_same token r p all = alike_position (is_aimed_at token) (is_aimed_at token) r.by_socket p.by_socket None None all.sockets (λ k. aimed_same token (conn_at k r) (conn_at k p) (all.each k))

no_route : (k : Option (Connection Kept)) → option_map (λ (x : Connection Kept). x.route) k ≡ None → k ≡ None
no_route None e = refl
no_route (Some k) e = absurd (true≢false (ap is_some e))

-- where an end waits for a Proposal or for an answer it has no connection
pub none_before : (state : EndState) (o : Option Route) → Suits state o → state ≡ WaitsProposal → o ≡ None
none_before state o suits e = by_route o (subst (λ x. Suits x o) e suits)
  where
    by_route : (x : Option Route) → Suits WaitsProposal x → x ≡ None
    by_route None fits = refl
    by_route (Some r) fits = absurd fits

pub none_answered : (state : EndState) (o : Option Route) → Suits state o → state ≡ WaitsAnswer → o ≡ None
none_answered state o suits e = by_route o (subst (λ x. Suits x o) e suits)
  where
    by_route : (x : Option Route) → Suits WaitsAnswer x → x ≡ None
    by_route None fits = refl
    by_route (Some r) fits = absurd fits

-- the offer of the peer is one of the same records
pub offer_beside : (o : Offer) (link : LinkId) (d : Desk) (r : Records Kept) (m : Manager Half) → AllStand r m.records → IsOffer o link m → IsOffer o link (beside d r)
offer_beside o link d r m all offer = record {
  slot = offer.slot;
  group = offer.group;
  named = offer.named;
  rmb = offer.rmb;
  index = offer.index;
  token = offer.token;
  within = subst (λ n. o.token ≤ n) (sym all.sockets) offer.within;
  new = aimers_same o.token r m.records all ∙ offer.new;
}

-- an element can be lent
pub can_start : (s : ℕ) (m : Manager Half) (r : Records Kept) → IsFit m → AllStand r m.records → s < length m.hands → 0 < m.records.spare → m.records.tokens < length m.records.by_socket → route_at s m.records ≡ None → CanStart s m.desk r
can_start s m r fit all within room tokens none = record {
  free = some_free m.desk.rows (subst (λ n. 0 < n) fit.spare room);
  epochs = λ k d below. let few = fit.epochs k d below in omega (arith, few, fit.tokens, fit.records, fit.set.sockets);
  none = no_route (conn_at s r) (routes_same s r m.records all ∙ none);
  socket = omega (arith, within, fit.sockets, fit.records, all.sockets);
  few = omega (arith, all.sockets, fit.records, fit.set.sockets);
  spare = subst (λ n. 0 < n) (sym all.spare) room;
  tokens = omega (arith, all.sockets, all.tokens, tokens);
}

-- what a free element says of the room for connections
pub room_from : (m : Manager Half) → IsFit m → (free_count m.desk.rows == 0) ≡ false → 0 < m.records.spare
room_from m fit free = subst (λ n. 0 < n) (sym fit.spare) (above_none (free_count m.desk.rows) free)

-- a lent element may be given back
pub may_quit : (s : ℕ) (d : Desk) (o : Option Route) → HasElement s d o → MayQuit d o
may_quit s d None has = tt
may_quit s d (Some r) has = subst (λ x. IsSome x) (sym has.0.lending) refl

awaits_on : (link : LinkId) (o : Option Route) → option_map (λ (r : Route). r.link) o ≡ Some link → Suits WaitsConfirm o → IsAwaiting link o
awaits_on link None on suits = absurd (true≢false (sym (ap is_some on)))
awaits_on link (Some r) on suits = (let e : r.link ≡ link = cc in e, suits.1)

-- an offer names a group
pub named_group : (o : Offer) (link : LinkId) (m : Manager Half) → IsOffer o link m → o.psn ≡ m.desk.group → (m.desk.group == 0) ≡ false
named_group o link m offer same = ap (λ n. n == 0) (sym same ∙ offer.group) ∙ offer.named

-- what is told by the verdict on a message
pub tells : (s : ℕ) (message : ClcMessage) (paths : List Bool) (m : Manager Half) (step : ClcStep) → step ≡ verdict_at s message paths m → Tells step (state_at s m) message (lacks_of paths m.desk)
tells s message paths m step e = subst (λ x. Tells x (state_at s m) message (lacks_of paths m.desk)) (sym e) (told (hand_at s m).raw (state_at s m) message (lacks_of paths m.desk))

-- the key of the one RMB is never asked for
pub asks_no_key : (s : ℕ) (message : ClcMessage) (link : LinkId) (paths : List Bool) (m : Manager Half) → IsFit m → MayTake s message link paths m → AskKey ≡ verdict_at s message paths m → ⊥
asks_no_key s message link paths m fit may e = by_message message may.hears (tells s message paths m AskKey e)
  where
    never : (m.desk.group == 0) ≡ false → (free_count m.desk.rows == 0) ≡ false → (lacks_of paths m.desk).rmb_ready ≡ false → ⊥
    never group free lacks = true≢false (sym (key_known m.desk _ fit.places (fit.confirmed group) (above_none (free_count m.desk.rows) free)) ∙ lacks)

    by_message : (x : ClcMessage) → MayHear s x link m → Tells AskKey (state_at s m) x (lacks_of paths m.desk) → ⊥
    by_message (Proposal p) hears t = never t.1 t.0.0 t.0.1
    by_message (Accept o) hears t = never (named_group o link m hears.0 t.1) t.0.0 t.0.1
    by_message (Confirm o) hears t = absurd t
    by_message (DeclineMessage r) hears t = absurd t

-- each step of the handshake has what it needs
pub allowed : (s : ℕ) (message : ClcMessage) (link : LinkId) (paths : List Bool) (m : Manager Half) (r : Records Kept) (step : ClcStep) → IsFit m → MayTake s message link paths m → step ≡ verdict_at s message paths m → AllStand r m.records → IsSoundAt r.terms.size (conn_at s r) → Allows s step message link paths m.desk r
allowed s message link paths m r step fit may e all sound = by_step step message may.hears may.tokens (tells s message paths m step e)
  where
    begins : m.desk.group ≡ 0 → CanBegin m.desk
    begins none = record { none = none; begun = may.begun; serial = may.serial; made = may.made }

    starts : m.records.tokens < length m.records.by_socket → 0 < m.records.spare → route_at s m.records ≡ None → CanStart s m.desk r
    starts lend room none = can_start s m r fit all may.socket room lend none

    quits : MayQuit m.desk (route_at s r)
    quits = subst (λ o. MayQuit m.desk o) (sym (routes_same s r m.records all)) (may_quit s m.desk (route_at s m.records) (fit.elements s))

    by_step : (x : ClcStep) (y : ClcMessage) → MayHear s y link m → MayLend y m → Tells x (state_at s m) y (lacks_of paths m.desk) → Allows s x y link paths m.desk r
    by_step (SendAccept true) (Proposal p) hears lend t = (starts lend (room_from m fit t.free) (none_before (state_at s m) (route_at s m.records) (fit.suits s) t.state), begins t.group, may.slots)
    by_step (SendAccept false) (Proposal p) hears lend t = (starts lend (room_from m fit t.free) (none_before (state_at s m) (route_at s m.records) (fit.suits s) t.state), t.group, fit.live t.group t.first, fit.slot)
    by_step (SendConfirm true) (Accept o) hears lend t = (
      starts lend (fit.room (eq-eqb m.desk.group 0 t.group)) (none_answered (state_at s m) (route_at s m.records) (fit.suits s) t.state),
      begins t.group,
      offer_beside o link m.desk r m all hears.0,
      hears.1 (and_from o.first (m.desk.group == 0) t.first (eq-eqb m.desk.group 0 t.group)),
    )
    by_step (SendConfirm false) (Accept o) hears lend t = (
      starts lend (room_from m fit t.free) (none_answered (state_at s m) (route_at s m.records) (fit.suits s) t.state),
      named_group o link m hears.0 t.group,
      offer_beside o link m.desk r m all hears.0,
    )
    by_step Ready (Confirm o) hears lend t = (
      subst (λ x. IsAwaiting link x) (sym (routes_same s r m.records all)) (awaits_on link (route_at s m.records) hears.1 (subst (λ x. Suits x (route_at s m.records)) t (fit.suits s))),
      offer_beside o link m.desk r m all hears.0,
      sound,
    )
    by_step (Decline lack) y hears lend t = quits
    by_step Fell y hears lend t = quits
    by_step Lost y hears lend t = quits
    by_step (Wrong kind) y hears lend t = quits
    by_step AskKey y hears lend t = tt
    by_step (Wait hold) y hears lend t = tt
    by_step x y hears lend t = absurd t
