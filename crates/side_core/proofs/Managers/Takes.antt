-- What a message leaves together.
-- A reader learns here, step by step of the handshake, that all fits in a manager that has taken one.
use Rattle.std.proofs.Common.{◌≡◌, ℕ, ◌+◌, ◌<◌, ◌==◌, if◌then◌else◌, Bool, true, false, List, length, Option, Some, None, refl, sym, subst, arith}
use Rattle.std.proofs.lemmas.Bool.{eq-eqb, ne_eqb}
use Rattle.smc_num.specs.declared.LinkId.{LinkId}
use Rattle.clc_wire.specs.declared.offer.Offer.{Offer}
use Rattle.clc_wire.specs.declared.message.ClcMessage.{ClcMessage}
use Rattle.clc_wire.specs.declared.message.ClcMessage.TheVariants.{Proposal, Accept, Confirm}
use Rattle.pipe_model.specs.declared.verdict.ClcStep.{ClcStep}
use Rattle.pipe_model.specs.declared.verdict.ClcStep.TheVariants.{SendAccept, SendConfirm, AskKey, Wait, Decline, Fell, Ready, Lost, Wrong}
use Rattle.pipe_model.specs.Ends.{Half}
use Rattle.pipe_model.specs.Connections.{WaitsConfirm, WaitsLink, IsUp}
use Rattle.clc_handshake.specs.Stages.{Hand, after_step, after_confirm}
use Rattle.side_core.specs.Records.{Connection, conn_at, route_at}
use Rattle.side_core.specs.Desk.{Desk, lacks_of, first_link, next_place, begins_group, makes_link, learns_offer}
use Rattle.side_core.specs.Manager.{Manager, hand_at, state_at, with_hand}
use Rattle.side_core.specs.Taking.{verdict_at, offered_link, with_desk, starts, hears, rises_at, quits, quits_from, accepts, first_confirms, later_confirms, is_ready, by_verdict, takes_message, MayHear, MayLend, MayTake, IsOffer}
use Rattle.side_core.specs.Fit.{Suits, IsFit}
use Rattle.side_core.proofs.Elements.{Tells}
use Rattle.side_core.proofs.Managers.Allowed.{tells, named_group, room_from}
use Rattle.side_core.proofs.Sockets.{seated, sits}
use Rattle.side_core.proofs.Managers.Steps.{aimed_suits, aimed_route, hears_seat, risen_suits, risen_route, rises_seat, starts_seat, starts_route, group_seat, first_seat, learns_seat, quits_seat, quits_route}

-- an end that goes leaves all handshakes
quits_hands : (s : ℕ) (m : Manager Half) → (quits s m).hands ≡ m.hands
quits_hands s m = by_conn (conn_at s m.records)
  where
    by_conn : (o : Option (Connection Half)) → (quits_from s o m).hands ≡ m.hands
    by_conn None = refl
    by_conn (Some c) = refl

module _ (s : ℕ) (m : Manager Half) (fit : IsFit m) (within : s < length m.hands) where
  -- it lies among the connections as well
  socket : s < length m.records.by_socket
  socket = omega (arith, within, fit.sockets, fit.records)

  -- a connection that has begun waits for a Confirm
  begun_suits : (link : LinkId) (n : Manager Half) → s < length n.records.by_socket → Suits WaitsConfirm (route_at s (starts s link n).records)
  begun_suits link n here = subst (λ o. Suits WaitsConfirm o) (sym (starts_route s link n here)) (refl, refl)

  -- one that has learnt what its peer offers waits for its link, or is established
  heard_suits : (o : Offer) (n : Manager Half) → Suits WaitsConfirm (route_at s n.records) → Suits WaitsLink (route_at s (hears s o n).records)
  heard_suits o n suits = subst (λ x. Suits WaitsLink x) (sym (aimed_route s o n.records)) (aimed_suits o (route_at s n.records) suits)

  up_suits : (n : Manager Half) → Suits WaitsLink (route_at s n.records) → Suits IsUp (route_at s (rises_at s n).records)
  up_suits n suits = subst (λ x. Suits IsUp x) (sym (risen_route s n.records)) (risen_suits (route_at s n.records) suits)

  -- the server offers an element in first contact
  pub first_accepts_fit : (raw : Bool) (link : LinkId) → m.desk.group ≡ 0 → (link.group == 0) ≡ false → m.records.tokens < length m.records.by_socket → IsFit (with_hand s (record { raw = raw; state = WaitsConfirm }) (accepts s true link m))
  first_accepts_fit raw link none named tokens =
      sits s (record { raw = raw; state = WaitsConfirm }) (accepts s true link m)
      (starts_seat s link (with_desk (begins_group s link (next_place m.desk).rmb) m) (group_seat s link m (seated s m fit) none named) socket tokens (fit.room (eq-eqb m.desk.group 0 none)) named)
      within
      (begun_suits link (with_desk (begins_group s link (next_place m.desk).rmb) m) socket)

  -- and in later contact
  pub later_accepts_fit : (raw : Bool) (link : LinkId) → (m.desk.group == 0) ≡ false → 0 < m.records.spare → m.records.tokens < length m.records.by_socket → IsFit (with_hand s (record { raw = raw; state = WaitsConfirm }) (accepts s false link m))
  later_accepts_fit raw link group room tokens =
      sits s (record { raw = raw; state = WaitsConfirm }) (accepts s false link m)
      (starts_seat s link m (seated s m fit) socket tokens room group)
      within
      (begun_suits link m socket)

  -- the client confirms a first contact
  pub first_confirms_fit : (raw : Bool) (link : LinkId) (o : Offer) → IsOffer o link m → m.desk.group ≡ 0 → m.records.tokens < length m.records.by_socket → IsFit (with_hand s (record { raw = raw; state = WaitsLink }) (first_confirms s link o m))
  first_confirms_fit raw link o offer none tokens =
      let begun : Manager Half = with_desk (λ d. learns_offer link o (makes_link link (begins_group s link (next_place d).rmb d))) m in
      sits s (record { raw = raw; state = WaitsLink }) (first_confirms s link o m)
      (hears_seat s o (starts s link begun) offer.rmb offer.index
      (starts_seat s link begun (first_seat s link o m (seated s m fit) none offer.slot offer.named) socket tokens (fit.room (eq-eqb m.desk.group 0 none)) offer.named))
      within
      (heard_suits o (starts s link begun) (begun_suits link begun socket))

  -- and a later one
  pub later_confirms_fit : (raw : Bool) (link : LinkId) (o : Offer) → IsOffer o link m → (m.desk.group == 0) ≡ false → 0 < m.records.spare → m.records.tokens < length m.records.by_socket → IsFit (with_hand s (record { raw = raw; state = IsUp }) (later_confirms s link o m))
  later_confirms_fit raw link o offer group room tokens =
      sits s (record { raw = raw; state = IsUp }) (later_confirms s link o m)
      (rises_seat s (hears s o (starts s link m)) (hears_seat s o (starts s link m) offer.rmb offer.index (starts_seat s link m (seated s m fit) socket tokens room group)))
      within
      (up_suits (hears s o (starts s link m)) (heard_suits o (starts s link m) (begun_suits link m socket)))

  -- the server takes a Confirm
  pub ready_fit : (raw : Bool) (link : LinkId) (o : Offer) → IsOffer o link m → state_at s m ≡ WaitsConfirm → IsFit (with_hand s (record { raw = raw; state = after_confirm o.first }) (is_ready s link o m))
  ready_fit raw link o offer state = by_first o.first
    where
      waits : Suits WaitsConfirm (route_at s m.records)
      waits = subst (λ x. Suits x (route_at s m.records)) state (fit.suits s)

      by_first : (b : Bool) → IsFit (with_hand s (record { raw = raw; state = after_confirm b }) (if b then hears s o (with_desk (learns_offer link o) m) else rises_at s (hears s o m)))
      by_first true = sits s (record { raw = raw; state = WaitsLink }) (hears s o (with_desk (learns_offer link o) m)) (hears_seat s o (with_desk (learns_offer link o) m) offer.rmb offer.index (learns_seat s link o m (seated s m fit))) within (heard_suits o (with_desk (learns_offer link o) m) waits)
      by_first false = sits s (record { raw = raw; state = IsUp }) (rises_at s (hears s o m)) (rises_seat s (hears s o m) (hears_seat s o m offer.rmb offer.index (seated s m fit))) within (up_suits (hears s o m) (heard_suits o m waits))

  -- an end goes without a connection
  pub quits_fit : (h : Hand) → Suits h.state None → IsFit (with_hand s h (quits s m))
  quits_fit h suits = sits s h (quits s m) (quits_seat s m (seated s m fit)) (subst (λ hs. s < length hs) (sym (quits_hands s m)) within) (subst (λ o. Suits h.state o) (sym (quits_route s m)) suits)

  -- a message that waits changes nothing
  pub waits_fit : IsFit (with_hand s (record (hand_at s m) { state = state_at s m }) m)
  waits_fit = sits s (record (hand_at s m) { state = state_at s m }) m (seated s m fit) within (fit.suits s)

-- the link of first contact names a group
first_named : (paths : List Bool) (d : Desk) → ((first_link paths d).group == 0) ≡ false
first_named paths d = ne_eqb (d.begun + 1) 0 (λ e. omega (arith, e))

-- what fits, fits in a manager that has taken a message
pub takes_fit : (s : ℕ) (message : ClcMessage) (link : LinkId) (paths : List Bool) (m : Manager Half) → IsFit m → MayTake s message link paths m → IsFit (takes_message s message link paths m)
takes_fit s message link paths m fit may = by_step (verdict_at s message paths m) message may.hears may.tokens (tells s message paths m (verdict_at s message paths m) refl)
  where
    by_step : (x : ClcStep) (y : ClcMessage) → MayHear s y link m → MayLend y m → Tells x (state_at s m) y (lacks_of paths m.desk) → IsFit (with_hand s (record (hand_at s m) { state = after_step x y (state_at s m) }) (by_verdict s y link paths m x))
    by_step (SendAccept true) (Proposal p) hears lend t = first_accepts_fit s m fit may.socket (hand_at s m).raw (first_link paths m.desk) t.group (first_named paths m.desk) lend
    by_step (SendAccept false) (Proposal p) hears lend t = later_accepts_fit s m fit may.socket (hand_at s m).raw (offered_link false paths m) t.group (room_from m fit t.free) lend
    by_step (SendConfirm true) (Accept o) hears lend t = first_confirms_fit s m fit may.socket (hand_at s m).raw link o hears.0 t.group lend
    by_step (SendConfirm false) (Accept o) hears lend t = later_confirms_fit s m fit may.socket (hand_at s m).raw link o hears.0 (named_group o link m hears.0 t.group) (room_from m fit t.free) lend
    by_step Ready (Confirm o) hears lend t = ready_fit s m fit may.socket (hand_at s m).raw link o hears.0 t
    by_step (Decline lack) y hears lend t = quits_fit s m fit may.socket _ tt
    by_step Fell y hears lend t = quits_fit s m fit may.socket _ tt
    by_step Lost y hears lend t = quits_fit s m fit may.socket _ tt
    by_step (Wrong kind) y hears lend t = quits_fit s m fit may.socket _ tt
    by_step AskKey y hears lend t = waits_fit s m fit may.socket
    by_step (Wait hold) y hears lend t = waits_fit s m fit may.socket
    by_step x y hears lend t = absurd t
