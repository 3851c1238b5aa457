-- What a manager that fits together has at a socket.
-- A reader learns here that an end which is up, or waits for its link, has a connection whose peer is known.
use Rattle.std.proofs.Common.{◌≡◌, ◌∙◌, ℕ, ◌<◌, ◌≤◌, ◌^◌, ◌+◌, ◌==◌, ◌&&◌, Bool, true, List, length, Option, Some, None, IsSome, IfSome, IsSomeAnd, option_map, refl, sym, ap, subst, arith, true≢false}
use Rattle.std.specs.Prelude.{slice_index_or}
use Rattle.smc_num.specs.declared.LinkId.{LinkId}
use Rattle.smc_num.specs.Places.{rmb_at}
use Rattle.clc_wire.specs.declared.offer.Offer.{Offer}
use Rattle.clc_wire.specs.declared.message.ClcMessage.{ClcMessage}
use Rattle.clc_wire.specs.declared.message.ClcMessage.TheVariants.{Proposal, Accept, Confirm, Decline}
use Rattle.clc_handshake.specs.Stages.{Hand}
use Rattle.pipe_model.specs.Ends.{Half}
use Rattle.pipe_model.specs.Connections.{IsUp, WaitsLink}
use Rattle.conn_end.specs.Kept.{Kept}
use Rattle.side_core.specs.declared.route.Route.{Route}
use Rattle.side_core.specs.Records.{Connection, IsSmall, conn_at, route_at}
use Rattle.side_core.specs.Desk.{Desk, made_on}
use Rattle.side_core.specs.Manager.{Manager, Represents, no_hand, state_at}
use Rattle.side_core.specs.Acting.{IsSoundAt, IsRising}
use Rattle.pipe_model.specs.Replies.{expects}
use Rattle.side_core.specs.Taking.{MayTake, MayLend, MayHear, IsOffer, IsNext}
use Rattle.side_core.specs.Fit.{Suits, HasElement, IsManager}
use Rattle.side_core.proofs.Managers.Allowed.{routes_same, aimers_same}

-- the counts of an end that is sound are far from the end of a u64
pub small_of : (size : ℕ) (k : Option (Connection Kept)) → IsSoundAt size k → IsSmall k
small_of size None sound = tt
small_of size (Some k) sound = (sound.accepted, sound.number)

-- the plain manager has the same handshakes and routes
pub same_state : (s : ℕ) (v : Manager Kept) (m : Manager Half) → Represents v m → state_at s v ≡ state_at s m
same_state s v m stands = ap (λ (hands : List Hand). (slice_index_or hands s no_hand).state) stands.hands

pub same_route : (s : ℕ) (v : Manager Kept) (m : Manager Half) → Represents v m → route_at s v.records ≡ route_at s m.records
same_route s v m stands = routes_same s v.records m.records stands.works.records

-- what the state of an end says of its connection
pub suits_here : (s : ℕ) (v : Manager Kept) → IsManager v → Suits (state_at s v) (route_at s v.records)
suits_here s v i =
    subst (λ e. Suits e (route_at s v.records)) (sym (same_state s v i.plain i.stands))
    (subst (λ o. Suits (state_at s i.plain) o) (sym (same_route s v i.plain i.stands)) (i.fit.suits s))

pub has_here : (s : ℕ) (v : Manager Kept) → IsManager v → HasElement s v.desk (route_at s v.records)
has_here s v i =
    subst (λ (d : Desk). HasElement s d (route_at s v.records)) (sym i.stands.works.desk)
    (subst (λ o. HasElement s i.plain.desk o) (sym (same_route s v i.plain i.stands)) (i.fit.elements s))

conn_of_route : (k : Option (Connection Kept)) → IsSome (option_map (λ (c : Connection Kept). c.route) k) → IsSome k
conn_of_route None some = some
conn_of_route (Some k) some = refl

up_route : (o : Option Route) → Suits IsUp o → IsSome o
up_route None suits = absurd suits
up_route (Some r) suits = refl

-- an end that is up has a connection
pub up_has : (s : ℕ) (v : Manager Kept) → IsManager v → state_at s v ≡ IsUp → IsSome (conn_at s v.records)
up_has s v i up = conn_of_route (conn_at s v.records) (up_route (route_at s v.records) (subst (λ e. Suits e (route_at s v.records)) up (suits_here s v i)))

peer_of : (s : ℕ) (d : Desk) (o : Option Route) → HasElement s d o → IfSome o (λ (r : Route). IfSome r.peer (λ (p : Offer). rmb_at p.address < 256))
peer_of s d None has = tt
peer_of s d (Some r) has = by_peer r.peer has.1
  where
    by_peer : (p : Option Offer) → IfSome p (λ (o : Offer). (rmb_at o.address ≡ 1) × (1 ≤ o.index)) → IfSome p (λ (o : Offer). rmb_at o.address < 256)
    by_peer None has = tt
    by_peer (Some o) has = let e = has.0 in omega (arith, e)

-- the peer's offer of a connection names its one RMB
pub peer_here : (s : ℕ) (v : Manager Kept) → IsManager v → IfSome (route_at s v.records) (λ (r : Route). IfSome r.peer (λ (p : Offer). rmb_at p.address < 256))
peer_here s v i = peer_of s v.desk (route_at s v.records) (has_here s v i)

waiting_route : (o : Option Route) → Suits WaitsLink o → IfSome o (λ (r : Route). IfSome r.peer (λ (p : Offer). rmb_at p.address < 256)) → IsSomeAnd o (λ (r : Route). IsSomeAnd r.peer (λ (p : Offer). rmb_at p.address < 256))
waiting_route None suits low = absurd suits
waiting_route (Some r) suits low = by_peer r.peer suits.1 low
  where
    by_peer : (p : Option Offer) → IsSome p → IfSome p (λ (o : Offer). rmb_at o.address < 256) → IsSomeAnd p (λ (o : Offer). rmb_at o.address < 256)
    by_peer None some low = absurd (true≢false (sym some))
    by_peer (Some o) some low = low

-- an end that waits for its link may be established
pub rises_here : (s : ℕ) (v : Manager Kept) (hand : Hand) → IsManager v → state_at s v ≡ WaitsLink → hand.state ≡ WaitsLink → IsSoundAt v.records.terms.size (conn_at s v.records) → IsRising s v.records hand
rises_here s v hand i waits here sound = record {
  there = waiting_route (route_at s v.records) (subst (λ e. Suits e (route_at s v.records)) waits (suits_here s v i)) (peer_here s v i);
  sound = sound;
  waits = here;
}

-- what may come to a manager may come to the plain one
offer_plain : (o : Offer) (link : LinkId) (v : Manager Kept) (m : Manager Half) → Represents v m → IsOffer o link v → IsOffer o link m
offer_plain o link v m stands offer = record {
  slot = offer.slot;
  group = offer.group;
  named = offer.named;
  rmb = offer.rmb;
  index = offer.index;
  token = offer.token;
  within = subst (λ n. o.token ≤ n) stands.works.records.sockets offer.within;
  new = sym (aimers_same o.token v.records m.records stands.works.records) ∙ offer.new;
}

next_plain : (o : Offer) (link : LinkId) (v : Manager Kept) (m : Manager Half) → Represents v m → IsNext o link v → IsNext o link m
next_plain o link v m stands next = subst (λ (d : Desk). (o.first && (d.group == 0)) ≡ true → link.incarnation ≡ made_on link.slot d + 1) stands.works.desk next

hear_plain : (s : ℕ) (message : ClcMessage) (link : LinkId) (v : Manager Kept) (m : Manager Half) → Represents v m → MayHear s message link v → MayHear s message link m
hear_plain s (Proposal p) link v m stands hears = tt
hear_plain s (Accept o) link v m stands hears = (offer_plain o link v m stands hears.0, next_plain o link v m stands hears.1)
hear_plain s (Confirm o) link v m stands hears = (offer_plain o link v m stands hears.0, ap (option_map (λ (r : Route). r.link)) (sym (same_route s v m stands)) ∙ hears.1)
hear_plain s (Decline r) link v m stands hears = tt

lend_plain : (message : ClcMessage) (v : Manager Kept) (m : Manager Half) → Represents v m → MayLend message v → MayLend message m
lend_plain (Proposal p) v m stands lend = subst (λ n. n < length m.records.by_socket) stands.works.records.tokens (subst (λ n. v.records.tokens < n) stands.works.records.sockets lend)
lend_plain (Accept o) v m stands lend = subst (λ n. n < length m.records.by_socket) stands.works.records.tokens (subst (λ n. v.records.tokens < n) stands.works.records.sockets lend)
lend_plain (Confirm o) v m stands lend = tt
lend_plain (Decline r) v m stands lend = tt

pub take_plain : (s : ℕ) (message : ClcMessage) (link : LinkId) (paths : List Bool) (v : Manager Kept) (m : Manager Half) → Represents v m → MayTake s message link paths v → MayTake s message link paths m
take_plain s message link paths v m stands may = record {
  socket = subst (λ (hands : List Hand). s < length hands) stands.hands may.socket;
  waits = ap expects (sym (same_state s v m stands)) ∙ may.waits;
  hears = hear_plain s message link v m stands may.hears;
  slots = may.slots;
  tokens = lend_plain message v m stands may.tokens;
  begun = subst (λ (d : Desk). d.begun < 2 ^ 31) stands.works.desk may.begun;
  serial = subst (λ (d : Desk). d.serial < 2 ^ 20) stands.works.desk may.serial;
  made = subst (λ (d : Desk). made_on 1 d < 2 ^ 31) stands.works.desk may.made;
}
