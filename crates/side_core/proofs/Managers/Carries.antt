-- What a caller must see to is so for a manager where it is so for the plain one for which it stands.
use Rattle.std.proofs.Common.{◌≡◌, ◌∙◌, ℕ, ◌+◌, ◌^◌, ◌≤◌, ◌<◌, ◌==◌, ◌&&◌, Bool, true, false, List, length, Option, Some, None, option_map, is_some, unwrap_or, refl, sym, ap, subst, arith, true≢false}
use Rattle.std.specs.Prelude.{slice_index_or}
use Rattle.smc_num.specs.declared.LinkId.{LinkId}
use Rattle.smc_num.specs.declared.LinkPhase.TheVariants.{Pending}
use Rattle.smc_num.specs.Links.{link_at, phase_at}
use Rattle.smc_num.specs.Keys.{rmb_bound}
use Rattle.smc_num.specs.Places.{address_of}
use Rattle.rmb_region.specs.Regions.{Buffer, IsInside}
use Rattle.clc_wire.specs.declared.offer.Offer.{Offer}
use Rattle.clc_wire.specs.declared.message.ClcMessage.{ClcMessage}
use Rattle.clc_wire.specs.declared.message.ClcMessage.TheVariants.{Proposal, Accept, Confirm, Decline}
use Rattle.llc_wire.specs.declared.LlcMessage.{LlcMessage}
use Rattle.cdc_wire.specs.declared.CdcMessage.{CdcMessage}
use Rattle.clc_handshake.specs.Stages.{Hand}
use Rattle.pipe_model.specs.declared.flow.FlowStep.{FlowStep}
use Rattle.pipe_model.specs.declared.flow.FlowStep.TheVariants.{Live}
use Rattle.pipe_model.specs.declared.flow.LinkView.{LinkView}
use Rattle.pipe_model.specs.declared.sent.Sent.{Sent}
use Rattle.pipe_model.specs.Connections.{WaitsLink}
use Rattle.pipe_model.specs.Ends.{Half, is_over}
use Rattle.pipe_model.specs.Flows.{flow_step}
use Rattle.pipe_model.specs.Pipe.{Terms}
use Rattle.pipe_model.specs.Posts.{offered_place}
use Rattle.pipe_model.specs.Replies.{expects}
use Rattle.conn_end.specs.Arrivals.{IsTakable, Completes}
use Rattle.conn_end.specs.Batches.{message_of}
use Rattle.conn_end.specs.Kept.{Kept}
use Rattle.smc_num.specs.Names.{head}
use Rattle.side_core.specs.declared.route.Route.{Route}
use Rattle.side_core.specs.Records.{Connection, Records, Stands, StandsAt, AllStand, IsSized, conn_at, has_token, holder, aimer}
use Rattle.side_core.specs.Desk.{Desk, made_on, IsConfirmLink, IsPendingFor}
use Rattle.side_core.specs.Manager.{Manager, Represents, no_hand, state_at}
use Rattle.side_core.specs.Taking.{IsOffer, MayHear, MayLend, MayTake}
use Rattle.side_core.specs.Acting.{IsSound, IsSoundAt, IsWaitingFor, MayConfirm, MayWrite, buffer_of}
use Rattle.side_core.specs.Comings.{Arrives, ArrivesAt, MayArriveAt, CompletesAt, MayCompleteAt, IsGoing, IsGoingAt}
use Rattle.side_core.specs.Landing.{CanMake, LandsIn, MayLandIn, CompletesIn, MayCompleteIn, MayGoOut}
use Rattle.side_core.proofs.Managers.Allowed.{aimers_same, routes_same}
use Rattle.side_core.proofs.Elements.{alike_position}

-- an offer that the peer may make
offer_kept : (o : Offer) (link : LinkId) (v : Manager Kept) (m : Manager Half) → Represents v m → IsOffer o link m → IsOffer o link v
offer_kept o link v m stands offer =
    let w = stands.works in
    let r = w.records in
    record {
      slot = offer.slot;
      group = offer.group;
      named = offer.named;
      rmb = offer.rmb;
      index = offer.index;
      token = offer.token;
      within = subst (λ k. o.token ≤ k) (sym r.sockets) offer.within;
      new = aimers_same o.token v.records m.records w.records ∙ offer.new;
    }

hear_kept : (s : ℕ) (message : ClcMessage) (link : LinkId) (v : Manager Kept) (m : Manager Half) → Represents v m → MayHear s message link m → MayHear s message link v
hear_kept s (Proposal p) link v m stands hears = tt
hear_kept s (Accept o) link v m stands hears =
    let w = stands.works in
    (offer_kept o link v m stands hears.0, subst (λ (d : Desk). (o.first && (d.group == 0)) ≡ true → link.incarnation ≡ made_on link.slot d + 1) (sym w.desk) hears.1)
hear_kept s (Confirm o) link v m stands hears =
    let w = stands.works in
    (offer_kept o link v m stands hears.0, ap (λ q. option_map (λ (r : Route). r.link) q) (routes_same s v.records m.records w.records) ∙ hears.1)
hear_kept s (Decline r) link v m stands hears = tt

lend_kept : (message : ClcMessage) (v : Manager Kept) (m : Manager Half) → Represents v m → MayLend message m → MayLend message v
lend_kept (Proposal p) v m stands lend = let w = stands.works in let r = w.records in subst (λ k. k < length v.records.by_socket) (sym r.tokens) (subst (λ k. m.records.tokens < k) (sym r.sockets) lend)
lend_kept (Accept o) v m stands lend = let w = stands.works in let r = w.records in subst (λ k. k < length v.records.by_socket) (sym r.tokens) (subst (λ k. m.records.tokens < k) (sym r.sockets) lend)
lend_kept (Confirm o) v m stands lend = tt
lend_kept (Decline r) v m stands lend = tt

-- a CLC message may be taken
pub take_kept : (s : ℕ) (message : ClcMessage) (link : LinkId) (paths : List Bool) (v : Manager Kept) (m : Manager Half) → Represents v m → MayTake s message link paths m → MayTake s message link paths v
take_kept s message link paths v m stands may =
    let w = stands.works in
    record {
      socket = subst (λ (hands : List Hand). s < length hands) (sym stands.hands) may.socket;
      waits = ap (λ (hands : List Hand). expects (slice_index_or hands s no_hand).state) stands.hands ∙ may.waits;
      hears = hear_kept s message link v m stands may.hears;
      slots = may.slots;
      tokens = lend_kept message v m stands may.tokens;
      begun = subst (λ (d : Desk). d.begun < 2 ^ 31) (sym w.desk) may.begun;
      serial = subst (λ (d : Desk). d.serial < 2 ^ 20) (sym w.desk) may.serial;
      made = subst (λ (d : Desk). made_on 1 d < 2 ^ 31) (sym w.desk) may.made;
    }

-- that the counts of a plain end are small, and what it was told fits
pub record IsSoundHalf (size : ℕ) (h : Half) : Type 0 where
  pub out_few : length h.out < 2 ^ 63
  pub number_few : h.number < 2 ^ 63
  pub fits : h.taken.told ≤ h.rd + size

-- that of what may be no connection
abbrev pub IsSoundPlain : ℕ → Option (Connection Half) → Type 0
IsSoundPlain size None = Unit {0}
IsSoundPlain size (Some c) = IsSoundHalf size c.end

sound_one : (size : ℕ) (k : Connection Kept) (c : Connection Half) → Stands k c → IsSoundHalf size c.end → IsSound size k.end
sound_one size k c st h =
    let e = st.end in
    let number = e.number in
    let taken : k.end.course.taken.told ≡ c.end.taken.told = ap (λ t. t.told) e.taken in
    let read = e.read in
    let accepted = e.accepted in
    record { accepted = omega (arith, accepted, h.out_few); number = omega (arith, number, h.number_few); fits = omega (arith, taken, read, h.fits) }

sound_by : (size : ℕ) (ok : Option (Connection Kept)) (oc : Option (Connection Half)) → StandsAt ok oc → IsSoundPlain size oc → IsSoundAt size ok
sound_by size None oc st h = tt
sound_by size (Some k) None st h = absurd st
sound_by size (Some k) (Some c) st h = sound_one size k c st h

-- an end is sound
pub sound_kept : (s : ℕ) (v : Manager Kept) (m : Manager Half) → Represents v m → IsSoundPlain m.records.terms.size (conn_at s m.records) → IsSoundAt v.records.terms.size (conn_at s v.records)
sound_kept s v m stands h =
    let w = stands.works in
    let r = w.records in
    subst (λ (t : Terms). IsSoundAt t.size (conn_at s v.records)) (sym r.terms) (sound_by m.records.terms.size (conn_at s v.records) (conn_at s m.records) (r.each s) h)

-- that of the end in first contact
pub first_sound_kept : (v : Manager Kept) (m : Manager Half) → Represents v m → IsSoundPlain m.records.terms.size (conn_at m.desk.first m.records) → IsSoundAt v.records.terms.size (conn_at v.desk.first v.records)
first_sound_kept v m stands h =
    let w = stands.works in
    subst (λ (d : Desk). IsSoundAt v.records.terms.size (conn_at d.first v.records)) (sym w.desk) (sound_kept m.desk.first v m stands h)

-- the state of an end
pub state_kept : (s : ℕ) (v : Manager Kept) (m : Manager Half) → Represents v m → state_at s v ≡ state_at s m
state_kept s v m stands = ap (λ (hands : List Hand). (slice_index_or hands s no_hand).state) stands.hands

-- a link may be made
pub make_kept : (link : LinkId) (v : Manager Kept) (m : Manager Half) → Represents v m → CanMake link m.desk → CanMake link v.desk
make_kept link v m stands can = let w = stands.works in subst (λ (d : Desk). CanMake link d) (sym w.desk) can

-- that a message confirms a link in first contact, with a reply or none
pub record Confirms (reply : Bool) (message : LlcMessage) (view : LinkView) (link : LinkId) (m : Manager Half) : Type 0 where
  pub kind : IsConfirmLink message
  pub slot : link.slot ≡ 1
  pub group : (m.desk.group == 0) ≡ false
  pub latest : link_at link.slot m.desk.links.known ≡ Some link
  pub step : flow_step m.desk.side m.desk.flow message view link.slot true ≡ Live reply true
  pub pending : phase_at link.slot m.desk.links.known ≡ Pending
  pub waits : state_at m.desk.first m ≡ WaitsLink

-- what it makes a manager do
pub confirm_step : (reply : Bool) (message : LlcMessage) (view : LinkView) (link : LinkId) (v : Manager Kept) (m : Manager Half) → Represents v m → Confirms reply message view link m → flow_step v.desk.side v.desk.flow message view link.slot true ≡ Live reply true
confirm_step reply message view link v m stands c = let w = stands.works in ap (λ (d : Desk). flow_step d.side d.flow message view link.slot true) w.desk ∙ c.step

-- it may land
pub confirm_kept : (reply : Bool) (message : LlcMessage) (view : LinkView) (link : LinkId) (v : Manager Kept) (m : Manager Half) → Represents v m → Confirms reply message view link m → MayConfirm message view link v
confirm_kept reply message view link v m stands c =
    let w = stands.works in
    let step = confirm_step reply message view link v m stands c in
    record {
      kind = c.kind;
      slot = c.slot;
      group = ap (λ (d : Desk). d.group == 0) w.desk ∙ c.group;
      latest = ap (λ (d : Desk). link_at link.slot d.links.known) w.desk ∙ c.latest;
      pending = subst (λ (f : FlowStep). IsPendingFor f link.slot v.desk.links.known) (sym step) (ap (λ (d : Desk). phase_at link.slot d.links.known) w.desk ∙ c.pending);
      waits = subst (λ (f : FlowStep). IsWaitingFor f v) (sym step) (ap (λ (d : Desk). state_at d.first v) w.desk ∙ (state_kept m.desk.first v m stands ∙ c.waits));
    }

-- a write may land
pub write_kept : (link : LinkId) (key address len : ℕ) (v : Manager Kept) (m : Manager Half) → Represents v m → MayWrite link key address len m → MayWrite link key address len v
write_kept link key address len v m stands may =
    let w = stands.works in
    record {
      rmb = may.rmb;
      bound = ap (λ (d : Desk). rmb_bound key link d.keys) w.desk ∙ may.bound;
      inside = subst (λ (bs : List Buffer). IsInside address len (buffer_of may.rmb bs)) (sym stands.regions) may.inside;
    }

-- a kept connection beside the plain one for which it stands
record Beside (o : Option (Connection Kept)) (c : Connection Half) : Type 0 where
  pub kept : Connection Kept
  pub kept_is : o ≡ Some kept
  pub stands : Stands kept c

beside_by : (ok : Option (Connection Kept)) (oc : Option (Connection Half)) (c : Connection Half) → StandsAt ok oc → oc ≡ Some c → Beside ok c
beside_by None None c st e = absurd (true≢false (sym (ap (λ (q : Option (Connection Half)). is_some q) e)))
beside_by None (Some d) c st e = absurd st
beside_by (Some k) None c st e = absurd st
beside_by (Some k) (Some d) c st e = record { kept = k; kept_is = refl; stands = subst (λ (q : Option (Connection Half)). StandsAt (Some k) q) e st }

beside : (s : ℕ) (v : Manager Kept) (m : Manager Half) (c : Connection Half) → Represents v m → conn_at s m.records ≡ Some c → Beside (conn_at s v.records) c
beside s v m c stands e = let w = stands.works in let r = w.records in beside_by (conn_at s v.records) (conn_at s m.records) c (r.each s) e

held_same : (token : ℕ) (k : Option (Connection Kept)) (c : Option (Connection Half)) → StandsAt k c → has_token token k ≡ has_token token c
held_same token None None stands = refl
held_same token (Some k) (Some c) stands = ap (λ (x : Route). x.token == token) stands.route
held_same token None (Some c) stands = absurd stands
held_same token (Some k) None stands = absurd stands

holders_same : (token : ℕ) (r : Records Kept) (p : Records Half) → AllStand r p → holder token r ≡ holder token p
holders_same token r p all = alike_position (has_token token) (has_token token) r.by_socket p.by_socket None None all.sockets (λ k. held_same token (conn_at k r) (conn_at k p) (all.each k))

the_same : (s t : ℕ) → Some s ≡ Some t → s ≡ t
the_same s t e = ap (λ q. unwrap_or q s) e

-- that a message which spells what was sent may land at the end of a socket, which its token names
pub record Comes (s : ℕ) (message : CdcMessage) (sent : Sent) (c : Connection Half) (m : Manager Half) : Type 0 where
  pub there : conn_at s m.records ≡ Some c
  pub held : holder message.token m.records ≡ Some s
  pub spelled : message ≡ message_of m.records.terms.size message.token sent
  pub taken : IsTakable m.records.terms.size sent.snapshot c.end
  pub going : is_over c.end ≡ false
  pub sound : IsSoundPlain m.records.terms.size (conn_at s m.records)

module _ (s : ℕ) (message : CdcMessage) (sent : Sent) (c : Connection Half) (v : Manager Kept) (m : Manager Half) (stands : Represents v m) where
  size_is : (k : Connection Kept) → conn_at s v.records ≡ Some k → m.records.terms.size ≡ k.end.size
  size_is k e = let w = stands.works in let r = w.records in sym (subst (IsSized v.records.terms.size) e (r.sizes s) ∙ ap (λ (t : Terms). t.size) r.terms)

  module _ (comes : Comes s message sent c m) where
    held : holder message.token v.records ≡ Some s
    held = let w = stands.works in holders_same message.token v.records m.records w.records ∙ comes.held

    arrives : (b : Beside (conn_at s v.records) c) → Arrives b.kept.end message sent.snapshot c.end sent
    arrives b =
        let size = size_is b.kept b.kept_is in
        let st = b.stands in
        record {
          lands = record {
            stands = st.end;
            spelling = record { spelled = comes.spelled ∙ ap (λ n. message_of n message.token sent) size; plainly = λ e. refl };
            taken = λ e. subst (λ n. IsTakable n sent.snapshot c.end) size comes.taken;
          };
          going = comes.going;
        }

    pub lands_in : LandsIn s message sent.snapshot sent v m
    lands_in =
        let b = beside s v m c stands comes.there in
        record {
          held = held;
          lands = subst (λ o. ArrivesAt message sent.snapshot sent o (conn_at s m.records)) (sym b.kept_is) (subst (λ o. ArrivesAt message sent.snapshot sent (Some b.kept) o) (sym comes.there) (arrives b));
        }

    pub may_land : MayLandIn message sent.snapshot v
    may_land =
        let b = beside s v m c stands comes.there in
        record {
          taker = λ t f. subst (λ r. MayArriveAt message sent.snapshot (conn_at r v.records)) (the_same s t (sym held ∙ f)) (subst (λ o. MayArriveAt message sent.snapshot o) (sym b.kept_is) (record { end = c.end; sent = sent; arrives = arrives b }));
          sound = λ t f. subst (λ r. IsSoundAt v.records.terms.size (conn_at r v.records)) (the_same s t (sym held ∙ f)) (sound_kept s v m stands comes.sound);
        }

-- that a message which spells what was sent is the oldest uncompleted one of the end of a socket, whose peer gave its token
pub record Goes (s : ℕ) (message : CdcMessage) (sent : Sent) (c : Connection Half) (m : Manager Half) : Type 0 where
  pub there : conn_at s m.records ≡ Some c
  pub aimed : aimer message.token m.records ≡ Some s
  pub spelled : message ≡ message_of m.records.terms.size message.token sent
  pub oldest : head c.end.flight ≡ Some sent.snapshot
  pub sound : IsSoundPlain m.records.terms.size (conn_at s m.records)

module _ (s : ℕ) (message : CdcMessage) (sent : Sent) (c : Connection Half) (v : Manager Kept) (m : Manager Half) (stands : Represents v m) (goes : Goes s message sent c m) where
  aimed : aimer message.token v.records ≡ Some s
  aimed = let w = stands.works in aimers_same message.token v.records m.records w.records ∙ goes.aimed

  completed : (b : Beside (conn_at s v.records) c) → Completes b.kept.end message sent.snapshot c.end sent
  completed b =
      let size = size_is s message sent c v m stands b.kept b.kept_is in
      let st = b.stands in
      record {
        stands = st.end;
        spelling = record { spelled = goes.spelled ∙ ap (λ n. message_of n message.token sent) size; plainly = λ e. refl };
        oldest = λ e. goes.oldest;
      }

  pub completes_in : CompletesIn s message sent.snapshot sent v m
  completes_in =
      let b = beside s v m c stands goes.there in
      record {
        aimed = aimed;
        completes = subst (λ o. CompletesAt message sent.snapshot sent o (conn_at s m.records)) (sym b.kept_is) (subst (λ o. CompletesAt message sent.snapshot sent (Some b.kept) o) (sym goes.there) (completed b));
      }

  pub may_complete : MayCompleteIn message sent.snapshot v
  may_complete =
      let b = beside s v m c stands goes.there in
      record {
        sender = λ t f. subst (λ r. MayCompleteAt message sent.snapshot (conn_at r v.records)) (the_same s t (sym aimed ∙ f)) (subst (λ o. MayCompleteAt message sent.snapshot o) (sym b.kept_is) (record { end = c.end; sent = sent; completes = completed b }));
        sound = λ t f. subst (λ r. IsSoundAt v.records.terms.size (conn_at r v.records)) (the_same s t (sym aimed ∙ f)) (sound_kept s v m stands goes.sound);
      }

-- that the end of a socket, whose peer gave a token, keeps the bytes of a write
pub record Keeps (s token address len first : ℕ) (c : Connection Half) (o : Offer) (m : Manager Half) : Type 0 where
  pub there : conn_at s m.records ≡ Some c
  pub peer : c.route.peer ≡ Some o
  pub aimed : aimer token m.records ≡ Some s
  pub place : address ≡ address_of m.records.terms.size (offered_place o) first
  pub from : c.end.fin.told ≤ first
  pub to : first + len ≤ length c.end.out

module _ (s token address len first : ℕ) (c : Connection Half) (o : Offer) (v : Manager Kept) (m : Manager Half) (stands : Represents v m) (keeps : Keeps s token address len first c o m) where
  pub going_at : IsGoingAt v.records.terms.size (conn_at s v.records) address len c.end first
  going_at =
      let b = beside s v m c stands keeps.there in
      let st = b.stands in
      let w = stands.works in
      let r = w.records in
      subst (λ k. IsGoingAt v.records.terms.size k address len c.end first) (sym b.kept_is)
      (by v.records.terms.size b.kept.route.peer b.kept.end (ap (λ (q : Route). q.peer) st.route ∙ keeps.peer)
      (record { stands = st.end; address = keeps.place ∙ ap (λ (t : Terms). address_of t.size (offered_place o) first) (sym r.terms); from = keeps.from; to = keeps.to }))
    where
      by : (size : ℕ) (q : Option Offer) (k : Kept) → q ≡ Some o → IsGoing size o k address len c.end first → Rattle.side_core.specs.Comings.IsGoingTo size q k address len c.end first
      by size q k e g = subst (λ x. Rattle.side_core.specs.Comings.IsGoingTo size x k address len c.end first) (sym e) g

  pub goes_out : MayGoOut token address len v
  goes_out = let w = stands.works in record { socket = s; aimed = aimers_same token v.records m.records w.records ∙ keeps.aimed; goes = record { end = c.end; first = first; going = going_at } }
