-- What calls, landings and completions make of a manager, and what is due then.
-- A reader learns here which end of a connection acts, under which key its bytes go, and where a remote write of the peer lands.
use Rattle.std.specs.Prelude.{◌≡◌, ◌≤◌, ◌<◌, ◌^◌, ℕ, ◌+◌, ◌-◌, ◌==◌, ◌&&◌, Bool, true, false, if◌then◌else◌, List, [], ◌∷◌, ◌++◌, length, map, slice_index_or, slice_set, Option, Some, None, IsSomeAnd, option_map}
use Rattle.smc_num.specs.declared.LinkId.{LinkId}
use Rattle.smc_num.specs.declared.LinkPhase.TheVariants.{Live as LiveLink}
use Rattle.smc_num.specs.Names.{has_link}
use Rattle.smc_num.specs.Links.{live_links, link_at}
use Rattle.smc_num.specs.Keys.{rmb_bound}
use Rattle.clc_wire.specs.declared.offer.Offer.{Offer}
use Rattle.llc_wire.specs.declared.LlcMessage.{LlcMessage}
use Rattle.rmb_region.specs.Regions.{Buffer, fresh, lands as lands_in, read_round, IsInside}
use Rattle.pipe_model.specs.declared.post.Post.{Post}
use Rattle.pipe_model.specs.declared.post.Post.TheVariants.{Llc}
use Rattle.pipe_model.specs.declared.flow.FlowStep.{FlowStep}
use Rattle.pipe_model.specs.declared.flow.FlowStep.TheVariants.{Live}
use Rattle.pipe_model.specs.declared.flow.LinkView.{LinkView}
use Rattle.pipe_model.specs.Flows.{flow_step}
use Rattle.pipe_model.specs.Ends.{Half, comes_up, meets_fate}
use Rattle.pipe_model.specs.Calls.{Call, calls}
use Rattle.pipe_model.specs.Connections.{WaitsLink, IsUp}
use Rattle.pipe_model.specs.Messages.{confirm_link}
use Rattle.conn_end.specs.declared.answers.EndReply.{EndReply}
use Rattle.conn_end.specs.declared.answers.EndReply.TheVariants.{Take}
use Rattle.conn_end.specs.Kept.{Kept}
use Rattle.side_core.specs.declared.route.Route.{Route}
use Rattle.side_core.specs.declared.route.Way.{Way}
use Rattle.side_core.specs.Records.{Connection, Records, conn_at, route_at, settles, rises}
use Rattle.side_core.specs.Posting.{due_posts}
use Rattle.side_core.specs.Desk.{Desk, peer_key, pair_at, goes_live, IsConfirmLink, IsPendingFor}
use Rattle.clc_handshake.specs.Stages.{Hand}
use Rattle.smc_num.specs.Places.{rmb_at}
use Rattle.side_core.specs.Manager.{Manager, no_hand, state_at, with_state}

-- the key under which a connection writes to what its peer offered, 0 where nothing is known of that
abbrev pub key_to : Desk → LinkId → Option Offer → ℕ
key_to d link None = 0
key_to d link (Some o) = peer_key o.address link d

-- how the end of a route may post now
abbrev pub way_of : Desk → Route → Way
way_of d route = record { side = d.side; live = route.up && has_link route.link (live_links d.links.known); key = key_to d route.link route.peer }

-- what an end posts that is due, after something was done to it
abbrev pub due_from : (Half → Half) → Manager Half → Option (Connection Half) → List Post
due_from act m None = []
due_from act m (Some c) = due_posts m.records.terms.size m.records.terms.depth m.desk.side (key_to m.desk c.route.link c.route.peer) c.route.peer (act c.end)

-- the same of the end of a socket
abbrev pub due_at : ℕ → (Half → Half) → Manager Half → List Post
due_at s act m = due_from act m (conn_at s m.records)

-- something is done to the end of a socket, and what is due then is posted
abbrev pub acts_at : ℕ → (Half → Half) → Manager Half → Manager Half
acts_at s act m = record m { records = settles s act m.records }

-- an application calls the end of a socket
abbrev pub call_of : Call → Manager Half → (Half → Half)
call_of call m h = calls m.records.terms.size call h

-- what the end of a connection posts as it is established
abbrev pub risen_from : Manager Half → Option (Connection Half) → List Post
risen_from m None = []
risen_from m (Some c) = due_from (comes_up c.route.link) m (Some c)

-- the same of the connection of a socket
abbrev pub risen_at : ℕ → Manager Half → List Post
risen_at s m = risen_from m (conn_at s m.records)

-- the buffer of an RMB, among those of a side
abbrev pub buffer_of : ℕ → List Buffer → Buffer
buffer_of rmb buffers = slice_index_or buffers (rmb - 1) (fresh 0 0 0)

-- the same of a manager
abbrev pub region_at : {E : Type 0} → ℕ → Manager E → Buffer
region_at rmb m = buffer_of rmb m.regions

-- bytes land in the buffer of an RMB
abbrev pub bytes_land : {E : Type 0} → ℕ → ℕ → List ℕ → Manager E → Manager E
bytes_land rmb address bytes m = record m { regions = slice_set m.regions (rmb - 1) (lands_in address bytes (region_at rmb m)) }

-- that a remote write may land: its key is bound on the link to an RMB, in which its range lies
pub record MayWrite {E : Type 0} (link : LinkId) (key address len : ℕ) (m : Manager E) : Type 0 where
  pub rmb : ℕ
  pub bound : rmb_bound key link m.desk.keys ≡ Some rmb
  pub inside : IsInside address len (region_at rmb m)

-- the bytes that an answer to a read hands out of the buffers of a side: those of the connection's element
abbrev pub handed_from : EndReply → Option Route → List Buffer → List ℕ
handed_from (Take from len) (Some route) buffers = read_round route.element.index from len (buffer_of route.element.rmb buffers)
handed_from _ _ buffers = []

-- the same of a manager
abbrev pub handed_out : {E : Type 0} → EndReply → Option Route → Manager E → List ℕ
handed_out reply route m = handed_from reply route m.regions

-- the ends of a side hear that a link is live
abbrev pub all_hear : LinkId → Records Half → Records Half
all_hear link r = record r { by_socket = map (option_map (λ (c : Connection Half). let k : Connection Half = record c { end = meets_fate link LiveLink c.end } in k)) r.by_socket }

-- what must be there for an answer to a read to hand bytes out into so much room: the element lies in a buffer, and neither it
-- nor the room is shorter
pub record IsHandable (len rmb index room : ℕ) (buffers : List Buffer) : Type 0 where
  pub room_for : len ≤ room
  pub some : 1 ≤ rmb
  pub there : rmb ≤ length buffers
  pub within : len ≤ (buffer_of rmb buffers).size
  pub low : 1 ≤ index
  pub high : index ≤ (buffer_of rmb buffers).elements

-- that of what may be no bytes
abbrev pub MayHand : EndReply → Option Route → List Buffer → ℕ → Type 0
MayHand (Take from len) (Some route) buffers room = IsHandable len route.element.rmb route.element.index room buffers
MayHand _ _ buffers room = Unit {0}

-- a link goes live
abbrev pub link_lives : LinkId → Manager Half → Manager Half
link_lives link m = record m { desk = goes_live link.slot m.desk; records = all_hear link m.records }

-- the end of the socket that is in first contact is established
abbrev pub first_rises : Manager Half → Manager Half
first_rises m = with_state m.desk.first IsUp (record m { records = rises m.desk.first m.records })

-- what such a step makes of a manager whose link has gone live, the states of its handshakes apart
abbrev pub rises_first : FlowStep → Manager Half → Manager Half
rises_first (Live reply true) m = record m { records = rises m.desk.first m.records }
rises_first _ m = m

-- what a step with a CONFIRM LINK, or the reply to one, makes of a manager
abbrev pub confirms_link : FlowStep → LinkId → Manager Half → Manager Half
confirms_link (Live reply first) link m = if first then first_rises (link_lives link m) else link_lives link m
confirms_link _ link m = m

-- what it makes of the handshakes of a side, where the end of this socket is in first contact
abbrev pub hands_after : FlowStep → ℕ → List Hand → List Hand
hands_after (Live reply true) s hands = slice_set hands s (record (slice_index_or hands s no_hand) { state = IsUp })
hands_after _ s hands = hands

-- the reply to CONFIRM LINK
abbrev pub reply_of_desk : Bool → LinkId → Desk → List Post
reply_of_desk reply link d = if reply then Llc d.side link (confirm_link d.setup d.side true link (pair_at link.slot d)) ∷ [] else []

-- the same of a manager
abbrev pub confirm_reply : {E : Type 0} → Bool → LinkId → Manager E → List Post
confirm_reply reply link m = reply_of_desk reply link m.desk

-- what such a step makes a manager post
abbrev pub confirming_posts : FlowStep → LinkId → Manager Half → List Post
confirming_posts (Live reply first) link m = confirm_reply reply link m ++ (if first then risen_at m.desk.first (link_lives link m) else [])
confirming_posts _ link m = []

-- what is posted with it by a manager whose link has gone live
abbrev pub posts_after : FlowStep → LinkId → Manager Half → List Post
posts_after (Live reply first) link m = reply_of_desk reply link m.desk ++ (if first then risen_at m.desk.first m else [])
posts_after _ link m = []

-- that the end of the socket in first contact waits for its link where a step confirms that
abbrev pub IsWaitingFor : {E : Type 0} → FlowStep → Manager E → Type 0
IsWaitingFor (Live reply true) m = state_at m.desk.first m ≡ WaitsLink
IsWaitingFor _ m = Unit {0}

-- what a side does with a message on a link
abbrev pub step_at : {E : Type 0} → LlcMessage → LinkView → LinkId → Manager E → FlowStep
step_at message view link m = flow_step m.desk.side m.desk.flow message view link.slot true

-- what a caller must see to: the link is the side's, and where it is confirmed it is pending, and in first contact the end of its
-- socket waits for it
pub record MayConfirm {E : Type 0} (message : LlcMessage) (view : LinkView) (link : LinkId) (m : Manager E) : Type 0 where
  pub kind : IsConfirmLink message
  pub slot : link.slot ≡ 1
  pub group : (m.desk.group == 0) ≡ false
  pub latest : link_at link.slot m.desk.links.known ≡ Some link
  pub pending : IsPendingFor (step_at message view link m) link.slot m.desk.links.known
  pub waits : IsWaitingFor (step_at message view link m) m

-- the counts of an end are far from their ends, and what it was told fits into the element behind what was read
pub record IsSound (size : ℕ) (k : Kept) : Type 0 where
  pub accepted : k.accepted < 2 ^ 63
  pub number : k.course.number < 2 ^ 63
  pub fits : k.course.taken.told ≤ k.course.read + size

-- that of what may be no connection
abbrev pub IsSoundAt : ℕ → Option (Connection Kept) → Type 0
IsSoundAt size None = Unit {0}
IsSoundAt size (Some k) = IsSound size k.end

-- that the end of a socket has a connection whose peer is known, and waits for its link
pub record IsRising (s : ℕ) (r : Records Kept) (hand : Hand) : Type 0 where
  pub there : IsSomeAnd (route_at s r) (λ route. IsSomeAnd route.peer (λ (o : Offer). rmb_at o.address < 256))
  pub sound : IsSoundAt r.terms.size (conn_at s r)
  pub waits : hand.state ≡ WaitsLink

-- that of the end in first contact, where a step confirms its link
abbrev pub MayRise : FlowStep → Desk → Records Kept → Hand → Type 0
MayRise (Live reply true) d r hand = IsRising d.first r hand
MayRise _ d r hand = Unit {0}
