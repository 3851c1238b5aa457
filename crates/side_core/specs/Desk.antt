-- What a side keeps beside its connections: its group, its links and flows, its keys and those of its peer, and its elements.
-- A reader learns here which facts a CLC message is judged by, and what first contact and the confirmation of a link change.
use Rattle.std.specs.Prelude.{ℕ, ◌+◌, ◌*◌, ◌-◌, not, Bool, if◌then◌else◌, List, [], length, map, filter, replicate, slice_index_or, slice_set, Option, option_map, unwrap_or, ◌≡◌}
use Rattle.std.specs.List.{position}
use Rattle.smc_num.specs.declared.Side.{Side}
use Rattle.smc_num.specs.declared.LinkId.{LinkId}
use Rattle.smc_num.specs.declared.LinkPhase.TheVariants.{Pending, Live as LiveLink}
use Rattle.smc_num.specs.Names.{at_side, has}
use Rattle.smc_num.specs.Links.{put, set_phase, Known, phase_at}
use Rattle.smc_num.specs.Keys.{Key, key_base, number_for, bound, binds, registers}
use Rattle.smc_num.specs.Places.{Place, all_places, rmb_at}
use Rattle.clc_wire.specs.declared.offer.Offer.{Offer}
use Rattle.element_ledger.specs.declared.Element.{Element}
use Rattle.element_ledger.specs.Lendings.{Row, fresh, is_lent, first_free, next_lending, changes_at, place_of, lends, freed}
use Rattle.failover.specs.Tables.{Links}
use Rattle.pipe_model.specs.declared.setup.Setup.{Setup}
use Rattle.pipe_model.specs.declared.verdict.Lacks.{Lacks}
use Rattle.llc_wire.specs.declared.LlcMessage.{LlcMessage}
use Rattle.llc_wire.specs.declared.LlcMessage.TheVariants.{ConfirmLink}
use Rattle.pipe_model.specs.declared.flow.FlowStep.{FlowStep}
use Rattle.pipe_model.specs.declared.flow.FlowStep.TheVariants.{Live}
use Rattle.pipe_model.specs.Words.{passes, rmbs_of, elements_of}
use Rattle.pipe_model.specs.Flows.{Flow, FirstContact, NoFlow, no_flow, is_first_contact, is_adding}
use Rattle.pipe_model.specs.Keys.{confirms}
use Rattle.pipe_model.specs.Messages.{pair_number, offer}

-- what a side keeps of its group: which side it is and what was set; its group, 0 for none, and how many groups it has begun;
-- its links and flows; its queue pairs by slot, and how many it has made; its keys, and the RMBs whose keys the peer knows; what
-- it has learnt of the peer's keys; its elements; and the socket that is in first contact
pub record Desk : Type 0 where
  pub side : Side
  pub setup : Setup
  pub group : ℕ
  pub begun : ℕ
  pub links : Links
  pub flow : Flow
  pub pairs : List ℕ
  pub serial : ℕ
  pub keys : List Key
  pub confirmed : List ℕ
  pub book : List Key
  pub rows : List Row
  pub first : ℕ

-- how many slots any setup may have
abbrev pub most_slots : ℕ
most_slots = 8

-- a side that nothing concerned
abbrev pub new_desk : Side → Setup → Desk
new_desk x setup = record {
  side = x;
  setup = setup;
  group = 0;
  begun = 0;
  links = record { slots = setup.links; known = []; made = replicate setup.links 0 };
  flow = no_flow;
  pairs = replicate most_slots 0;
  serial = 0;
  keys = [];
  confirmed = [];
  book = [];
  rows = map fresh (all_places (rmbs_of setup x) (elements_of setup x));
  first = 0;
}

-- the place of the lowest free element, where there is one
abbrev pub free_place : Desk → Option Place
free_place d = option_map (λ r. r.place) (first_free d.rows)

-- that place, or none
abbrev pub next_place : Desk → Place
next_place d = unwrap_or (free_place d) (record { rmb = 0; index = 0 })

-- the lowest free element in its next lending
abbrev pub next_element : Desk → Element
next_element d = unwrap_or (option_map next_lending (first_free d.rows)) (record { rmb = 0; index = 0; epoch = 0 })

-- the facts by which a CLC message is judged, where these paths are up
abbrev pub lacks_of : List Bool → Desk → Lacks
lacks_of paths d = record {
  subnet = at_side d.side (slice_index_or d.setup.subnet 0 (0, 0)) (slice_index_or d.setup.subnet 1 (0, 0));
  free = length (filter (λ r. not (is_lent r)) d.rows);
  elements = rmbs_of d.setup d.side * elements_of d.setup d.side;
  rmb_ready = passes (λ p. has p.rmb d.confirmed) (free_place d);
  group = d.group;
  first_contact = is_first_contact d.flow.link;
  slots_up = length (filter (λ up. up) paths);
  links = d.setup.links;
  key_flow = d.flow.key;
  adding = is_adding d.flow.link;
}

-- how many links were made on a slot
abbrev pub made_on : ℕ → Desk → ℕ
made_on slot d = slice_index_or d.links.made (slot - 1) 0

-- the link that the server names in first contact: of its next group, on the lowest slot with its path up
abbrev pub first_link : List Bool → Desk → LinkId
first_link paths d = let slot : ℕ = unwrap_or (position (λ up. up) paths) 0 + 1 in record { group = d.begun + 1; slot = slot; incarnation = made_on slot d + 1 }

-- the number of a side's queue pair on a slot, and of the next one that it would make there
abbrev pub pair_at : ℕ → Desk → ℕ
pair_at slot d = slice_index_or d.pairs (slot - 1) 0

-- the number of the next queue pair, on a slot
abbrev pub pair_next : ℕ → Desk → ℕ
pair_next slot d = pair_number (d.serial + 1) slot

-- the number that an RMB has, or would get, for a slot
abbrev pub own_key : ℕ → ℕ → Desk → ℕ
own_key rmb slot d = number_for (key_base d.side) rmb slot d.keys

-- an offer of the lowest free element under a token, in first contact with a new queue pair
abbrev pub new_offer : Bool → LinkId → ℕ → Desk → Offer
new_offer first link token d = offer d.setup d.side first link (if first then pair_next link.slot d else pair_at link.slot d) (own_key (next_place d).rmb link.slot d) (next_place d) token

-- the key that it has learnt of the peer's RMB at an address, for a link
abbrev pub peer_key : ℕ → LinkId → Desk → ℕ
peer_key address link d = unwrap_or (bound (rmb_at address) link d.book) 0

-- the lowest free element is lent to a socket
abbrev pub lends_next : ℕ → Desk → Desk
lends_next s d = record d { rows = map (changes_at (place_of (next_element d)) (lends s)) d.rows }

-- an element is given back
abbrev pub takes_back : Element → Desk → Desk
takes_back e d = record d { rows = map (changes_at (place_of e) freed) d.rows }

-- a queue pair is made on a slot
abbrev pub makes_pair : ℕ → Desk → Desk
makes_pair slot d = record d { serial = d.serial + 1; pairs = slice_set d.pairs (slot - 1) (pair_next slot d) }

-- first contact begins with the offer of an RMB for a link that is to be made, on a socket: a new group, a queue pair, and
-- the key that the offer tells
abbrev pub begins_group : ℕ → LinkId → ℕ → Desk → Desk
begins_group s link rmb d = record (makes_pair link.slot d) {
  group = link.group;
  begun = at_side d.side d.begun (d.begun + 1);
  links = record d.links { known = [] };
  flow = record no_flow { link = FirstContact };
  keys = registers (key_base d.side) rmb d.keys link;
  confirmed = confirms rmb d.confirmed;
  first = s;
}

-- a link is made, and pending
abbrev pub makes_link : LinkId → Desk → Desk
makes_link link d = record d { links = record d.links { known = put (record { link = link; phase = Pending }) d.links.known; made = slice_set d.links.made (link.slot - 1) link.incarnation } }

-- the key of an offer is learnt, for a link
abbrev pub learns_offer : LinkId → Offer → Desk → Desk
learns_offer link o d = record d { book = binds (record { key = o.key; rmb = rmb_at o.address; link = link }) d.book }

-- the link of a slot goes live, and the flow that it was confirmed by is over
abbrev pub goes_live : ℕ → Desk → Desk
goes_live slot d = record d { links = record d.links { known = set_phase slot LiveLink d.links.known }; flow = record d.flow { link = NoFlow } }

-- what a step of the flows with a CONFIRM LINK, or the reply to one, does to the link of a slot
abbrev pub confirmed_by : FlowStep → ℕ → Desk → Desk
confirmed_by (Live reply first) slot d = goes_live slot d
confirmed_by _ slot d = d

-- that a message is a CONFIRM LINK, or the reply to one
abbrev pub IsConfirmLink : LlcMessage → Type 0
IsConfirmLink (ConfirmLink reply mac gid qp link user most) = Unit {0}
IsConfirmLink _ = ⊥

-- that the link of a slot is pending where a step confirms it
abbrev pub IsPendingFor : FlowStep → ℕ → List Known → Type 0
IsPendingFor (Live reply first) slot known = phase_at slot known ≡ Pending
IsPendingFor _ slot known = Unit {0}
