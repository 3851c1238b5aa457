-- The verdict on a CLC message.
-- A reader learns here the rules of the handshake, of which the first that holds decides, and what they ask of a side.
use Rattle.std.specs.Prelude.{ℕ, ◌*◌, ◌==◌, ◌&&◌, not, Bool, true, false, if◌then◌else◌, List, length, filter, slice_index_or}
use Rattle.smc_num.specs.declared.Side.{Side}
use Rattle.smc_num.specs.Names.{at_side, has, up_to, head}
use Rattle.smc_num.specs.Places.{Place}
use Rattle.clc_wire.specs.declared.proposal.Proposal.{Proposal}
use Rattle.clc_wire.specs.declared.offer.Offer.{Offer}
use Rattle.clc_wire.specs.declared.message.ClcMessage.{ClcMessage}
use Rattle.clc_wire.specs.declared.message.ClcMessage.TheVariants.{Proposal as ProposalMessage, Accept as AcceptMessage, Confirm as ConfirmMessage, Decline as DeclineMessage}
use Rattle.pipe_model.specs.declared.flow.KeyPhase.{KeyPhase}
use Rattle.pipe_model.specs.declared.flow.KeyPhase.TheVariants.{Asked, Deleting}
use Rattle.pipe_model.specs.declared.reply.Hold.TheVariants.{FirstContact as FirstContactHold, AddLink as AddLinkHold, ConfirmRkey as ConfirmRkeyHold, DeleteRkey as DeleteRkeyHold, OldGroup}
use Rattle.pipe_model.specs.declared.reply.Lack.TheVariants.{NoSubnet, NoServerElement, NoClientElement, NoSlot, GroupLost, Raw}
use Rattle.pipe_model.specs.declared.reply.SentKind.{SentKind}
use Rattle.pipe_model.specs.declared.reply.SentKind.TheVariants.{Proposal as ProposalKind, Accept as AcceptKind, Confirm as ConfirmKind, Decline as DeclineKind}
use Rattle.pipe_model.specs.declared.verdict.Lacks.{Lacks}
use Rattle.pipe_model.specs.declared.verdict.ClcStep.{ClcStep}
use Rattle.pipe_model.specs.declared.verdict.ClcStep.TheVariants.{SendAccept, SendConfirm, AskKey, Wait, Decline, Fell, Ready, Lost, Wrong}
use Rattle.pipe_model.specs.declared.setup.Setup.{Setup}
use Rattle.pipe_model.specs.declared.entry.Entry.{Entry}
use Rattle.pipe_model.specs.Words.{subnet_of, rmbs_of, elements_of, passes}
use Rattle.pipe_model.specs.Flows.{is_first_contact, is_adding, is_asked, is_deleting}
use Rattle.pipe_model.specs.Fabric.{path_up, group_of, flow_of}
use Rattle.pipe_model.specs.Connections.{EndState, WaitsProposal, WaitsAnswer, WaitsConfirm}
use Rattle.pipe_model.specs.Lending.{free_places}
use Rattle.pipe_model.specs.Keys.{keys_of}

-- the key of an RMB is asked for, unless that or the adding of a link is under way
-- RFC 7609, 3.3: CONFIRM RKEY comes before the RMB is offered; the holds are ours
abbrev pub key_step : Lacks → ClcStep
key_step l = if is_asked l.key_flow then Wait ConfirmRkeyHold else if l.adding then Wait AddLinkHold else AskKey

-- B takes a Proposal where it has no group
-- RFC 7609, 3.5; order and holds are ours
abbrev pub first_contact_step : Bool → Lacks → ClcStep
first_contact_step raw l = if raw then Decline Raw else if l.slots_up == 0 then Decline (NoSlot l.links) else SendAccept true

-- B takes a Proposal
-- RFC 7609, 3.5; order and holds are ours
abbrev pub on_proposal : Bool → Proposal → Lacks → ClcStep
on_proposal raw p l =
    if not ((p.subnet == l.subnet.0) && (p.prefix == l.subnet.1)) then Decline NoSubnet else
    if l.first_contact then Wait FirstContactHold else
    if is_deleting l.key_flow then Wait DeleteRkeyHold else
    if l.free == 0 then Decline (NoServerElement l.elements) else
    if l.group == 0 then first_contact_step raw l else
    if not l.rmb_ready then key_step l else SendAccept false

-- A takes an Accept of first contact
-- RFC 7609, 3.5; order and holds are ours
abbrev pub on_first_accept : Lacks → ClcStep
on_first_accept l = if not (l.group == 0) then Wait OldGroup else SendConfirm true

-- A takes an Accept of later contact
-- RFC 7609, 3.5; order and holds are ours, and so is that `psn` carries the number of the group
abbrev pub on_later_accept : Offer → Lacks → ClcStep
on_later_accept o l =
    if not (o.psn == l.group) then Decline (GroupLost o.psn l.group) else
    if is_deleting l.key_flow then Wait DeleteRkeyHold else
    if l.free == 0 then Decline (NoClientElement l.elements) else
    if not l.rmb_ready then key_step l else SendConfirm false

-- A takes an Accept
-- RFC 7609, 3.5
abbrev pub on_accept : Offer → Lacks → ClcStep
on_accept o l = if o.first then on_first_accept l else on_later_accept o l

-- B takes a Confirm: its group may have ended meanwhile
-- RFC 7609, 3.5; ours: the group is told by `psn`, which carries its number
abbrev pub on_confirm : Offer → Lacks → ClcStep
on_confirm o l = if o.psn == l.group then Ready else Lost

-- the kind of a message
-- RFC 7609, 3.2
abbrev pub kind_of : ClcMessage → SentKind
kind_of (ProposalMessage p) = ProposalKind
kind_of (AcceptMessage o) = AcceptKind
kind_of (ConfirmMessage o) = ConfirmKind
kind_of (DeclineMessage r) = DeclineKind

-- what an end does with a CLC message; a raw client may send a Proposal first and a Decline after an Accept, and nothing else
-- RFC 7609, 3.5; of raw clients ours
abbrev pub verdict : Bool → EndState → ClcMessage → Lacks → ClcStep
verdict raw WaitsProposal (ProposalMessage p) l = on_proposal raw p l
verdict raw WaitsAnswer (AcceptMessage o) l = on_accept o l
verdict raw WaitsAnswer (DeclineMessage r) l = Fell
verdict raw WaitsConfirm (DeclineMessage r) l = Fell
verdict raw WaitsConfirm (ConfirmMessage o) l = if raw then Wrong ConfirmKind else on_confirm o l
verdict raw state m l = Wrong (kind_of m)

-- the slots whose path is up
-- ours: the fabric in memory
abbrev pub slots_up : Setup → List Entry → List ℕ
slots_up setup past = filter (λ k. path_up k past) (up_to setup.links)

-- whether the RMB of the lowest free element is confirmed
-- RFC 7609, 3.3: CONFIRM RKEY comes before the RMB is offered
abbrev pub is_ready : List Place → List ℕ → Bool
is_ready free confirmed = passes (λ p. has p.rmb confirmed) (head free)

-- the facts at a side after a history
-- ours: what the rules ask of a side
abbrev pub lacks : Setup → List ℕ → Side → List Entry → Lacks
lacks setup payload x past = let free : List Place = free_places setup payload x past in record {
  subnet = subnet_of setup x;
  free = length free;
  elements = rmbs_of setup x * elements_of setup x;
  rmb_ready = is_ready free (keys_of x past).confirmed;
  group = group_of x past;
  first_contact = is_first_contact (flow_of x past).link;
  slots_up = length (slots_up setup past);
  links = setup.links;
  key_flow = (flow_of x past).key;
  adding = is_adding (flow_of x past).link;
}
