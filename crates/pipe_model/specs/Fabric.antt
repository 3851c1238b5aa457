-- The links of the two sides, their groups and their flows, after a history.
-- A reader learns here when a link is made, goes live and is lost, when a group begins and ends, and what is asked meanwhile.
use Rattle.std.specs.Prelude.{ℕ, ◌+◌, ◌/◌, ◌^◌, ◌==◌, ◌&&◌, ◌||◌, not, nat_lt, Bool, true, false, if◌then◌else◌, List, [], ◌∷◌, ◌++◌, take, drop, filter, Option, Some, None, option_and_then}
use Rattle.std.specs.List.{list_all}
use Rattle.smc_num.specs.declared.Side.{Side}
use Rattle.smc_num.specs.declared.Side.TheVariants.{A, B}
use Rattle.smc_num.specs.declared.LinkId.{LinkId}
use Rattle.smc_num.specs.declared.LinkPhase.TheVariants.{Pending, Live as LiveLink, Dead}
use Rattle.smc_num.specs.Names.{other, same_side, same_link, has_link, head}
use Rattle.smc_num.specs.Links.{Known, is_standing, phase_at, stands, link_at, link_or_none, unpending, lowest_live, put, set_phase, all_dead}
use Rattle.llc_wire.specs.declared.KeyToken.{KeyToken}
use Rattle.llc_wire.specs.declared.LlcMessage.{LlcMessage}
use Rattle.llc_wire.specs.declared.LlcMessage.TheVariants.{AddLink, ConfirmRkey}
use Rattle.clc_wire.specs.declared.message.ClcMessage.TheVariants.{Accept, Confirm}
use Rattle.pipe_model.specs.declared.flow.LinkView.{LinkView}
use Rattle.pipe_model.specs.declared.flow.FlowStep.{FlowStep}
use Rattle.pipe_model.specs.declared.flow.FlowStep.TheVariants.{Live, ReplyAdd, Gone}
use Rattle.pipe_model.specs.declared.reply.SentKind.TheVariants.{Accept as AcceptSent, Confirm as ConfirmSent, ConfirmRkey as KeySent, AddLink as AddLinkSent, TestLink as TestSent, DeleteRkey as DeleteSent}
use Rattle.pipe_model.specs.declared.event.Event.{Event}
use Rattle.pipe_model.specs.declared.event.Event.TheVariants.{Clc as ClcEvent, Deliver, Complete, Swallow, Cut, Heal, Report, Grow, Test, Trim}
use Rattle.pipe_model.specs.declared.reply.Reply.{Reply}
use Rattle.pipe_model.specs.declared.reply.Reply.TheVariants.{Done, Idle, Sent, Landed, Completed, Dropped, GroupEnded}
use Rattle.pipe_model.specs.declared.post.Post.{Post}
use Rattle.pipe_model.specs.declared.post.Post.TheVariants.{Llc, Clc}
use Rattle.pipe_model.specs.declared.post.Placed.{Placed}
use Rattle.pipe_model.specs.declared.entry.Entry.{Entry}
use Rattle.pipe_model.specs.Words.{is_nil, passes}
use Rattle.pipe_model.specs.History.{next_number, post_at, numbered, link_of_post, sender}
use Rattle.pipe_model.specs.Flows.{Flow, FirstContact, no_flow, flow_step, flow_after, named_slot, begins_add, begins_confirm, begins_delete, begins_test, begins_drop, lost, is_asked, resends_key}
use Rattle.smc_num.specs.Places.{rmb_at}

-- whether the path of a slot is up after an event, where it was `up` before
-- ours: the fabric in memory
abbrev pub sets_path : ℕ → Event → Reply → Bool → Bool
sets_path k (Cut j) Done up = not (k == j) && up
sets_path k (Heal j) Done up = (k == j) || up
sets_path k _ _ up = up

-- whether the path of a slot is up after a history
-- ours: the fabric in memory
abbrev pub path_up : ℕ → List Entry → Bool
path_up k [] = true
path_up k (e ∷ older) = sets_path k e.event e.reply (path_up k older)

-- a side in its group, 0 where it has none: the links that it knows there, its flows, and the links whose keys were in its
-- last CONFIRM RKEY
-- RFC 7609, 2.2; what a side keeps is ours
pub record Peer : Type 0 where
  pub group : ℕ
  pub table : List Known
  pub flow : Flow
  pub told : List LinkId

-- the latest link of each slot, in all groups, and the two sides
-- ours: the fabric in memory
pub record Fabric : Type 0 where
  pub latest : List Known
  pub a : Peer
  pub b : Peer

-- one of the two sides
-- ours: a choice by side
abbrev pub peer : Side → Fabric → Peer
peer A f = f.a
peer B f = f.b

-- the fabric with another state of a side
-- ours: a choice by side
abbrev pub with_peer : Side → Peer → Fabric → Fabric
with_peer A p f = record f { a = p }
with_peer B p f = record f { b = p }

-- a side without a group
-- RFC 7609, 2.2 and 3.5: first contact makes a group
abbrev pub no_group : Peer
no_group = record { group = 0; table = []; flow = no_flow; told = [] }

-- a side in first contact of a group
-- RFC 7609, 2.2 and 3.5: first contact makes a group
abbrev pub begins_group : ℕ → Peer
begins_group group = record no_group { group = group; flow = record no_flow { link = FirstContact } }

-- how many links were made on a slot
-- ours: the incarnations of a slot
abbrev pub made_on : ℕ → Fabric → ℕ
made_on k f = (link_or_none k f.latest).incarnation

-- a side knows a new link, which is pending there
-- RFC 7609, 2.2; the phases are ours
abbrev pub learns_link : LinkId → Peer → Peer
learns_link link p = record p { table = put (record { link = link; phase = Pending }) p.table }

-- a link is made: it stands at both sides
-- RFC 7609, 2.2; the phases are ours
abbrev pub makes : LinkId → Fabric → Fabric
makes link f = record { latest = put (record { link = link; phase = Pending }) f.latest; a = learns_link link f.a; b = learns_link link f.b }

-- a side with its flows changed
-- ours: a change of one field
abbrev pub with_flow : (Flow → Flow) → Peer → Peer
with_flow change p = record p { flow = change p.flow }

-- the group of a side ends with its last live link
-- ours: the group ends with its last live link
abbrev pub ends_group : Peer → Peer
ends_group p = record no_group { table = all_dead p.table }

-- a side that holds the link of a slot for dead
-- ours: a lost link is dead at once
abbrev pub without_slot : ℕ → Peer → Peer
without_slot k p = record p { table = set_phase k Dead p.table }

-- whether it posts a CONFIRM RKEY again as it loses a link
-- ours: a request whose carrier is lost is posted again
abbrev pub asks_again : ℕ → Flow → Bool
asks_again k f = is_asked f.key && resends_key k f

-- its flows go on without that link; a CONFIRM RKEY that is posted again is built anew, with the links of that moment
-- ours: a request whose carrier is lost is posted again
abbrev pub goes_on : ℕ → Peer → Peer
goes_on k p = record p { flow = lost k (lowest_live p.table) p.flow; told = if asks_again k p.flow then unpending p.table else p.told }

-- a side reports the link of a slot
-- RFC 7609, 3.3; what follows for the flows is ours
abbrev pub loses : ℕ → Peer → Peer
loses k p = let q = without_slot k p in if lowest_live q.table == 0 then ends_group q else goes_on k q

-- where it does so of its own, it asks the peer to delete the link
-- RFC 7609, 3.3: DELETE LINK
abbrev pub reports : ℕ → Peer → Peer
reports k p = let q = loses k p in if q.group == 0 then q else with_flow (begins_drop k (lowest_live q.table)) q

-- what a side sees of a slot
-- ours: what the tables of the flows ask of a slot
abbrev pub view_of : Side → ℕ → List Entry → Fabric → LinkView
view_of x k past f = record {
  path_up = path_up k past;
  stands_here = is_standing (phase_at k (peer x f).table);
  stands_there = is_standing (phase_at k (peer (other x) f).table);
}

-- whether every link that a side knows was in its last CONFIRM RKEY
-- RFC 7609, 2.1: a key for every link
abbrev pub is_whole : Peer → Bool
is_whole p = list_all (λ known. has_link known.link p.told) p.table

-- what a side does with an LLC message that lands on a link
-- ours: a case for each message
abbrev pub llc_step : Side → LinkId → LlcMessage → List Entry → Fabric → FlowStep
llc_step x link m past f = flow_step x (peer x f).flow m (view_of x (named_slot m link.slot) past f) link.slot (is_whole (peer x f))

-- what that step does to the links
-- RFC 7609, 3.3; the order is ours
abbrev pub acts : Side → LinkId → LlcMessage → FlowStep → Fabric → Fabric
acts x link m (Live reply first) f = with_peer x (record (peer x f) { table = set_phase link.slot LiveLink (peer x f).table }) f
acts x link m (ReplyAdd false) f = let k = named_slot m link.slot in makes (record { group = (peer x f).group; slot = k; incarnation = made_on k f + 1 }) f
acts x link m (Gone true) f = with_peer x (loses (named_slot m link.slot) (peer x f)) f
acts x link m _ f = f

-- a step of the flows: first the flows, then the links
-- RFC 7609, 3.3; the order is ours
abbrev pub does : Side → LinkId → LlcMessage → FlowStep → Fabric → Fabric
does x link m step f = acts x link m step (with_peer x (with_flow (flow_after step m link.slot (lowest_live (peer x f).table)) (peer x f)) f)

-- what lands at a side in an entry
-- ours: a case for each event
abbrev pub lands : Option Post → Side → List Entry → Fabric → Fabric
lands (Some (Llc from link m)) x past f = does x link m (llc_step x link m past f) f
lands _ x past f = f

-- the RMB whose keys a CONFIRM RKEY tells
-- RFC 7609, 3.3: CONFIRM RKEY
abbrev pub asked_rmb : List KeyToken → ℕ
asked_rmb [] = 0
asked_rmb (token ∷ tokens) = rmb_at token.address

-- an offer of first contact begins a group at its side, and a Confirm of it makes the first link
-- RFC 7609, 3.5
abbrev pub begins : Post → Fabric → Fabric
begins (Clc B s (Some link) (Accept offer)) f = if offer.first then with_peer B (begins_group link.group) f else f
begins (Clc A s (Some link) (Confirm offer)) f = if offer.first then makes link (with_peer A (begins_group link.group) f) else f
begins _ f = f

-- a side begins to confirm the keys of an RMB on all its links that are not pending
-- RFC 7609, 3.3: CONFIRM RKEY; on which links is ours
abbrev pub confirms_on : ℕ → ℕ → Peer → Peer
confirms_on carrier rmb p = record (with_flow (begins_confirm rmb carrier) p) { told = unpending p.table }

-- a side sends a CONFIRM RKEY
-- RFC 7609, 3.3: CONFIRM RKEY; on which links is ours
abbrev pub asks_key : Side → Post → Fabric → Fabric
asks_key x (Llc from link (ConfirmRkey reply retry negative others tokens)) f = with_peer x (confirms_on link.slot (asked_rmb tokens) (peer x f)) f
asks_key x _ f = f

-- B sends an ADD LINK
-- RFC 7609, 3.3: ADD LINK
abbrev pub asks_link : Post → Fabric → Fabric
asks_link (Llc from link (AddLink reply rejected reason mac gid qp k mtu psn)) f = with_peer B (with_flow (begins_add k link.slot) (peer B f)) f
asks_link _ f = f

-- a side sends a DELETE RKEY
-- RFC 7609, 3.3: DELETE RKEY
abbrev pub asks_delete : Side → Post → Fabric → Fabric
asks_delete x (Llc from link m) f = with_peer x (with_flow (begins_delete link.slot) (peer x f)) f
asks_delete x _ f = f

-- what the first post of an event does
-- ours: a case for each event
abbrev pub by_post : (Post → Fabric → Fabric) → List Post → Fabric → Fabric
by_post change [] f = f
by_post change (post ∷ posts) f = change post f

-- what one entry does to the links, the groups and the flows
-- ours: a state after a history
abbrev pub after : Event → Reply → List Post → List Entry → Fabric → Fabric
after (ClcEvent s dir) (Sent AcceptSent) posts past f = by_post begins posts f
after (ClcEvent s dir) (Sent ConfirmSent) posts past f = by_post begins posts f
after (ClcEvent s dir) (Sent KeySent) posts past f = by_post (asks_key (other dir)) posts f
after (Deliver slot dir) (Landed at) posts past f = lands (post_at at past) (other dir) past f
after (Report x slot) Done posts past f = with_peer x (reports slot (peer x f)) f
after (Report x slot) (GroupEnded group) posts past f = with_peer x (reports slot (peer x f)) f
after Grow (Sent AddLinkSent) posts past f = by_post asks_link posts f
after (Test x slot) (Sent TestSent) posts past f = with_peer x (with_flow (begins_test slot) (peer x f)) f
after (Trim x) (Sent DeleteSent) posts past f = by_post (asks_delete x) posts f
after _ _ posts past f = f

-- the fabric after a history
-- ours: a state after a history
abbrev pub fabric : List Entry → Fabric
fabric [] = record { latest = []; a = no_group; b = no_group }
fabric (e ∷ older) = after e.event e.reply e.posts older (fabric older)

-- an LLC message that lands at a side, its link, and what the side does with it
-- ours: a landed message and what its taker does
pub record Act : Type 0 where
  pub link : LinkId
  pub message : LlcMessage
  pub step : FlowStep

-- the act for a post that lands
-- ours: a landed message and what its taker does
abbrev pub act_of : Side → Option Post → List Entry → Option Act
act_of x (Some (Llc from link m)) past = Some (record { link = link; message = m; step = llc_step x link m past (fabric past) })
act_of x _ past = None

-- the act of a side with an event
-- ours: a landed message and what its taker does
abbrev pub act_by : Side → Event → Reply → List Entry → Option Act
act_by A (Deliver slot B) (Landed at) past = act_of A (post_at at past) past
act_by B (Deliver slot A) (Landed at) past = act_of B (post_at at past) past
act_by x _ _ past = None

-- the act of a side with an entry
-- ours: a landed message and what its taker does
abbrev pub act_in : Side → Entry → List Entry → Option Act
act_in x e past = act_by x e.event e.reply past

-- the group of a side, 0 for none
-- ours: a part of that state
abbrev pub group_of : Side → List Entry → ℕ
group_of x past = (peer x (fabric past)).group

-- the links that a side knows
-- ours: a part of that state
abbrev pub table_of : Side → List Entry → List Known
table_of x past = (peer x (fabric past)).table

-- the flows of a side
-- ours: a part of that state
abbrev pub flow_of : Side → List Entry → Flow
flow_of x past = (peer x (fabric past)).flow

-- whether a group ends at a side with an entry
-- ours: the group ends with its last live link
abbrev pub loses_group_with : Side → ℕ → Entry → List Entry → Bool
loses_group_with x group e past = not (group == 0) && ((group_of x past == group) && not (group_of x (e ∷ past) == group))

-- whether a group has ended at a side
-- ours: the group ends with its last live link
abbrev pub has_ended : Side → ℕ → List Entry → Bool
has_ended x group [] = false
has_ended x group (e ∷ older) = loses_group_with x group e older || has_ended x group older

-- the latest link of a slot
-- ours: the incarnations of a slot
abbrev pub latest : ℕ → List Entry → Option LinkId
latest k past = link_at k (fabric past).latest

-- whether a link is the latest of its slot
-- ours: the incarnations of a slot
abbrev pub is_latest : LinkId → List Entry → Bool
is_latest link past = passes (same_link link) (latest link.slot past)
