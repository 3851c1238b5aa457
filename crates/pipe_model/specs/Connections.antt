-- Connections: what has become of the two ends of a socket, and the part of a history that concerns one connection.
-- A reader learns here when an end is established, and which items of its private pipe an entry gives.
use Rattle.std.specs.Prelude.{ℕ, ◌+◌, ◌==◌, ◌&&◌, ◌||◌, not, nat_lt, nat_le, Bool, true, false, if◌then◌else◌, List, [], ◌∷◌, ◌++◌, length, take, drop, reverse, filter, filter_map, flat_map, find, Option, Some, None, option_map, option_to_list, unwrap_or, is_some, option_and_then}
use Rattle.std.specs.Option.{option_or}
use Rattle.smc_num.specs.declared.Side.{Side}
use Rattle.smc_num.specs.declared.Side.TheVariants.{A, B}
use Rattle.smc_num.specs.declared.LinkId.{LinkId}
use Rattle.smc_num.specs.declared.LinkPhase.{LinkPhase}
use Rattle.smc_num.specs.declared.LinkPhase.TheVariants.{Unused, Live as LiveLink, Dead}
use Rattle.smc_num.specs.Names.{other, same_link}
use Rattle.smc_num.specs.Links.{Known, same_phase}
use Rattle.pipe_model.specs.declared.flow.FlowStep.{FlowStep}
use Rattle.pipe_model.specs.declared.flow.FlowStep.TheVariants.{Live}
use Rattle.pipe_model.specs.declared.reply.ResetCause.{ResetCause}
use Rattle.pipe_model.specs.declared.reply.ResetCause.TheVariants.{NoLiveLink}
use Rattle.pipe_model.specs.declared.reply.SentKind.TheVariants.{Accept as AcceptSent, Confirm as ConfirmSent, ConfirmLink as LinkSent}
use Rattle.pipe_model.specs.declared.event.Event.{Event}
use Rattle.pipe_model.specs.declared.event.Event.TheVariants.{Open, Raw, Write, Read, Finish, Close, Abort, Await, Clc, Deliver, Complete, Swallow, Move}
use Rattle.pipe_model.specs.declared.reply.Reply.{Reply}
use Rattle.pipe_model.specs.declared.reply.Reply.TheVariants.{Opened, Wrote, Declined, Established, FellBack, Reset, Sent, Landed, Dropped, Completed}
use Rattle.pipe_model.specs.declared.post.PostRef.{PostRef}
use Rattle.pipe_model.specs.declared.post.Post.{Post}
use Rattle.pipe_model.specs.declared.entry.Entry.{Entry}
use Rattle.pipe_model.specs.declared.event.End.{End}
use Rattle.pipe_model.specs.Words.{passes}
use Rattle.pipe_model.specs.History.{next_number, post_at, numbered, Offered, offered, is_cdc}
use Rattle.pipe_model.specs.Fabric.{act_in, table_of, loses_group_with}
use Rattle.pipe_model.specs.Wires.{landing}
use Rattle.pipe_model.specs.Pipe.{Item, Fate, GroupEnd, Up, Calls, Lands, Completes}
use Rattle.pipe_model.specs.Calls.{Call, Writes, Reads, Finishes, Closes, Aborts, Awaits, Moves}

-- what an end waits for, or what has become of it
-- RFC 7609, 3.5; the states are ours
pub data EndState : Type 0 where
  NoEnd : EndState
  WaitsProposal : EndState
  WaitsAnswer : EndState
  WaitsConfirm : EndState
  WaitsLink : EndState
  IsUp : EndState
  HasFallen : EndState
  WasReset : ResetCause → EndState

-- the link that the Accept on a socket names
-- RFC 7609, 3.5: the Accept names the link
abbrev pub named_link : ℕ → List Entry → Option LinkId
named_link s past = option_map (λ o. o.link) (offered B s past)

-- the group of a connection, 0 where none was offered
-- RFC 7609, 3.5: the Accept names the link
abbrev pub group_on : ℕ → List Entry → ℕ
group_on s past = unwrap_or (option_map (λ link. link.group) (named_link s past)) 0

-- whether a link is that of the first contact which the Accept on a socket offered
-- RFC 7609, 3.5: by CONFIRM LINK in first contact, else by the Confirm
abbrev pub is_first_on : LinkId → Option Offered → Bool
is_first_on link offer = passes (λ o. o.offer.first && same_link o.link link) offer

-- the link whose confirmation in first contact establishes the end
-- RFC 7609, 3.5: by CONFIRM LINK in first contact, else by the Confirm
abbrev pub confirmed_by : Option Offered → LinkId → FlowStep → Option LinkId
confirmed_by offer link (Live reply true) = if is_first_on link offer then Some link else None
confirmed_by offer link _ = None

-- the link on which an end comes up with an entry: in later contact by the Confirm, in first contact as its link goes live
-- RFC 7609, 3.5: by CONFIRM LINK in first contact, else by the Confirm
abbrev pub up_by : Side → ℕ → Event → Reply → List Entry → Option LinkId
up_by A s (Clc t B) Established past = if s == t then named_link s past else None
up_by B s (Clc t A) Established past = if s == t then named_link s past else None
up_by x s _ _ past = None

-- the link on which an end comes up with an entry, where it does
-- RFC 7609, 3.5: by CONFIRM LINK in first contact, else by the Confirm
abbrev pub comes_up : Side → ℕ → Entry → List Entry → Option LinkId
comes_up x s e past = option_or (up_by x s e.event e.reply past) (option_and_then (λ act. confirmed_by (offered B s past) act.link act.step) (act_in x e past))

-- whether an end was established
-- RFC 7609, 3.5: by CONFIRM LINK in first contact, else by the Confirm
abbrev pub is_up : Side → ℕ → List Entry → Bool
is_up x s [] = false
is_up x s (e ∷ older) = is_some (comes_up x s e older) || is_up x s older

-- what an end is after its message was taken and answered so
-- RFC 7609, 3.5; the states are ours
abbrev pub after_clc : Reply → EndState → EndState
after_clc (Sent AcceptSent) state = WaitsConfirm
after_clc (Sent ConfirmSent) state = WaitsLink
after_clc (Sent LinkSent) state = WaitsLink
after_clc (Declined lack) state = HasFallen
after_clc FellBack state = HasFallen
after_clc (Reset cause) state = WasReset cause
after_clc _ state = state

-- raw bytes make the end at B wait for a Proposal
-- ours: a client that is no SMC-R peer
abbrev pub after_raw : Side → EndState → EndState
after_raw B NoEnd = WaitsProposal
after_raw x state = state

-- what an entry about the socket makes of an end that is not up
-- RFC 7609, 3.5; the states are ours
abbrev pub after_event : Side → ℕ → Event → Reply → EndState → EndState
after_event A s (Open t) Opened state = if s == t then WaitsAnswer else state
after_event B s (Open t) Opened state = if s == t then WaitsProposal else state
after_event x s (Open t) (Declined lack) state = if s == t then HasFallen else state
after_event x s (Raw t at len) (Wrote n) state = if s == t then after_raw x state else state
after_event A s (Clc t B) reply state = if s == t then after_clc reply state else state
after_event B s (Clc t A) reply state = if s == t then after_clc reply state else state
after_event x s _ _ state = state

-- an end that waits for CONFIRM LINK is reset with its group
-- ours: the end of a group resets, and does not decline
abbrev pub after_loss : Bool → ℕ → EndState → EndState
after_loss true group WaitsLink = WasReset (NoLiveLink group)
after_loss lost group state = state

-- what an end is after a history, as long as it is not up
-- ours: a state after a history
abbrev pub early_state : Side → ℕ → List Entry → EndState
early_state x s [] = NoEnd
early_state x s (e ∷ older) = after_loss (loses_group_with x (group_on s older) e older) (group_on s older) (after_event x s e.event e.reply (early_state x s older))

-- what an end is after a history; one that is up stays so
-- ours: a state after a history
abbrev pub end_state : Side → ℕ → List Entry → EndState
end_state x s past = if is_up x s past then IsUp else early_state x s past

-- the token under which the peer's messages reach an end
-- RFC 7609, 3.4: the alert token
abbrev pub token_of : Side → ℕ → List Entry → ℕ
token_of x s past = unwrap_or (option_map (λ o. o.offer.token) (offered x s past)) 0

-- whether a phase is the fate of a link: live or dead
-- ours: which news a connection gets
abbrev pub is_fate : LinkPhase → Bool
is_fate LiveLink = true
is_fate Dead = true
is_fate _ = false

-- the phase of that very link at a side
-- ours: which news a connection gets
abbrev pub phase_of : LinkId → List Known → LinkPhase
phase_of link table = unwrap_or (option_map (λ known. known.phase) (find (λ known. same_link link known.link) table)) Unused

-- the fate of a known link, where its phase has become live or dead
-- ours: which news a connection gets
abbrev pub fate_of : Side → ℕ → List Known → Known → Option Item
fate_of x group before known =
    if (known.link.group == group) && (is_fate known.phase && not (same_phase known.phase (phase_of known.link before))) then Some (Fate x known.link known.phase) else None

-- the fates at a side with an entry, by slot
-- ours: which news a connection gets
abbrev pub fates : Side → ℕ → Entry → List Entry → List Item
fates x group e past = filter_map (fate_of x group (table_of x past)) (table_of x (e ∷ past))

-- the end of the group at a side with an entry
-- ours: which news a connection gets
abbrev pub group_end : Side → ℕ → Entry → List Entry → List Item
group_end x group e past = if loses_group_with x group e past then GroupEnd x ∷ [] else []

-- the establishment of an end with an entry
-- ours: which news a connection gets
abbrev pub ups : Side → ℕ → Entry → List Entry → List Item
ups x s e past = option_to_list (option_map (Up x) (comes_up x s e past))

-- a call of an end, once it is up
-- ours: which news a connection gets
abbrev pub call_on : End → Call → ℕ → List Entry → List Item
call_on end call s past = if (s == end.s) && is_up end.side s past then Calls end.side call ∷ [] else []

-- whether a place in the history is that of a CDC message of a side under a token
-- RFC 7609, 3.4: the alert token names the receiver's connection
abbrev pub names_cdc : Side → ℕ → PostRef → List Entry → Bool
names_cdc x token at past = passes (is_cdc x token) (post_at at past)

-- whether it is that of a message of the end at a side: one under the token that the peer's offer gave it
-- RFC 7609, 3.4: the alert token names the receiver's connection
abbrev pub is_own : Side → ℕ → List Entry → PostRef → Bool
is_own x s past at = passes (λ o. names_cdc x o.offer.token at past) (offered (other x) s past)

-- the item, where such a place is named
-- ours: which news a connection gets
abbrev pub if_own : Item → Side → ℕ → Option PostRef → List Entry → List Item
if_own item x s at past = if passes (is_own x s past) at then item ∷ [] else []

-- the post that lands with an entry, dropped or not
-- ours: which news a connection gets
abbrev pub landed_at : ℕ → Side → Reply → List Entry → Option PostRef
landed_at slot dir (Landed at) past = Some at
landed_at slot dir (Dropped token) past = option_map (λ c. c.at) (landing slot dir past)
landed_at slot dir _ past = None

-- the post that completes or is swallowed with an entry
-- ours: which news a connection gets
abbrev pub completed_at : Reply → Option PostRef
completed_at (Completed at) = Some at
completed_at _ = None

-- the calls, landings and completions that an entry gives a connection
-- ours: which news a connection gets
abbrev pub deeds : List ℕ → ℕ → Event → Reply → List Entry → List Item
deeds payload s (Write end at len) reply past = call_on end (Writes (take len (drop at payload))) s past
deeds payload s (Read end len) reply past = call_on end (Reads len) s past
deeds payload s (Finish end) reply past = call_on end Finishes s past
deeds payload s (Close end) reply past = call_on end Closes s past
deeds payload s (Abort end) reply past = call_on end Aborts s past
deeds payload s (Await end) reply past = call_on end Awaits s past
deeds payload s (Move end) reply past = call_on end Moves s past
deeds payload s (Deliver slot dir) reply past = if_own (Lands dir) dir s (landed_at slot dir reply past) past
deeds payload s (Complete slot dir) reply past = if_own (Completes dir) dir s (completed_at reply) past
deeds payload s (Swallow slot dir) reply past = if_own (Completes dir) dir s (completed_at reply) past
deeds payload s _ reply past = []

-- the items that an entry gives a connection, the newest first: fates by slot, the group's end, establishment, the rest
-- ours: the news of a connection in their order
abbrev pub items : List ℕ → ℕ → ℕ → Entry → List Entry → List Item
items payload group s e past =
    deeds payload s e.event e.reply past ++ reverse (ups A s e past ++ ups B s e past) ++
    reverse (group_end A group e past ++ group_end B group e past) ++ reverse (fates A group e past ++ fates B group e past)

-- the part of a history that concerns the connection of a socket in a group, the newest item first
-- ours: the news of a connection in their order
abbrev pub part : List ℕ → ℕ → ℕ → List Entry → List Item
part payload group s [] = []
part payload group s (e ∷ older) = items payload group s e older ++ part payload group s older

-- the part of the connection that was offered on a socket
-- ours: the news of a connection in their order
abbrev pub part_on : List ℕ → ℕ → List Entry → List Item
part_on payload s past = part payload (group_on s past) s past
