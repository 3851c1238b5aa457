-- What each event is told, after a history.
-- A reader learns here, row by row, the first reply that holds: of calls by the end's pipe or its queues, of messages by the
-- verdict, of links by the fabric, and of requests by the flows.
use Rattle.std.specs.Prelude.{ℕ, ◌-◌, ◌==◌, ◌&&◌, ◌||◌, not, min, Bool, true, false, if◌then◌else◌, List, length, take, drop, filter, Option, Some, None, is_some, slice_index_or}
use Rattle.smc_num.specs.declared.Side.{Side}
use Rattle.smc_num.specs.declared.Side.TheVariants.{A, B}
use Rattle.smc_num.specs.Names.{other, has, head, up_to}
use Rattle.smc_num.specs.Links.{Known, is_live, is_standing, phase_at, link_at}
use Rattle.clc_wire.specs.declared.message.ClcMessage.{ClcMessage}
use Rattle.clc_wire.specs.declared.message.ClcMessage.TheVariants.{Confirm as ConfirmMessage}
use Rattle.pipe_model.specs.declared.event.End.{End as EndName}
use Rattle.pipe_model.specs.declared.flow.KeyPhase.{KeyPhase}
use Rattle.pipe_model.specs.declared.flow.KeyPhase.TheVariants.{Asked, Retry}
use Rattle.pipe_model.specs.declared.reply.Hold.TheVariants.{FirstContact as FirstContactHold, AddLink as AddLinkHold, ConfirmRkey as ConfirmRkeyHold, DeleteRkey as DeleteRkeyHold, TestLink as TestLinkHold}
use Rattle.pipe_model.specs.declared.reply.Lack.TheVariants.{NotCapable}
use Rattle.pipe_model.specs.declared.reply.SentKind.TheVariants.{Accept as AcceptSent, Confirm as ConfirmSent, ConfirmLink as LinkSent, AddLink as AddLinkSent, ConfirmRkey as KeySent, DeleteRkey as DeleteSent, TestLink as TestSent}
use Rattle.pipe_model.specs.declared.reply.ResetCause.{ResetCause}
use Rattle.pipe_model.specs.declared.reply.ResetCause.TheVariants.{NoLiveLink, BadClc, BadStep}
use Rattle.pipe_model.specs.declared.verdict.ClcStep.{ClcStep}
use Rattle.pipe_model.specs.declared.verdict.ClcStep.TheVariants.{SendAccept, SendConfirm, AskKey, Wait, Decline, Fell, Ready, Lost, Wrong}
use Rattle.pipe_model.specs.declared.event.Event.{Event}
use Rattle.pipe_model.specs.declared.event.Event.TheVariants.{Open, Raw, Write, Read, Finish, Close, Abort, Await, Clc, Deliver, Complete, Swallow, Cut, Heal, Report, Move, Grow, Test, Trim}
use Rattle.pipe_model.specs.declared.reply.Reply.{Reply}
use Rattle.pipe_model.specs.declared.reply.Reply.TheVariants.{Opened, NameUsed, NoSocket, Wrote, Full, NotYet, Done, Idle, Reset, Established, FellBack, Held, Sent, Declined, Landed, Dropped, GroupEnded}
use Rattle.pipe_model.specs.declared.post.Post.{Post}
use Rattle.pipe_model.specs.declared.post.Post.TheVariants.{Cdc}
use Rattle.pipe_model.specs.declared.post.Placed.{Placed}
use Rattle.pipe_model.specs.declared.setup.Setup.{Setup}
use Rattle.pipe_model.specs.declared.entry.Entry.{Entry}
use Rattle.pipe_model.specs.Words.{passes, is_nil}
use Rattle.pipe_model.specs.Calls.{Call, Writes, Reads, Finishes, Closes, Aborts, Awaits, Moves, Told, Plain}
use Rattle.pipe_model.specs.Pipe.{told as pipe_told}
use Rattle.pipe_model.specs.Closing.{cause_of}
use Rattle.pipe_model.specs.Flows.{Flow, is_first_contact, is_adding, is_asked, is_deleting}
use Rattle.pipe_model.specs.Fabric.{Peer, path_up, table_of, flow_of, group_of, loses}
use Rattle.pipe_model.specs.Wires.{landing, completing, swallowed, completed_told, cut_told, heal_told, is_dead}
use Rattle.pipe_model.specs.Connections.{EndState, NoEnd, WaitsProposal, WaitsAnswer, WaitsConfirm, IsUp, HasFallen, WasReset, end_state, group_on}
use Rattle.pipe_model.specs.Lending.{terms_of, pipe_of, record_of}
use Rattle.pipe_model.specs.Handshake.{verdict, lacks}
use Rattle.pipe_model.specs.Fallback.{Front, NoMessage, Faulty, Whole, front, is_raw, is_opened, stream, stream_room, queue_told, queues, Queues}
use Rattle.pipe_model.specs.Posts.{peer_of, trimmed}

-- the two rows that begin a socket
-- ours: what the application is told
abbrev pub open_told : Setup → ℕ → List Entry → Reply
open_told setup s past =
    let a : Bool = slice_index_or setup.capable 0 false in
    let b : Bool = slice_index_or setup.capable 1 false in
    if is_opened s past || is_raw s past then NameUsed else
    if not (a && b) then Declined (NotCapable a b) else Opened

-- what raw bytes are told, by the room
-- ours: what the application is told
abbrev pub raw_room : ℕ → ℕ → Reply
raw_room room len = if not (len == 0) && (room == 0) then Full else Wrote (min len room)

-- what raw bytes are told
-- ours: what the application is told
abbrev pub raw_told : List ℕ → ℕ → ℕ → List Entry → Reply
raw_told payload s len past = if is_opened s past then NameUsed else raw_room (stream_room - length (stream payload A s past)) len

-- a call of an end, by what the end is
-- ours: what the application is told
abbrev pub fallen_told : Call → Queues → Option ResetCause → Told
fallen_told call q None = queue_told call q
fallen_told Awaits q (Some cause) = Plain Done
fallen_told Moves q (Some cause) = Plain Idle
fallen_told call q (Some cause) = Plain (Reset cause)

-- a call on an end that waits
-- ours: what the application is told
abbrev pub waiting_told : Call → Reply
waiting_told Awaits = Idle
waiting_told Moves = Idle
waiting_told call = NotYet

-- a call on an end that was reset before it was established
-- ours: what the application is told
abbrev pub lost_told : ResetCause → Call → Reply
lost_told cause Awaits = Done
lost_told cause Moves = Idle
lost_told cause call = Reset cause

-- a call by the state of the end
-- ours: what the application is told
abbrev pub end_told : Setup → List ℕ → EndName → Call → List Entry → EndState → Told
end_told setup payload end call past NoEnd = Plain NoSocket
end_told setup payload end call past IsUp = pipe_told (terms_of setup) end.side call (pipe_of setup payload (group_on end.s past) end.s past)
end_told setup payload end call past HasFallen = let q : Queues = queues payload end.side end.s past in fallen_told call q (cause_of q.phase)
end_told setup payload end call past (WasReset cause) = Plain (lost_told cause call)
end_told setup payload end call past _ = Plain (waiting_told call)

-- what a call is told
-- ours: what the application is told
abbrev pub call_told : Setup → List ℕ → EndName → Call → List Entry → Told
call_told setup payload end call past = end_told setup payload end call past (end_state end.side end.s past)

-- whether an end waits for a CLC message
-- RFC 7609, 3.5
abbrev pub expects : EndState → Bool
expects WaitsProposal = true
expects WaitsAnswer = true
expects WaitsConfirm = true
expects _ = false

-- what a verdict is told
-- ours: what the actor is told
abbrev pub ready_told : ClcMessage → Reply
ready_told (ConfirmMessage o) = if o.first then Sent LinkSent else Established
ready_told m = Idle

-- the reply to a verdict
-- ours: what the actor is told
abbrev pub step_told : ℕ → ClcMessage → ClcStep → Reply
step_told group m (SendAccept first) = Sent AcceptSent
step_told group m (SendConfirm true) = Sent ConfirmSent
step_told group m (SendConfirm false) = Established
step_told group m AskKey = Sent KeySent
step_told group m (Wait hold) = Held hold
step_told group m (Decline lack) = Declined lack
step_told group m Fell = FellBack
step_told group m Ready = ready_told m
step_told group m Lost = Reset (NoLiveLink group)
step_told group m (Wrong kind) = Reset (BadStep kind)

-- the verdict on a message after a history
-- RFC 7609, 3.5
abbrev pub clc_step : Setup → List ℕ → Side → ℕ → ClcMessage → List Entry → ClcStep
clc_step setup payload x s m past = verdict (is_raw s past) (end_state x s past) m (lacks setup payload x past)

-- what a Clc event is told, by what stands at the front
-- ours: what the actor is told
abbrev pub front_told : Setup → List ℕ → Side → ℕ → List Entry → Front → Reply
front_told setup payload x s past NoMessage = Idle
front_told setup payload x s past (Faulty fault) = Reset (BadClc fault)
front_told setup payload x s past (Whole m len) = step_told (group_on s past) m (clc_step setup payload x s m past)

-- what a Clc event is told
-- ours: what the actor is told
abbrev pub clc_told : Setup → List ℕ → ℕ → Side → List Entry → Reply
clc_told setup payload s dir past = if expects (end_state (other dir) s past) then front_told setup payload (other dir) s past (front payload dir s past) else Idle

-- a CDC message is dropped where its token names no record
-- ours: a message that names no lending has nothing to change
abbrev pub lands_told : Setup → List ℕ → Side → List Entry → Placed → Post → Reply
lands_told setup payload x past c (Cdc from link m) = if is_some (record_of setup payload x m.token past) then Landed c.at else Dropped m.token
lands_told setup payload x past c post = Landed c.at

-- what a Deliver is told, by what would land
-- ours: what the actor is told
abbrev pub deliver_told : Setup → List ℕ → Side → List Entry → Option Placed → Reply
deliver_told setup payload x past None = Idle
deliver_told setup payload x past (Some c) = lands_told setup payload x past c c.post

-- a report of a link that stands at the side and is dead
-- ours: what the actor is told
abbrev pub lost_link_told : ℕ → Peer → Reply
lost_link_told k p = if (loses k p).group == 0 then GroupEnded p.group else Done

-- whether a link stands at the side on a slot
-- ours: a look-up
abbrev pub standing_at : ℕ → List Known → Bool
standing_at k table = is_standing (phase_at k table)

-- whether the link that the side knows there is dead
-- ours: a look-up
abbrev pub dead_at : ℕ → List Known → List Entry → Bool
dead_at k table past = passes (λ link. is_dead link past) (link_at k table)

-- what a Report is told
-- ours: what the actor is told
abbrev pub report_told : Side → ℕ → List Entry → Reply
report_told x k past = if standing_at k (table_of x past) && dead_at k (table_of x past) past then lost_link_told k (peer_of x past) else Idle

-- the lowest slot with its path up on which no link stands at B
-- ours: the RFC leaves open where a link is added
abbrev pub open_slots : Setup → List Entry → List ℕ
open_slots setup past = filter (λ k. path_up k past && not (standing_at k (table_of B past))) (up_to setup.links)

-- what Grow is told, by the slot
-- ours: what the actor is told; the holds are ours
abbrev pub grow_to : Option ℕ → Reply
grow_to None = Idle
grow_to (Some k) = Sent AddLinkSent

-- what Grow is told
-- ours: what the actor is told; the holds are ours
abbrev pub grow_told : Setup → List Entry → Reply
grow_told setup past = let f : Flow = flow_of B past in
    if group_of B past == 0 then Idle else
    if is_first_contact f.link then Held FirstContactHold else
    if is_adding f.link then Held AddLinkHold else
    if is_asked f.key then Held ConfirmRkeyHold else
    if is_deleting f.key then Held DeleteRkeyHold else grow_to (head (open_slots setup past))

-- what a Test is told
-- ours: what the actor is told; the holds are ours
abbrev pub test_told : Side → ℕ → List Entry → Reply
test_told x k past =
    if not (is_live (phase_at k (table_of x past))) then Idle else
    if has k (flow_of x past).tests then Held TestLinkHold else Sent TestSent

-- whether a key flow keeps RMBs from being trimmed
-- ours: a word on flows
abbrev pub is_asking_or_waiting : KeyPhase → Bool
is_asking_or_waiting Asked = true
is_asking_or_waiting Retry = true
is_asking_or_waiting _ = false

-- what a Trim is told
-- ours: what the actor is told; the holds are ours
abbrev pub trim_told : Setup → List ℕ → Side → List Entry → Reply
trim_told setup payload x past = let f : Flow = flow_of x past in
    if group_of x past == 0 then Idle else
    if is_first_contact f.link then Held FirstContactHold else
    if is_adding f.link then Held AddLinkHold else
    if is_asking_or_waiting f.key then Held ConfirmRkeyHold else
    if is_deleting f.key then Held DeleteRkeyHold else
    if is_nil (trimmed setup payload x past) then Idle else Sent DeleteSent

-- what an event is told after a history
-- ours: a case for each event
abbrev pub told : Setup → List ℕ → List Entry → Event → Told
told setup payload past (Open s) = Plain (open_told setup s past)
told setup payload past (Raw s at len) = Plain (raw_told payload s len past)
told setup payload past (Write end at len) = call_told setup payload end (Writes (take len (drop at payload))) past
told setup payload past (Read end len) = call_told setup payload end (Reads len) past
told setup payload past (Finish end) = call_told setup payload end Finishes past
told setup payload past (Close end) = call_told setup payload end Closes past
told setup payload past (Abort end) = call_told setup payload end Aborts past
told setup payload past (Await end) = call_told setup payload end Awaits past
told setup payload past (Move end) = call_told setup payload end Moves past
told setup payload past (Clc s dir) = Plain (clc_told setup payload s dir past)
told setup payload past (Deliver slot dir) = Plain (deliver_told setup payload (other dir) past (landing slot dir past))
told setup payload past (Complete slot dir) = Plain (completed_told (completing slot dir past))
told setup payload past (Swallow slot dir) = Plain (completed_told (swallowed slot dir past))
told setup payload past (Cut slot) = Plain (cut_told slot past)
told setup payload past (Heal slot) = Plain (heal_told slot past)
told setup payload past (Report x slot) = Plain (report_told x slot past)
told setup payload past Grow = Plain (grow_told setup past)
told setup payload past (Test x slot) = Plain (test_told x slot past)
told setup payload past (Trim x) = Plain (trim_told setup payload x past)
