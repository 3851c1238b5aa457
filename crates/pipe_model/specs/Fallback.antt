-- The two TCP streams of a socket: its CLC messages, the bytes of a raw client, and those of ends that have fallen back.
-- A reader learns here what stands at the front of a stream, and how a fallen back end answers as one of two plain queues.
use Rattle.std.specs.Prelude.{ℕ, ◌+◌, ◌-◌, ◌==◌, ◌&&◌, ◌||◌, not, nat_lt, min, Bool, true, false, if◌then◌else◌, List, [], ◌∷◌, ◌++◌, length, take, drop, filter_map, flat_map, Option, Some, None, Result, Ok, Err, is_some}
use Rattle.std.specs.List.{list_any}
use Rattle.smc_num.specs.declared.Side.{Side}
use Rattle.smc_num.specs.declared.Side.TheVariants.{A}
use Rattle.smc_num.specs.Names.{other, same_side, head}
use Rattle.clc_wire.specs.declared.fault.ClcFault.{ClcFault}
use Rattle.clc_wire.specs.declared.fault.ClcFault.TheVariants.{Short}
use Rattle.clc_wire.specs.declared.message.ClcMessage.{ClcMessage}
use Rattle.pipe_model.specs.declared.reply.ResetCause.TheVariants.{PeerAbort}
use Rattle.pipe_model.specs.declared.reply.SentKind.TheVariants.{ConfirmRkey as KeySent}
use Rattle.pipe_model.specs.declared.event.Event.{Event}
use Rattle.pipe_model.specs.declared.event.Event.TheVariants.{Open as OpenEvent, Raw, Write, Read, Finish, Close, Abort, Clc as ClcEvent}
use Rattle.pipe_model.specs.declared.reply.Reply.{Reply}
use Rattle.pipe_model.specs.declared.reply.Reply.TheVariants.{NameUsed, Wrote, Bytes, Full, Empty, End, Ended, Done, Idle, Held, Sent}
use Rattle.pipe_model.specs.declared.post.Post.{Post}
use Rattle.pipe_model.specs.declared.post.Post.TheVariants.{Clc}
use Rattle.pipe_model.specs.declared.entry.Entry.{Entry}
use Rattle.pipe_model.specs.Closing.{Phase, Open, after_finish, after_close, after_abort, struck, cause_of, is_closing, is_finished, finish_told, close_told, abort_told}
use Rattle.pipe_model.specs.Calls.{Told, Plain, Hands, Call, Writes, Reads, Finishes, Closes, Aborts, Awaits, Moves, is_waiting, await_told}
use Rattle.pipe_model.specs.Connections.{EndState, HasFallen, end_state}
use Rattle.clc_wire.specs.Clc.{clc_bytes, clc_length, clc_front}

-- what a stream has room for
-- ours: the room of a TCP connection in memory
abbrev pub stream_room : ℕ
stream_room = 65_536

-- whether the name was refused
-- ours: sockets have names
abbrev pub is_name_used : Reply → Bool
is_name_used NameUsed = true
is_name_used _ = false

-- an event that opens a socket
-- ours: sockets have names
abbrev pub opens : ℕ → Event → Reply → Bool
opens s (OpenEvent t) reply = (s == t) && not (is_name_used reply)
opens s _ reply = false

-- an event that puts raw bytes on a socket
-- ours: sockets have names
abbrev pub raws : ℕ → Event → Reply → Bool
raws s (Raw t at len) reply = (s == t) && not (is_name_used reply)
raws s _ reply = false

-- whether a socket was opened
-- ours: sockets have names
abbrev pub is_opened : ℕ → List Entry → Bool
is_opened s past = list_any (λ e. opens s e.event e.reply) past

-- whether a socket is raw
-- ours: a client that is no SMC-R peer
abbrev pub is_raw : ℕ → List Entry → Bool
is_raw s past = list_any (λ e. raws s e.event e.reply) past

-- whether an end in that state has fallen back
-- RFC 7609, 3.5: a declined connection goes on over TCP
abbrev pub is_fallen_state : EndState → Bool
is_fallen_state HasFallen = true
is_fallen_state _ = false

-- whether an end has fallen back
-- RFC 7609, 3.5: a declined connection goes on over TCP
abbrev pub is_fallen : Side → ℕ → List Entry → Bool
is_fallen x s past = is_fallen_state (end_state x s past)

-- whether an answer to a Clc event takes the message; one that is held or asks for a key first leaves it
-- RFC 7609, 3.2: CLC messages go over the TCP connection
abbrev pub takes_message : Reply → Bool
takes_message Idle = false
takes_message (Held hold) = false
takes_message (Sent KeySent) = false
takes_message reply = true

-- whether an event takes the next CLC message of a side
-- RFC 7609, 3.2: CLC messages go over the TCP connection
abbrev pub takes_clc : Side → ℕ → Event → Reply → Bool
takes_clc dir s (ClcEvent t d) reply = (s == t) && (same_side dir d && takes_message reply)
takes_clc dir s _ reply = false

-- the CLC message of a side in a post
-- RFC 7609, 3.2: CLC messages go over the TCP connection
abbrev pub clc_in : Side → ℕ → Post → Option ClcMessage
clc_in dir s (Clc from t link m) = if same_side dir from && (s == t) then Some m else None
clc_in dir s _ = None

-- the CLC messages of a side on a socket that its peer has not taken, the oldest first
-- RFC 7609, 3.2: CLC messages go over the TCP connection
abbrev pub untaken : Side → ℕ → List Entry → List ClcMessage
untaken dir s [] = []
untaken dir s (e ∷ older) = drop (if takes_clc dir s e.event e.reply then 1 else 0) (untaken dir s older) ++ filter_map (clc_in dir s) e.posts

-- the bytes that an application puts into a stream with an event
-- ours: a case for each event
abbrev pub written : List ℕ → Side → ℕ → Event → Reply → List Entry → List ℕ
written payload A s (Raw t at len) (Wrote n) past = if s == t then take n (drop at payload) else []
written payload x s (Write end at len) (Wrote n) past = if same_side x end.side && ((s == end.s) && is_fallen x s past) then take n (drop at payload) else []
written payload x s _ _ past = []

-- the bytes that an application takes out of its peer's stream
-- ours: a case for each event
abbrev pub read_out : Side → ℕ → Event → Reply → List Entry → ℕ
read_out dir s (Read end len) (Bytes from n) past = if same_side (other dir) end.side && ((s == end.s) && is_fallen (other dir) s past) then n else 0
read_out dir s _ _ past = 0

-- what stands at the front for the taker of CLC messages: no whole message, a fault, or a message with its length
-- RFC 7609, 3.2: CLC messages go over the TCP connection; a raw client's faults are ours
pub data Front : Type 0 where
  NoMessage : Front
  Faulty : ClcFault → Front
  Whole : ClcMessage → ℕ → Front

-- what a raw client sent, as it is read
-- RFC 7609, 3.2: CLC messages go over the TCP connection; a raw client's faults are ours
abbrev pub front_of_bytes : Result (ClcMessage × ℕ) ClcFault → Front
front_of_bytes (Ok read) = Whole read.0 read.1
front_of_bytes (Err Short) = NoMessage
front_of_bytes (Err fault) = Faulty fault

-- what the other manager sent, as its next message
-- RFC 7609, 3.2: CLC messages go over the TCP connection; a raw client's faults are ours
abbrev pub front_of_posts : Option ClcMessage → Front
front_of_posts None = NoMessage
front_of_posts (Some m) = Whole m (clc_length m)

-- a raw client's bytes are read; between the managers it is the next CLC message that was not taken
-- RFC 7609, 3.2: CLC messages go over the TCP connection; a raw client's faults are ours
abbrev pub front_of : Bool → List ℕ → List ClcMessage → Front
front_of raw held messages = if raw then front_of_bytes (clc_front held) else front_of_posts (head messages)

-- the bytes that go with the message at the front; a faulty one stays
-- RFC 7609, 3.2: CLC messages go over the TCP connection; a raw client's faults are ours
abbrev pub front_length : Front → ℕ
front_length (Whole m len) = len
front_length _ = 0

-- how many bytes leave a stream with an entry
-- ours: a TCP connection in memory
abbrev pub taken_out : Side → ℕ → Entry → List Entry → List ℕ → ℕ
taken_out dir s e past held = (if takes_clc dir s e.event e.reply then front_length (front_of (is_raw s past) held (untaken dir s past)) else 0) + read_out dir s e.event e.reply past

-- the bytes that come into a stream with an entry
-- ours: a TCP connection in memory
abbrev pub put_in : List ℕ → Side → ℕ → Entry → List Entry → List ℕ
put_in payload dir s e past = flat_map clc_bytes (filter_map (clc_in dir s) e.posts) ++ written payload dir s e.event e.reply past

-- a stream after an entry
-- ours: a TCP connection in memory
abbrev pub flows_on : List ℕ → Side → ℕ → Entry → List Entry → List ℕ → List ℕ
flows_on payload dir s e past held = drop (taken_out dir s e past held) held ++ put_in payload dir s e past

-- the bytes of a side that stand in the stream of a socket
-- ours: a TCP connection in memory
abbrev pub stream : List ℕ → Side → ℕ → List Entry → List ℕ
stream payload dir s [] = []
stream payload dir s (e ∷ older) = flows_on payload dir s e older (stream payload dir s older)

-- what stands at the front of a side's stream after a history
-- ours: a TCP connection in memory
abbrev pub front : List ℕ → Side → ℕ → List Entry → Front
front payload dir s past = front_of (is_raw s past) (stream payload dir s past) (untaken dir s past)

-- how far a fallen back end has come with closing, by its own calls
-- ours: TCP is not modelled beyond its order and its end
abbrev pub fallen_call : Side → ℕ → Event → Reply → Phase → Phase
fallen_call x s (Finish end) Done phase = if same_side x end.side && (s == end.s) then after_finish phase else phase
fallen_call x s (Close end) Done phase = if same_side x end.side && (s == end.s) then after_close phase else phase
fallen_call x s (Abort end) Done phase = if same_side x end.side && (s == end.s) then after_abort phase else phase
fallen_call x s _ _ phase = phase

-- how far a fallen back end has come by its own calls
-- ours: TCP is not modelled beyond its order and its end
abbrev pub own_phase : Side → ℕ → List Entry → Phase
own_phase x s [] = Open
own_phase x s (e ∷ older) = fallen_call x s e.event e.reply (own_phase x s older)

-- what the peer has done counts as soon as both have fallen back
-- ours: TCP is not modelled beyond its order and its end
abbrev pub peer_did : (Phase → Bool) → Side → ℕ → List Entry → Bool
peer_did f x s past = is_fallen (other x) s past && f (own_phase (other x) s past)

-- how far it has come, with what its peer did
-- ours: TCP is not modelled beyond its order and its end
abbrev pub fallen_phase : Side → ℕ → List Entry → Phase
fallen_phase x s past = if peer_did (λ p. is_some (cause_of p)) x s past then struck PeerAbort (own_phase x s past) else own_phase x s past

-- whether it sends no more bytes
-- ours: TCP is not modelled beyond its order and its end
abbrev pub has_finished : Phase → Bool
has_finished phase = is_finished phase || is_closing phase

-- what a write on a fallen back end is told, where no reset came
-- ours: what the application is told
abbrev pub fallen_write : Bool → ℕ → ℕ → Phase → Reply
fallen_write peer_closed room len phase =
    if has_finished phase || peer_closed then Ended else
    if len == 0 then Wrote 0 else
    if room == 0 then Full else Wrote (min len room)

-- what a read on it is told, where no reset came and these bytes of the peer are held
-- ours: what the application is told
abbrev pub fallen_read : Bool → List ℕ → ℕ → Phase → Told
fallen_read peer_done held len phase =
    if is_closing phase then Plain Ended else
    if len == 0 then Hands [] else
    if nat_lt 0 (length held) then Hands (take len held) else
    if peer_done then Plain End else Plain Empty

-- the two queues as an end sees them: how far it has come with closing, whether the peer has finished or closed, the room
-- for its own bytes, and the peer's bytes that are held
-- ours: a TCP connection in memory
pub record Queues : Type 0 where
  pub phase : Phase
  pub peer_done : Bool
  pub peer_closed : Bool
  pub room : ℕ
  pub held : List ℕ

-- the two queues as an end sees them after a history
-- ours: a TCP connection in memory
abbrev pub queues : List ℕ → Side → ℕ → List Entry → Queues
queues payload x s past = record {
  phase = fallen_phase x s past;
  peer_done = peer_did has_finished x s past;
  peer_closed = peer_did is_closing x s past;
  room = stream_room - length (stream payload x s past);
  held = stream payload (other x) s past;
}

-- what a call on a fallen back end is told, where no reset came
-- ours: what the application is told
abbrev pub queue_told : Call → Queues → Told
queue_told (Writes bytes) q = Plain (fallen_write q.peer_closed q.room (length bytes) q.phase)
queue_told (Reads n) q = fallen_read q.peer_done q.held n q.phase
queue_told Finishes q = Plain (finish_told q.phase)
queue_told Closes q = Plain (close_told q.phase)
queue_told Aborts q = Plain (abort_told q.phase)
queue_told Awaits q = Plain (await_told (fallen_read q.peer_done q.held 1 q.phase))
queue_told Moves q = Plain Idle
