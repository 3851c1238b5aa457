-- What a call of an application does to the host of its end, and what an end that has fallen back moves in the streams.
-- A reader learns here that an established end posts what is due to it, and that the bytes of one that has fallen back stand in a stream.
use Rattle.std.specs.Prelude.{◌≡◌, ◌≤◌, ℕ, List, length, filter, slice_set}
use Rattle.pipe_model.specs.declared.post.Post.{Post}
use Rattle.pipe_model.specs.Ends.{Half}
use Rattle.pipe_model.specs.Calls.{Call, Told, Plain, Hands}
use Rattle.pipe_model.specs.Connections.{IsUp}
use Rattle.rc_link.specs.Wire.{room_of}
use Rattle.conn_end.specs.Kept.{Kept}
use Rattle.conn_end.specs.declared.answers.EndReply.{EndReply}
use Rattle.conn_end.specs.declared.answers.EndReply.TheVariants.{Take, Wrote as TookBytes, Full as NoRoom, Empty as NoneYet, End as AtEnd, Ended as HasEnded, Done as WasDone, Reset as ByReset}
use Rattle.pipe_model.specs.declared.reply.Reply.{Reply}
use Rattle.pipe_model.specs.declared.reply.Reply.TheVariants.{Wrote, Bytes, Full, Empty, End, Ended, Done, Reset}
use Rattle.side_core.specs.Records.{conn_at}
use Rattle.side_core.specs.Manager.{Manager, Represents, state_at}
use Rattle.side_core.specs.Acting.{IsSoundAt, acts_at, call_of, due_at}
use Rattle.world_core.specs.declared.host.Host.{Host}
use Rattle.world_core.specs.declared.host.Outflow.{Outflow}
use Rattle.world_core.specs.Hosts.{with_posts, wire_at}
use Rattle.world_core.specs.Streams.{gives_out}
use Rattle.world_core.specs.Sending.{carried_from, goes_on_wire, puts_all, outflow_at, MaySendAll}

-- that an established end may be called: what it posts then may be sent
pub record MayCall (s : ℕ) (call : Call) (h : Host) : Type 0 where
  pub up : state_at s h.core ≡ IsUp
  pub sound : IsSoundAt h.core.records.terms.size (conn_at s h.core.records)
  pub plain : Manager Half
  pub stands : Represents h.core plain
  pub room : length (filter goes_on_wire (due_at s (call_of call plain) plain)) ≤ room_of (wire_at 1 h)
  pub sent : (v : Manager Kept) → Represents v (acts_at s (call_of call plain) plain) → MaySendAll (length h.flows.items) v (due_at s (call_of call plain) plain)

-- what a call does to the host: the end acts, and what is due to it then is sent
pub record IsCalledAt (s : ℕ) (call : Call) (entry : ℕ) (m : Manager Half) (before now : Host) (posts : List Post) : Type 0 where
  pub side : Represents now.core (acts_at s (call_of call m) m)
  pub posts_are : posts ≡ due_at s (call_of call m) m
  pub wire : (wire_at 1 now) ≡ with_posts (carried_from (acts_at s (call_of call m) m) entry 1 posts) (wire_at 1 before)
  pub flows : now.flows.items ≡ puts_all posts before.flows.items

-- how many bytes an answer of an end hands out
abbrev pub taken : EndReply → ℕ
taken (Take from len) = len
taken _ = 0

-- the reply to such an answer, where so many bytes were handed out before
abbrev pub replied : EndReply → ℕ → Reply
replied (Take from len) before = Bytes before len
replied (TookBytes count) before = Wrote count
replied NoRoom before = Full
replied NoneYet before = Empty
replied AtEnd before = End
replied HasEnded before = Ended
replied WasDone before = Done
replied (ByReset cause) before = Reset cause

-- the streams after an answer to a read on a socket
abbrev pub hands_over : ℕ → Told → List Outflow → List Outflow
hands_over s (Plain reply) flows = flows
hands_over s (Hands bytes) flows = slice_set flows s (gives_out (length bytes) (outflow_at s flows))
