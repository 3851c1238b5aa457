-- What the answers of an end say.
-- A reader learns here how an answer names the bytes of a read, which the end itself does not hold.
use Rattle.std.specs.Prelude.{◌≡◌, ℕ, ◌%◌, ◌==◌, if◌then◌else◌, List, take, drop}
use Rattle.smc_num.specs.Numbers.{wire_number}
use Rattle.pipe_model.specs.declared.reply.Reply.{Reply}
use Rattle.pipe_model.specs.declared.reply.Reply.TheVariants.{Wrote as SaysWrote, Full as SaysFull, Empty as SaysEmpty, End as SaysEnd, Ended as SaysEnded, Done as SaysDone, Reset as SaysReset, Idle as SaysIdle}
use Rattle.pipe_model.specs.Snapshot.{shows_gap}
use Rattle.pipe_model.specs.Closing.{cause_of}
use Rattle.pipe_model.specs.declared.sent.Sent.{Sent}
use Rattle.pipe_model.specs.Ends.{Half}
use Rattle.pipe_model.specs.Calls.{Call, Told, Plain, Hands, half_told}
use Rattle.conn_end.specs.declared.answers.EndReply.{EndReply}
use Rattle.conn_end.specs.declared.answers.EndReply.TheVariants.{Wrote, Full, Take, Empty, End, Ended, Done, Reset}
use Rattle.conn_end.specs.declared.answers.Taken.{Taken}
use Rattle.conn_end.specs.declared.answers.Taken.TheVariants.{Fresh, Valid, Gap}

-- what a reply says, where so many of the bytes that the peer accepted were read before
abbrev pub told_of : EndReply → ℕ → List ℕ → Told
told_of (Wrote n) rd peer_out = Plain (SaysWrote n)
told_of Full rd peer_out = Plain SaysFull
told_of (Take from len) rd peer_out = Hands (take len (drop rd peer_out))
told_of Empty rd peer_out = Plain SaysEmpty
told_of End rd peer_out = Plain SaysEnd
told_of Ended rd peer_out = Plain SaysEnded
told_of Done rd peer_out = Plain SaysDone
told_of (Reset cause) rd peer_out = Plain (SaysReset cause)

-- that the bytes of a read are named by their place in the element
abbrev pub IsPlaced : ℕ → ℕ → EndReply → Type 0
IsPlaced size rd (Take from len) = from ≡ rd % size
IsPlaced size rd _ = Unit {0}

-- that a reply says what the private pipe tells the call, whatever the peer has accepted
pub record Answers (size : ℕ) (call : Call) (h : Half) (reply : EndReply) : Type 0 where
  pub told : (peer_out : List ℕ) → told_of reply h.rd peer_out ≡ half_told size call h peer_out (cause_of h.phase)
  pub place : IsPlaced size h.rd reply

-- what a validation message of a number shows, where that number was taken last
abbrev pub found : ℕ → ℕ → Taken
found told taken = if shows_gap told taken then Gap (wire_number told) (wire_number taken) else Valid

-- what the taker of a message finds
abbrev pub finds : Sent → Half → Taken
finds m h = if m.check then found m.snapshot.number h.taken.number else Fresh

-- what a write of some bytes is told by the count of those that fit
abbrev pub wrote_told : ℕ → EndReply
wrote_told count = if count == 0 then Full else Wrote count

-- what an await is told by what a read of one byte would be told
abbrev pub awaited : EndReply → Reply
awaited Empty = SaysIdle
awaited _ = SaysDone
