-- The calls of an application on an established end: what each does, and what it is told.
-- A reader learns here when a write finds no room, what a read hands out, and when a call is refused.
use Rattle.std.specs.Prelude.{ℕ, ◌+◌, ◌==◌, ◌||◌, nat_lt, min, Bool, true, false, if◌then◌else◌, List, [], ◌++◌, length, take, drop, Option, Some, None, is_some}
use Rattle.pipe_model.specs.declared.reply.ResetCause.{ResetCause}
use Rattle.pipe_model.specs.declared.reply.Reply.{Reply}
use Rattle.pipe_model.specs.declared.reply.Reply.TheVariants.{Wrote, Full, Empty, End, Ended, Done, Idle, Reset, Moved}
use Rattle.pipe_model.specs.Words.{is_nil}
use Rattle.pipe_model.specs.Closing.{cause_of, is_closing, is_finished, after_finish, after_close, after_abort, finish_told, close_told, abort_told}
use Rattle.pipe_model.specs.Ends.{Half, window, unread, lowest_link, is_due_for_move, moves}

-- what an application asks of its end, and the move of an end to another link
-- ours: an application's calls
pub data Call : Type 0 where
  Writes : List ℕ → Call
  Reads : ℕ → Call
  Finishes : Call
  Closes : Call
  Aborts : Call
  Awaits : Call
  Moves : Call

-- an answer; that of a read with the bytes themselves
-- ours: what the application is told
pub data Told : Type 0 where
  Plain : Reply → Told
  Hands : List ℕ → Told

-- whether it takes no more bytes: it was finished or closed, or its peer has closed
-- RFC 7609, 4.8
abbrev pub is_ended : Half → Bool
is_ended h = (is_closing h.phase || h.taken.closed) || is_finished h.phase

-- it takes bytes of the application, as many as the window has room for
-- RFC 7609, 4.7
abbrev pub accepts : ℕ → List ℕ → Half → Half
accepts size bytes h = if is_some (cause_of h.phase) || is_ended h then h else record h { out = h.out ++ take (window size h) bytes }

-- it hands out bytes that were told
-- RFC 7609, 4.7
abbrev pub reads : ℕ → Half → Half
reads n h = if is_some (cause_of h.phase) || is_closing h.phase then h else record h { rd = h.rd + min n (unread h) }

-- the application calls finish
-- RFC 7609, 4.8
abbrev pub finishes : Half → Half
finishes h = if is_some (cause_of h.phase) then h else record h { finished = true; phase = after_finish h.phase }

-- it calls close
-- RFC 7609, 4.8
abbrev pub closes : Half → Half
closes h = if is_some (cause_of h.phase) then h else record h { finished = true; phase = after_close h.phase }

-- it calls abort
-- RFC 7609, 4.8
abbrev pub aborts : Half → Half
aborts h = record h { phase = after_abort h.phase }

-- an end after a call
-- ours: a case for each call
abbrev pub calls : ℕ → Call → Half → Half
calls size (Writes bytes) h = accepts size bytes h
calls size (Reads n) h = reads n h
calls size Finishes h = finishes h
calls size Closes h = closes h
calls size Aborts h = aborts h
calls size Awaits h = h
calls size Moves h = moves h

-- what a write is told, where no reset came
-- ours: what the application is told
abbrev pub write_told : ℕ → List ℕ → Half → Reply
write_told size bytes h =
    if is_ended h then Ended else
    if is_nil bytes then Wrote 0 else
    if window size h == 0 then Full else Wrote (min (length bytes) (window size h))

-- what a read is told, where no reset came and the peer has accepted these bytes
-- ours: what the application is told
abbrev pub read_told : ℕ → Half → List ℕ → Told
read_told n h peer_out =
    if is_closing h.phase then Plain Ended else
    if n == 0 then Hands [] else
    if nat_lt 0 (unread h) then Hands (take (min n (unread h)) (drop h.rd peer_out)) else
    if h.taken.done || h.taken.closed then Plain End else Plain Empty

-- whether a read says that there is nothing yet
-- ours: what the application is told
abbrev pub is_waiting : Told → Bool
is_waiting (Plain Empty) = true
is_waiting _ = false

-- what an await is told: whether a read of one byte would give something
-- ours: what the application is told
abbrev pub await_told : Told → Reply
await_told told = if is_waiting told then Idle else Done

-- what a move is told, reset or not
-- ours: what the application is told
abbrev pub move_told : Half → Reply
move_told h = if is_due_for_move h then Moved h.link.slot (lowest_link h).slot else Idle

-- what a call on an end that is not reset is told
-- ours: what the application is told
abbrev pub call_told : ℕ → Call → Half → List ℕ → Told
call_told size (Writes bytes) h peer_out = Plain (write_told size bytes h)
call_told size (Reads n) h peer_out = read_told n h peer_out
call_told size Finishes h peer_out = Plain (finish_told h.phase)
call_told size Closes h peer_out = Plain (close_told h.phase)
call_told size Aborts h peer_out = Plain (abort_told h.phase)
call_told size Awaits h peer_out = Plain (await_told (read_told 1 h peer_out))
call_told size Moves h peer_out = Plain (move_told h)

-- what a call on a reset end is told
-- ours: what the application is told
abbrev pub reset_told : ResetCause → Call → Half → Told
reset_told cause Awaits h = Plain Done
reset_told cause Moves h = Plain (move_told h)
reset_told cause _ h = Plain (Reset cause)

-- what a call on an end is told, by the cause of its reset, if there is one
-- ours: what the application is told
abbrev pub half_told : ℕ → Call → Half → List ℕ → Option ResetCause → Told
half_told size call h peer_out None = call_told size call h peer_out
half_told size call h peer_out (Some cause) = reset_told cause call h
