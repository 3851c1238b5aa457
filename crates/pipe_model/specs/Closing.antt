-- How far an end has come with closing: the table of its phases.
-- A reader learns here what finish, close and abort do and are told, what a peer's abort, a gap and the end of the group
-- do, and how the last message of an end leads it on.
use Rattle.std.specs.Prelude.{ℕ, Bool, true, false, if◌then◌else◌, Option, Some, None}
pub use Rattle.pipe_model.specs.declared.closing.Phase.{Phase}
pub use Rattle.pipe_model.specs.declared.closing.Phase.TheVariants.{Open, Finished, Closing, ClosePosted, CloseDone, Resetting, AbortPosted, AbortDone, GroupGone}
use Rattle.pipe_model.specs.declared.snapshot.Snapshot.{Snapshot}
use Rattle.pipe_model.specs.declared.reply.ResetCause.{ResetCause}
use Rattle.pipe_model.specs.declared.reply.ResetCause.TheVariants.{OwnAbort, NoLiveLink}
use Rattle.pipe_model.specs.declared.reply.Reply.{Reply}
use Rattle.pipe_model.specs.declared.reply.Reply.TheVariants.{Ended, Done}

-- why an end is reset
-- ours: a word on phases
abbrev pub cause_of : Phase → Option ResetCause
cause_of (Resetting cause) = Some cause
cause_of (AbortPosted cause) = Some cause
cause_of (AbortDone cause) = Some cause
cause_of (GroupGone group) = Some (NoLiveLink group)
cause_of _ = None

-- whether close was called and no reset came
-- ours: a word on phases
abbrev pub is_closing : Phase → Bool
is_closing Closing = true
is_closing ClosePosted = true
is_closing CloseDone = true
is_closing _ = false

-- whether finish was called and nothing since
-- ours: a word on phases
abbrev pub is_finished : Phase → Bool
is_finished Finished = true
is_finished _ = false

-- whether it was reset with its group
-- ours: a word on phases
abbrev pub is_group_gone : Phase → Bool
is_group_gone (GroupGone group) = true
is_group_gone _ = false

-- the application calls finish
-- RFC 7609, 4.8; the table is ours
abbrev pub after_finish : Phase → Phase
after_finish Open = Finished
after_finish phase = phase

-- it calls close
-- RFC 7609, 4.8; the table is ours
abbrev pub after_close : Phase → Phase
after_close Open = Closing
after_close Finished = Closing
after_close phase = phase

-- it calls abort
-- RFC 7609, 4.8; the table is ours
abbrev pub after_abort : Phase → Phase
after_abort Open = Resetting OwnAbort
after_abort Finished = Resetting OwnAbort
after_abort phase = phase

-- the peer's abort or a gap strikes it
-- RFC 7609, 4.8 (an abort) and 4.6 (a gap); the table is ours
abbrev pub struck : ResetCause → Phase → Phase
struck cause Open = Resetting cause
struck cause Finished = Resetting cause
struck cause Closing = Resetting cause
struck cause phase = phase

-- its group ends
-- ours: the end of a group resets
abbrev pub ended_with : ℕ → Phase → Phase
ended_with group Open = GroupGone group
ended_with group Finished = GroupGone group
ended_with group Closing = GroupGone group
ended_with group phase = phase

-- it posts a snapshot
-- ours: an end is done only once its last message has completed
abbrev pub after_posting : Snapshot → Phase → Phase
after_posting s Closing = if s.closed then ClosePosted else Closing
after_posting s (Resetting cause) = AbortPosted cause
after_posting s phase = phase

-- a snapshot of its own completes
-- ours: an end is done only once its last message has completed
abbrev pub after_completing : Snapshot → Phase → Phase
after_completing s ClosePosted = if s.closed then CloseDone else ClosePosted
after_completing s (AbortPosted cause) = if s.aborted then AbortDone cause else AbortPosted cause
after_completing s phase = phase

-- it moves before its last snapshot has completed, which is posted again
-- RFC 7609, 4.6; that a last message is posted again is ours
abbrev pub after_moving : Phase → Phase
after_moving ClosePosted = Closing
after_moving (AbortPosted cause) = Resetting cause
after_moving phase = phase

-- whether it may move: its last snapshot has not completed, and its group is not gone
-- RFC 7609, 4.6; the table is ours
abbrev pub may_move : Phase → Bool
may_move CloseDone = false
may_move (AbortDone cause) = false
may_move (GroupGone group) = false
may_move _ = true

-- what finish is told, where no reset came
-- ours: what the application is told
abbrev pub finish_told : Phase → Reply
finish_told Open = Done
finish_told _ = Ended

-- what close is told, where no reset came
-- ours: what the application is told
abbrev pub close_told : Phase → Reply
close_told Open = Done
close_told Finished = Done
close_told _ = Ended

-- what abort is told, where no reset came
-- ours: what the application is told
abbrev pub abort_told : Phase → Reply
abort_told Open = Done
abort_told Finished = Done
abort_told _ = Ended
