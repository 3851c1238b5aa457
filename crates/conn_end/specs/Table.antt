-- The closing table in the numbers of its rows.
-- A reader learns here which phase a row stands for, and what its action does to the phase.
use Rattle.std.specs.Prelude.{◌≡◌, ℕ, ◌==◌, if◌then◌else◌, List, Option, Some, None}
use Rattle.field_cases.specs.declared.table.Row.{Row}
use Rattle.field_cases.specs.Table.{action_of}
use Rattle.pipe_model.specs.declared.reply.ResetCause.{ResetCause}
use Rattle.pipe_model.specs.declared.reply.ResetCause.TheVariants.{OwnAbort}
use Rattle.pipe_model.specs.declared.reply.Reply.{Reply}
use Rattle.pipe_model.specs.declared.reply.Reply.TheVariants.{Ended, Done, Reset}
use Rattle.pipe_model.specs.declared.closing.Phase.{Phase}
use Rattle.pipe_model.specs.declared.closing.Phase.TheVariants.{Open, Finished, Closing, ClosePosted, CloseDone, Resetting, AbortPosted, AbortDone, GroupGone}
use Rattle.pipe_model.specs.Closing.{after_finish, after_close, after_abort, struck, finish_told, close_told, abort_told}
use Rattle.pipe_model.specs.Calls.{Told, Plain}
use Rattle.conn_end.specs.declared.closing.Step.{Step}
use Rattle.conn_end.specs.declared.closing.Step.TheVariants.{Finish, Close, Abort, Strike}

-- the rows of a phase; an end that was reset stays so, however it was
abbrev pub state_of : Phase → ℕ
state_of Open = 0
state_of Finished = 1
state_of Closing = 2
state_of ClosePosted = 3
state_of CloseDone = 4
state_of (Resetting cause) = 5
state_of (AbortPosted cause) = 6
state_of (AbortDone cause) = 7
state_of (GroupGone group) = 7

-- the row of a step
abbrev pub place_of : Step → ℕ
place_of Finish = 0
place_of Close = 1
place_of Abort = 2
place_of (Strike cause) = 3

-- the cause of the reset to which a step may lead
abbrev pub cause_in : Step → ResetCause
cause_in (Strike cause) = cause
cause_in _ = OwnAbort

-- the phase to which an action leads
abbrev pub after_action : ℕ → ResetCause → Phase → Phase
after_action action cause phase =
    if action == 1 then Finished else
    if action == 2 then Closing else
    if action == 3 then Resetting cause else phase

-- what a step is told by its action: whether it did something
abbrev pub told_by : ℕ → Reply
told_by action = if action == 0 then Ended else Done

-- the phase after a step
abbrev pub after_step : Step → Phase → Phase
after_step Finish phase = after_finish phase
after_step Close phase = after_close phase
after_step Abort phase = after_abort phase
after_step (Strike cause) phase = struck cause phase

-- whether it strikes
abbrev pub strike_told : Phase → Reply
strike_told Open = Done
strike_told Finished = Done
strike_told Closing = Done
strike_told _ = Ended

-- what a step is told, where no reset came
abbrev pub step_told : Step → Phase → Reply
step_told Finish phase = finish_told phase
step_told Close phase = close_told phase
step_told Abort phase = abort_told phase
step_told (Strike cause) phase = strike_told phase

-- what a step is told, by the cause of a reset, if there is one
abbrev pub told_step : Step → Option ResetCause → Phase → Told
told_step step (Some cause) phase = Plain (Reset cause)
told_step step None phase = Plain (step_told step phase)

-- the action of a step in a phase
abbrev pub action_in : List Row → Step → Phase → ℕ
action_in rows step phase = action_of rows (state_of phase) (place_of step)

-- that the rows are the closing table
pub record IsClosing (rows : List Row) : Type 0 where
  pub phases : (step : Step) (phase : Phase) → after_action (action_in rows step phase) (cause_in step) phase ≡ after_step step phase
  pub answers : (step : Step) (phase : Phase) → told_by (action_in rows step phase) ≡ step_told step phase
