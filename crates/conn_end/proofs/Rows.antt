-- The closing table gives the phases and answers of the definitions: each row is read once.
use Rattle.std.proofs.Common.{◌≡◌, refl}
use Rattle.pipe_model.specs.declared.closing.Phase.{Phase}
use Rattle.pipe_model.specs.declared.closing.Phase.TheVariants.{Open, Finished, Closing, ClosePosted, CloseDone, Resetting, AbortPosted, AbortDone, GroupGone}
use Rattle.conn_end.specs.declared.closing.Step.{Step}
use Rattle.conn_end.specs.declared.closing.Step.TheVariants.{Finish, Close, Abort, Strike}
use Rattle.conn_end.specs.declared.closing.TheConstants.{TABLE}
use Rattle.conn_end.specs.Table.{after_action, action_in, cause_in, told_by, after_step, step_told, IsClosing}

phases : (step : Step) (phase : Phase) → after_action (action_in TABLE.rows step phase) (cause_in step) phase ≡ after_step step phase
phases Finish Open = refl
phases Finish Finished = refl
phases Finish Closing = refl
phases Finish ClosePosted = refl
phases Finish CloseDone = refl
phases Finish (Resetting cause) = refl
phases Finish (AbortPosted cause) = refl
phases Finish (AbortDone cause) = refl
phases Finish (GroupGone group) = refl
phases Close Open = refl
phases Close Finished = refl
phases Close Closing = refl
phases Close ClosePosted = refl
phases Close CloseDone = refl
phases Close (Resetting cause) = refl
phases Close (AbortPosted cause) = refl
phases Close (AbortDone cause) = refl
phases Close (GroupGone group) = refl
phases Abort Open = refl
phases Abort Finished = refl
phases Abort Closing = refl
phases Abort ClosePosted = refl
phases Abort CloseDone = refl
phases Abort (Resetting cause) = refl
phases Abort (AbortPosted cause) = refl
phases Abort (AbortDone cause) = refl
phases Abort (GroupGone group) = refl
phases (Strike why) Open = refl
phases (Strike why) Finished = refl
phases (Strike why) Closing = refl
phases (Strike why) ClosePosted = refl
phases (Strike why) CloseDone = refl
phases (Strike why) (Resetting cause) = refl
phases (Strike why) (AbortPosted cause) = refl
phases (Strike why) (AbortDone cause) = refl
phases (Strike why) (GroupGone group) = refl

answers : (step : Step) (phase : Phase) → told_by (action_in TABLE.rows step phase) ≡ step_told step phase
answers Finish Open = refl
answers Finish Finished = refl
answers Finish Closing = refl
answers Finish ClosePosted = refl
answers Finish CloseDone = refl
answers Finish (Resetting cause) = refl
answers Finish (AbortPosted cause) = refl
answers Finish (AbortDone cause) = refl
answers Finish (GroupGone group) = refl
answers Close Open = refl
answers Close Finished = refl
answers Close Closing = refl
answers Close ClosePosted = refl
answers Close CloseDone = refl
answers Close (Resetting cause) = refl
answers Close (AbortPosted cause) = refl
answers Close (AbortDone cause) = refl
answers Close (GroupGone group) = refl
answers Abort Open = refl
answers Abort Finished = refl
answers Abort Closing = refl
answers Abort ClosePosted = refl
answers Abort CloseDone = refl
answers Abort (Resetting cause) = refl
answers Abort (AbortPosted cause) = refl
answers Abort (AbortDone cause) = refl
answers Abort (GroupGone group) = refl
answers (Strike why) Open = refl
answers (Strike why) Finished = refl
answers (Strike why) Closing = refl
answers (Strike why) ClosePosted = refl
answers (Strike why) CloseDone = refl
answers (Strike why) (Resetting cause) = refl
answers (Strike why) (AbortPosted cause) = refl
answers (Strike why) (AbortDone cause) = refl
answers (Strike why) (GroupGone group) = refl

pub rows_close : IsClosing TABLE.rows
rows_close = record { phases = phases; answers = answers }
