-- What the calls and news leave of a phase: an end that is reset or closing stays so, and which phases follow.
use Rattle.std.proofs.Common.{◌≡◌, ◌∙◌, ℕ, Bool, true, false, List, [], Some, None, refl, sym, ap, true≢false}
use Rattle.std.specs.Prelude.{Option, if◌then◌else◌}
use Rattle.pipe_model.specs.declared.snapshot.Snapshot.{Snapshot}
use Rattle.pipe_model.specs.declared.closing.Phase.{Phase}
use Rattle.pipe_model.specs.declared.closing.Phase.TheVariants.{Open, Finished, Closing, ClosePosted, CloseDone, Resetting, AbortPosted, AbortDone, GroupGone}
use Rattle.pipe_model.specs.declared.reply.ResetCause.{ResetCause}
use Rattle.pipe_model.specs.Closing.{after_abort, struck, after_posting, after_completing}
use Rattle.pipe_model.specs.Parts.{is_shut}
use Rattle.pipe_model.specs.Ends.{Half}
use Rattle.pipe_model.specs.Calls.{Told, Plain, Hands, Finishes, Closes, Aborts, half_told, finishes, closes}
use Rattle.conn_end.specs.declared.answers.EndReply.{EndReply}
use Rattle.conn_end.specs.declared.answers.EndReply.TheVariants.{Wrote, Full, Take, Empty, End, Ended, Done, Reset}
use Rattle.conn_end.specs.declared.closing.Step.{Step}
use Rattle.conn_end.specs.declared.closing.Step.TheVariants.{Finish, Close, Abort}
use Rattle.conn_end.specs.Told.{told_of, IsPlaced}
use Rattle.conn_end.specs.Table.{told_step}

-- an end that is neither reset nor closing was neither before
pub open_before_finish : (p : Phase) (h : Half) → is_shut (finishes (record h { phase = p })).phase ≡ false → is_shut p ≡ false
open_before_finish Open h e = refl
open_before_finish Finished h e = refl
open_before_finish Closing h e = e
open_before_finish ClosePosted h e = e
open_before_finish CloseDone h e = e
open_before_finish (Resetting cause) h e = e
open_before_finish (AbortPosted cause) h e = e
open_before_finish (AbortDone cause) h e = e
open_before_finish (GroupGone group) h e = e

pub open_before_close : (p : Phase) (h : Half) → is_shut (closes (record h { phase = p })).phase ≡ false → is_shut p ≡ false
open_before_close Open h e = refl
open_before_close Finished h e = refl
open_before_close Closing h e = e
open_before_close ClosePosted h e = e
open_before_close CloseDone h e = e
open_before_close (Resetting cause) h e = e
open_before_close (AbortPosted cause) h e = e
open_before_close (AbortDone cause) h e = e
open_before_close (GroupGone group) h e = e

pub open_before_abort : (p : Phase) → is_shut (after_abort p) ≡ false → is_shut p ≡ false
open_before_abort Open e = refl
open_before_abort Finished e = refl
open_before_abort Closing e = e
open_before_abort ClosePosted e = e
open_before_abort CloseDone e = e
open_before_abort (Resetting cause) e = e
open_before_abort (AbortPosted cause) e = e
open_before_abort (AbortDone cause) e = e
open_before_abort (GroupGone group) e = e

-- what is struck is reset or closing
pub struck_shut : (cause : ResetCause) (p : Phase) → is_shut (struck cause p) ≡ true
struck_shut cause Open = refl
struck_shut cause Finished = refl
struck_shut cause Closing = refl
struck_shut cause ClosePosted = refl
struck_shut cause CloseDone = refl
struck_shut cause (Resetting c) = refl
struck_shut cause (AbortPosted c) = refl
struck_shut cause (AbortDone c) = refl
struck_shut cause (GroupGone group) = refl

pub open_before_strike : (cause : ResetCause) (p : Phase) → is_shut (struck cause p) ≡ false → is_shut p ≡ false
open_before_strike cause p e = absurd (true≢false (sym (struck_shut cause p) ∙ e))

pub open_before_posting : (s : Snapshot) (p : Phase) → is_shut (after_posting s p) ≡ false → is_shut p ≡ false
open_before_posting s Open e = refl
open_before_posting s Finished e = refl
open_before_posting s Closing e = absurd (true≢false (sym (stays s.closed) ∙ e))
  where
    stays : (b : Bool) → is_shut (if b then ClosePosted else Closing) ≡ true
    stays true = refl
    stays false = refl
open_before_posting s ClosePosted e = e
open_before_posting s CloseDone e = e
open_before_posting s (Resetting cause) e = e
open_before_posting s (AbortPosted cause) e = e
open_before_posting s (AbortDone cause) e = e
open_before_posting s (GroupGone group) e = e

pub open_before_completing : (s : Snapshot) (p : Phase) → is_shut (after_completing s p) ≡ false → is_shut p ≡ false
open_before_completing s Open e = refl
open_before_completing s Finished e = refl
open_before_completing s Closing e = e
open_before_completing s ClosePosted e = absurd (true≢false (sym (stays s.closed) ∙ e))
  where
    stays : (b : Bool) → is_shut (if b then CloseDone else ClosePosted) ≡ true
    stays true = refl
    stays false = refl
open_before_completing s CloseDone e = e
open_before_completing s (Resetting cause) e = e
open_before_completing s (AbortPosted cause) e = absurd (true≢false (sym (stays s.aborted) ∙ e))
  where
    stays : (b : Bool) → is_shut (if b then AbortDone cause else AbortPosted cause) ≡ true
    stays true = refl
    stays false = refl
open_before_completing s (AbortDone cause) e = e
open_before_completing s (GroupGone group) e = e

-- what finish, close and abort are told
pub finish_is : (size : ℕ) (h : Half) (peer_out : List ℕ) (cause : Option ResetCause) → told_step Finish cause h.phase ≡ half_told size Finishes h peer_out cause
finish_is size h peer_out None = refl
finish_is size h peer_out (Some cause) = refl

pub close_is : (size : ℕ) (h : Half) (peer_out : List ℕ) (cause : Option ResetCause) → told_step Close cause h.phase ≡ half_told size Closes h peer_out cause
close_is size h peer_out None = refl
close_is size h peer_out (Some cause) = refl

pub abort_is : (size : ℕ) (h : Half) (peer_out : List ℕ) (cause : Option ResetCause) → told_step Abort cause h.phase ≡ half_told size Aborts h peer_out cause
abort_is size h peer_out None = refl
abort_is size h peer_out (Some cause) = refl

abbrev pub is_plain : Told → Bool
is_plain (Plain reply) = true
is_plain (Hands bytes) = false

-- an answer without bytes names no place
pub placed : (size rd : ℕ) (r : EndReply) → is_plain (told_of r rd []) ≡ true → IsPlaced size rd r
placed size rd (Wrote n) e = tt
placed size rd Full e = tt
placed size rd (Take from len) e = absurd (true≢false (sym e))
placed size rd Empty e = tt
placed size rd End e = tt
placed size rd Ended e = tt
placed size rd Done e = tt
placed size rd (Reset cause) e = tt

step_plain : (step : Step) (cause : Option ResetCause) (p : Phase) → is_plain (told_step step cause p) ≡ true
step_plain step None p = refl
step_plain step (Some cause) p = refl

pub step_placed : (size rd : ℕ) (r : EndReply) (step : Step) (cause : Option ResetCause) (p : Phase) → told_of r rd [] ≡ told_step step cause p → IsPlaced size rd r
step_placed size rd r step cause p e = placed size rd r (ap is_plain e ∙ step_plain step cause p)
