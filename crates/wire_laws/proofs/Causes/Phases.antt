-- When a phase comes to have a cause: what a call, a message, the end of the group and a posting make of a phase without one.
use Rattle.std.proofs.Common.{Bool, ap, false, if◌then◌else◌, inl, inr, refl, true, true≢false, ℕ, ◌≡◌, ◌⊎◌}
use Rattle.std.specs.Prelude.{None, Some, is_some}
use Rattle.pipe_model.specs.declared.reply.ResetCause.{ResetCause}
use Rattle.pipe_model.specs.declared.reply.ResetCause.TheVariants.{NoLiveLink, OwnAbort}
use Rattle.pipe_model.specs.declared.snapshot.Snapshot.{Snapshot}
use Rattle.pipe_model.specs.declared.closing.Phase.{Phase}
use Rattle.pipe_model.specs.declared.closing.Phase.TheVariants.{AbortDone, AbortPosted, CloseDone, ClosePosted, Closing, Finished, GroupGone, Open, Resetting}
use Rattle.pipe_model.specs.Closing.{abort_told, after_abort, after_close, after_completing, after_finish, after_moving, after_posting, cause_of, ended_with, struck}
use Rattle.pipe_model.specs.declared.reply.Reply.TheVariants.{Done}

-- whether a reset can strike: the end is open, or its application closes it
abbrev pub is_open : Phase → Bool
is_open Open = true
is_open Finished = true
is_open Closing = true
is_open _ = false

-- that a phase has this cause
abbrev pub Has : ResetCause → Phase → Type 0
Has c p = cause_of p ≡ Some c

pub none-has : (c : ResetCause) → None ≡ Some c → ⊥
none-has c e = let f : false ≡ true = ap (λ o. is_some o) e in cc

-- finish, close, posting, completing and moving bring no cause
pub finish-new : (c : ResetCause) (p : Phase) → Has c (after_finish p) → Has c p
finish-new c Open e = e
finish-new c p e = e

pub close-new : (c : ResetCause) (p : Phase) → Has c (after_close p) → Has c p
close-new c Open e = e
close-new c Finished e = e
close-new c p e = e

pub posting-new : (c : ResetCause) (s : Snapshot) (p : Phase) → Has c (after_posting s p) → Has c p
posting-new c s Closing e = by s.closed e
  where
    by : (b : Bool) → Has c (if b then ClosePosted else Closing) → Has c Closing
    by true f = f
    by false f = f
posting-new c s (Resetting d) e = e
posting-new c s p e = e

pub completing-new : (c : ResetCause) (s : Snapshot) (p : Phase) → Has c (after_completing s p) → Has c p
completing-new c s ClosePosted e = by s.closed e
  where
    by : (b : Bool) → Has c (if b then CloseDone else ClosePosted) → Has c ClosePosted
    by true f = f
    by false f = f
completing-new c s (AbortPosted d) e = by s.aborted e
  where
    by : (b : Bool) → Has c (if b then AbortDone d else AbortPosted d) → Has c (AbortPosted d)
    by true f = f
    by false f = f
completing-new c s p e = e

pub moving-new : (c : ResetCause) (p : Phase) → Has c (after_moving p) → Has c p
moving-new c ClosePosted e = e
moving-new c (AbortPosted d) e = e
moving-new c p e = e

-- abort brings its own, where it is told that it counts
pub abort-new : (c : ResetCause) (p : Phase) → Has c (after_abort p) → Has c p ⊎ ((c ≡ OwnAbort) × (abort_told p ≡ Done))
abort-new c Open e = inr (cc, refl)
abort-new c Finished e = inr (cc, refl)
abort-new c p e = inl e

-- a message or a gap brings its cause where the end is open, and so does the end of the group
pub struck-new : (c d : ResetCause) (p : Phase) → Has c (struck d p) → Has c p ⊎ ((c ≡ d) × (is_open p ≡ true))
struck-new c d Open e = inr (cc, refl)
struck-new c d Finished e = inr (cc, refl)
struck-new c d Closing e = inr (cc, refl)
struck-new c d p e = inl e

pub ended-new : (c : ResetCause) (g : ℕ) (p : Phase) → Has c (ended_with g p) → Has c p ⊎ (c ≡ NoLiveLink g)
ended-new c g Open e = inr cc
ended-new c g Finished e = inr cc
ended-new c g Closing e = inr cc
ended-new c g p e = inl e

-- an end of a group whose end has come is open no more
pub ended-shut : (g : ℕ) (p : Phase) → is_open (ended_with g p) ≡ false
ended-shut g Open = refl
ended-shut g Finished = refl
ended-shut g Closing = refl
ended-shut g ClosePosted = refl
ended-shut g CloseDone = refl
ended-shut g (Resetting d) = refl
ended-shut g (AbortPosted d) = refl
ended-shut g (AbortDone d) = refl
ended-shut g (GroupGone n) = refl

-- and stays so
pub finish-shut : (p : Phase) → is_open p ≡ false → is_open (after_finish p) ≡ false
finish-shut Open e = absurd (true≢false e)
finish-shut p e = e

pub close-shut : (p : Phase) → is_open p ≡ false → is_open (after_close p) ≡ false
close-shut Open e = absurd (true≢false e)
close-shut Finished e = absurd (true≢false e)
close-shut p e = e

pub abort-shut : (p : Phase) → is_open p ≡ false → is_open (after_abort p) ≡ false
abort-shut Open e = absurd (true≢false e)
abort-shut Finished e = absurd (true≢false e)
abort-shut p e = e

pub struck-shut : (d : ResetCause) (p : Phase) → is_open p ≡ false → is_open (struck d p) ≡ false
struck-shut d Open e = absurd (true≢false e)
struck-shut d Finished e = absurd (true≢false e)
struck-shut d Closing e = absurd (true≢false e)
struck-shut d p e = e

pub posting-shut : (s : Snapshot) (p : Phase) → is_open p ≡ false → is_open (after_posting s p) ≡ false
posting-shut s Closing e = absurd (true≢false e)
posting-shut s (Resetting d) e = refl
posting-shut s p e = e

pub completing-shut : (s : Snapshot) (p : Phase) → is_open p ≡ false → is_open (after_completing s p) ≡ false
completing-shut s ClosePosted e = by s.closed
  where
    by : (b : Bool) → is_open (if b then CloseDone else ClosePosted) ≡ false
    by true = refl
    by false = refl
completing-shut s (AbortPosted d) e = by s.aborted
  where
    by : (b : Bool) → is_open (if b then AbortDone d else AbortPosted d) ≡ false
    by true = refl
    by false = refl
completing-shut s p e = e
