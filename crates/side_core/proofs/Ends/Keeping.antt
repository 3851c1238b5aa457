-- Calls and messages of an end, and what they leave as it is.
-- A reader learns here that none of them changes the number last used, the end's link, or whether it is established.
use Rattle.std.proofs.Common.{◌≡◌, ◌∙◌, ℕ, Bool, true, false, cond, Some, is_some, refl, sym, ap}
use Rattle.pipe_model.specs.declared.sent.Sent.{Sent}
use Rattle.pipe_model.specs.Snapshot.{shows_gap}
use Rattle.pipe_model.specs.Ends.{Half, is_due, posts_batch, settle, takes, validates, takes_snapshot, completes}
use Rattle.pipe_model.specs.Closing.{cause_of}
use Rattle.pipe_model.specs.Calls.{Writes, Reads, calls}
use Rattle.side_core.specs.declared.change.EndCall.{EndCall}
use Rattle.side_core.specs.declared.change.EndCall.TheVariants.{Finish, Close, Abort}
use Rattle.side_core.specs.Changes.{named}

-- that an end is on the same link as another one, established likewise, and has used the same number last
pub record IsAlike (h g : Half) : Type 0 where
  pub number : g.number ≡ h.number
  pub up : g.up ≡ h.up
  pub link : g.link ≡ h.link

pub alike_itself : (h : Half) → IsAlike h h
alike_itself h = record { number = refl; up = refl; link = refl }

by_either : (h a b : Half) (t : Bool) → IsAlike h a → IsAlike h b → IsAlike h (cond t a b)
by_either h a b true first second = first
by_either h a b false first second = second

pub writes_alike : (size : ℕ) (bytes : Rattle.std.proofs.Common.List ℕ) (h : Half) → IsAlike h (calls size (Writes bytes) h)
writes_alike size bytes h = by_either h h _ _ (alike_itself h) (record { number = refl; up = refl; link = refl })

pub reads_alike : (size n : ℕ) (h : Half) → IsAlike h (calls size (Reads n) h)
reads_alike size n h = by_either h h _ _ (alike_itself h) (record { number = refl; up = refl; link = refl })

pub ends_alike : (size : ℕ) (call : EndCall) (h : Half) → IsAlike h (calls size (named call) h)
ends_alike size Finish h = by_either h h _ (is_some (cause_of h.phase)) (alike_itself h) (record { number = refl; up = refl; link = refl })
ends_alike size Close h = by_either h h _ (is_some (cause_of h.phase)) (alike_itself h) (record { number = refl; up = refl; link = refl })
ends_alike size Abort h = record { number = refl; up = refl; link = refl }

pub takes_alike : (sent : Sent) (h : Half) → IsAlike h (takes (Some sent) h)
takes_alike sent h = by_either h h _ _ (alike_itself h)
    (by_either h (validates sent.snapshot.number h) (takes_snapshot sent.snapshot h) sent.check
    (by_either h _ h (shows_gap sent.snapshot.number h.taken.number) (record { number = refl; up = refl; link = refl }) (alike_itself h))
    (by_either h _ _ sent.snapshot.aborted (record { number = refl; up = refl; link = refl }) (record { number = refl; up = refl; link = refl })))

pub completes_alike : (sent : Sent) (h : Half) → IsAlike h (completes (Some sent) h)
completes_alike sent h = by_either h _ _ sent.check (record { number = refl; up = refl; link = refl }) (record { number = refl; up = refl; link = refl })

-- what is posted leaves link and establishment as they are
pub settle_up : (depth : ℕ) (h : Half) → (settle depth h).up ≡ h.up
settle_up depth h = by_due (is_due depth h)
  where
    by_due : (b : Bool) → (cond b (posts_batch h) h).up ≡ h.up
    by_due true = refl
    by_due false = refl

pub settle_link : (depth : ℕ) (h : Half) → (settle depth h).link ≡ h.link
settle_link depth h = by_due (is_due depth h)
  where
    by_due : (b : Bool) → (cond b (posts_batch h) h).link ≡ h.link
    by_due true = refl
    by_due false = refl
