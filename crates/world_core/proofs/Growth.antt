-- What an item does to the messages of an end: they grow at their end, and at most one of them lands or completes.
use Rattle.std.proofs.Common.{◌≡◌, ◌∙◌, ℕ, ◌+◌, ◌<◌, min, max, Bool, true, false, if◌then◌else◌, [], ◌∷◌, ◌++◌, length, take, drop, refl, ap, sym, subst, ◌||◌, true≢false, append_assoc, append-nil, arith, not}
use Rattle.std.specs.Prelude.{Option, Some, None, is_some}
use Rattle.std.proofs.Math.Seq.{drop-append_seam}
use Rattle.smc_num.specs.declared.Side.{Side}
use Rattle.smc_num.specs.declared.Side.TheVariants.{A, B}
use Rattle.smc_num.specs.declared.LinkId.{LinkId}
use Rattle.smc_num.specs.declared.LinkPhase.{LinkPhase}
use Rattle.smc_num.specs.declared.LinkPhase.TheVariants.{Unused, Pending, Live, Dead}
use Rattle.smc_num.specs.Names.{head}
use Rattle.smc_num.specs.Numbers.{wire_number}
use Rattle.pipe_model.specs.declared.reply.ResetCause.TheVariants.{PeerAbort, Gap}
use Rattle.pipe_model.specs.declared.sent.Sent.{Sent}
use Rattle.pipe_model.specs.Snapshot.{shows_gap}
use Rattle.pipe_model.specs.Closing.{cause_of, is_closing, after_completing}
use Rattle.pipe_model.specs.Ends.{Half, settle, is_due, is_over, meets_fate, takes, takes_snapshot, validates, strikes, completes, counts_completed, batch, posts_batch, window, unread, to_complete, lands}
use Rattle.pipe_model.specs.Calls.{Call, Writes, Reads, calls, is_ended}
use Rattle.pipe_model.specs.Pipe.{Pipe, Terms, Item, Calls, Lands, Completes, half, apply, step, sent_since}
use Rattle.world_core.specs.Wired.{HasGone, passes_by}
use Rattle.world_core.proofs.Halves.{at-half}
use Rattle.world_core.proofs.Plain.{same-self}

-- whichever of two
pub either : (P : Half → Type 0) (h1 h2 : Half) (b : Bool) → P h1 → P h2 → P (if b then h1 else h2)
either P h1 h2 true p q = p
either P h1 h2 false p q = q

-- no message more
abbrev KeepsSent : Half → Half → Type 0
KeepsSent h k = (k.sent ≡ h.sent) × (k.landed ≡ h.landed) × (k.completed ≡ h.completed)

pub gone-on : (h k j : Half) (l c n d : ℕ) → HasGone h k l c → HasGone k j n d → HasGone h j n d
gone-on h k j l c n d p q = record {
  landed_is = q.landed_is;
  completed_is = q.completed_is;
  more = p.more ++ q.more;
  sent_is = q.sent_is ∙ ap (λ ms. ms ++ q.more) p.sent_is ∙ append_assoc h.sent p.more q.more;
}

none-more : (h k : Half) → k.sent ≡ h.sent → HasGone h k k.landed k.completed
none-more h k e = record { landed_is = refl; completed_is = refl; more = []; sent_is = e ∙ sym (append-nil h.sent) }

still : (h k : Half) → KeepsSent h k → HasGone h k h.landed h.completed
still h k e = record { landed_is = e.1; completed_is = e.2; more = []; sent_is = e.0 ∙ sym (append-nil h.sent) }

settle-gone : (depth : ℕ) (h k : Half) (l c : ℕ) → HasGone h k l c → HasGone h (settle depth k) l c
settle-gone depth h k l c p = either (λ j. HasGone h j l c) (posts_batch k) k (is_due depth k)
    (record {
      landed_is = p.landed_is;
      completed_is = p.completed_is;
      more = p.more ++ batch k ∷ [];
      sent_is = ap (λ ms. ms ++ batch k ∷ []) p.sent_is ∙ append_assoc h.sent p.more (batch k ∷ []);
    }) p

-- what the peer's messages do to an end
takes-kept : (o : Option Sent) (h : Half) → KeepsSent h (takes o h)
takes-kept None h = (refl, refl, refl)
takes-kept (Some m) h = either (KeepsSent h) h (if m.check then validates m.snapshot.number h else takes_snapshot m.snapshot h) (is_over h) (refl, refl, refl)
    (either (KeepsSent h) (validates m.snapshot.number h) (takes_snapshot m.snapshot h) m.check
    (either (KeepsSent h) (strikes (Gap (wire_number m.snapshot.number) (wire_number h.taken.number)) h) h (shows_gap m.snapshot.number h.taken.number) (refl, refl, refl) (refl, refl, refl))
    (either (KeepsSent h) (strikes PeerAbort (record h { taken = m.snapshot })) (record h { taken = m.snapshot }) m.snapshot.aborted (refl, refl, refl) (refl, refl, refl)))

fate-kept : (link : LinkId) (phase : LinkPhase) (h : Half) → KeepsSent h (meets_fate link phase h)
fate-kept link Unused h = (refl, refl, refl)
fate-kept link Pending h = (refl, refl, refl)
fate-kept link Live h = (refl, refl, refl)
fate-kept link Dead h = (refl, refl, refl)

call-kept : (size : ℕ) (call : Call) (h : Half) → passes_by A (Calls A call) ≡ true → KeepsSent h (calls size call h)
call-kept size (Writes bytes) h k = either (KeepsSent h) h (record h { out = h.out ++ take (window size h) bytes }) (is_some (cause_of h.phase) || is_ended h) (refl, refl, refl) (refl, refl, refl)
call-kept size (Reads n) h k = either (KeepsSent h) h (record h { rd = h.rd + min n (unread h) }) (is_some (cause_of h.phase) || is_closing h.phase) (refl, refl, refl) (refl, refl, refl)
call-kept size _ h k = absurd (true≢false (sym k))

kept : (size : ℕ) (x : Side) (item : Item) (p : Pipe) → passes_by x item ≡ true → KeepsSent (half x p) (half x (apply size item p))
kept size = at-half size (λ x item h k. passes_by x item ≡ true → KeepsSent h k) (record {
  fate = λ x link phase h o. fate-kept link phase h;
  gone = λ x h o. (refl, refl, refl);
  up = λ x link h o. (refl, refl, refl);
  call = λ x call h o. call-kept size call h o;
  land = λ x h o. absurd (true≢false (sym o ∙ ap (λ b. not b) (same-self x)));
  take = λ x m h o. takes-kept m h;
  complete = λ x m h o. absurd (true≢false (sym o ∙ ap (λ b. not b) (same-self x)));
  rest = λ x item h o. (refl, refl, refl);
})

pub settled-half : (t : Terms) (x : Side) (item : Item) (p : Pipe) → half x (step t item p) ≡ settle t.depth (half x (apply t.size item p))
settled-half t A item p = refl
settled-half t B item p = refl

gone-step : (t : Terms) (x : Side) (item : Item) (p : Pipe) (l c : ℕ) → HasGone (half x p) (half x (apply t.size item p)) l c → HasGone (half x p) (half x (step t item p)) l c
gone-step t x item p l c g = subst (λ k. HasGone (half x p) k l c) (sym (settled-half t x item p)) (settle-gone t.depth (half x p) (half x (apply t.size item p)) l c g)

pub passed-by : (t : Terms) (x : Side) (item : Item) (p : Pipe) → passes_by x item ≡ true → HasGone (half x p) (half x (step t item p)) (half x p).landed (half x p).completed
passed-by t x item p k = gone-step t x item p _ _ (still (half x p) (half x (apply t.size item p)) (kept t.size x item p k))

landed-one : (size : ℕ) (x : Side) (p : Pipe) → HasGone (half x p) (half x (apply size (Lands x) p)) ((half x p).landed + 1) (half x p).completed
landed-one size A p = none-more p.a (lands p.a) refl
landed-one size B p = none-more p.b (lands p.b) refl

-- a message lands
pub lands-one : (t : Terms) (x : Side) (p : Pipe) → HasGone (half x p) (half x (step t (Lands x) p)) ((half x p).landed + 1) (half x p).completed
lands-one t x p = gone-step t x (Lands x) p _ _ (landed-one t.size x p)

completed-by : (m : Sent) (h : Half) → h.completed < h.landed → HasGone h (completes (Some m) h) h.landed (h.completed + 1)
completed-by m h l =
    let e : max h.landed (h.completed + 1) ≡ h.landed = omega (arith, l) in
    either (λ k. HasGone h k h.landed (h.completed + 1)) (counts_completed h) (record (counts_completed h) { fin = m.snapshot; flight = drop 1 h.flight; phase = after_completing m.snapshot h.phase }) m.check
    (record { landed_is = e; completed_is = refl; more = []; sent_is = sym (append-nil h.sent) })
    (record { landed_is = e; completed_is = refl; more = []; sent_is = sym (append-nil h.sent) })

completed-one : (size : ℕ) (x : Side) (p : Pipe) (m : Sent) → head (to_complete (half x p)) ≡ Some m → (half x p).completed < (half x p).landed →
    HasGone (half x p) (half x (apply size (Completes x) p)) (half x p).landed ((half x p).completed + 1)
completed-one size A p m e l = subst (λ o. HasGone p.a (completes o p.a) p.a.landed (p.a.completed + 1)) (sym e) (completed-by m p.a l)
completed-one size B p m e l = subst (λ o. HasGone p.b (completes o p.b) p.b.landed (p.b.completed + 1)) (sym e) (completed-by m p.b l)

-- a message that has landed completes
pub completes-one : (t : Terms) (x : Side) (p : Pipe) (m : Sent) → head (to_complete (half x p)) ≡ Some m → (half x p).completed < (half x p).landed →
    HasGone (half x p) (half x (step t (Completes x) p)) (half x p).landed ((half x p).completed + 1)
completes-one t x p m e l = gone-step t x (Completes x) p _ _ (completed-one t.size x p m e l)

-- what was sent since is what was appended
pub since-more : (h k : Half) (l c : ℕ) → (g : HasGone h k l c) → sent_since h k ≡ g.more
since-more h k l c g = ap (λ ms. drop (length h.sent) ms) g.sent_is ∙ drop-append_seam h.sent g.more

pub sent-since : (h k : Half) (l c : ℕ) → HasGone h k l c → k.sent ≡ h.sent ++ sent_since h k
sent-since h k l c g = g.sent_is ∙ ap (λ ms. h.sent ++ ms) (sym (since-more h k l c g))
