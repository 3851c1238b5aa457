-- With each item an end has accepted no less and read no less.
use Rattle.std.proofs.Common.{◌≡◌, ◌∙◌, ℕ, ◌+◌, ◌≤◌, min, true, if◌then◌else◌, List, [], ◌∷◌, ◌++◌, length, take, drop, refl, ap, sym, subst, ◌||◌, append_assoc, append-nil, arith}
use Rattle.std.specs.Prelude.{Option, Some, None, is_some}
use Rattle.smc_num.specs.declared.Side.{Side}
use Rattle.smc_num.specs.declared.LinkId.{LinkId}
use Rattle.smc_num.specs.declared.LinkPhase.{LinkPhase}
use Rattle.smc_num.specs.declared.LinkPhase.TheVariants.{Unused, Pending, Live, Dead}
use Rattle.smc_num.specs.Numbers.{wire_number}
use Rattle.pipe_model.specs.declared.reply.ResetCause.TheVariants.{PeerAbort, Gap}
use Rattle.pipe_model.specs.declared.sent.Sent.{Sent}
use Rattle.pipe_model.specs.Snapshot.{shows_gap}
use Rattle.pipe_model.specs.Closing.{cause_of, is_closing, after_completing, after_finish, after_close, after_moving}
use Rattle.pipe_model.specs.Ends.{Half, settle, is_due, is_over, is_due_for_move, lowest_link, check, meets_fate, takes, takes_snapshot, validates, strikes, completes, counts_completed, posts_batch, window, unread}
use Rattle.pipe_model.specs.Calls.{Call, Writes, Reads, Finishes, Closes, Aborts, Awaits, Moves, calls, is_ended}
use Rattle.pipe_model.specs.Pipe.{Pipe, Terms, Item, half, pipe, apply, step}
use Rattle.world_core.proofs.Growth.{either, settled-half}
use Rattle.world_core.proofs.Halves.{at-half}

-- that an end has, after another moment, accepted and read no less
abbrev pub Grows : Half → Half → Type 0
Grows h k = (h.rd ≤ k.rd) × ((more : List ℕ) × (k.out ≡ h.out ++ more))

no-more : (h : Half) → Grows h h
no-more h = (omega arith, ([], sym (append-nil h.out)))

on : (h k j : Half) → Grows h k → Grows k j → Grows h j
on h k j p q =
    let a = p.1 in
    let b = q.1 in (omega (arith, p.0, q.0), (a.0 ++ b.0, b.1 ∙ ap (λ xs. xs ++ b.0) a.1 ∙ append_assoc h.out a.0 b.0))

takes-still : (o : Option Sent) (h : Half) → Grows h (takes o h)
takes-still None h = no-more h
takes-still (Some m) h = either (Grows h) h (if m.check then validates m.snapshot.number h else takes_snapshot m.snapshot h) (is_over h) (no-more h)
    (either (Grows h) (validates m.snapshot.number h) (takes_snapshot m.snapshot h) m.check
    (either (Grows h) (strikes (Gap (wire_number m.snapshot.number) (wire_number h.taken.number)) h) h (shows_gap m.snapshot.number h.taken.number) (no-more h) (no-more h))
    (either (Grows h) (strikes PeerAbort (record h { taken = m.snapshot })) (record h { taken = m.snapshot }) m.snapshot.aborted (no-more h) (no-more h)))

completes-still : (o : Option Sent) (h : Half) → Grows h (completes o h)
completes-still None h = no-more h
completes-still (Some m) h = either (Grows h) (counts_completed h) (record (counts_completed h) { fin = m.snapshot; flight = drop 1 h.flight; phase = after_completing m.snapshot h.phase }) m.check (no-more h) (no-more h)

fate-still : (link : LinkId) (phase : LinkPhase) (h : Half) → Grows h (meets_fate link phase h)
fate-still link Unused h = no-more h
fate-still link Pending h = no-more h
fate-still link Live h = no-more h
fate-still link Dead h = no-more h

call-grows : (size : ℕ) (call : Call) (h : Half) → Grows h (calls size call h)
call-grows size (Writes bytes) h = either (Grows h) h (record h { out = h.out ++ take (window size h) bytes }) (is_some (cause_of h.phase) || is_ended h) (no-more h) (omega arith, (take (window size h) bytes, refl))
call-grows size (Reads n) h = either (Grows h) h (record h { rd = h.rd + min n (unread h) }) (is_some (cause_of h.phase) || is_closing h.phase) (no-more h) (omega arith, ([], sym (append-nil h.out)))
call-grows size Finishes h = either (Grows h) h (record h { finished = true; phase = after_finish h.phase }) (is_some (cause_of h.phase)) (no-more h) (no-more h)
call-grows size Closes h = either (Grows h) h (record h { finished = true; phase = after_close h.phase }) (is_some (cause_of h.phase)) (no-more h) (no-more h)
call-grows size Aborts h = no-more h
call-grows size Awaits h = no-more h
call-grows size Moves h = either (Grows h) (record h { link = lowest_link h; last = h.fin; flight = []; phase = after_moving h.phase; sent = h.sent ++ check h ∷ []; landed = length h.sent; completed = length h.sent }) h (is_due_for_move h) (no-more h) (no-more h)

applied : (size : ℕ) (x : Side) (item : Item) (p : Pipe) → Grows (half x p) (half x (apply size item p))
applied size = at-half size (λ x item h k. Grows h k) (record {
  fate = λ x link phase h. fate-still link phase h;
  gone = λ x h. no-more h;
  up = λ x link h. no-more h;
  call = λ x call h. call-grows size call h;
  land = λ x h. no-more h;
  take = λ x m h. takes-still m h;
  complete = λ x m h. completes-still m h;
  rest = λ x item h. no-more h;
})

settle-grows : (depth : ℕ) (h k : Half) → Grows h k → Grows h (settle depth k)
settle-grows depth h k g = either (Grows h) (posts_batch k) k (is_due depth k) g g

stepped : (t : Terms) (x : Side) (item : Item) (p : Pipe) → Grows (half x p) (half x (step t item p))
stepped t x item p = subst (λ k. Grows (half x p) k) (sym (settled-half t x item p)) (settle-grows t.depth (half x p) (half x (apply t.size item p)) (applied t.size x item p))

-- over some news
pub grows : (t : Terms) (x : Side) (news items : List Item) → Grows (half x (pipe t items)) (half x (pipe t (news ++ items)))
grows t x [] items = no-more (half x (pipe t items))
grows t x (item ∷ news) items = on (half x (pipe t items)) (half x (pipe t (news ++ items))) (half x (pipe t (item ∷ (news ++ items)))) (grows t x news items) (stepped t x item (pipe t (news ++ items)))
