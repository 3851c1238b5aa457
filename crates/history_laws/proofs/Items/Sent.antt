-- What news make of what an end has sent: it grows at its end, and a validation message tells no last snapshot.
use Rattle.pipe_model.specs.declared.sent.Sent.{Sent}
use Rattle.std.proofs.Common.{Bool, List, [], ap, append-nil, append_assoc, drop, false, if◌then◌else◌, length, min, refl, sym, take, true, true≢false, ℕ, ◌++◌, ◌+◌, ◌||◌, ◌∙◌, ◌∷◌, ◌≡◌}
use Rattle.std.specs.Prelude.{None, Option, Some, is_some}
use Rattle.pipe_model.specs.Ends.{batch, takes}
use Rattle.smc_num.specs.declared.LinkPhase.TheVariants.{Live}
use Rattle.pipe_model.specs.Calls.{Moves}
use Rattle.std.proofs.Math.Seq.{drop-append_seam}
use Rattle.history_laws.specs.Words.{A, Aborts, Awaits, B, Call, Closes, Dead, EachOf, Finishes, Gap, Half, Item, LinkId, LinkPhase, PeerAbort, Pending, Pipe, Reads, Side, Terms, Unused, Writes, after_close, after_completing, after_finish, after_moving, apply, calls, cause_of, check, completes, counts_completed, half, has_last, is_closing, is_due, is_due_for_move, is_ended, is_last, is_over, lowest_link, meets_fate, pipe, posts_batch, posts_of, settle, shows_gap, step, strikes, takes_snapshot, unread, validates, window, wire_number}
use Rattle.history_laws.proofs.Items.Sending.{each-two}
use Rattle.history_laws.proofs.Basics.{at-half, either}

-- a validation message tells no last snapshot
abbrev pub IsHonest : Sent → Type 0
IsHonest m = m.check ≡ true → is_last m.snapshot ≡ false

-- what an end has sent since
pub record Grows (h k : Half) : Type 0 where
  pub more : List Sent
  pub sent_is : k.sent ≡ h.sent ++ more
  pub honest : EachOf IsHonest more

same-grows : (h k : Half) → k.sent ≡ h.sent → Grows h k
same-grows h k e = record { more = []; sent_is = e ∙ sym (append-nil h.sent); honest = tt }

grows-on : (h k j : Half) → Grows h k → Grows k j → Grows h j
grows-on h k j p q = record { more = p.more ++ q.more; sent_is = q.sent_is ∙ ap (λ ms. ms ++ q.more) p.sent_is ∙ append_assoc h.sent p.more q.more; honest = each-two IsHonest p.more q.more p.honest q.honest }

takes-sent : (o : Option Sent) (h : Half) → (takes o h).sent ≡ h.sent
takes-sent None h = refl
takes-sent (Some m) h = either (λ k. k.sent ≡ h.sent) h (if m.check then validates m.snapshot.number h else takes_snapshot m.snapshot h) (is_over h) refl
    (either (λ k. k.sent ≡ h.sent) (validates m.snapshot.number h) (takes_snapshot m.snapshot h) m.check
    (either (λ k. k.sent ≡ h.sent) (strikes (Gap (wire_number m.snapshot.number) (wire_number h.taken.number)) h) h (shows_gap m.snapshot.number h.taken.number) refl refl)
    (either (λ k. k.sent ≡ h.sent) (strikes PeerAbort (record h { taken = m.snapshot })) (record h { taken = m.snapshot }) m.snapshot.aborted refl refl))

completes-sent : (o : Option Sent) (h : Half) → (completes o h).sent ≡ h.sent
completes-sent None h = refl
completes-sent (Some m) h = either (λ k. k.sent ≡ h.sent) (counts_completed h) (record (counts_completed h) { fin = m.snapshot; flight = drop 1 h.flight; phase = after_completing m.snapshot h.phase }) m.check refl refl

fate-sent : (link : LinkId) (phase : LinkPhase) (h : Half) → (meets_fate link phase h).sent ≡ h.sent
fate-sent link Unused h = refl
fate-sent link Pending h = refl
fate-sent link Live h = refl
fate-sent link Dead h = refl

call-grows : (size : ℕ) (call : Call) (h : Half) → Grows h (calls size call h)
call-grows size (Writes bytes) h = either (Grows h) h (record h { out = h.out ++ take (window size h) bytes }) (is_some (cause_of h.phase) || is_ended h) (same-grows h h refl) (same-grows h (record h { out = h.out ++ take (window size h) bytes }) refl)
call-grows size (Reads n) h = either (Grows h) h (record h { rd = h.rd + min n (unread h) }) (is_some (cause_of h.phase) || is_closing h.phase) (same-grows h h refl) (same-grows h (record h { rd = h.rd + min n (unread h) }) refl)
call-grows size Finishes h = either (Grows h) h (record h { finished = true; phase = after_finish h.phase }) (is_some (cause_of h.phase)) (same-grows h h refl) (same-grows h (record h { finished = true; phase = after_finish h.phase }) refl)
call-grows size Closes h = either (Grows h) h (record h { finished = true; phase = after_close h.phase }) (is_some (cause_of h.phase)) (same-grows h h refl) (same-grows h (record h { finished = true; phase = after_close h.phase }) refl)
call-grows size Aborts h = same-grows h (calls size Aborts h) refl
call-grows size Awaits h = same-grows h h refl
call-grows size Moves h = either (Grows h) (record h { link = lowest_link h; last = h.fin; flight = []; phase = after_moving h.phase; sent = h.sent ++ check h ∷ []; landed = length h.sent; completed = length h.sent }) h (is_due_for_move h)
    (record { more = check h ∷ []; sent_is = refl; honest = (λ e. refl, tt) }) (same-grows h h refl)

grows : (size : ℕ) (x : Side) (item : Item) (p : Pipe) → Grows (half x p) (half x (apply size item p))
grows size = at-half size (λ x item h k. Grows h k) (record {
  fate = λ x link phase h. same-grows h (meets_fate link phase h) (fate-sent link phase h);
  gone = λ x h. record { more = []; sent_is = sym (append-nil h.sent); honest = tt };
  up = λ x link h. record { more = []; sent_is = sym (append-nil h.sent); honest = tt };
  call = λ x call h. call-grows size call h;
  land = λ x h. record { more = []; sent_is = sym (append-nil h.sent); honest = tt };
  take = λ x m h. same-grows h (takes m h) (takes-sent m h);
  complete = λ x m h. same-grows h (completes m h) (completes-sent m h);
  rest = λ x item h. same-grows h h refl;
})

settle-grows : (depth : ℕ) (h : Half) → Grows h (settle depth h)
settle-grows depth h = either (Grows h) (posts_batch h) h (is_due depth h) (record { more = batch h ∷ []; sent_is = refl; honest = (λ e. absurd (true≢false (sym e)), tt) }) (same-grows h h refl)

step-grows : (t : Terms) (x : Side) (item : Item) (p : Pipe) → Grows (half x p) (half x (step t item p))
step-grows t A item p = grows-on p.a (apply t.size item p).a (settle t.depth (apply t.size item p).a) (grows t.size A item p) (settle-grows t.depth (apply t.size item p).a)
step-grows t B item p = grows-on p.b (apply t.size item p).b (settle t.depth (apply t.size item p).b) (grows t.size B item p) (settle-grows t.depth (apply t.size item p).b)

-- some news
pub news-grow : (t : Terms) (x : Side) (news items : List Item) → Grows (half x (pipe t items)) (half x (pipe t (news ++ items)))
news-grow t x [] items = same-grows (half x (pipe t items)) (half x (pipe t items)) refl
news-grow t x (item ∷ news) items = grows-on (half x (pipe t items)) (half x (pipe t (news ++ items))) (half x (step t item (pipe t (news ++ items)))) (news-grow t x news items) (step-grows t x item (pipe t (news ++ items)))

-- what is posted with them
pub posts-are-more : (t : Terms) (x : Side) (news items : List Item) → (g : Grows (half x (pipe t items)) (half x (pipe t (news ++ items)))) → posts_of t x news items ≡ g.more
posts-are-more t x news items g = ap (λ ms. drop (length (half x (pipe t items)).sent) ms) g.sent_is ∙ drop-append_seam (half x (pipe t items)).sent g.more

-- a last snapshot is among what was sent before, or among what is posted
pub last-either : (ms ns : List Sent) → has_last (ms ++ ns) ≡ true → (has_last ms ≡ false) → has_last ns ≡ true
last-either [] ns e f = e
last-either (m ∷ ms) ns e f = by (is_last m.snapshot) (has_last ms) (has_last (ms ++ ns)) (last-either ms ns) e f
  where
    by : (a b c : Bool) → (c ≡ true → b ≡ false → has_last ns ≡ true) → (a || c) ≡ true → (a || b) ≡ false → has_last ns ≡ true
    by true b c r p q = absurd (true≢false q)
    by false b c r p q = r p q
