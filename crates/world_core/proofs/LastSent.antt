-- What an end told last is the snapshot of the last message that it sent.
use Rattle.std.proofs.Common.{◌≡◌, ◌∙◌, ◌+◌, ℕ, true, if◌then◌else◌, List, [], ◌∷◌, ◌++◌, take, drop, refl, ap, sym, subst, ◌||◌, true≢false}
use Rattle.std.specs.Prelude.{Option, Some, None, is_some, min}
use Rattle.smc_num.specs.declared.Side.{Side}
use Rattle.smc_num.specs.declared.Side.TheVariants.{A, B}
use Rattle.smc_num.specs.declared.LinkId.{LinkId}
use Rattle.smc_num.specs.declared.LinkPhase.{LinkPhase}
use Rattle.smc_num.specs.declared.LinkPhase.TheVariants.{Unused, Pending, Live, Dead}
use Rattle.smc_num.specs.Numbers.{wire_number}
use Rattle.pipe_model.specs.declared.snapshot.Snapshot.{Snapshot}
use Rattle.pipe_model.specs.declared.reply.ResetCause.TheVariants.{PeerAbort, Gap}
use Rattle.pipe_model.specs.declared.sent.Sent.{Sent}
use Rattle.pipe_model.specs.Snapshot.{shows_gap}
use Rattle.pipe_model.specs.Closing.{cause_of, is_closing, after_completing}
use Rattle.pipe_model.specs.Ends.{Half, settle, is_due, is_over, meets_fate, takes, takes_snapshot, validates, strikes, completes, counts_completed, batch, posts_batch, window, unread}
use Rattle.pipe_model.specs.Calls.{Call, Writes, Reads, calls, is_ended}
use Rattle.pipe_model.specs.Pipe.{Pipe, Terms, Item, Calls, half, apply, pipe}
use Rattle.world_core.specs.Wired.{EachItem, keeps_open}
use Rattle.world_core.proofs.Growth.{either, settled-half}
use Rattle.world_core.proofs.Halves.{at-half}

-- the last of some messages
abbrev last_in : List Sent → Option Sent
last_in [] = None
last_in (m ∷ []) = Some m
last_in (m ∷ n ∷ ms) = last_in (n ∷ ms)

last-after : (m n : Sent) (ms : List Sent) → last_in ((m ∷ ms) ++ n ∷ []) ≡ Some n
last-after m n [] = refl
last-after m n (k ∷ ms) = last-after k n ms

last-behind : (ms : List Sent) (n : Sent) → last_in (ms ++ n ∷ []) ≡ Some n
last-behind [] n = refl
last-behind (m ∷ ms) n = last-after m n ms

abbrev Shows : Option Sent → Snapshot → Type 0
Shows None s = Unit {0}
Shows (Some m) s = s ≡ m.snapshot

abbrev ShowsLast : Half → Type 0
ShowsLast h = Shows (last_in h.sent) h.last

-- what leaves both
abbrev Keeps : Half → Half → Type 0
Keeps h k = (k.sent ≡ h.sent) × (k.last ≡ h.last)

shows-kept : (h k : Half) → Keeps h k → ShowsLast h → ShowsLast k
shows-kept h k e s = subst (λ (ms : List Sent). Shows (last_in ms) k.last) (sym e.0) (subst (λ (l : Snapshot). Shows (last_in h.sent) l) (sym e.1) s)

shows-posted : (h : Half) → ShowsLast (posts_batch h)
shows-posted h = subst (λ (o : Option Sent). Shows o (posts_batch h).last) (sym (last-behind h.sent (batch h))) refl

shows-settled : (depth : ℕ) (h : Half) → ShowsLast h → ShowsLast (settle depth h)
shows-settled depth h s = either (λ k. ShowsLast k) (posts_batch h) h (is_due depth h) (shows-posted h) s

-- what the peer's messages do to an end
takes-keeps : (o : Option Sent) (h : Half) → Keeps h (takes o h)
takes-keeps None h = (refl, refl)
takes-keeps (Some m) h = either (Keeps h) h (if m.check then validates m.snapshot.number h else takes_snapshot m.snapshot h) (is_over h) (refl, refl)
    (either (Keeps h) (validates m.snapshot.number h) (takes_snapshot m.snapshot h) m.check
    (either (Keeps h) (strikes (Gap (wire_number m.snapshot.number) (wire_number h.taken.number)) h) h (shows_gap m.snapshot.number h.taken.number) (refl, refl) (refl, refl))
    (either (Keeps h) (strikes PeerAbort (record h { taken = m.snapshot })) (record h { taken = m.snapshot }) m.snapshot.aborted (refl, refl) (refl, refl)))

completes-keeps : (o : Option Sent) (h : Half) → Keeps h (completes o h)
completes-keeps None h = (refl, refl)
completes-keeps (Some m) h = either (Keeps h) (counts_completed h) (record (counts_completed h) { fin = m.snapshot; flight = drop 1 h.flight; phase = after_completing m.snapshot h.phase }) m.check (refl, refl) (refl, refl)

fate-keeps : (link : LinkId) (phase : LinkPhase) (h : Half) → Keeps h (meets_fate link phase h)
fate-keeps link Unused h = (refl, refl)
fate-keeps link Pending h = (refl, refl)
fate-keeps link Live h = (refl, refl)
fate-keeps link Dead h = (refl, refl)

call-keeps : (size : ℕ) (call : Call) (h : Half) → keeps_open (Calls A call) ≡ true → Keeps h (calls size call h)
call-keeps size (Writes bytes) h k = either (Keeps h) h (record h { out = h.out ++ take (window size h) bytes }) (is_some (cause_of h.phase) || is_ended h) (refl, refl) (refl, refl)
call-keeps size (Reads n) h k = either (Keeps h) h (record h { rd = h.rd + min n (unread h) }) (is_some (cause_of h.phase) || is_closing h.phase) (refl, refl) (refl, refl)
call-keeps size _ h k = absurd (true≢false (sym k))

kept : (size : ℕ) (x : Side) (item : Item) (p : Pipe) → keeps_open item ≡ true → Keeps (half x p) (half x (apply size item p))
kept size = at-half size (λ x item h k. keeps_open item ≡ true → Keeps h k) (record {
  fate = λ x link phase h o. fate-keeps link phase h;
  gone = λ x h o. (refl, refl);
  up = λ x link h o. (refl, refl);
  call = λ x call h o. call-keeps size call h o;
  land = λ x h o. (refl, refl);
  take = λ x m h o. takes-keeps m h;
  complete = λ x m h o. completes-keeps m h;
  rest = λ x item h o. (refl, refl);
})

shows-first : (t : Terms) (x : Side) → ShowsLast (half x (pipe t []))
shows-first t A = tt
shows-first t B = tt

shows-last : (t : Terms) (x : Side) (items : List Item) → EachItem keeps_open items → ShowsLast (half x (pipe t items))
shows-last t x [] e = shows-first t x
shows-last t x (item ∷ items) e =
    subst (λ (k : Half). ShowsLast k) (sym (settled-half t x item (pipe t items)))
    (shows-settled t.depth (half x (apply t.size item (pipe t items))) (shows-kept (half x (pipe t items)) (half x (apply t.size item (pipe t items))) (kept t.size x item (pipe t items) e.0) (shows-last t x items e.1)))

-- of an end that sent one message more
pub last-told : (t : Terms) (x : Side) (items : List Item) → EachItem keeps_open items → (before : List Sent) (m : Sent) → (half x (pipe t items)).sent ≡ before ++ m ∷ [] → (half x (pipe t items)).last ≡ m.snapshot
last-told t x items e before m f = subst (λ (o : Option Sent). Shows o (half x (pipe t items)).last) (ap (λ ms. last_in ms) f ∙ last-behind before m) (shows-last t x items e)
