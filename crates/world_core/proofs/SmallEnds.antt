-- The numbers and the accepted bytes of an end grow by little with each item of its part.
use Rattle.std.proofs.Common.{◌≡◌, ℕ, ◌+◌, ◌*◌, ◌≤◌, min, true, if◌then◌else◌, ◌||◌, true≢false, List, [], ◌∷◌, ◌++◌, length, take, drop, refl, ap, sym, subst, arith, length-append, length-take, mul-add}
use Rattle.std.specs.Prelude.{Option, Some, None, is_some}
use Rattle.smc_num.specs.declared.Side.{Side}
use Rattle.smc_num.specs.declared.Side.TheVariants.{A, B}
use Rattle.smc_num.specs.declared.LinkId.{LinkId}
use Rattle.smc_num.specs.declared.LinkPhase.{LinkPhase}
use Rattle.smc_num.specs.declared.LinkPhase.TheVariants.{Unused, Pending, Live, Dead}
use Rattle.smc_num.specs.Numbers.{wire_number}
use Rattle.pipe_model.specs.declared.reply.ResetCause.TheVariants.{PeerAbort, Gap}
use Rattle.pipe_model.specs.declared.sent.Sent.{Sent}
use Rattle.pipe_model.specs.Snapshot.{shows_gap}
use Rattle.pipe_model.specs.Closing.{cause_of, is_closing, after_completing}
use Rattle.pipe_model.specs.Ends.{Half, window, unread, is_over, strikes, validates, takes_snapshot, takes, lands, counts_completed, completes, meets_fate, posts_batch, settle, is_due, comes_up}
use Rattle.pipe_model.specs.Calls.{Call, Writes, Reads, calls, is_ended}
use Rattle.pipe_model.specs.Pipe.{Terms, Item, Calls, Pipe, half, apply, pipe}
use Rattle.world_core.specs.Wired.{EachItem, keeps_open}
use Rattle.world_core.proofs.Growth.{settled-half, either}
use Rattle.world_core.proofs.Halves.{at-half}

-- that an end has posted nothing more, and has accepted an element's bytes more at most
record GrowsBy (size : ℕ) (h k : Half) : Type 0 where
  pub number : k.number ≡ h.number
  pub out : length k.out ≤ length h.out + size

same : (size : ℕ) (h k : Half) → k.number ≡ h.number → k.out ≡ h.out → GrowsBy size h k
same size h k n o = record { number = n; out = let e : length k.out ≡ length h.out = ap (λ bs. length bs) o in omega (arith, e) }

-- messages that come
takes-small : (size : ℕ) (o : Option Sent) (h : Half) → GrowsBy size h (takes o h)
takes-small size None h = same size h h refl refl
takes-small size (Some m) h = either (GrowsBy size h) h (if m.check then validates m.snapshot.number h else takes_snapshot m.snapshot h) (is_over h) (same size h h refl refl)
    (either (GrowsBy size h) (validates m.snapshot.number h) (takes_snapshot m.snapshot h) m.check
    (either (GrowsBy size h) (strikes (Gap (wire_number m.snapshot.number) (wire_number h.taken.number)) h) h (shows_gap m.snapshot.number h.taken.number) (same size h _ refl refl) (same size h h refl refl))
    (either (GrowsBy size h) (strikes PeerAbort (record h { taken = m.snapshot })) (record h { taken = m.snapshot }) m.snapshot.aborted (same size h _ refl refl) (same size h _ refl refl)))

completes-small : (size : ℕ) (o : Option Sent) (h : Half) → GrowsBy size h (completes o h)
completes-small size None h = same size h h refl refl
completes-small size (Some m) h = either (GrowsBy size h) (counts_completed h) (record (counts_completed h) { fin = m.snapshot; flight = drop 1 h.flight; phase = after_completing m.snapshot h.phase }) m.check (same size h _ refl refl) (same size h _ refl refl)

fate-small : (size : ℕ) (link : LinkId) (phase : LinkPhase) (h : Half) → GrowsBy size h (meets_fate link phase h)
fate-small size link Unused h = same size h _ refl refl
fate-small size link Pending h = same size h _ refl refl
fate-small size link Live h = same size h _ refl refl
fate-small size link Dead h = same size h _ refl refl

write-small : (size : ℕ) (bytes : List ℕ) (h : Half) → GrowsBy size h (record h { out = h.out ++ take (window size h) bytes })
write-small size bytes h = record {
  number = refl;
  out = let e : length (h.out ++ take (window size h) bytes) ≡ length h.out + length (take (window size h) bytes) = length-append h.out (take (window size h) bytes) in
      let t : length (take (window size h) bytes) ≡ min (window size h) (length bytes) = length-take (window size h) bytes in
      omega (arith, e, t);
}

call-small : (size : ℕ) (x : Side) (call : Call) (h : Half) → keeps_open (Calls x call) ≡ true → GrowsBy size h (calls size call h)
call-small size x (Writes bytes) h k = either (GrowsBy size h) h (record h { out = h.out ++ take (window size h) bytes }) (is_some (cause_of h.phase) || is_ended h) (same size h h refl refl) (write-small size bytes h)
call-small size x (Reads n) h k = either (GrowsBy size h) h (record h { rd = h.rd + min n (unread h) }) (is_some (cause_of h.phase) || is_closing h.phase) (same size h h refl refl) (same size h _ refl refl)
call-small size x _ h k = absurd (true≢false (sym k))

applied : (size : ℕ) (x : Side) (item : Item) (p : Pipe) → keeps_open item ≡ true → GrowsBy size (half x p) (half x (apply size item p))
applied size = at-half size (λ x item h k. keeps_open item ≡ true → GrowsBy size h k) (record {
  fate = λ x link phase h o. fate-small size link phase h;
  gone = λ x h o. absurd (true≢false (sym o));
  up = λ x link h o. same size h (comes_up link h) refl refl;
  call = λ x call h o. call-small size x call h o;
  land = λ x h o. same size h (lands h) refl refl;
  take = λ x m h o. takes-small size m h;
  complete = λ x m h o. completes-small size m h;
  rest = λ x item h o. same size h h refl refl;
})

-- that an end has posted so many snapshots at most, and accepted so many bytes
pub record IsWithin (number out : ℕ) (h : Half) : Type 0 where
  pub number_few : h.number ≤ number
  pub out_few : length h.out ≤ out

settled-small : (depth number out : ℕ) (h : Half) → IsWithin number out h → IsWithin (number + 1) out (settle depth h)
settled-small depth number out h w = either (λ j. IsWithin (number + 1) out j) (posts_batch h) h (is_due depth h)
    (record { number_few = omega (arith, w.number_few); out_few = w.out_few }) (record { number_few = omega (arith, w.number_few); out_few = w.out_few })

-- so it is of the ends of a part in which no end closes
pub small : (t : Terms) (x : Side) (items : List Item) → EachItem keeps_open items → IsWithin (t.number + length items) (t.size * length items) (half x (pipe t items))
small t A [] k = record { number_few = omega arith; out_few = omega arith }
small t B [] k = record { number_few = omega arith; out_few = omega arith }
small t x (item ∷ items) k =
    let w = small t x items k.1 in
    let g = applied t.size x item (pipe t items) k.0 in
    let more : t.size * (length items + 1) ≡ t.size * length items + t.size * 1 = mul-add t.size (length items) 1 in
    subst (λ h. IsWithin (t.number + length (item ∷ items)) (t.size * length (item ∷ items)) h) (sym (settled-half t x item (pipe t items)))
    (let s = settled-small t.depth (t.number + length items) (t.size * length items + t.size) (half x (apply t.size item (pipe t items)))
    (record { number_few = let e = g.number in omega (arith, w.number_few, e); out_few = omega (arith, g.out, w.out_few) }) in
    record { number_few = omega (arith, s.number_few); out_few = omega (arith, s.out_few, more) })
