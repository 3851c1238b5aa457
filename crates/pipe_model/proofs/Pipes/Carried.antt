-- Each message of an end carries bytes of those that it accepted, no more than an element holds.
use Rattle.std.proofs.Common.{◌≡◌, ℕ, ◌+◌, ◌≤◌, min, Bool, true, false, List, [], ◌∷◌, ◌++◌, length, take, drop, refl, sym, arith, if◌then◌else◌, ◌||◌, true≢false, length-append}
use Rattle.std.specs.Prelude.{Option, Some, None, is_some}
use Rattle.smc_num.specs.declared.Side.{Side}
use Rattle.smc_num.specs.declared.Side.TheVariants.{A, B}
use Rattle.smc_num.specs.declared.LinkId.{LinkId}
use Rattle.smc_num.specs.declared.LinkPhase.{LinkPhase}
use Rattle.smc_num.specs.declared.LinkPhase.TheVariants.{Unused, Pending, Live, Dead}
use Rattle.smc_num.specs.Names.{head}
use Rattle.smc_num.specs.Numbers.{wire_number}
use Rattle.pipe_model.specs.declared.reply.ResetCause.TheVariants.{PeerAbort, Gap}
use Rattle.pipe_model.specs.Snapshot.{shows_gap}
use Rattle.pipe_model.specs.Closing.{cause_of, after_finish, after_close, after_moving, after_completing}
use Rattle.pipe_model.specs.Ends.{Half, Sent, settle, is_due, is_over, is_due_for_move, meets_fate, takes, takes_snapshot, validates, strikes, completes, counts_completed, check, lowest_link, batch, posts_batch, window, unread, to_land, to_complete}
use Rattle.pipe_model.specs.Calls.{Call, Writes, Reads, Finishes, Closes, Aborts, Awaits, Moves, calls, is_ended}
use Rattle.pipe_model.specs.Pipe.{Pipe, Terms, Item, Fate, GroupEnd, Up, Calls, Lands, Completes, half, pipe, apply}
use Rattle.pipe_model.specs.Parts.{IsFeasible, EachOf, CarriesFew}
use Rattle.pipe_model.proofs.Pipes.Sound.{Both}
use Rattle.pipe_model.proofs.Pipes.Parts.{both, both-after}

abbrev pub FewOf : ℕ → Half → Type 0
FewOf size h = EachOf (CarriesFew size (length h.out)) h.sent

few-append : (size out : ℕ) (ms : List Sent) (m : Sent) → EachOf (CarriesFew size out) ms → CarriesFew size out m → EachOf (CarriesFew size out) (ms ++ m ∷ [])
few-append size out [] m e c = (c, tt)
few-append size out (k ∷ ms) m e c = (e.0, few-append size out ms m e.1 c)

few-more : (size out out2 : ℕ) (ms : List Sent) → out ≤ out2 → EachOf (CarriesFew size out) ms → EachOf (CarriesFew size out2) ms
few-more size out out2 [] l e = tt
few-more size out out2 (m ∷ ms) l e =
    let c = e.0 in
    let within : m.snapshot.told ≤ out = c.within in
    (record { forward = c.forward; few = c.few; within = omega (arith, within, l); check = c.check; aborted = c.aborted }, few-more size out out2 ms l e.1)

either : (size : ℕ) (h1 h2 : Half) (b : Bool) → FewOf size h1 → FewOf size h2 → FewOf size (if b then h1 else h2)
either size h1 h2 true x y = x
either size h1 h2 false x y = y

-- posting
batch-by : (size : ℕ) (b : Bool) (last out fin : ℕ) → fin ≤ last → last ≤ out → out ≤ fin + size →
    ((if b then (if b then last else out) else last) ≤ (if b then last else out)) × ((if b then last else out) ≤ (if b then (if b then last else out) else last) + size) × ((if b then last else out) ≤ out) × (b ≡ true → (if b then (if b then last else out) else last) ≡ (if b then last else out))
batch-by size true last out fin f l w = (omega arith, omega arith, l, λ _. refl)
batch-by size false last out fin f l w = (l, omega arith, omega arith, λ e. absurd (true≢false (sym e)))

posted : (size depth : ℕ) (h k : Half) → Both size depth h k → FewOf size h → FewOf size (posts_batch h)
posted size depth h k b e =
    let w = b.0 in
    let c = w.0 in
    let q = batch-by size (is_some (cause_of h.phase)) h.last.told (length h.out) h.fin.told c.fin_last c.last_out c.window_fin in
    few-append size (length h.out) h.sent (batch h) e (record { forward = q.0; few = q.1; within = q.2; check = λ f. absurd (true≢false (sym f)); aborted = q.3 })

settled : (size depth : ℕ) (h k : Half) → Both size depth h k → FewOf size h → FewOf size (settle depth h)
settled size depth h k b e = either size (posts_batch h) h (is_due depth h) (posted size depth h k b e) e

-- calls
call-few : (size depth : ℕ) (call : Call) (h k : Half) → Both size depth h k → FewOf size h → FewOf size (calls size call h)
call-few size depth (Writes bytes) h k b e =
    let l : length (h.out ++ take (window size h) bytes) ≡ length h.out + length (take (window size h) bytes) = length-append h.out (take (window size h) bytes) in
    either size h (record h { out = h.out ++ take (window size h) bytes }) (is_some (cause_of h.phase) || is_ended h) e (few-more size (length h.out) (length (h.out ++ take (window size h) bytes)) h.sent (omega (arith, l)) e)
call-few size depth (Reads n) h k b e = either size h (record h { rd = h.rd + min n (unread h) }) _ e e
call-few size depth Finishes h k b e = either size h (record h { finished = true; phase = after_finish h.phase }) _ e e
call-few size depth Closes h k b e = either size h (record h { finished = true; phase = after_close h.phase }) _ e e
call-few size depth Aborts h k b e = e
call-few size depth Awaits h k b e = e
call-few size depth Moves h k b e =
    let w = b.0 in
    let c = w.0 in
    either size (record h { link = lowest_link h; last = h.fin; flight = []; phase = after_moving h.phase; sent = h.sent ++ check h ∷ []; landed = length h.sent; completed = length h.sent }) h (is_due_for_move h)
    (few-append size (length h.out) h.sent (check h) e (record { forward = omega arith; few = omega arith; within = omega (arith, c.fin_last, c.last_out); check = λ _. refl; aborted = λ _. refl })) e

-- fates, landings and completions
fate-few : (size : ℕ) (link : LinkId) (phase : LinkPhase) (h : Half) → FewOf size h → FewOf size (meets_fate link phase h)
fate-few size link Unused h e = e
fate-few size link Pending h e = e
fate-few size link Live h e = e
fate-few size link Dead h e = e

takes-few : (size : ℕ) (o : Option Sent) (h : Half) → FewOf size h → FewOf size (takes o h)
takes-few size None h e = e
takes-few size (Some m) h e = either size h (if m.check then validates m.snapshot.number h else takes_snapshot m.snapshot h) (is_over h) e
    (either size (validates m.snapshot.number h) (takes_snapshot m.snapshot h) m.check
    (either size (strikes (Gap (wire_number m.snapshot.number) (wire_number h.taken.number)) h) h (shows_gap m.snapshot.number h.taken.number) e e)
    (either size (strikes PeerAbort (record h { taken = m.snapshot })) (record h { taken = m.snapshot }) m.snapshot.aborted e e))

completes-few : (size : ℕ) (o : Option Sent) (h : Half) → FewOf size h → FewOf size (completes o h)
completes-few size None h e = e
completes-few size (Some m) h e = either size (counts_completed h) (record (counts_completed h) { fin = m.snapshot; flight = drop 1 h.flight; phase = after_completing m.snapshot h.phase }) m.check e e

-- every part
abbrev pub Few : ℕ → Pipe → Type 0
Few size p = FewOf size p.a × FewOf size p.b

after-item : (t : Terms) (item : Item) (items : List Item) → IsFeasible t (item ∷ items) → Few t.size (pipe t items) → Few t.size (apply t.size item (pipe t items))
after-item t (Fate A link phase) items f e = (fate-few t.size link phase (pipe t items).a e.0, e.1)
after-item t (Fate B link phase) items f e = (e.0, fate-few t.size link phase (pipe t items).b e.1)
after-item t (GroupEnd A) items f e = e
after-item t (GroupEnd B) items f e = e
after-item t (Up A link) items f e = e
after-item t (Up B link) items f e = e
after-item t (Calls A call) items f e = (call-few t.size t.depth call (pipe t items).a (pipe t items).b (both t A items f.1) e.0, e.1)
after-item t (Calls B call) items f e = (e.0, call-few t.size t.depth call (pipe t items).b (pipe t items).a (both t B items f.1) e.1)
after-item t (Lands A) items f e = (e.0, takes-few t.size (head (to_land (pipe t items).a)) (pipe t items).b e.1)
after-item t (Lands B) items f e = (takes-few t.size (head (to_land (pipe t items).b)) (pipe t items).a e.0, e.1)
after-item t (Completes A) items f e = (completes-few t.size (head (to_complete (pipe t items).a)) (pipe t items).a e.0, e.1)
after-item t (Completes B) items f e = (e.0, completes-few t.size (head (to_complete (pipe t items).b)) (pipe t items).b e.1)

all-few : (t : Terms) (items : List Item) → IsFeasible t items → Few t.size (pipe t items)
all-few t [] f = (tt, tt)
all-few t (item ∷ items) f =
    let e = after-item t item items f (all-few t items f.1) in
    let b = both-after t A item items f in
    (settled t.size t.depth (apply t.size item (pipe t items)).a (apply t.size item (pipe t items)).b b e.0, settled t.size t.depth (apply t.size item (pipe t items)).b (apply t.size item (pipe t items)).a (b.1, b.0) e.1)

few-half : (size : ℕ) (x : Side) (p : Pipe) → Few size p → FewOf size (half x p)
few-half size A p e = e.0
few-half size B p e = e.1

pub carries-few : (t : Terms) (x : Side) (items : List Item) → IsFeasible t items → EachOf (CarriesFew t.size (length (half x (pipe t items)).out)) (half x (pipe t items)).sent
carries-few t x items f = few-half t.size x (pipe t items) (all-few t items f)
