-- Where no end has posted 32,768 snapshots, all validation messages were near.
use Rattle.std.proofs.Common.{◌≡◌, ℕ, ◌+◌, ◌-◌, ◌<◌, ◌≤◌, min, Bool, true, false, not, List, [], ◌∷◌, ◌++◌, length, take, drop, refl, arith, if◌then◌else◌, ◌||◌}
use Rattle.std.specs.Prelude.{Option, Some, None, is_some}
use Rattle.std.proofs.lemmas.Bool.{and_from, or_right}
use Rattle.smc_num.specs.declared.Side.{Side}
use Rattle.smc_num.specs.declared.Side.TheVariants.{A, B}
use Rattle.smc_num.specs.declared.LinkId.{LinkId}
use Rattle.smc_num.specs.declared.LinkPhase.{LinkPhase}
use Rattle.smc_num.specs.declared.LinkPhase.TheVariants.{Unused, Pending, Live, Dead}
use Rattle.smc_num.specs.Names.{other, head}
use Rattle.smc_num.specs.Numbers.{wire_number}
use Rattle.pipe_model.specs.declared.reply.ResetCause.TheVariants.{PeerAbort, Gap}
use Rattle.pipe_model.specs.Snapshot.{shows_gap, is_near}
use Rattle.pipe_model.specs.Closing.{cause_of, after_finish, after_close, after_moving, after_completing}
use Rattle.pipe_model.specs.Ends.{Half, Sent, settle, is_due, is_over, is_due_for_move, meets_fate, takes, takes_snapshot, validates, strikes, completes, counts_completed, check, lowest_link, posts_batch, window, unread, to_land, to_complete}
use Rattle.pipe_model.specs.Calls.{Call, Writes, Reads, Finishes, Closes, Aborts, Awaits, Moves, calls, is_ended}
use Rattle.pipe_model.specs.Pipe.{Pipe, Terms, Item, Fate, GroupEnd, Up, Calls, Lands, Completes, half, pipe, apply, is_near_at, lands_near, is_near_part}
use Rattle.pipe_model.specs.Parts.{IsFeasible}
use Rattle.pipe_model.proofs.Pipes.Chains.{rest-of}
use Rattle.pipe_model.proofs.Pipes.Items.{next-under}
use Rattle.pipe_model.proofs.Pipes.Parts.{both}
use Rattle.pipe_model.proofs.Pipes.Facts.{lands-well}

-- of two ends with a fact, either has it
either : (P : Half → Type 0) (h1 h2 : Half) (b : Bool) → P h1 → P h2 → P (if b then h1 else h2)
either P h1 h2 true x y = x
either P h1 h2 false x y = y

-- the number that an end last used, and a number that is not past what it has taken
abbrev Keeps : ℕ → ℕ → Half → Type 0
Keeps number first h = (h.number ≡ number) × (first ≤ h.taken.number)

module _ (first : ℕ) where
  call-keeps : (size : ℕ) (call : Call) (h : Half) → first ≤ h.taken.number → Keeps h.number first (calls size call h)
  call-keeps size (Writes bytes) h l = either (Keeps h.number first) h (record h { out = h.out ++ take (window size h) bytes }) (is_some (cause_of h.phase) || is_ended h) (refl, l) (refl, l)
  call-keeps size (Reads n) h l = either (Keeps h.number first) h (record h { rd = h.rd + min n (unread h) }) _ (refl, l) (refl, l)
  call-keeps size Finishes h l = either (Keeps h.number first) h (record h { finished = true; phase = after_finish h.phase }) _ (refl, l) (refl, l)
  call-keeps size Closes h l = either (Keeps h.number first) h (record h { finished = true; phase = after_close h.phase }) _ (refl, l) (refl, l)
  call-keeps size Aborts h l = (refl, l)
  call-keeps size Awaits h l = (refl, l)
  call-keeps size Moves h l =
      either (Keeps h.number first) (record h { link = lowest_link h; last = h.fin; flight = []; phase = after_moving h.phase; sent = h.sent ++ check h ∷ []; landed = length h.sent; completed = length h.sent }) h (is_due_for_move h) (refl, l) (refl, l)

  fate-keeps : (link : LinkId) (phase : LinkPhase) (h : Half) → first ≤ h.taken.number → Keeps h.number first (meets_fate link phase h)
  fate-keeps link Unused h l = (refl, l)
  fate-keeps link Pending h l = (refl, l)
  fate-keeps link Live h l = (refl, l)
  fate-keeps link Dead h l = (refl, l)

  snapshot-keeps : (m : Sent) (h : Half) → first ≤ m.snapshot.number → Keeps h.number first (takes_snapshot m.snapshot h)
  snapshot-keeps m h l = either (Keeps h.number first) (strikes PeerAbort (record h { taken = m.snapshot })) (record h { taken = m.snapshot }) m.snapshot.aborted (refl, l) (refl, l)

  lands-keeps : (m : Sent) (h : Half) (is_check : Bool) → (is_check ≡ false → h.taken.number < m.snapshot.number) → first ≤ h.taken.number → Keeps h.number first (if is_check then validates m.snapshot.number h else takes_snapshot m.snapshot h)
  lands-keeps m h true f l = either (Keeps h.number first) (strikes (Gap (wire_number m.snapshot.number) (wire_number h.taken.number)) h) h (shows_gap m.snapshot.number h.taken.number) (refl, l) (refl, l)
  lands-keeps m h false f l = let g = f refl in snapshot-keeps m h (omega (arith, l, g))

  takes-keeps : (o : Option Sent) (h : Half) → ((m : Sent) → o ≡ Some m → m.check ≡ false → h.taken.number < m.snapshot.number) → first ≤ h.taken.number → Keeps h.number first (takes o h)
  takes-keeps None h f l = (refl, l)
  takes-keeps (Some m) h f l = either (Keeps h.number first) h (if m.check then validates m.snapshot.number h else takes_snapshot m.snapshot h) (is_over h) (refl, l) (lands-keeps m h m.check (f m refl) l)

  completes-keeps : (o : Option Sent) (h : Half) → first ≤ h.taken.number → Keeps h.number first (completes o h)
  completes-keeps None h l = (refl, l)
  completes-keeps (Some m) h l = either (Keeps h.number first) (counts_completed h) (record (counts_completed h) { fin = m.snapshot; flight = drop 1 h.flight; phase = after_completing m.snapshot h.phase }) m.check (refl, l) (refl, l)

  settle-keeps : (depth : ℕ) (h : Half) → first ≤ h.taken.number → (h.number ≤ (settle depth h).number) × (first ≤ (settle depth h).taken.number)
  settle-keeps depth h l = either (λ (k : Half). (h.number ≤ k.number) × (first ≤ k.taken.number)) (posts_batch h) h (is_due depth h) (omega arith, l) (omega arith, l)

-- both ends
abbrev pub KeepBoth : ℕ → Pipe → Pipe → Type 0
KeepBoth first before p = Keeps before.a.number first p.a × Keeps before.b.number first p.b

next-rises : (t : Terms) (x : Side) (items : List Item) → IsFeasible t items → (m : Sent) → head (to_land (half x (pipe t items))) ≡ Some m → m.check ≡ false → (half (other x) (pipe t items)).taken.number < m.snapshot.number
next-rises t x items f m e g = let c = lands-well t x items m f e g in c.number_rises

after-item : (first : ℕ) (t : Terms) (item : Item) (items : List Item) → IsFeasible t (item ∷ items) → first ≤ (pipe t items).a.taken.number → first ≤ (pipe t items).b.taken.number → KeepBoth first (pipe t items) (apply t.size item (pipe t items))
after-item first t (Fate A link phase) items f l m = (fate-keeps first link phase (pipe t items).a l, (refl, m))
after-item first t (Fate B link phase) items f l m = ((refl, l), fate-keeps first link phase (pipe t items).b m)
after-item first t (GroupEnd A) items f l m = ((refl, l), (refl, m))
after-item first t (GroupEnd B) items f l m = ((refl, l), (refl, m))
after-item first t (Up A link) items f l m = ((refl, l), (refl, m))
after-item first t (Up B link) items f l m = ((refl, l), (refl, m))
after-item first t (Calls A call) items f l m = (call-keeps first t.size call (pipe t items).a l, (refl, m))
after-item first t (Calls B call) items f l m = ((refl, l), call-keeps first t.size call (pipe t items).b m)
after-item first t (Lands A) items f l m = ((refl, l), takes-keeps first (head (to_land (pipe t items).a)) (pipe t items).b (next-rises t A items f.1) m)
after-item first t (Lands B) items f l m = (takes-keeps first (head (to_land (pipe t items).b)) (pipe t items).a (next-rises t B items f.1) l, (refl, m))
after-item first t (Completes A) items f l m = (completes-keeps first (head (to_complete (pipe t items).a)) (pipe t items).a l, (refl, m))
after-item first t (Completes B) items f l m = ((refl, l), completes-keeps first (head (to_complete (pipe t items).b)) (pipe t items).b m)

-- numbers grow, and what was taken is never below the first of them
taken-first : (t : Terms) (items : List Item) → IsFeasible t items → (t.number - 1 ≤ (pipe t items).a.taken.number) × (t.number - 1 ≤ (pipe t items).b.taken.number)
taken-first t [] f = (omega arith, omega arith)
taken-first t (item ∷ items) f =
    let l = taken-first t items f.1 in
    let k = after-item (t.number - 1) t item items f l.0 l.1 in
    let a = k.0 in
    let b = k.1 in
    let x = settle-keeps (t.number - 1) t.depth (apply t.size item (pipe t items)).a a.1 in
    let y = settle-keeps (t.number - 1) t.depth (apply t.size item (pipe t items)).b b.1 in
    (x.1, y.1)

numbers-grow : (t : Terms) (item : Item) (items : List Item) → IsFeasible t (item ∷ items) → ((pipe t items).a.number ≤ (pipe t (item ∷ items)).a.number) × ((pipe t items).b.number ≤ (pipe t (item ∷ items)).b.number)
numbers-grow t item items f =
    let k = after-item 0 t item items f (omega arith) (omega arith) in
    let a = k.0 in
    let b = k.1 in
    let x = settle-keeps 0 t.depth (apply t.size item (pipe t items)).a a.1 in
    let y = settle-keeps 0 t.depth (apply t.size item (pipe t items)).b b.1 in
    (omega (arith, a.0, x.0), omega (arith, b.0, y.0))

-- a validation message whose number is less than half of the circle past the first number is near
below-near : (told taken first : ℕ) → first ≤ taken → told < first + 32_768 → is_near told taken ≡ true
below-near told taken first l m = grind arith

near-at : (o : Option Sent) (first number : ℕ) (k : Half) → ((m : Sent) → o ≡ Some m → m.snapshot.number ≤ number) → first ≤ k.taken.number → number < first + 32_768 → is_near_at o k ≡ true
near-at None first number k f l n = refl
near-at (Some m) first number k f l n =
    let g = f m refl in
    or_right (not m.check || is_over k) (is_near m.snapshot.number k.taken.number) (below-near m.snapshot.number k.taken.number first l (omega (arith, g, n)))

next-below : (t : Terms) (x : Side) (items : List Item) → IsFeasible t items → (m : Sent) → head (to_land (half x (pipe t items))) ≡ Some m → m.snapshot.number ≤ (half x (pipe t items)).number
next-below t x items f m e =
    let u = next-under t.size t.depth (half x (pipe t items)) (half (other x) (pipe t items)) m (rest-of (half x (pipe t items)).landed (half x (pipe t items)).sent m e) (both t x items f) in
    u.0

item-near : (t : Terms) (item : Item) (items : List Item) → IsFeasible t items → (pipe t items).a.number < (t.number - 1) + 32_768 → (pipe t items).b.number < (t.number - 1) + 32_768 → lands_near item (pipe t items) ≡ true
item-near t (Fate x link phase) items f a b = refl
item-near t (GroupEnd x) items f a b = refl
item-near t (Up x link) items f a b = refl
item-near t (Calls x call) items f a b = refl
item-near t (Lands A) items f a b = let l = taken-first t items f in near-at (head (to_land (pipe t items).a)) (t.number - 1) (pipe t items).a.number (pipe t items).b (next-below t A items f) l.1 a
item-near t (Lands B) items f a b = let l = taken-first t items f in near-at (head (to_land (pipe t items).b)) (t.number - 1) (pipe t items).b.number (pipe t items).a (next-below t B items f) l.0 b
item-near t (Completes x) items f a b = refl

pub few-near : (t : Terms) (items : List Item) → IsFeasible t items → (half A (pipe t items)).number < (t.number - 1) + 32_768 → (half B (pipe t items)).number < (t.number - 1) + 32_768 → is_near_part t items ≡ true
few-near t [] f a b = refl
few-near t (item ∷ items) f a b =
    let g = numbers-grow t item items f in
    let m : (pipe t items).a.number < (t.number - 1) + 32_768 = omega (arith, g.0, a) in
    let n : (pipe t items).b.number < (t.number - 1) + 32_768 = omega (arith, g.1, b) in
    and_from (is_near_part t items) (lands_near item (pipe t items)) (few-near t items f.1 m n) (item-near t item items f.1 m n)
