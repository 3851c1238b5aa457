-- An end that is over stays over: behind a last snapshot only last ones complete, and nothing is taken any more.
use Rattle.std.proofs.Common.{Bool, List, [], ap, drop, false, if◌then◌else◌, length, min, refl, subst, sym, take, true, ℕ, ◌&&◌, ◌++◌, ◌+◌, ◌||◌, ◌∙◌, ◌∷◌, ◌≡◌}
use Rattle.pipe_model.specs.declared.snapshot.Snapshot.{Snapshot}
use Rattle.std.specs.Prelude.{None, Option, Some, is_some}
use Rattle.pipe_model.specs.Calls.{Moves}
use Rattle.smc_num.specs.declared.LinkPhase.TheVariants.{Live}
use Rattle.pipe_model.specs.declared.sent.Sent.{Sent}
use Rattle.pipe_model.specs.Ends.{takes}
use Rattle.pipe_model.specs.Parts.{snapshots}
use Rattle.pipe_model.proofs.Pipes.{Lasts, lasting, and-parts, is-flying}
use Rattle.pipe_model.specs.Pipe.{Lands}
use Rattle.history_laws.specs.Words.{A, Aborts, Awaits, B, Call, Calls, Closes, Completes, Dead, Fate, Finishes, GroupEnd, Half, IsFeasible, Item, LinkId, LinkPhase, Pending, Pipe, Reads, Side, Terms, Unused, Up, Writes, after_close, after_completing, after_finish, after_moving, apply, calls, cause_of, check, completes, counts_completed, half, head, is_closing, is_due, is_due_for_move, is_ended, is_last, is_over, lowest_link, meets_fate, pipe, posts_batch, settle, step, takes_snapshot, to_complete, to_land, unread, validates, window}
use Rattle.history_laws.proofs.Basics.{either}

-- an item that changes neither what was taken nor what has completed
abbrev Keeps : Half → Half → Type 0
Keeps h k = (k.fin ≡ h.fin) × (k.taken ≡ h.taken)

over-kept : (h k : Half) → Keeps h k → is_over h ≡ true → is_over k ≡ true
over-kept h k e o = ap (λ (s : Snapshot). is_last s && is_last k.taken) e.0 ∙ (ap (λ (s : Snapshot). is_last h.fin && is_last s) e.1 ∙ o)

call-keeps : (size : ℕ) (call : Call) (h : Half) → Keeps h (calls size call h)
call-keeps size (Writes bytes) h = either (Keeps h) h (record h { out = h.out ++ take (window size h) bytes }) (is_some (cause_of h.phase) || is_ended h) (refl, refl) (refl, refl)
call-keeps size (Reads n) h = either (Keeps h) h (record h { rd = h.rd + min n (unread h) }) (is_some (cause_of h.phase) || is_closing h.phase) (refl, refl) (refl, refl)
call-keeps size Finishes h = either (Keeps h) h (record h { finished = true; phase = after_finish h.phase }) (is_some (cause_of h.phase)) (refl, refl) (refl, refl)
call-keeps size Closes h = either (Keeps h) h (record h { finished = true; phase = after_close h.phase }) (is_some (cause_of h.phase)) (refl, refl) (refl, refl)
call-keeps size Aborts h = (refl, refl)
call-keeps size Awaits h = (refl, refl)
call-keeps size Moves h = either (Keeps h) (record h { link = lowest_link h; last = h.fin; flight = []; phase = after_moving h.phase; sent = h.sent ++ check h ∷ []; landed = length h.sent; completed = length h.sent }) h (is_due_for_move h) (refl, refl) (refl, refl)

fate-keeps : (link : LinkId) (phase : LinkPhase) (h : Half) → Keeps h (meets_fate link phase h)
fate-keeps link Unused h = (refl, refl)
fate-keeps link Pending h = (refl, refl)
fate-keeps link Live h = (refl, refl)
fate-keeps link Dead h = (refl, refl)

takes-over : (o : Option Sent) (h : Half) → is_over h ≡ true → is_over (takes o h) ≡ true
takes-over None h v = v
takes-over (Some m) h v = ap (λ b. is_over (if b then h else if m.check then validates m.snapshot.number h else takes_snapshot m.snapshot h)) v ∙ v

-- the next to complete is a last one too
completes-over : (o : Option Sent) (h : Half) → head (to_complete h) ≡ o → h.flight ≡ snapshots (to_complete h) → Lasts h.fin h.flight → is_over h ≡ true → is_over (completes o h) ≡ true
completes-over None h e f l v = v
completes-over (Some m) h e f l v = by m.check refl
  where
    both : (is_last h.fin ≡ true) × (is_last h.taken ≡ true)
    both = and-parts (is_last h.fin) (is_last h.taken) v

    first : (ms : List Sent) → head ms ≡ Some m → m.check ≡ false → Lasts h.fin (snapshots ms) → is_last m.snapshot ≡ true
    first [] g c k = (let w : None ≡ Some m = g in cc)
    first (n ∷ ms) g c k =
        let is : n ≡ m = (let w : Some n ≡ Some m = g in cc) in
        at (subst (λ (b : Bool). Lasts h.fin (if b then snapshots ms else n.snapshot ∷ snapshots ms)) (ap (λ (r : Sent). r.check) is ∙ c) k) is
      where
        at : Lasts h.fin (n.snapshot ∷ snapshots ms) → n ≡ m → is_last m.snapshot ≡ true
        at k is = ap (λ (r : Sent). is_last r.snapshot) (sym is) ∙ k.0 both.0

    by : (b : Bool) → m.check ≡ b → is_over (if b then counts_completed h else record (counts_completed h) { fin = m.snapshot; flight = drop 1 h.flight; phase = after_completing m.snapshot h.phase }) ≡ true
    by true c = v
    by false c = ap (λ b. b && is_last h.taken) (first (to_complete h) e c (subst (λ ss. Lasts h.fin ss) f l)) ∙ both.1

settle-over : (depth : ℕ) (h : Half) → is_over h ≡ true → is_over (settle depth h) ≡ true
settle-over depth h v = either (λ k. is_over k ≡ true) (posts_batch h) h (is_due depth h) v v

applied : (size : ℕ) (x : Side) (item : Item) (p : Pipe) → (half x p).flight ≡ snapshots (to_complete (half x p)) → Lasts (half x p).fin (half x p).flight → is_over (half x p) ≡ true → is_over (half x (apply size item p)) ≡ true
applied size A (Fate A link phase) p f l v = over-kept p.a (meets_fate link phase p.a) (fate-keeps link phase p.a) v
applied size A (Fate B link phase) p f l v = v
applied size B (Fate A link phase) p f l v = v
applied size B (Fate B link phase) p f l v = over-kept p.b (meets_fate link phase p.b) (fate-keeps link phase p.b) v
applied size A (GroupEnd A) p f l v = v
applied size A (GroupEnd B) p f l v = v
applied size B (GroupEnd A) p f l v = v
applied size B (GroupEnd B) p f l v = v
applied size A (Up A link) p f l v = v
applied size A (Up B link) p f l v = v
applied size B (Up A link) p f l v = v
applied size B (Up B link) p f l v = v
applied size A (Calls A call) p f l v = over-kept p.a (calls size call p.a) (call-keeps size call p.a) v
applied size A (Calls B call) p f l v = v
applied size B (Calls A call) p f l v = v
applied size B (Calls B call) p f l v = over-kept p.b (calls size call p.b) (call-keeps size call p.b) v
applied size A (Lands A) p f l v = v
applied size A (Lands B) p f l v = takes-over (head (to_land p.b)) p.a v
applied size B (Lands A) p f l v = takes-over (head (to_land p.a)) p.b v
applied size B (Lands B) p f l v = v
applied size A (Completes A) p f l v = completes-over (head (to_complete p.a)) p.a refl f l v
applied size A (Completes B) p f l v = v
applied size B (Completes A) p f l v = v
applied size B (Completes B) p f l v = completes-over (head (to_complete p.b)) p.b refl f l v

stepped : (t : Terms) (x : Side) (item : Item) (p : Pipe) → is_over (half x (apply t.size item p)) ≡ true → is_over (half x (step t item p)) ≡ true
stepped t A item p v = settle-over t.depth (apply t.size item p).a v
stepped t B item p v = settle-over t.depth (apply t.size item p).b v

-- with any news that can be
pub over-stays : (t : Terms) (x : Side) (news items : List Item) → IsFeasible t (news ++ items) → is_over (half x (pipe t items)) ≡ true → is_over (half x (pipe t (news ++ items))) ≡ true
over-stays t x [] items f v = v
over-stays t x (item ∷ news) items f v =
    let fly = is-flying t x (news ++ items) f.1 in
    let l = lasting t x (news ++ items) f.1 in
    stepped t x item (pipe t (news ++ items)) (applied t.size x item (pipe t (news ++ items)) fly.uncompleted l.lasts (over-stays t x news items f.1 v))
