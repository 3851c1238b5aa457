-- An end that has taken an aborted snapshot, or told its last one, is reset or closing, and closed is told only behind completed bytes.
use Rattle.std.proofs.Common.{◌≡◌, ◌∙◌, ℕ, ◌+◌, ◌<◌, ◌≤◌, ◌==◌, ◌⊎◌, inl, inr, min, Bool, true, false, List, [], ◌∷◌, ◌++◌, length, take, drop, refl, ap, sym, subst, arith, if◌then◌else◌, ◌||◌, ◌&&◌, true≢false}
use Rattle.std.specs.Prelude.{Option, Some, None, is_some}
use Rattle.std.proofs.lemmas.Bool.{or_right, eqb-true}
use Rattle.smc_num.specs.declared.Side.{Side}
use Rattle.smc_num.specs.declared.Side.TheVariants.{A, B}
use Rattle.smc_num.specs.declared.LinkId.{LinkId}
use Rattle.smc_num.specs.declared.LinkPhase.{LinkPhase}
use Rattle.smc_num.specs.declared.LinkPhase.TheVariants.{Unused, Pending, Live, Dead}
use Rattle.smc_num.specs.Names.{other, head}
use Rattle.smc_num.specs.Numbers.{wire_number}
use Rattle.pipe_model.specs.declared.reply.ResetCause.{ResetCause}
use Rattle.pipe_model.specs.declared.reply.ResetCause.TheVariants.{PeerAbort, Gap}
use Rattle.pipe_model.specs.declared.snapshot.Snapshot.{Snapshot}
use Rattle.pipe_model.specs.Snapshot.{is_last, shows_gap}
use Rattle.pipe_model.specs.Closing.{Phase, Open, Finished, Closing, ClosePosted, CloseDone, Resetting, AbortPosted, AbortDone, GroupGone, cause_of, is_closing, is_finished, after_finish, after_close, after_abort, struck, ended_with, after_posting, after_completing, after_moving}
use Rattle.pipe_model.specs.Ends.{Half, Sent, fresh, settle, is_due, is_over, is_due_for_move, meets_fate, loses_group, moves, takes, takes_snapshot, validates, strikes, completes, counts_completed, check, lowest_link, present, posts_batch, window, unread, to_land, to_complete}
use Rattle.pipe_model.specs.Calls.{Call, Writes, Reads, Finishes, Closes, Aborts, Awaits, Moves, calls, is_ended}
use Rattle.pipe_model.specs.Pipe.{Pipe, Terms, Item, Fate, GroupEnd, Up, Calls, Lands, Completes, half, pipe, apply}
use Rattle.pipe_model.specs.Parts.{IsFeasible, Climbs, snapshots, is_shut, ClosesBehindAll, ReadsTold}
use Rattle.pipe_model.proofs.Pipes.Chains.{next-of}
use Rattle.pipe_model.proofs.Pipes.Sound.{Both}
use Rattle.pipe_model.proofs.Pipes.Items.{next-completes}
use Rattle.pipe_model.proofs.Pipes.Parts.{both}

-- whether a test holds of a completed or a flying snapshot
abbrev pub some_of : (Snapshot → Bool) → Snapshot → List Snapshot → Bool
some_of f s [] = f s
some_of f s (r ∷ rs) = f s || some_of f r rs

abbrev pub tells_closed : Snapshot → Bool
tells_closed s = s.closed

abbrev pub tells_aborted : Snapshot → Bool
tells_aborted s = s.aborted

pub record Shut (out : ℕ) (fin : Snapshot) (flight : List Snapshot) (phase : Phase) (taken : Snapshot) : Type 0 where
  pub struck : taken.aborted ≡ true → is_shut phase ≡ true
  pub closed : some_of tells_closed fin flight ≡ true → (is_shut phase ≡ true) × (fin.told ≡ out)
  pub aborted : some_of tells_aborted fin flight ≡ true → is_shut phase ≡ true

abbrev pub ShutOf : Half → Type 0
ShutOf h = Shut (length h.out) h.fin h.flight h.phase h.taken

-- an end that is shut stays so
pub finish-shut : (p : Phase) → is_shut p ≡ true → is_shut (after_finish p) ≡ true
finish-shut Open e = e
finish-shut p e = e

pub close-shut : (p : Phase) → is_shut p ≡ true → is_shut (after_close p) ≡ true
close-shut Open e = refl
close-shut Finished e = refl
close-shut p e = e

pub abort-shut : (p : Phase) → is_shut p ≡ true → is_shut (after_abort p) ≡ true
abort-shut Open e = refl
abort-shut Finished e = refl
abort-shut p e = e

pub struck-shut : (c : ResetCause) (p : Phase) → is_shut (struck c p) ≡ true
struck-shut c Open = refl
struck-shut c Finished = refl
struck-shut c Closing = refl
struck-shut c ClosePosted = refl
struck-shut c CloseDone = refl
struck-shut c (Resetting d) = refl
struck-shut c (AbortPosted d) = refl
struck-shut c (AbortDone d) = refl
struck-shut c (GroupGone g) = refl

pub ended-shut : (g : ℕ) (p : Phase) → is_shut (ended_with g p) ≡ true
ended-shut g Open = refl
ended-shut g Finished = refl
ended-shut g Closing = refl
ended-shut g ClosePosted = refl
ended-shut g CloseDone = refl
ended-shut g (Resetting d) = refl
ended-shut g (AbortPosted d) = refl
ended-shut g (AbortDone d) = refl
ended-shut g (GroupGone h) = refl

pub shut-if : (b : Bool) (p q : Phase) → is_shut p ≡ true → is_shut q ≡ true → is_shut (if b then p else q) ≡ true
shut-if true p q e f = e
shut-if false p q e f = f

pub posting-shut : (s : Snapshot) (p : Phase) → is_shut p ≡ true → is_shut (after_posting s p) ≡ true
posting-shut s Closing e = shut-if s.closed ClosePosted Closing refl refl
posting-shut s (Resetting c) e = refl
posting-shut s p e = e

pub completing-shut : (s : Snapshot) (p : Phase) → is_shut p ≡ true → is_shut (after_completing s p) ≡ true
completing-shut s ClosePosted e = shut-if s.closed CloseDone ClosePosted refl refl
completing-shut s (AbortPosted c) e = shut-if s.aborted (AbortDone c) (AbortPosted c) refl refl
completing-shut s p e = e

pub moving-shut : (p : Phase) → is_shut p ≡ true → is_shut (after_moving p) ≡ true
moving-shut ClosePosted e = refl
moving-shut (AbortPosted c) e = refl
moving-shut p e = e

-- the phase changes so that what is shut stays so
rephased : (out : ℕ) (fin : Snapshot) (flight : List Snapshot) (p q : Phase) (taken : Snapshot) → (is_shut p ≡ true → is_shut q ≡ true) → Shut out fin flight p taken → Shut out fin flight q taken
rephased out fin flight p q taken f s = record { struck = λ e. f (s.struck e); closed = λ e. let c = s.closed e in (f c.0, c.1); aborted = λ e. f (s.aborted e) }

module _ (h1 h2 : Half) where
  either : (b : Bool) → ShutOf h1 → ShutOf h2 → ShutOf (if b then h1 else h2)
  either true x y = x
  either false x y = y

-- posting
or-last : (a b c : Bool) → (b ≡ true) ⊎ (c ≡ true) → ((a || b) ≡ true) ⊎ (c ≡ true)
or-last true b c e = inl refl
or-last false b c e = e

pub or-cases : (a b : Bool) → (a || b) ≡ true → (a ≡ true) ⊎ (b ≡ true)
or-cases true b e = inl refl
or-cases false b e = inr e

some-cons : (g : Snapshot → Bool) (f r : Snapshot) (ss : List Snapshot) (s : Snapshot) → (g f ≡ true) ⊎ ((some_of g r ss ≡ true) ⊎ (g s ≡ true)) → ((g f || some_of g r ss) ≡ true) ⊎ (g s ≡ true)
some-cons g f r ss s (inl e) = inl (ap (λ b. b || some_of g r ss) e)
some-cons g f r ss s (inr e) = or-last (g f) (some_of g r ss) (g s) e

some-rest : (g : Snapshot → Bool) (f r : Snapshot) (ss : List Snapshot) (s : Snapshot) → (some_of g r (ss ++ s ∷ []) ≡ true → (some_of g r ss ≡ true) ⊎ (g s ≡ true)) → (g f ≡ true) ⊎ (some_of g r (ss ++ s ∷ []) ≡ true) → (g f ≡ true) ⊎ ((some_of g r ss ≡ true) ⊎ (g s ≡ true))
some-rest g f r ss s h (inl e) = inl e
some-rest g f r ss s h (inr e) = inr (h e)

some-append : (g : Snapshot → Bool) (f : Snapshot) (ss : List Snapshot) (s : Snapshot) → some_of g f (ss ++ s ∷ []) ≡ true → (some_of g f ss ≡ true) ⊎ (g s ≡ true)
some-append g f [] s e = or-cases (g f) (g s) e
some-append g f (r ∷ ss) s e = some-cons g f r ss s (some-rest g f r ss s (some-append g r ss s) (or-cases (g f) (some_of g r (ss ++ s ∷ [])) e))

pub and-parts : (a b : Bool) → (a && b) ≡ true → (a ≡ true) × (b ≡ true)
and-parts true b e = (refl, e)
and-parts false b e = absurd (true≢false (sym e))

posted-closed : (h : Half) → ShutOf h → (some_of tells_closed h.fin h.flight ≡ true) ⊎ ((present h).closed ≡ true) → (is_shut h.phase ≡ true) × (h.fin.told ≡ length h.out)
posted-closed h s (inl e) = s.closed e
posted-closed h s (inr e) =
    let p = and-parts (is_closing h.phase) (h.fin.told == length h.out) e in
    (or_right (is_some (cause_of h.phase)) (is_closing h.phase) p.0, eqb-true h.fin.told (length h.out) p.1)

posted-aborted : (h : Half) → ShutOf h → (some_of tells_aborted h.fin h.flight ≡ true) ⊎ ((present h).aborted ≡ true) → is_shut h.phase ≡ true
posted-aborted h s (inl e) = s.aborted e
posted-aborted h s (inr e) = ap (λ b. b || is_closing h.phase) e

posted : (h : Half) → ShutOf h → ShutOf (posts_batch h)
posted h s = record {
  struck = λ e. posting-shut (present h) h.phase (s.struck e);
  closed = λ e. let c = posted-closed h s (some-append tells_closed h.fin h.flight (present h) e) in (posting-shut (present h) h.phase c.0, c.1);
  aborted = λ e. posting-shut (present h) h.phase (posted-aborted h s (some-append tells_aborted h.fin h.flight (present h) e));
}

pub settled-shut : (depth : ℕ) (h : Half) → ShutOf h → ShutOf (settle depth h)
settled-shut depth h s = either (posts_batch h) h (is_due depth h) (posted h s) s

-- calls
not-shut : (c l t f : Bool) → (c || ((l || t) || f)) ≡ false → (c || l) ≡ true → true ≡ false
not-shut true l t f e g = e
not-shut false true t f e g = e
not-shut false false t f e g = sym g

accepts-shut : (h : Half) (bytes : List ℕ) (b : Bool) → (is_some (cause_of h.phase) || is_ended h) ≡ b → ShutOf h → ShutOf (if b then h else record h { out = h.out ++ bytes })
accepts-shut h bytes true e s = s
accepts-shut h bytes false e s = record {
  struck = s.struck;
  closed = λ c. let d = s.closed c in absurd (true≢false (not-shut (is_some (cause_of h.phase)) (is_closing h.phase) h.taken.closed (is_finished h.phase) e d.0));
  aborted = s.aborted;
}

some-first : (g : Snapshot → Bool) (f : Snapshot) (ss : List Snapshot) → g f ≡ true → some_of g f ss ≡ true
some-first g f [] e = e
some-first g f (s ∷ ss) e = ap (λ b. b || some_of g s ss) e

moves-shut : (h : Half) → ShutOf h → ShutOf (moves h)
moves-shut h s = either (record h { link = lowest_link h; last = h.fin; flight = []; phase = after_moving h.phase; sent = h.sent ++ check h ∷ []; landed = length h.sent; completed = length h.sent }) h (is_due_for_move h)
    (record { struck = λ e. moving-shut h.phase (s.struck e); closed = λ e. let c = s.closed (some-first tells_closed h.fin h.flight e) in (moving-shut h.phase c.0, c.1); aborted = λ e. moving-shut h.phase (s.aborted (some-first tells_aborted h.fin h.flight e)) }) s

call-shut : (size : ℕ) (call : Call) (h : Half) → ShutOf h → ShutOf (calls size call h)
call-shut size (Writes bytes) h s = accepts-shut h (take (window size h) bytes) (is_some (cause_of h.phase) || is_ended h) refl s
call-shut size (Reads n) h s = either h (record h { rd = h.rd + min n (unread h) }) _ s s
call-shut size Finishes h s = either h (record h { finished = true; phase = after_finish h.phase }) _ s (rephased (length h.out) h.fin h.flight h.phase (after_finish h.phase) h.taken (finish-shut h.phase) s)
call-shut size Closes h s = either h (record h { finished = true; phase = after_close h.phase }) _ s (rephased (length h.out) h.fin h.flight h.phase (after_close h.phase) h.taken (close-shut h.phase) s)
call-shut size Aborts h s = rephased (length h.out) h.fin h.flight h.phase (after_abort h.phase) h.taken (abort-shut h.phase) s
call-shut size Awaits h s = s
call-shut size Moves h s = moves-shut h s

-- fates
fate-shut : (link : LinkId) (phase : LinkPhase) (h : Half) → ShutOf h → ShutOf (meets_fate link phase h)
fate-shut link Unused h s = s
fate-shut link Pending h s = s
fate-shut link Live h s = s
fate-shut link Dead h s = s

group-shut : (h : Half) → ShutOf h → ShutOf (loses_group h)
group-shut h s = rephased (length h.out) h.fin h.flight h.phase (ended_with h.link.group h.phase) h.taken (λ _. ended-shut h.link.group h.phase) s

-- landings
snapshot-shut : (r : Snapshot) (h : Half) (b : Bool) → r.aborted ≡ b → ShutOf h → ShutOf (if b then strikes PeerAbort (record h { taken = r }) else record h { taken = r })
snapshot-shut r h true e s = record { struck = λ _. struck-shut PeerAbort h.phase; closed = λ c. let d = s.closed c in (struck-shut PeerAbort h.phase, d.1); aborted = λ _. struck-shut PeerAbort h.phase }
snapshot-shut r h false e s = record { struck = λ f. absurd (true≢false (sym f ∙ e)); closed = s.closed; aborted = s.aborted }

takes-shut : (o : Option Sent) (h : Half) → ShutOf h → ShutOf (takes o h)
takes-shut None h s = s
takes-shut (Some m) h s = either h (if m.check then validates m.snapshot.number h else takes_snapshot m.snapshot h) (is_over h) s
    (either (validates m.snapshot.number h) (takes_snapshot m.snapshot h) m.check
    (either (strikes (Gap (wire_number m.snapshot.number) (wire_number h.taken.number)) h) h (shows_gap m.snapshot.number h.taken.number)
    (rephased (length h.out) h.fin h.flight h.phase (struck (Gap (wire_number m.snapshot.number) (wire_number h.taken.number)) h.phase) h.taken (λ _. struck-shut _ h.phase) s) s)
    (snapshot-shut m.snapshot h m.snapshot.aborted refl s))

-- completions: the snapshot is the oldest under way
some-later : (g : Snapshot → Bool) (fin r : Snapshot) (flight rest : List Snapshot) → flight ≡ r ∷ rest → some_of g r (drop 1 flight) ≡ true → some_of g fin flight ≡ true
some-later g fin r flight rest i e =
    let tail : drop 1 flight ≡ rest = ap (λ ss. drop 1 ss) i in
    ap (λ ss. some_of g fin ss) i ∙ or_right (g fin) (some_of g r rest) (ap (λ ss. some_of g r ss) (sym tail) ∙ e)

completed-shut : (size depth : ℕ) (h k : Half) (r : Sent) → r.check ≡ false → drop h.completed h.sent ≡ r ∷ drop (h.completed + 1) h.sent → Both size depth h k → ShutOf h →
    ShutOf (record (counts_completed h) { fin = r.snapshot; flight = drop 1 h.flight; phase = after_completing r.snapshot h.phase })
completed-shut size depth h k r e d b s =
    let n = next-completes size depth h k r e d b in
    let rest : List Snapshot = snapshots (drop (h.completed + 1) h.sent) in
    record {
      struck = λ g. completing-shut r.snapshot h.phase (s.struck g);
      closed = λ g. let q = s.closed (some-later tells_closed h.fin r.snapshot h.flight rest n.0 g) in (completing-shut r.snapshot h.phase q.0, omega (arith, q.1, n.1, n.2));
      aborted = λ g. completing-shut r.snapshot h.phase (s.aborted (some-later tells_aborted h.fin r.snapshot h.flight rest n.0 g));
    }

completes-by : (size depth : ℕ) (h k : Half) (r : Sent) (is_check : Bool) → r.check ≡ is_check → drop h.completed h.sent ≡ r ∷ drop (h.completed + 1) h.sent → Both size depth h k → ShutOf h →
    ShutOf (if is_check then counts_completed h else record (counts_completed h) { fin = r.snapshot; flight = drop 1 h.flight; phase = after_completing r.snapshot h.phase })
completes-by size depth h k r true e d b s = s
completes-by size depth h k r false e d b s = completed-shut size depth h k r e d b s

completes-shut : (size depth : ℕ) (h k : Half) → h.completed < length h.sent → Both size depth h k → ShutOf h → ShutOf (completes (head (to_complete h)) h)
completes-shut size depth h k more b s =
    let next = next-of h.completed h.sent more in
    subst (λ o. ShutOf (completes o h)) (sym (ap (λ ms. head ms) next.1)) (completes-by size depth h k next.0 next.0.check refl next.1 b s)

-- every part
abbrev pub Shuts : Pipe → Type 0
Shuts p = ShutOf p.a × ShutOf p.b

after-item : (t : Terms) (item : Item) (items : List Item) → IsFeasible t (item ∷ items) → Shuts (pipe t items) → Shuts (apply t.size item (pipe t items))
after-item t (Fate A link phase) items f s = (fate-shut link phase _ s.0, s.1)
after-item t (Fate B link phase) items f s = (s.0, fate-shut link phase _ s.1)
after-item t (GroupEnd A) items f s = (group-shut (pipe t items).a s.0, s.1)
after-item t (GroupEnd B) items f s = (s.0, group-shut (pipe t items).b s.1)
after-item t (Up A link) items f s = s
after-item t (Up B link) items f s = s
after-item t (Calls A call) items f s = (call-shut t.size call (pipe t items).a s.0, s.1)
after-item t (Calls B call) items f s = (s.0, call-shut t.size call (pipe t items).b s.1)
after-item t (Lands A) items f s = (s.0, takes-shut (head (to_land (pipe t items).a)) (pipe t items).b s.1)
after-item t (Lands B) items f s = (takes-shut (head (to_land (pipe t items).b)) (pipe t items).a s.0, s.1)
after-item t (Completes A) items f s = (completes-shut t.size t.depth (pipe t items).a (pipe t items).b f.0 (both t A items f.1) s.0, s.1)
after-item t (Completes B) items f s = (s.0, completes-shut t.size t.depth (pipe t items).b (pipe t items).a f.0 (both t B items f.1) s.1)

fresh-shut : (number : ℕ) → ShutOf (fresh number)
fresh-shut number = record { struck = λ e. absurd (true≢false (sym e)); closed = λ e. absurd (true≢false (sym e)); aborted = λ e. absurd (true≢false (sym e)) }

pub shuts : (t : Terms) (items : List Item) → IsFeasible t items → Shuts (pipe t items)
shuts t [] f = (fresh-shut t.number, fresh-shut t.number)
shuts t (item ∷ items) f =
    let s = after-item t item items f (shuts t items f.1) in
    (settled-shut t.depth (apply t.size item (pipe t items)).a s.0, settled-shut t.depth (apply t.size item (pipe t items)).b s.1)

shut-half : (x : Side) (p : Pipe) → Shuts p → ShutOf (half x p)
shut-half A p s = s.0
shut-half B p s = s.1

pub shut-of : (t : Terms) (x : Side) (items : List Item) → IsFeasible t items → ShutOf (half x (pipe t items))
shut-of t x items f = shut-half x (pipe t items) (shuts t items f)

-- closed is told only behind completed bytes
last-closed : (f l : Snapshot) (ss : List Snapshot) → Climbs f ss l → l.closed ≡ true → some_of tells_closed f ss ≡ true
last-closed f l [] g e = subst (λ (s : Snapshot). s.closed ≡ true) (sym g) e
last-closed f l (s ∷ ss) g e = or_right f.closed (some_of tells_closed s ss) (last-closed s l ss g.1 e)

closed-over : (size depth : ℕ) (h k : Half) → Both size depth h k → ShutOf h → ClosesBehindAll h
closed-over size depth h k b s e = let w = b.0 in let f = w.2 in let c = s.closed (last-closed h.fin h.last h.flight f.climbs e) in c.1

pub closes-behind-all : (t : Terms) (x : Side) (items : List Item) → IsFeasible t items → ClosesBehindAll (half x (pipe t items))
closes-behind-all t x items f = closed-over t.size t.depth (half x (pipe t items)) (half (other x) (pipe t items)) (both t x items f) (shut-of t x items f)

-- an end that is or_parts reset nor closing has read no more than it was told
read-by : (s : Snapshot) (rd : ℕ) (phase : Phase) → (s.aborted ≡ true → is_shut phase ≡ true) → (s.aborted ≡ true) ⊎ (rd ≤ s.told) → is_shut phase ≡ false → rd ≤ s.told
read-by s rd phase f (inl e) g = absurd (true≢false (sym (f e) ∙ g))
read-by s rd phase f (inr e) g = e

read-of : (size depth : ℕ) (h k : Half) → Both size depth h k → ShutOf h → ReadsTold h
read-of size depth h k b s g = let v = b.1 in let c = v.0 in read-by h.taken h.rd h.phase s.struck c.rd_taken g

pub reads-told : (t : Terms) (x : Side) (items : List Item) → IsFeasible t items → ReadsTold (half x (pipe t items))
reads-told t x items f = read-of t.size t.depth (half x (pipe t items)) (half (other x) (pipe t items)) (both t x items f) (shut-of t x items f)

-- an end that is over is shut
last-shut : (h : Half) → ShutOf h → is_last h.fin ≡ true → is_shut h.phase ≡ true
last-shut h s e = by (or-cases h.fin.closed h.fin.aborted e)
  where
    by : (h.fin.closed ≡ true) ⊎ (h.fin.aborted ≡ true) → is_shut h.phase ≡ true
    by (inl f) = let c = s.closed (some-first tells_closed h.fin h.flight f) in c.0
    by (inr f) = s.aborted (some-first tells_aborted h.fin h.flight f)

pub over-shut : (h : Half) → ShutOf h → is_over h ≡ true → is_shut h.phase ≡ true
over-shut h s e = let p = and-parts (is_last h.fin) (is_last h.taken) e in last-shut h s p.0

pub ends-shut : (t : Terms) (x : Side) (items : List Item) → IsFeasible t items → is_over (half x (pipe t items)) ≡ true → is_shut (half x (pipe t items)).phase ≡ true
ends-shut t x items f e = over-shut (half x (pipe t items)) (shut-of t x items f) e
