-- Behind the last snapshot that an end tells, closed or aborted, no message of it carries bytes.
use Rattle.std.proofs.Common.{◌≡◌, ◌∙◌, ℕ, ◌+◌, ◌<◌, ◌≤◌, ◌==◌, ◌⊎◌, inl, inr, min, max, Bool, true, false, List, [], ◌∷◌, ◌++◌, length, take, drop, refl, ap, sym, subst, arith, if◌then◌else◌, ◌||◌, true≢false}
use Rattle.std.specs.Prelude.{Some, is_some}
use Rattle.std.proofs.lemmas.Bool.{or_right, eqb-true}
use Rattle.std.proofs.lemmas.List.{drop-append-le}
use Rattle.std.proofs.Math.Seq.{drop-append_seam}
use Rattle.smc_num.specs.declared.Side.{Side}
use Rattle.smc_num.specs.declared.Side.TheVariants.{A, B}
use Rattle.smc_num.specs.declared.LinkId.{LinkId}
use Rattle.smc_num.specs.declared.LinkPhase.{LinkPhase}
use Rattle.smc_num.specs.declared.LinkPhase.TheVariants.{Unused, Pending, Live, Dead}
use Rattle.smc_num.specs.Names.{other, head}
use Rattle.smc_num.specs.Numbers.{wire_number}
use Rattle.pipe_model.specs.declared.reply.ResetCause.{ResetCause}
use Rattle.pipe_model.specs.declared.reply.ResetCause.TheVariants.{PeerAbort, Gap}
use Rattle.pipe_model.specs.declared.snapshot.Snapshot.{Snapshot}
use Rattle.pipe_model.specs.Snapshot.{is_last, shows_gap}
use Rattle.pipe_model.specs.Closing.{Phase, Open, Finished, Closing, ClosePosted, CloseDone, Resetting, AbortPosted, AbortDone, cause_of, is_closing, is_finished, after_finish, after_close, after_abort, struck, ended_with, after_posting, after_completing, after_moving}
use Rattle.pipe_model.specs.Ends.{Half, Sent, fresh, settle, is_due, is_over, is_due_for_move, meets_fate, loses_group, moves, takes, takes_snapshot, validates, strikes, lands, completes, counts_completed, check, lowest_link, present, batch, posts_batch, window, unread, to_land, to_complete}
use Rattle.pipe_model.specs.Calls.{Call, Writes, Reads, Finishes, Closes, Aborts, Awaits, Moves, calls, is_ended}
use Rattle.pipe_model.specs.Pipe.{Pipe, Terms, Item, Fate, GroupEnd, Up, Calls, Lands, Completes, half, pipe, apply}
use Rattle.pipe_model.specs.Parts.{actor, CanFollow, IsFeasible, EachOf, CarriesNone, EndsWithLast, has_last}
use Rattle.pipe_model.proofs.Pipes.Chains.{next-of}
use Rattle.pipe_model.proofs.Pipes.Sound.{Both}
use Rattle.pipe_model.proofs.Pipes.Items.{lt-or, next-completes}
use Rattle.pipe_model.proofs.Pipes.Parts.{BothOf, both, both-after}
use Rattle.pipe_model.proofs.Pipes.Shuts.{or-cases, and-parts}

-- that an end adds no bytes any more: it is reset, or it closes behind completed bytes
abbrev pub IsSpent : ℕ → ℕ → Phase → Type 0
IsSpent fin out phase = (is_some (cause_of phase) ≡ true) ⊎ ((is_closing phase ≡ true) × (fin ≡ out))

-- that no message behind such a one carries bytes
abbrev pub QuietBehind : List Sent → Type 0
QuietBehind [] = Unit {0}
QuietBehind (m ∷ ms) = (is_last m.snapshot ≡ true → EachOf CarriesNone ms) × QuietBehind ms

-- the messages of an end that are to land, and what its peer has taken
pub record Quiet (queue : List Sent) (peer_taken : Snapshot) (fin out : ℕ) (phase : Phase) : Type 0 where
  pub behind : QuietBehind queue
  pub posted : has_last queue ≡ true → IsSpent fin out phase
  pub taken : is_last peer_taken ≡ true → EachOf CarriesNone queue × IsSpent fin out phase

abbrev pub QuietOf : Half → Half → Type 0
QuietOf h k = Quiet (to_land h) k.taken h.fin.told (length h.out) h.phase

abbrev pub QuietBoth : Half → Half → Type 0
QuietBoth h k = QuietOf h k × QuietOf k h

-- an end that is spent stays so
spent-if : (fin out : ℕ) (b : Bool) (p q : Phase) → IsSpent fin out p → IsSpent fin out q → IsSpent fin out (if b then p else q)
spent-if fin out true p q e f = e
spent-if fin out false p q e f = f

not-open : (fin out : ℕ) (p : Phase) → is_some (cause_of p) ≡ false → is_closing p ≡ false → IsSpent fin out p → true ≡ false
not-open fin out p e f (inl g) = sym g ∙ e
not-open fin out p e f (inr g) = sym g.0 ∙ f

pub finish-spent : (fin out : ℕ) (p : Phase) → IsSpent fin out p → IsSpent fin out (after_finish p)
finish-spent fin out Open e = e
finish-spent fin out p e = e

pub close-spent : (fin out : ℕ) (p : Phase) → IsSpent fin out p → IsSpent fin out (after_close p)
close-spent fin out Open e = absurd (true≢false (not-open fin out Open refl refl e))
close-spent fin out Finished e = absurd (true≢false (not-open fin out Finished refl refl e))
close-spent fin out p e = e

pub abort-spent : (fin out : ℕ) (p : Phase) → IsSpent fin out p → IsSpent fin out (after_abort p)
abort-spent fin out Open e = inl refl
abort-spent fin out Finished e = inl refl
abort-spent fin out p e = e

pub struck-spent : (fin out : ℕ) (c : ResetCause) (p : Phase) → IsSpent fin out p → IsSpent fin out (struck c p)
struck-spent fin out c Open e = inl refl
struck-spent fin out c Finished e = inl refl
struck-spent fin out c Closing e = inl refl
struck-spent fin out c p e = e

pub ended-spent : (fin out g : ℕ) (p : Phase) → IsSpent fin out p → IsSpent fin out (ended_with g p)
ended-spent fin out g Open e = inl refl
ended-spent fin out g Finished e = inl refl
ended-spent fin out g Closing e = inl refl
ended-spent fin out g p e = e

pub posting-spent : (fin out : ℕ) (s : Snapshot) (p : Phase) → IsSpent fin out p → IsSpent fin out (after_posting s p)
posting-spent fin out s Closing e = spent-if fin out s.closed ClosePosted Closing e e
posting-spent fin out s (Resetting c) e = inl refl
posting-spent fin out s p e = e

pub completing-spent : (fin out : ℕ) (s : Snapshot) (p : Phase) → IsSpent fin out p → IsSpent fin out (after_completing s p)
completing-spent fin out s ClosePosted e = spent-if fin out s.closed CloseDone ClosePosted e e
completing-spent fin out s (AbortPosted c) e = spent-if fin out s.aborted (AbortDone c) (AbortPosted c) e e
completing-spent fin out s p e = e

pub moving-spent : (fin out : ℕ) (p : Phase) → IsSpent fin out p → IsSpent fin out (after_moving p)
moving-spent fin out ClosePosted e = e
moving-spent fin out (AbortPosted c) e = e
moving-spent fin out p e = e

respent : (queue : List Sent) (taken : Snapshot) (fin out fin2 out2 : ℕ) (p q : Phase) → (IsSpent fin out p → IsSpent fin2 out2 q) → Quiet queue taken fin out p → Quiet queue taken fin2 out2 q
respent queue taken fin out fin2 out2 p q f s = record { behind = s.behind; posted = λ e. f (s.posted e); taken = λ e. let c = s.taken e in (c.0, f c.1) }

either : (h1 h2 k : Half) (b : Bool) → QuietBoth h1 k → QuietBoth h2 k → QuietBoth (if b then h1 else h2) k
either h1 h2 k true x y = x
either h1 h2 k false x y = y

either-peer : (h k1 k2 : Half) (b : Bool) → QuietBoth h k1 → QuietBoth h k2 → QuietBoth h (if b then k1 else k2)
either-peer h k1 k2 true x y = x
either-peer h k1 k2 false x y = y

-- posting
none-append : (ms : List Sent) (m : Sent) → EachOf CarriesNone ms → CarriesNone m → EachOf CarriesNone (ms ++ m ∷ [])
none-append [] m c d = (d, tt)
none-append (k ∷ ms) m c d = (c.0, none-append ms m c.1 d)

behind-append : (ms : List Sent) (m : Sent) → QuietBehind ms → (has_last ms ≡ true → CarriesNone m) → QuietBehind (ms ++ m ∷ [])
behind-append [] m q f = (λ _. tt, tt)
behind-append (k ∷ ms) m q f = (
  λ e. none-append ms m (q.0 e) (f (ap (λ b. b || has_last ms) e)),
  behind-append ms m q.1 (λ e. f (or_right (is_last k.snapshot) (has_last ms) e)),
)

last-of : (a b c : Bool) → (b ≡ true → c ≡ true) → (a || b) ≡ true → (a || c) ≡ true
last-of true b c f e = refl
last-of false b c f e = f e

last-append : (ms : List Sent) (m : Sent) → has_last (ms ++ m ∷ []) ≡ true → (has_last ms ≡ true) ⊎ (is_last m.snapshot ≡ true)
last-append [] m e = inr (either-of (or-cases (is_last m.snapshot) false e))
  where
    either-of : (is_last m.snapshot ≡ true) ⊎ (false ≡ true) → is_last m.snapshot ≡ true
    either-of (inl f) = f
    either-of (inr f) = absurd (true≢false (sym f))
last-append (k ∷ ms) m e = split (or-cases (is_last k.snapshot) (has_last (ms ++ m ∷ [])) e) (last-append ms m)
  where
    later : (has_last ms ≡ true) ⊎ (is_last m.snapshot ≡ true) → ((is_last k.snapshot || has_last ms) ≡ true) ⊎ (is_last m.snapshot ≡ true)
    later (inl f) = inl (or_right (is_last k.snapshot) (has_last ms) f)
    later (inr f) = inr f

    split : (is_last k.snapshot ≡ true) ⊎ (has_last (ms ++ m ∷ []) ≡ true) → (has_last (ms ++ m ∷ []) ≡ true → (has_last ms ≡ true) ⊎ (is_last m.snapshot ≡ true)) → ((is_last k.snapshot || has_last ms) ≡ true) ⊎ (is_last m.snapshot ≡ true)
    split (inl f) g = inl (ap (λ b. b || has_last ms) f)
    split (inr f) g = later (g f)

pub present-spent : (h : Half) → is_last (present h) ≡ true → IsSpent h.fin.told (length h.out) h.phase
present-spent h e = by (or-cases (present h).closed (present h).aborted e)
  where
    by : ((present h).closed ≡ true) ⊎ ((present h).aborted ≡ true) → IsSpent h.fin.told (length h.out) h.phase
    by (inl c) = let p = and-parts (is_closing h.phase) (h.fin.told == length h.out) c in inr (p.0, eqb-true h.fin.told (length h.out) p.1)
    by (inr a) = inl a

none-by : (b : Bool) (fin last out : ℕ) → (b ≡ true) ⊎ (fin ≡ out) → fin ≤ last → last ≤ out → (if b then (if b then last else out) else last) ≡ (if b then last else out)
none-by true fin last out e f g = refl
none-by false fin last out (inl e) f g = absurd (true≢false (sym e))
none-by false fin last out (inr e) f g = omega (arith, e)

batch-none : (size depth : ℕ) (h k : Half) → Both size depth h k → IsSpent h.fin.told (length h.out) h.phase → CarriesNone (batch h)
batch-none size depth h k b s =
    let w = b.0 in
    let c = w.0 in
    none-by (is_some (cause_of h.phase)) h.fin.told h.last.told (length h.out) (by s) c.fin_last c.last_out
  where
    by : IsSpent h.fin.told (length h.out) h.phase → (is_some (cause_of h.phase) ≡ true) ⊎ (h.fin.told ≡ length h.out)
    by (inl e) = inl e
    by (inr e) = inr e.1

posted-by : (h : Half) → (has_last (to_land h) ≡ true → IsSpent h.fin.told (length h.out) h.phase) → (has_last (to_land h) ≡ true) ⊎ (is_last (present h) ≡ true) → IsSpent h.fin.told (length h.out) h.phase
posted-by h f (inl e) = f e
posted-by h f (inr e) = present-spent h e

posted : (size depth : ℕ) (h k : Half) → Both size depth h k → QuietOf h k → QuietOf (posts_batch h) k
posted size depth h k b q =
    let w = b.0 in
    let a = w.1 in
    let d : drop h.landed (h.sent ++ batch h ∷ []) ≡ drop h.landed h.sent ++ batch h ∷ [] = drop-append-le h.landed h.sent (batch h ∷ []) a.within in
    let more : Quiet (to_land h ++ batch h ∷ []) k.taken h.fin.told (length h.out) h.phase = record {
      behind = behind-append (to_land h) (batch h) q.behind (λ e. batch-none size depth h k b (q.posted e));
      posted = λ e. posted-by h q.posted (last-append (to_land h) (batch h) e);
      taken = λ e. let c = q.taken e in (none-append (to_land h) (batch h) c.0 (batch-none size depth h k b c.1), c.1);
    } in
    respent (to_land (posts_batch h)) k.taken h.fin.told (length h.out) h.fin.told (length h.out) h.phase (after_posting (present h) h.phase) (posting-spent h.fin.told (length h.out) (present h) h.phase)
    (subst (λ ms. Quiet ms k.taken h.fin.told (length h.out) h.phase) (sym d) more)

settled : (size depth : ℕ) (h k : Half) → Both size depth h k → QuietBoth h k → QuietBoth (settle depth h) (settle depth k)
settled size depth h k b q =
    let first : QuietBoth (settle depth h) k = either (posts_batch h) h k (is_due depth h) (posted size depth h k b q.0, q.1) q in
    either-peer (settle depth h) (posts_batch k) k (is_due depth k) (first.0, by (is_due depth h) (posted size depth k h (b.1, b.0) q.1) q.1) first
  where
    by : (c : Bool) → QuietOf (posts_batch k) h → QuietOf k h → QuietOf (posts_batch k) (if c then posts_batch h else h)
    by true x y = x
    by false x y = x

-- calls
-- an end that accepts bytes isn't spent
pub accepts-unspent : (h : Half) → (is_some (cause_of h.phase) || is_ended h) ≡ false → IsSpent h.fin.told (length h.out) h.phase → true ≡ false
accepts-unspent h e s = by (is_some (cause_of h.phase)) (is_closing h.phase) h.taken.closed (is_finished h.phase) e s
  where
    by : (c l t f : Bool) → (c || ((l || t) || f)) ≡ false → (c ≡ true) ⊎ ((l ≡ true) × (h.fin.told ≡ length h.out)) → true ≡ false
    by c l t f e (inl g) = ap (λ b. b || ((l || t) || f)) (sym g) ∙ e
    by true l t f e (inr g) = e
    by false l t f e (inr g) = ap (λ b. (b || t) || f) (sym g.0) ∙ e

accepts-quiet : (h k : Half) (bytes : List ℕ) (b : Bool) → (is_some (cause_of h.phase) || is_ended h) ≡ b → QuietBoth h k → QuietBoth (if b then h else record h { out = h.out ++ bytes }) k
accepts-quiet h k bytes true e q = q
accepts-quiet h k bytes false e q = (
  respent (to_land h) k.taken h.fin.told (length h.out) h.fin.told (length (h.out ++ bytes)) h.phase h.phase (λ s. absurd (true≢false (accepts-unspent h e s))) q.0,
  q.1,
)

moves-quiet : (h k : Half) → QuietBoth h k → QuietBoth (moves h) k
moves-quiet h k q =
    either (record h { link = lowest_link h; last = h.fin; flight = []; phase = after_moving h.phase; sent = h.sent ++ check h ∷ []; landed = length h.sent; completed = length h.sent }) h k (is_due_for_move h)
    (subst (λ ms. Quiet ms k.taken h.fin.told (length h.out) (after_moving h.phase)) (sym d) new, q.1) q
  where
    d : drop (length h.sent) (h.sent ++ check h ∷ []) ≡ check h ∷ []
    d = drop-append_seam h.sent (check h ∷ [])

    new : Quiet (check h ∷ []) k.taken h.fin.told (length h.out) (after_moving h.phase)
    new = record {
      behind = (λ _. tt, tt);
      posted = λ e. absurd (true≢false (sym e));
      taken = λ e. let r = q.0 in let c = r.taken e in ((refl, tt), moving-spent h.fin.told (length h.out) h.phase c.1);
    }

own : (h k : Half) (q : Phase) → (IsSpent h.fin.told (length h.out) h.phase → IsSpent h.fin.told (length h.out) q) → QuietOf h k → Quiet (to_land h) k.taken h.fin.told (length h.out) q
own h k q f s = respent (to_land h) k.taken h.fin.told (length h.out) h.fin.told (length h.out) h.phase q f s

call-quiet : (size : ℕ) (call : Call) (h k : Half) → QuietBoth h k → QuietBoth (calls size call h) k
call-quiet size (Writes bytes) h k q = accepts-quiet h k (take (window size h) bytes) (is_some (cause_of h.phase) || is_ended h) refl q
call-quiet size (Reads n) h k q = either h (record h { rd = h.rd + min n (unread h) }) k _ q q
call-quiet size Finishes h k q = either h (record h { finished = true; phase = after_finish h.phase }) k _ q (own h k (after_finish h.phase) (finish-spent h.fin.told (length h.out) h.phase) q.0, q.1)
call-quiet size Closes h k q = either h (record h { finished = true; phase = after_close h.phase }) k _ q (own h k (after_close h.phase) (close-spent h.fin.told (length h.out) h.phase) q.0, q.1)
call-quiet size Aborts h k q = (own h k (after_abort h.phase) (abort-spent h.fin.told (length h.out) h.phase) q.0, q.1)
call-quiet size Awaits h k q = q
call-quiet size Moves h k q = moves-quiet h k q

-- fates
fate-quiet : (link : LinkId) (phase : LinkPhase) (h k : Half) → QuietBoth h k → QuietBoth (meets_fate link phase h) k
fate-quiet link Unused h k q = q
fate-quiet link Pending h k q = q
fate-quiet link Live h k q = q
fate-quiet link Dead h k q = q

group-quiet : (h k : Half) → QuietBoth h k → QuietBoth (loses_group h) k
group-quiet h k q = (own h k (ended_with h.link.group h.phase) (ended-spent h.fin.told (length h.out) h.link.group h.phase) q.0, q.1)

-- landings
passed : (m : Sent) (ms : List Sent) (taken : Snapshot) (fin out : ℕ) (p : Phase) → Quiet (m ∷ ms) taken fin out p → Quiet ms taken fin out p
passed m ms taken fin out p q = record {
  behind = let b = q.behind in b.1;
  posted = λ e. q.posted (or_right (is_last m.snapshot) (has_last ms) e);
  taken = λ e. let c = q.taken e in let n = c.0 in (n.1, c.1);
}

taken : (m : Sent) (ms : List Sent) (before : Snapshot) (fin out : ℕ) (p : Phase) → Quiet (m ∷ ms) before fin out p → Quiet ms m.snapshot fin out p
taken m ms before fin out p q = record {
  behind = let b = q.behind in b.1;
  posted = λ e. q.posted (or_right (is_last m.snapshot) (has_last ms) e);
  taken = λ e. let b = q.behind in (b.0 e, q.posted (ap (λ c. c || has_last ms) e));
}

struck-quiet : (c : ResetCause) (h k : Half) → QuietBoth h k → QuietBoth h (strikes c k)
struck-quiet c h k q = (q.0, own k h (struck c k.phase) (struck-spent k.fin.told (length k.out) c k.phase) q.1)

lands-by : (h k : Half) (m : Sent) → drop h.landed h.sent ≡ m ∷ drop (h.landed + 1) h.sent → QuietBoth h k → QuietBoth (lands h) (takes (Some m) k)
lands-by h k m d q =
    let queue = subst (λ ms. Quiet ms k.taken h.fin.told (length h.out) h.phase) d q.0 in
    let over : QuietBoth (lands h) k = (passed m (drop (h.landed + 1) h.sent) k.taken h.fin.told (length h.out) h.phase queue, q.1) in
    let new : QuietBoth (lands h) (record k { taken = m.snapshot }) = (taken m (drop (h.landed + 1) h.sent) k.taken h.fin.told (length h.out) h.phase queue, q.1) in
    either-peer (lands h) k (if m.check then validates m.snapshot.number k else takes_snapshot m.snapshot k) (is_over k) over
    (either-peer (lands h) (validates m.snapshot.number k) (takes_snapshot m.snapshot k) m.check
    (either-peer (lands h) (strikes (Gap (wire_number m.snapshot.number) (wire_number k.taken.number)) k) k (shows_gap m.snapshot.number k.taken.number) (struck-quiet _ (lands h) k over) over)
    (either-peer (lands h) (strikes PeerAbort (record k { taken = m.snapshot })) (record k { taken = m.snapshot }) m.snapshot.aborted (struck-quiet PeerAbort (lands h) (record k { taken = m.snapshot }) new) new))

lands-quiet : (h k : Half) → h.landed < length h.sent → QuietBoth h k → QuietBoth (lands h) (takes (head (to_land h)) k)
lands-quiet h k more q =
    let next = next-of h.landed h.sent more in
    subst (λ o. QuietBoth (lands h) (takes o k)) (sym (ap (λ ms. head ms) next.1)) (lands-by h k next.0 next.1 q)

-- completions
counted-by : (h k : Half) → (h.completed < h.landed) ⊎ (h.landed ≤ h.completed) → h.completed < length h.sent → h.completed ≤ h.landed → QuietOf h k → QuietOf (counts_completed h) k
counted-by h k (inl l) more o q =
    let e : h.landed ≡ max h.landed (h.completed + 1) = omega arith in
    subst (λ n. Quiet (drop n h.sent) k.taken h.fin.told (length h.out) h.phase) e q
counted-by h k (inr l) more o q =
    let next = next-of h.landed h.sent (omega (arith, l, more)) in
    let e : h.landed + 1 ≡ max h.landed (h.completed + 1) = omega (arith, o, l) in
    subst (λ n. Quiet (drop n h.sent) k.taken h.fin.told (length h.out) h.phase) e
    (passed next.0 (drop (h.landed + 1) h.sent) k.taken h.fin.told (length h.out) h.phase (subst (λ ms. Quiet ms k.taken h.fin.told (length h.out) h.phase) next.1 q))

pub refined : (fin out told : ℕ) (p : Phase) → fin ≤ told → told ≤ out → IsSpent fin out p → IsSpent told out p
refined fin out told p a b (inl e) = inl e
refined fin out told p a b (inr e) = inr (e.0, omega (arith, e.1))

completes-by : (size depth : ℕ) (h k : Half) (r : Sent) (is_check : Bool) → r.check ≡ is_check → drop h.completed h.sent ≡ r ∷ drop (h.completed + 1) h.sent → Both size depth h k → QuietOf (counts_completed h) k →
    QuietOf (if is_check then counts_completed h else record (counts_completed h) { fin = r.snapshot; flight = drop 1 h.flight; phase = after_completing r.snapshot h.phase }) k
completes-by size depth h k r true e d b q = q
completes-by size depth h k r false e d b q =
    let n = next-completes size depth h k r e d b in
    respent (to_land (counts_completed h)) k.taken h.fin.told (length h.out) r.snapshot.told (length h.out) h.phase (after_completing r.snapshot h.phase)
    (λ s. completing-spent r.snapshot.told (length h.out) r.snapshot h.phase (refined h.fin.told (length h.out) r.snapshot.told h.phase n.1 n.2 s)) q

completes-quiet : (size depth : ℕ) (h k : Half) → h.completed < length h.sent → Both size depth h k → QuietBoth h k → QuietBoth (completes (head (to_complete h)) h) k
completes-quiet size depth h k more b q =
    let next = next-of h.completed h.sent more in
    let w = b.0 in
    let c = counted-by h k (lt-or h.completed h.landed) more w.3 q.0 in
    subst (λ o. QuietBoth (completes o h) k) (sym (ap (λ ms. head ms) next.1)) (completes-by size depth h k next.0 next.0.check refl next.1 b c, by next.0 next.0.check)
  where
    by : (r : Sent) (is_check : Bool) → QuietOf k (if is_check then counts_completed h else record (counts_completed h) { fin = r.snapshot; flight = drop 1 h.flight; phase = after_completing r.snapshot h.phase })
    by r true = q.1
    by r false = q.1

-- every part
abbrev pub QuietFrom : Side → Pipe → Type 0
QuietFrom x p = QuietBoth (half x p) (half (other x) p)

seen-from : (x y : Side) (p : Pipe) → QuietFrom x p → QuietFrom y p
seen-from A A p q = q
seen-from A B p q = (q.1, q.0)
seen-from B A p q = (q.1, q.0)
seen-from B B p q = q

-- one item, from the end that acts
kept : (t : Terms) (item : Item) (p : Pipe) (broken : Bool) → CanFollow item (half (actor item) p) broken → BothOf t (actor item) p → QuietFrom (actor item) p → QuietFrom (actor item) (apply t.size item p)
kept t (Fate A link phase) p broken f b q = fate-quiet link phase p.a p.b q
kept t (Fate B link phase) p broken f b q = fate-quiet link phase p.b p.a q
kept t (GroupEnd A) p broken f b q = group-quiet p.a p.b q
kept t (GroupEnd B) p broken f b q = group-quiet p.b p.a q
kept t (Up A link) p broken f b q = q
kept t (Up B link) p broken f b q = q
kept t (Calls A call) p broken f b q = call-quiet t.size call p.a p.b q
kept t (Calls B call) p broken f b q = call-quiet t.size call p.b p.a q
kept t (Lands A) p broken f b q = lands-quiet p.a p.b f.0 q
kept t (Lands B) p broken f b q = lands-quiet p.b p.a f.0 q
kept t (Completes A) p broken f b q = completes-quiet t.size t.depth p.a p.b f b q
kept t (Completes B) p broken f b q = completes-quiet t.size t.depth p.b p.a f b q

fresh-quiet : (number : ℕ) → QuietOf (fresh number) (fresh number)
fresh-quiet number = record { behind = tt; posted = λ e. absurd (true≢false (sym e)); taken = λ e. absurd (true≢false (sym e)) }

all-quiet : (t : Terms) (items : List Item) → IsFeasible t items → QuietFrom A (pipe t items)
all-quiet t [] f = (fresh-quiet t.number, fresh-quiet t.number)
all-quiet t (item ∷ items) f =
    let q : QuietFrom (actor item) (pipe t items) = seen-from A (actor item) (pipe t items) (all-quiet t items f.1) in
    let k : QuietFrom (actor item) (apply t.size item (pipe t items)) = kept t item (pipe t items) _ f.0 (both t (actor item) items f.1) q in
    settled t.size t.depth (apply t.size item (pipe t items)).a (apply t.size item (pipe t items)).b (both-after t A item items f) (seen-from (actor item) A (apply t.size item (pipe t items)) k)

-- behind the last snapshot that its peer has taken, no message of an end carries bytes
pub ends-with-last : (t : Terms) (x : Side) (items : List Item) → IsFeasible t items → EndsWithLast (half x (pipe t items)) (half (other x) (pipe t items))
ends-with-last t x items f e = let q = seen-from A x (pipe t items) (all-quiet t items f) in let r = q.0 in let c = r.taken e in c.0
