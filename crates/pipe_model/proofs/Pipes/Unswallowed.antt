-- Where no message was swallowed, an end has taken all that completed, so that all validation messages were near.
use Rattle.std.proofs.Common.{◌≡◌, ◌∙◌, ℕ, ◌+◌, ◌<◌, ◌≤◌, ◌⊎◌, inl, inr, min, max, Bool, true, false, not, List, [], ◌∷◌, ◌++◌, length, take, drop, refl, ap, sym, subst, arith, if◌then◌else◌, ◌||◌, ◌&&◌, true≢false, suc, zero}
use Rattle.std.specs.Prelude.{Option, Some, None, is_some, unwrap_or}
use Rattle.std.proofs.lemmas.List.{drop-append-le}
use Rattle.std.proofs.Math.Seq.{drop-append_seam}
use Rattle.std.proofs.lemmas.Bool.{and_from, eq-eqb, or_parts, or_right}
use Rattle.smc_num.specs.declared.Side.{Side}
use Rattle.smc_num.specs.declared.Side.TheVariants.{A, B}
use Rattle.smc_num.specs.declared.LinkId.{LinkId}
use Rattle.smc_num.specs.declared.LinkPhase.{LinkPhase}
use Rattle.smc_num.specs.declared.LinkPhase.TheVariants.{Unused, Pending, Live, Dead}
use Rattle.smc_num.specs.Names.{other, head}
use Rattle.smc_num.specs.Numbers.{wire_number}
use Rattle.pipe_model.specs.declared.reply.ResetCause.TheVariants.{PeerAbort, Gap}
use Rattle.pipe_model.specs.declared.snapshot.Snapshot.{Snapshot}
use Rattle.pipe_model.specs.Snapshot.{is_last, shows_gap, is_near}
use Rattle.pipe_model.specs.Closing.{cause_of, after_finish, after_close, after_moving, after_completing}
use Rattle.pipe_model.specs.Ends.{Half, Sent, fresh, settle, is_due, is_over, is_due_for_move, meets_fate, takes, takes_snapshot, validates, strikes, lands, completes, counts_completed, check, lowest_link, present, batch, posts_batch, window, unread, to_land, to_complete}
use Rattle.pipe_model.specs.Calls.{Call, Writes, Reads, Finishes, Closes, Aborts, Awaits, Moves, calls, is_ended}
use Rattle.pipe_model.specs.Pipe.{Pipe, Terms, Item, Fate, GroupEnd, Up, Calls, Lands, Completes, half, pipe, apply, is_near_at, lands_near, is_near_part}
use Rattle.pipe_model.specs.Parts.{actor, CanFollow, IsFeasible, Climbs, snapshots, is_swallowed, swallows, has_swallow}
use Rattle.pipe_model.proofs.Pipes.Chains.{next-of, snapshots-append}
use Rattle.pipe_model.proofs.Pipes.Sound.{Both}
use Rattle.pipe_model.proofs.Pipes.Items.{lt-or, next-completes}
use Rattle.pipe_model.proofs.Pipes.Parts.{BothOf, both, both-after}
use Rattle.pipe_model.proofs.Pipes.Facts.{may-take}
use Rattle.pipe_model.proofs.Pipes.Lasting.{Lasts, LastingOf, lasting}

-- that the flight, from a completed snapshot on, begins with those that were taken and ends with those that are to land
abbrev pub Passed : ℕ → Snapshot → List Snapshot → List Snapshot → Type 0
Passed n s [] queue = (s.number ≤ n) × ([] ≡ queue)
Passed n s (r ∷ rs) queue = (s.number ≤ n) × (((r ∷ rs) ≡ queue) ⊎ Passed n r rs queue)

-- that only the first message may be one of validation, and then of a number that was taken
abbrev pub AllSnapshots : List Sent → Type 0
AllSnapshots [] = Unit {0}
AllSnapshots (m ∷ ms) = (m.check ≡ false) × AllSnapshots ms

abbrev pub ChecksFirst : ℕ → List Sent → Type 0
ChecksFirst n [] = Unit {0}
ChecksFirst n (m ∷ ms) = (m.check ≡ true → m.snapshot.number ≤ n) × AllSnapshots ms

-- that an end has taken all that its peer knows to have completed, unless it is over
abbrev pub Heard : Bool → Snapshot → Snapshot → List Snapshot → List Sent → Type 0
Heard over taken fin flight queue = (over ≡ true) ⊎ (Passed taken.number fin flight (snapshots queue) × ChecksFirst taken.number queue)

abbrev pub HeardOf : Half → Half → Type 0
HeardOf h k = Heard (is_over k) k.taken h.fin h.flight (to_land h)

abbrev pub HeardBoth : Half → Half → Type 0
HeardBoth h k = HeardOf h k × HeardOf k h

either : (h1 h2 k : Half) (b : Bool) → HeardBoth h1 k → HeardBoth h2 k → HeardBoth (if b then h1 else h2) k
either h1 h2 k true x y = x
either h1 h2 k false x y = y

either-peer : (h k1 k2 : Half) (b : Bool) → HeardBoth h k1 → HeardBoth h k2 → HeardBoth h (if b then k1 else k2)
either-peer h k1 k2 true x y = x
either-peer h k1 k2 false x y = y

passed-first : (n : ℕ) (s : Snapshot) (ss queue : List Snapshot) → Passed n s ss queue → s.number ≤ n
passed-first n s [] queue p = p.0
passed-first n s (r ∷ ss) queue p = p.0

-- posting
passed-append : (n : ℕ) (s t : Snapshot) (ss queue : List Snapshot) → Passed n s ss queue → Passed n s (ss ++ t ∷ []) (queue ++ t ∷ [])
passed-append n s t [] queue p = (p.0, inl (ap (λ q. q ++ t ∷ []) p.1))
passed-append n s t (r ∷ ss) queue (l, inl e) = (l, inl (ap (λ q. q ++ t ∷ []) e))
passed-append n s t (r ∷ ss) queue (l, inr p) = (l, inr (passed-append n r t ss queue p))

all-append : (ms : List Sent) (m : Sent) → m.check ≡ false → AllSnapshots ms → AllSnapshots (ms ++ m ∷ [])
all-append [] m e a = (e, tt)
all-append (k ∷ ms) m e a = (a.0, all-append ms m e a.1)

first-append : (n : ℕ) (ms : List Sent) (m : Sent) → m.check ≡ false → ChecksFirst n ms → ChecksFirst n (ms ++ m ∷ [])
first-append n [] m e c = (λ f. absurd (true≢false (sym f ∙ e)), tt)
first-append n (k ∷ ms) m e c = (c.0, all-append ms m e c.1)

posted : (size depth : ℕ) (h k : Half) → Both size depth h k → HeardOf h k → HeardOf (posts_batch h) k
posted size depth h k b (inl e) = inl e
posted size depth h k b (inr p) =
    let w = b.0 in
    let a = w.1 in
    let d : drop h.landed (h.sent ++ batch h ∷ []) ≡ drop h.landed h.sent ++ batch h ∷ [] = drop-append-le h.landed h.sent (batch h ∷ []) a.within in
    let s : snapshots (to_land h ++ batch h ∷ []) ≡ snapshots (to_land h) ++ present h ∷ [] = snapshots-append (to_land h) (batch h) refl in
    let q = passed-append k.taken.number h.fin (present h) h.flight (snapshots (to_land h)) p.0 in
    inr (subst (λ ms. Passed k.taken.number h.fin (h.flight ++ present h ∷ []) (snapshots ms) × ChecksFirst k.taken.number ms) (sym d)
    (subst (λ ss. Passed k.taken.number h.fin (h.flight ++ present h ∷ []) ss) (sym s) q, first-append k.taken.number (to_land h) (batch h) refl p.1))

settled : (size depth : ℕ) (h k : Half) → Both size depth h k → HeardBoth h k → HeardBoth (settle depth h) (settle depth k)
settled size depth h k b p =
    let first : HeardBoth (settle depth h) k = either (posts_batch h) h k (is_due depth h) (posted size depth h k b p.0, p.1) p in
    either-peer (settle depth h) (posts_batch k) k (is_due depth k) (first.0, by (is_due depth h)) first
  where
    theirs : HeardOf (posts_batch k) h
    theirs = posted size depth k h (b.1, b.0) p.1

    by : (c : Bool) → HeardOf (posts_batch k) (if c then posts_batch h else h)
    by true = theirs
    by false = theirs

-- calls
moved : (h k : Half) → HeardOf h k → HeardOf (record h { link = lowest_link h; last = h.fin; flight = []; phase = after_moving h.phase; sent = h.sent ++ check h ∷ []; landed = length h.sent; completed = length h.sent }) k
moved h k (inl e) = inl e
moved h k (inr p) =
    let d : drop (length h.sent) (h.sent ++ check h ∷ []) ≡ check h ∷ [] = drop-append_seam h.sent (check h ∷ []) in
    let l = passed-first k.taken.number h.fin h.flight (snapshots (to_land h)) p.0 in
    inr (subst (λ ms. Passed k.taken.number h.fin [] (snapshots ms) × ChecksFirst k.taken.number ms) (sym d) ((l, refl), (λ _. l, tt)))

call-heard : (size : ℕ) (call : Call) (h k : Half) → HeardBoth h k → HeardBoth (calls size call h) k
call-heard size (Writes bytes) h k p = either h (record h { out = h.out ++ take (window size h) bytes }) k (is_some (cause_of h.phase) || is_ended h) p p
call-heard size (Reads n) h k p = either h (record h { rd = h.rd + min n (unread h) }) k _ p p
call-heard size Finishes h k p = either h (record h { finished = true; phase = after_finish h.phase }) k _ p p
call-heard size Closes h k p = either h (record h { finished = true; phase = after_close h.phase }) k _ p p
call-heard size Aborts h k p = p
call-heard size Awaits h k p = p
call-heard size Moves h k p =
    either (record h { link = lowest_link h; last = h.fin; flight = []; phase = after_moving h.phase; sent = h.sent ++ check h ∷ []; landed = length h.sent; completed = length h.sent }) h k (is_due_for_move h) (moved h k p.0, p.1) p

-- fates
fate-heard : (link : LinkId) (phase : LinkPhase) (h k : Half) → HeardBoth h k → HeardBoth (meets_fate link phase h) k
fate-heard link Unused h k p = p
fate-heard link Pending h k p = p
fate-heard link Live h k p = p
fate-heard link Dead h k p = p

-- landings
passed-all : (n : ℕ) (s : Snapshot) (ss queue : List Snapshot) → s.number ≤ n → ss ≡ queue → Passed n s ss queue
passed-all n s [] queue l e = (l, e)
passed-all n s (r ∷ ss) queue l e = (l, inl e)

passed-taken : (n : ℕ) (first s last : Snapshot) (ss queue : List Snapshot) → n < s.number → Climbs first ss last → Passed n first ss (s ∷ queue) → Passed s.number first ss queue
passed-taken n first s last [] queue l c p = absurd (true≢false (sym (ap (λ q. is_some (head q)) p.1)))
passed-taken n first s last (r ∷ ss) queue l c (o, inl e) =
    let f : r ≡ s = ap (λ q. unwrap_or (head q) r) e in
    let g : ss ≡ queue = ap (λ q. drop 1 q) e in
    let h : r.number ≡ s.number = ap (λ (q : Snapshot). q.number) f in
    (omega (arith, o, l), inr (passed-all s.number r ss queue (omega (arith, h)) g))
passed-taken n first s last (r ∷ ss) queue l c (o, inr p) = (omega (arith, o, l), inr (passed-taken n r s last ss queue l c.1 p))

first-rest : (n : ℕ) (ms : List Sent) → AllSnapshots ms → ChecksFirst n ms
first-rest n [] a = tt
first-rest n (m ∷ ms) a = (λ e. absurd (true≢false (sym e ∙ a.0)), a.1)

queue-check : (b : Bool) (s : Snapshot) (ss : List Snapshot) → b ≡ true → (if b then ss else s ∷ ss) ≡ ss
queue-check b s ss e = ap (λ c. if c then ss else s ∷ ss) e

queue-snapshot : (b : Bool) (s : Snapshot) (ss : List Snapshot) → b ≡ false → (if b then ss else s ∷ ss) ≡ s ∷ ss
queue-snapshot b s ss e = ap (λ c. if c then ss else s ∷ ss) e

module _ (size depth : ℕ) (h k : Half) (m : Sent) where
  abbrev Queue : List Sent
  Queue = drop (h.landed + 1) h.sent

  check-heard : m.check ≡ true → Passed k.taken.number h.fin h.flight (snapshots (m ∷ Queue)) × ChecksFirst k.taken.number (m ∷ Queue) → Passed k.taken.number h.fin h.flight (snapshots Queue) × ChecksFirst k.taken.number Queue
  check-heard e p =
      let c = p.1 in
      (subst (λ ss. Passed k.taken.number h.fin h.flight ss) (queue-check m.check m.snapshot (snapshots Queue) e) p.0, first-rest k.taken.number Queue c.1)

  snapshot-heard : m.check ≡ false → k.taken.number < m.snapshot.number → Climbs h.fin h.flight h.last → Passed k.taken.number h.fin h.flight (snapshots (m ∷ Queue)) × ChecksFirst k.taken.number (m ∷ Queue) →
      Passed m.snapshot.number h.fin h.flight (snapshots Queue) × ChecksFirst m.snapshot.number Queue
  snapshot-heard e l f p =
      let c = p.1 in
      (passed-taken k.taken.number h.fin m.snapshot h.last h.flight (snapshots Queue) l f (subst (λ ss. Passed k.taken.number h.fin h.flight ss) (queue-snapshot m.check m.snapshot (snapshots Queue) e) p.0), first-rest m.snapshot.number Queue c.1)

  abbrev Before : Type 0
  Before = Heard (is_over k) k.taken h.fin h.flight (m ∷ Queue)

  not-over : (over : Bool) → over ≡ false → Heard over k.taken h.fin h.flight (m ∷ Queue) → Passed k.taken.number h.fin h.flight (snapshots (m ∷ Queue)) × ChecksFirst k.taken.number (m ∷ Queue)
  not-over over e (inl f) = absurd (true≢false (sym f ∙ e))
  not-over over e (inr p) = p

  lands-by : (over is_check : Bool) → is_over k ≡ over → m.check ≡ is_check → drop h.landed h.sent ≡ m ∷ drop (h.landed + 1) h.sent → Both size depth h k → Before → HeardOf k h →
      HeardBoth (lands h) (if over then k else if is_check then validates m.snapshot.number k else takes_snapshot m.snapshot k)
  lands-by true is_check e f d b p q = (inl e, q)
  lands-by false true e f d b p q =
      let n : HeardBoth (lands h) k = (inr (check-heard f (not-over (is_over k) e p)), q) in
      let o : HeardBoth (lands h) (strikes (Gap (wire_number m.snapshot.number) (wire_number k.taken.number)) k) = (inr (check-heard f (not-over (is_over k) e p)), q) in
      either-peer (lands h) (strikes (Gap (wire_number m.snapshot.number) (wire_number k.taken.number)) k) k (shows_gap m.snapshot.number k.taken.number) o n
  lands-by false false e f d b p q =
      let w = b.0 in
      let a = w.2 in
      let t = may-take size depth h k m d f b in
      let n = snapshot-heard f t.number_rises a.climbs (not-over (is_over k) e p) in
      either-peer (lands h) (strikes PeerAbort (record k { taken = m.snapshot })) (record k { taken = m.snapshot }) m.snapshot.aborted (inr n, q) (inr n, q)

lands-heard : (size depth : ℕ) (h k : Half) → h.landed < length h.sent → Both size depth h k → HeardBoth h k → HeardBoth (lands h) (takes (head (to_land h)) k)
lands-heard size depth h k more b p =
    let next = next-of h.landed h.sent more in
    let q = subst (λ ms. Heard (is_over k) k.taken h.fin h.flight ms) next.1 p.0 in
    subst (λ o. HeardBoth (lands h) (takes o k)) (sym (ap (λ ms. head ms) next.1)) (lands-by size depth h k next.0 (is_over k) next.0.check refl refl next.1 b q p.1)

-- completions of what has landed
fewer-by : (b : Bool) (s : Snapshot) (ss : List Snapshot) → length ss ≤ length (if b then ss else s ∷ ss)
fewer-by true s ss = omega arith
fewer-by false s ss = omega arith

fewer : (i j : ℕ) (ms : List Sent) → i ≤ j → length (snapshots (drop j ms)) ≤ length (snapshots (drop i ms))
fewer zero zero ms l = omega arith
fewer zero (suc j) [] l = omega arith
fewer zero (suc j) (m ∷ ms) l =
    let a = fewer zero j ms (omega arith) in
    let b = fewer-by m.check m.snapshot (snapshots ms) in
    omega (arith, a, b)
fewer (suc i) zero ms l = absurd (omega (arith, l))
fewer (suc i) (suc j) [] l = omega arith
fewer (suc i) (suc j) (m ∷ ms) l = fewer i j ms (omega (arith, l))

passed-rest : (n : ℕ) (s r : Snapshot) (ss queue : List Snapshot) → length queue ≤ length ss → Passed n s (r ∷ ss) queue → Passed n r ss queue
passed-rest n s r ss queue l (o, inl e) = let f : length (r ∷ ss) ≡ length queue = ap (λ q. length q) e in absurd (omega (arith, l, f))
passed-rest n s r ss queue l (o, inr p) = p

module _ (size depth : ℕ) (h k : Half) (r : Sent) where
  completed-heard : r.check ≡ false → drop h.completed h.sent ≡ r ∷ drop (h.completed + 1) h.sent → h.completed < h.landed → Both size depth h k → HeardOf h k →
      Heard (is_over k) k.taken r.snapshot (drop 1 h.flight) (drop (max h.landed (h.completed + 1)) h.sent)
  completed-heard e d l b (inl f) = inl f
  completed-heard e d l b (inr p) =
      let n = next-completes size depth h k r e d b in
      let rest = snapshots (drop (h.completed + 1) h.sent) in
      let tail : drop 1 h.flight ≡ rest = ap (λ ss. drop 1 ss) n.0 in
      let same : h.landed ≡ max h.landed (h.completed + 1) = omega (arith, l) in
      let q = passed-rest k.taken.number h.fin r.snapshot rest (snapshots (to_land h)) (fewer (h.completed + 1) h.landed h.sent (omega (arith, l))) (subst (λ ss. Passed k.taken.number h.fin ss (snapshots (to_land h))) n.0 p.0) in
      inr (subst (λ i. Passed k.taken.number r.snapshot (drop 1 h.flight) (snapshots (drop i h.sent)) × ChecksFirst k.taken.number (drop i h.sent)) same
      (subst (λ ss. Passed k.taken.number r.snapshot ss (snapshots (to_land h))) (sym tail) q, p.1))

  confirmed-heard : h.completed < h.landed → HeardOf h k → HeardOf (counts_completed h) k
  confirmed-heard l p =
      let same : h.landed ≡ max h.landed (h.completed + 1) = omega (arith, l) in
      subst (λ i. Heard (is_over k) k.taken h.fin h.flight (drop i h.sent)) same p

  -- the other direction: once over, it stays so
  still-over : r.check ≡ false → drop h.completed h.sent ≡ r ∷ drop (h.completed + 1) h.sent → Both size depth h k → LastingOf h → HeardOf k h → Heard (is_last r.snapshot && is_last h.taken) h.taken k.fin k.flight (to_land k)
  still-over e d b a (inr p) = inr p
  still-over e d b a (inl f) =
      let n = next-completes size depth h k r e d b in
      let lasts = subst (λ ss. Lasts h.fin ss) n.0 a.lasts in
      inl (by (is_last h.fin) (is_last h.taken) (is_last r.snapshot) lasts.0 f)
    where
      by : (x y z : Bool) → (x ≡ true → z ≡ true) → (x && y) ≡ true → (z && y) ≡ true
      by true y z g i = ap (λ c. c && y) (g refl) ∙ i
      by false y z g i = absurd (true≢false (sym i))

  completes-by : (is_check : Bool) → r.check ≡ is_check → drop h.completed h.sent ≡ r ∷ drop (h.completed + 1) h.sent → h.completed < h.landed → Both size depth h k → LastingOf h → HeardBoth h k →
      HeardBoth (if is_check then counts_completed h else record (counts_completed h) { fin = r.snapshot; flight = drop 1 h.flight; phase = after_completing r.snapshot h.phase }) k
  completes-by true e d l b a p = (confirmed-heard l p.0, p.1)
  completes-by false e d l b a p = (completed-heard e d l b p.0, still-over e d b a p.1)

landed-first : (h : Half) → is_swallowed h ≡ false → h.completed ≤ h.landed → h.completed < h.landed
landed-first h e o = by (lt-or h.completed h.landed)
  where
    by : (h.completed < h.landed) ⊎ (h.landed ≤ h.completed) → h.completed < h.landed
    by (inl l) = l
    by (inr l) = absurd (true≢false (sym (eq-eqb h.completed h.landed (omega (arith, l, o))) ∙ e))

completes-heard : (size depth : ℕ) (h k : Half) → h.completed < length h.sent → is_swallowed h ≡ false → Both size depth h k → LastingOf h → HeardBoth h k → HeardBoth (completes (head (to_complete h)) h) k
completes-heard size depth h k more e b a p =
    let next = next-of h.completed h.sent more in
    let w = b.0 in
    subst (λ o. HeardBoth (completes o h) k) (sym (ap (λ ms. head ms) next.1)) (completes-by size depth h k next.0 next.0.check refl next.1 (landed-first h e w.3) b a p)

-- every part
abbrev pub HeardFrom : Side → Pipe → Type 0
HeardFrom x p = HeardBoth (half x p) (half (other x) p)

seen-from : (x y : Side) (p : Pipe) → HeardFrom x p → HeardFrom y p
seen-from A A p q = q
seen-from A B p q = (q.1, q.0)
seen-from B A p q = (q.1, q.0)
seen-from B B p q = q

kept : (t : Terms) (item : Item) (p : Pipe) (broken : Bool) → CanFollow item (half (actor item) p) broken → swallows item p ≡ false → BothOf t (actor item) p → LastingOf (half (actor item) p) → HeardFrom (actor item) p → HeardFrom (actor item) (apply t.size item p)
kept t (Fate A link phase) p broken f n b a q = fate-heard link phase p.a p.b q
kept t (Fate B link phase) p broken f n b a q = fate-heard link phase p.b p.a q
kept t (GroupEnd A) p broken f n b a q = q
kept t (GroupEnd B) p broken f n b a q = q
kept t (Up A link) p broken f n b a q = q
kept t (Up B link) p broken f n b a q = q
kept t (Calls A call) p broken f n b a q = call-heard t.size call p.a p.b q
kept t (Calls B call) p broken f n b a q = call-heard t.size call p.b p.a q
kept t (Lands A) p broken f n b a q = lands-heard t.size t.depth p.a p.b f.0 b q
kept t (Lands B) p broken f n b a q = lands-heard t.size t.depth p.b p.a f.0 b q
kept t (Completes A) p broken f n b a q = completes-heard t.size t.depth p.a p.b f n b a q
kept t (Completes B) p broken f n b a q = completes-heard t.size t.depth p.b p.a f n b a q

fresh-heard : (number : ℕ) → HeardOf (fresh number) (fresh number)
fresh-heard number = inr ((omega arith, refl), tt)

all-heard : (t : Terms) (items : List Item) → IsFeasible t items → has_swallow t items ≡ false → HeardFrom A (pipe t items)
all-heard t [] f e = (fresh-heard t.number, fresh-heard t.number)
all-heard t (item ∷ items) f e =
    let n = or_parts (has_swallow t items) (swallows item (pipe t items)) e in
    let q = seen-from A (actor item) (pipe t items) (all-heard t items f.1 n.0) in
    let k = kept t item (pipe t items) _ f.0 n.1 (both t (actor item) items f.1) (lasting t (actor item) items f.1) q in
    settled t.size t.depth (apply t.size item (pipe t items)).a (apply t.size item (pipe t items)).b (both-after t A item items f) (seen-from (actor item) A (apply t.size item (pipe t items)) k)

heard-near : (told taken : ℕ) → told ≤ taken → is_near told taken ≡ true
heard-near told taken l = grind arith

near-at : (o : Option Sent) (h k : Half) (queue : List Sent) → o ≡ head queue → Heard (is_over k) k.taken h.fin h.flight queue → is_near_at o k ≡ true
near-at None h k queue e p = refl
near-at (Some m) h k queue e (inl f) = by m.check (is_over k) (is_near m.snapshot.number k.taken.number) f
  where
    by : (c o n : Bool) → o ≡ true → ((not c || o) || n) ≡ true
    by true true n g = refl
    by true false n g = absurd (true≢false (sym g))
    by false o n g = refl
near-at (Some m) h k [] e (inr p) = absurd (true≢false (ap (λ o. is_some o) e))
near-at (Some m) h k (r ∷ rs) e (inr p) =
    let c = p.1 in
    let same : m ≡ r = ap (λ o. unwrap_or o m) e in
    subst (λ (q : Sent). ((not q.check || is_over k) || is_near q.snapshot.number k.taken.number) ≡ true) (sym same) (by r.check refl c.0)
  where
    by : (b : Bool) → r.check ≡ b → (r.check ≡ true → r.snapshot.number ≤ k.taken.number) → ((not r.check || is_over k) || is_near r.snapshot.number k.taken.number) ≡ true
    by true g f = or_right (not r.check || is_over k) (is_near r.snapshot.number k.taken.number) (heard-near r.snapshot.number k.taken.number (f g))
    by false g f = ap (λ i. (not i || is_over k) || is_near r.snapshot.number k.taken.number) g

item-near : (t : Terms) (item : Item) (items : List Item) → HeardFrom A (pipe t items) → lands_near item (pipe t items) ≡ true
item-near t (Fate x link phase) items h = refl
item-near t (GroupEnd x) items h = refl
item-near t (Up x link) items h = refl
item-near t (Calls x call) items h = refl
item-near t (Lands A) items h = near-at (head (to_land (pipe t items).a)) (pipe t items).a (pipe t items).b (to_land (pipe t items).a) refl h.0
item-near t (Lands B) items h = near-at (head (to_land (pipe t items).b)) (pipe t items).b (pipe t items).a (to_land (pipe t items).b) refl h.1
item-near t (Completes x) items h = refl

-- a part in which no message was swallowed is near
pub unswallowed-near : (t : Terms) (items : List Item) → IsFeasible t items → has_swallow t items ≡ false → is_near_part t items ≡ true
unswallowed-near t [] f e = refl
unswallowed-near t (item ∷ items) f e =
    let n = or_parts (has_swallow t items) (swallows item (pipe t items)) e in
    and_from (is_near_part t items) (lands_near item (pipe t items)) (unswallowed-near t items f.1 n.0) (item-near t item items (all-heard t items f.1 n.0))
