-- An end that is over has told its last snapshot, and so has its peer.
use Rattle.std.proofs.Common.{◌≡◌, ◌∙◌, ℕ, ◌+◌, ◌<◌, min, Bool, true, false, List, [], ◌∷◌, ◌++◌, length, take, drop, refl, ap, sym, subst, if◌then◌else◌, ◌||◌, true≢false, suc, zero}
use Rattle.std.specs.Prelude.{Some, is_some}
use Rattle.std.proofs.lemmas.Bool.{or_right}
use Rattle.smc_num.specs.declared.Side.{Side}
use Rattle.smc_num.specs.declared.Side.TheVariants.{A, B}
use Rattle.smc_num.specs.declared.LinkId.{LinkId}
use Rattle.smc_num.specs.declared.LinkPhase.{LinkPhase}
use Rattle.smc_num.specs.declared.LinkPhase.TheVariants.{Unused, Pending, Live, Dead}
use Rattle.smc_num.specs.Names.{other, head}
use Rattle.smc_num.specs.Numbers.{wire_number}
use Rattle.pipe_model.specs.declared.reply.ResetCause.TheVariants.{PeerAbort, Gap}
use Rattle.pipe_model.specs.Snapshot.{is_last, shows_gap}
use Rattle.pipe_model.specs.Closing.{cause_of, after_finish, after_close, after_moving, after_completing}
use Rattle.pipe_model.specs.Ends.{Half, Sent, fresh, settle, is_due, is_over, is_due_for_move, meets_fate, takes, takes_snapshot, validates, strikes, lands, completes, counts_completed, check, lowest_link, batch, posts_batch, window, unread, to_land, to_complete}
use Rattle.pipe_model.specs.Calls.{Call, Writes, Reads, Finishes, Closes, Aborts, Awaits, Moves, calls, is_ended}
use Rattle.pipe_model.specs.Pipe.{Pipe, Terms, Item, Fate, GroupEnd, Up, Calls, Lands, Completes, half, pipe, apply}
use Rattle.pipe_model.specs.Parts.{actor, CanFollow, IsFeasible, has_last, HasToldLast}
use Rattle.pipe_model.proofs.Pipes.Chains.{next-of}
use Rattle.pipe_model.proofs.Pipes.Shuts.{and-parts}

-- an end's own last completed snapshot, and the one that its peer has taken, are among its messages where they are last ones
abbrev pub Tells : Half → Half → Type 0
Tells h k = (is_last h.fin ≡ true → HasToldLast h) × (is_last k.taken ≡ true → HasToldLast h)

abbrev pub TellBoth : Half → Half → Type 0
TellBoth h k = Tells h k × Tells k h

either : (h1 h2 k : Half) (b : Bool) → TellBoth h1 k → TellBoth h2 k → TellBoth (if b then h1 else h2) k
either h1 h2 k true x y = x
either h1 h2 k false x y = y

either-peer : (h k1 k2 : Half) (b : Bool) → TellBoth h k1 → TellBoth h k2 → TellBoth h (if b then k1 else k2)
either-peer h k1 k2 true x y = x
either-peer h k1 k2 false x y = y

-- messages come behind those that were sent
last-more : (ms : List Sent) (m : Sent) → has_last ms ≡ true → has_last (ms ++ m ∷ []) ≡ true
last-more [] m e = absurd (true≢false (sym e))
last-more (k ∷ ms) m e = by (is_last k.snapshot) (has_last ms) (has_last (ms ++ m ∷ [])) (last-more ms m) e
  where
    by : (a b c : Bool) → (b ≡ true → c ≡ true) → (a || b) ≡ true → (a || c) ≡ true
    by true b c f g = refl
    by false b c f g = f g

posted : (h k : Half) → TellBoth h k → TellBoth (posts_batch h) k
posted h k t = let x = t.0 in ((λ e. last-more h.sent (batch h) (x.0 e), λ e. last-more h.sent (batch h) (x.1 e)), t.1)

settled : (depth : ℕ) (h k : Half) → TellBoth h k → TellBoth (settle depth h) (settle depth k)
settled depth h k t =
    let first : TellBoth (settle depth h) k = either (posts_batch h) h k (is_due depth h) (posted h k t) t in
    let second : TellBoth (posts_batch k) (settle depth h) = posted k (settle depth h) (first.1, first.0) in
    either-peer (settle depth h) (posts_batch k) k (is_due depth k) (second.1, second.0) first

-- calls and fates
call-tells : (size : ℕ) (call : Call) (h k : Half) → TellBoth h k → TellBoth (calls size call h) k
call-tells size (Writes bytes) h k t = either h (record h { out = h.out ++ take (window size h) bytes }) k (is_some (cause_of h.phase) || is_ended h) t t
call-tells size (Reads n) h k t = either h (record h { rd = h.rd + min n (unread h) }) k _ t t
call-tells size Finishes h k t = either h (record h { finished = true; phase = after_finish h.phase }) k _ t t
call-tells size Closes h k t = either h (record h { finished = true; phase = after_close h.phase }) k _ t t
call-tells size Aborts h k t = t
call-tells size Awaits h k t = t
call-tells size Moves h k t =
    let x = t.0 in
    either (record h { link = lowest_link h; last = h.fin; flight = []; phase = after_moving h.phase; sent = h.sent ++ check h ∷ []; landed = length h.sent; completed = length h.sent }) h k (is_due_for_move h)
    ((λ e. last-more h.sent (check h) (x.0 e), λ e. last-more h.sent (check h) (x.1 e)), t.1) t

fate-tells : (link : LinkId) (phase : LinkPhase) (h k : Half) → TellBoth h k → TellBoth (meets_fate link phase h) k
fate-tells link Unused h k t = t
fate-tells link Pending h k t = t
fate-tells link Live h k t = t
fate-tells link Dead h k t = t

-- landings and completions
last-among : (i : ℕ) (ms : List Sent) → has_last (drop i ms) ≡ true → has_last ms ≡ true
last-among zero [] e = e
last-among zero (m ∷ ms) e = e
last-among (suc i) [] e = e
last-among (suc i) (m ∷ ms) e = or_right (is_last m.snapshot) (has_last ms) (last-among i ms e)

last-next : (i : ℕ) (ms rest : List Sent) (m : Sent) → drop i ms ≡ m ∷ rest → is_last m.snapshot ≡ true → has_last ms ≡ true
last-next i ms rest m d e = last-among i ms (ap (λ ns. has_last ns) d ∙ ap (λ b. b || has_last rest) e)

lands-by : (h k : Half) (m : Sent) → drop h.landed h.sent ≡ m ∷ drop (h.landed + 1) h.sent → TellBoth h k → TellBoth (lands h) (takes (Some m) k)
lands-by h k m d t =
    let x = t.0 in
    let new : TellBoth (lands h) (record k { taken = m.snapshot }) = ((x.0, λ e. last-next h.landed h.sent (drop (h.landed + 1) h.sent) m d e), t.1) in
    either-peer (lands h) k (if m.check then validates m.snapshot.number k else takes_snapshot m.snapshot k) (is_over k) t
    (either-peer (lands h) (validates m.snapshot.number k) (takes_snapshot m.snapshot k) m.check
    (either-peer (lands h) (strikes (Gap (wire_number m.snapshot.number) (wire_number k.taken.number)) k) k (shows_gap m.snapshot.number k.taken.number) t t)
    (either-peer (lands h) (strikes PeerAbort (record k { taken = m.snapshot })) (record k { taken = m.snapshot }) m.snapshot.aborted new new))

lands-tell : (h k : Half) → h.landed < length h.sent → TellBoth h k → TellBoth (lands h) (takes (head (to_land h)) k)
lands-tell h k more t =
    let next = next-of h.landed h.sent more in
    subst (λ o. TellBoth (lands h) (takes o k)) (sym (ap (λ ms. head ms) next.1)) (lands-by h k next.0 next.1 t)

completes-by : (h k : Half) (r : Sent) → drop h.completed h.sent ≡ r ∷ drop (h.completed + 1) h.sent → TellBoth h k → TellBoth (completes (Some r) h) k
completes-by h k r d t =
    let x = t.0 in
    either (counts_completed h) (record (counts_completed h) { fin = r.snapshot; flight = drop 1 h.flight; phase = after_completing r.snapshot h.phase }) k r.check t
    ((λ e. last-next h.completed h.sent (drop (h.completed + 1) h.sent) r d e, x.1), t.1)

completes-tell : (h k : Half) → h.completed < length h.sent → TellBoth h k → TellBoth (completes (head (to_complete h)) h) k
completes-tell h k more t =
    let next = next-of h.completed h.sent more in
    subst (λ o. TellBoth (completes o h) k) (sym (ap (λ ms. head ms) next.1)) (completes-by h k next.0 next.1 t)

-- every part
abbrev pub TellFrom : Side → Pipe → Type 0
TellFrom x p = TellBoth (half x p) (half (other x) p)

seen-from : (x y : Side) (p : Pipe) → TellFrom x p → TellFrom y p
seen-from A A p q = q
seen-from A B p q = (q.1, q.0)
seen-from B A p q = (q.1, q.0)
seen-from B B p q = q

kept : (t : Terms) (item : Item) (p : Pipe) (broken : Bool) → CanFollow item (half (actor item) p) broken → TellFrom (actor item) p → TellFrom (actor item) (apply t.size item p)
kept t (Fate A link phase) p broken f q = fate-tells link phase p.a p.b q
kept t (Fate B link phase) p broken f q = fate-tells link phase p.b p.a q
kept t (GroupEnd A) p broken f q = q
kept t (GroupEnd B) p broken f q = q
kept t (Up A link) p broken f q = q
kept t (Up B link) p broken f q = q
kept t (Calls A call) p broken f q = call-tells t.size call p.a p.b q
kept t (Calls B call) p broken f q = call-tells t.size call p.b p.a q
kept t (Lands A) p broken f q = lands-tell p.a p.b f.0 q
kept t (Lands B) p broken f q = lands-tell p.b p.a f.0 q
kept t (Completes A) p broken f q = completes-tell p.a p.b f q
kept t (Completes B) p broken f q = completes-tell p.b p.a f q

fresh-tells : (number : ℕ) → Tells (fresh number) (fresh number)
fresh-tells number = (λ e. absurd (true≢false (sym e)), λ e. absurd (true≢false (sym e)))

all-tell : (t : Terms) (items : List Item) → IsFeasible t items → TellFrom A (pipe t items)
all-tell t [] f = (fresh-tells t.number, fresh-tells t.number)
all-tell t (item ∷ items) f =
    let k = kept t item (pipe t items) _ f.0 (seen-from A (actor item) (pipe t items) (all-tell t items f.1)) in
    settled t.depth (apply t.size item (pipe t items)).a (apply t.size item (pipe t items)).b (seen-from (actor item) A (apply t.size item (pipe t items)) k)

over-told : (x : Side) (p : Pipe) → TellFrom x p → is_over (half x p) ≡ true → HasToldLast (half x p) × HasToldLast (half (other x) p)
over-told x p q e =
    let both = and-parts (is_last (half x p).fin) (is_last (half x p).taken) e in
    let mine = q.0 in
    let theirs = q.1 in
    (mine.0 both.0, theirs.1 both.1)

pub over-has-told : (t : Terms) (x : Side) (items : List Item) → IsFeasible t items → is_over (half x (pipe t items)) ≡ true → HasToldLast (half x (pipe t items)) × HasToldLast (half (other x) (pipe t items))
over-has-told t x items f e = over-told x (pipe t items) (seen-from A x (pipe t items) (all-tell t items f)) e
