-- Once an end has told its last snapshot, all that it tells are last ones, so that an end which is over stays so.
use Rattle.std.proofs.Common.{◌≡◌, ◌∙◌, ℕ, ◌+◌, ◌==◌, ◌<◌, inl, inr, min, Bool, true, false, List, [], ◌∷◌, ◌++◌, length, take, drop, refl, ap, sym, subst, if◌then◌else◌, ◌||◌, ◌&&◌, true≢false}
use Rattle.std.specs.Prelude.{Option, Some, None, is_some}
use Rattle.std.proofs.lemmas.Bool.{eq-eqb, or_right}
use Rattle.smc_num.specs.declared.Side.{Side}
use Rattle.smc_num.specs.declared.Side.TheVariants.{A, B}
use Rattle.smc_num.specs.declared.LinkId.{LinkId}
use Rattle.smc_num.specs.declared.LinkPhase.{LinkPhase}
use Rattle.smc_num.specs.declared.LinkPhase.TheVariants.{Unused, Pending, Live, Dead}
use Rattle.smc_num.specs.Names.{head}
use Rattle.smc_num.specs.Numbers.{wire_number}
use Rattle.pipe_model.specs.declared.reply.ResetCause.TheVariants.{PeerAbort, Gap}
use Rattle.pipe_model.specs.declared.snapshot.Snapshot.{Snapshot}
use Rattle.pipe_model.specs.Snapshot.{is_last, shows_gap}
use Rattle.pipe_model.specs.Closing.{Phase, cause_of, struck, ended_with, after_finish, after_close, after_abort, after_moving, after_completing}
use Rattle.pipe_model.specs.Ends.{Half, Sent, fresh, settle, is_due, is_over, is_due_for_move, meets_fate, takes, takes_snapshot, validates, strikes, completes, counts_completed, check, lowest_link, present, posts_batch, window, unread, to_land, to_complete}
use Rattle.pipe_model.specs.Calls.{Call, Writes, Reads, Finishes, Closes, Aborts, Awaits, Moves, calls, is_ended}
use Rattle.pipe_model.specs.Pipe.{Pipe, Terms, Item, Fate, GroupEnd, Up, Calls, Lands, Completes, half, pipe, apply}
use Rattle.pipe_model.specs.Parts.{IsFeasible, Climbs, snapshots}
use Rattle.pipe_model.proofs.Pipes.Chains.{next-of}
use Rattle.pipe_model.proofs.Pipes.Sound.{Both}
use Rattle.pipe_model.proofs.Pipes.Items.{next-completes}
use Rattle.pipe_model.proofs.Pipes.Parts.{both, both-after}
use Rattle.pipe_model.proofs.Pipes.Quiet.{IsSpent, finish-spent, close-spent, abort-spent, struck-spent, ended-spent, posting-spent, completing-spent, moving-spent, present-spent, refined, accepts-unspent}

-- that behind a last snapshot only last ones come
abbrev pub Lasts : Snapshot → List Snapshot → Type 0
Lasts s [] = Unit {0}
Lasts s (r ∷ rs) = (is_last s ≡ true → is_last r ≡ true) × Lasts r rs

pub record Lasting (fin last : Snapshot) (flight : List Snapshot) (out : ℕ) (phase : Phase) : Type 0 where
  pub lasts : Lasts fin flight
  pub spent : is_last last ≡ true → IsSpent fin.told out phase

abbrev pub LastingOf : Half → Type 0
LastingOf h = Lasting h.fin h.last h.flight (length h.out) h.phase

either : (P : Half → Type 0) (h1 h2 : Half) (b : Bool) → P h1 → P h2 → P (if b then h1 else h2)
either P h1 h2 true x y = x
either P h1 h2 false x y = y

rephased : (h : Half) (q : Phase) → (IsSpent h.fin.told (length h.out) h.phase → IsSpent h.fin.told (length h.out) q) → LastingOf h → Lasting h.fin h.last h.flight (length h.out) q
rephased h q f l = record { lasts = l.lasts; spent = λ e. f (l.spent e) }

-- posting
lasts-append : (first last s : Snapshot) (ss : List Snapshot) → Climbs first ss last → (is_last last ≡ true → is_last s ≡ true) → Lasts first ss → Lasts first (ss ++ s ∷ [])
lasts-append first last s [] c f l = (subst (λ (q : Snapshot). is_last q ≡ true → is_last s ≡ true) (sym c) f, tt)
lasts-append first last s (r ∷ ss) c f l = (l.0, lasts-append r last s ss c.1 f l.1)

last-last : (first last : Snapshot) (ss : List Snapshot) → Climbs first ss last → Lasts first ss → is_last first ≡ true → is_last last ≡ true
last-last first last [] c l e = subst (λ (q : Snapshot). is_last q ≡ true) c e
last-last first last (r ∷ ss) c l e = last-last r last ss c.1 l.1 (l.0 e)

spent-present : (h : Half) → IsSpent h.fin.told (length h.out) h.phase → is_last (present h) ≡ true
spent-present h (inl e) = or_right (present h).closed (present h).aborted e
spent-present h (inr e) =
    let f : (present h).closed ≡ true = ap (λ b. b && (h.fin.told == length h.out)) e.0 ∙ eq-eqb h.fin.told (length h.out) e.1 in
    ap (λ b. b || (present h).aborted) f

posted : (size depth : ℕ) (h k : Half) → Both size depth h k → LastingOf h → LastingOf (posts_batch h)
posted size depth h k b l =
    let w = b.0 in
    let f = w.2 in
    record {
      lasts = lasts-append h.fin h.last (present h) h.flight f.climbs (λ e. spent-present h (l.spent e)) l.lasts;
      spent = λ e. posting-spent h.fin.told (length h.out) (present h) h.phase (present-spent h e);
    }

settled : (size depth : ℕ) (h k : Half) → Both size depth h k → LastingOf h → LastingOf (settle depth h)
settled size depth h k b l = either LastingOf (posts_batch h) h (is_due depth h) (posted size depth h k b l) l

-- calls
accepts-lasting : (h : Half) (bytes : List ℕ) (b : Bool) → (is_some (cause_of h.phase) || is_ended h) ≡ b → LastingOf h → LastingOf (if b then h else record h { out = h.out ++ bytes })
accepts-lasting h bytes true e l = l
accepts-lasting h bytes false e l = record { lasts = l.lasts; spent = λ f. absurd (true≢false (accepts-unspent h e (l.spent f))) }

call-lasting : (size depth : ℕ) (call : Call) (h k : Half) → Both size depth h k → LastingOf h → LastingOf (calls size call h)
call-lasting size depth (Writes bytes) h k b l = accepts-lasting h (take (window size h) bytes) (is_some (cause_of h.phase) || is_ended h) refl l
call-lasting size depth (Reads n) h k b l = either LastingOf h (record h { rd = h.rd + min n (unread h) }) _ l l
call-lasting size depth Finishes h k b l = either LastingOf h (record h { finished = true; phase = after_finish h.phase }) _ l (rephased h (after_finish h.phase) (finish-spent h.fin.told (length h.out) h.phase) l)
call-lasting size depth Closes h k b l = either LastingOf h (record h { finished = true; phase = after_close h.phase }) _ l (rephased h (after_close h.phase) (close-spent h.fin.told (length h.out) h.phase) l)
call-lasting size depth Aborts h k b l = rephased h (after_abort h.phase) (abort-spent h.fin.told (length h.out) h.phase) l
call-lasting size depth Awaits h k b l = l
call-lasting size depth Moves h k b l =
    let w = b.0 in
    let f = w.2 in
    either LastingOf (record h { link = lowest_link h; last = h.fin; flight = []; phase = after_moving h.phase; sent = h.sent ++ check h ∷ []; landed = length h.sent; completed = length h.sent }) h (is_due_for_move h)
    (record { lasts = tt; spent = λ e. moving-spent h.fin.told (length h.out) h.phase (l.spent (last-last h.fin h.last h.flight f.climbs l.lasts e)) }) l

-- fates, landings and completions
fate-lasting : (link : LinkId) (phase : LinkPhase) (h : Half) → LastingOf h → LastingOf (meets_fate link phase h)
fate-lasting link Unused h l = l
fate-lasting link Pending h l = l
fate-lasting link Live h l = l
fate-lasting link Dead h l = l

takes-lasting : (o : Option Sent) (h : Half) → LastingOf h → LastingOf (takes o h)
takes-lasting None h l = l
takes-lasting (Some m) h l = either LastingOf h (if m.check then validates m.snapshot.number h else takes_snapshot m.snapshot h) (is_over h) l
    (either LastingOf (validates m.snapshot.number h) (takes_snapshot m.snapshot h) m.check
    (either LastingOf (strikes (Gap (wire_number m.snapshot.number) (wire_number h.taken.number)) h) h (shows_gap m.snapshot.number h.taken.number) (rephased h (struck _ h.phase) (struck-spent h.fin.told (length h.out) _ h.phase) l) l)
    (either LastingOf (strikes PeerAbort (record h { taken = m.snapshot })) (record h { taken = m.snapshot }) m.snapshot.aborted (rephased h (struck PeerAbort h.phase) (struck-spent h.fin.told (length h.out) PeerAbort h.phase) l) l))

completes-by : (size depth : ℕ) (h k : Half) (r : Sent) (is_check : Bool) → r.check ≡ is_check → drop h.completed h.sent ≡ r ∷ drop (h.completed + 1) h.sent → Both size depth h k → LastingOf h →
    LastingOf (if is_check then counts_completed h else record (counts_completed h) { fin = r.snapshot; flight = drop 1 h.flight; phase = after_completing r.snapshot h.phase })
completes-by size depth h k r true e d b l = l
completes-by size depth h k r false e d b l =
    let n = next-completes size depth h k r e d b in
    let rest = snapshots (drop (h.completed + 1) h.sent) in
    let tail : drop 1 h.flight ≡ rest = ap (λ ss. drop 1 ss) n.0 in
    let lasts = subst (λ ss. Lasts h.fin ss) n.0 l.lasts in
    record {
      lasts = subst (λ ss. Lasts r.snapshot ss) (sym tail) lasts.1;
      spent = λ f. completing-spent r.snapshot.told (length h.out) r.snapshot h.phase (refined h.fin.told (length h.out) r.snapshot.told h.phase n.1 n.2 (l.spent f));
    }

completes-lasting : (size depth : ℕ) (h k : Half) → h.completed < length h.sent → Both size depth h k → LastingOf h → LastingOf (completes (head (to_complete h)) h)
completes-lasting size depth h k more b l =
    let next = next-of h.completed h.sent more in
    subst (λ o. LastingOf (completes o h)) (sym (ap (λ ms. head ms) next.1)) (completes-by size depth h k next.0 next.0.check refl next.1 b l)

-- every part
abbrev pub LastingBoth : Pipe → Type 0
LastingBoth p = LastingOf p.a × LastingOf p.b

after-item : (t : Terms) (item : Item) (items : List Item) → IsFeasible t (item ∷ items) → LastingBoth (pipe t items) → LastingBoth (apply t.size item (pipe t items))
after-item t (Fate A link phase) items f l = (fate-lasting link phase (pipe t items).a l.0, l.1)
after-item t (Fate B link phase) items f l = (l.0, fate-lasting link phase (pipe t items).b l.1)
after-item t (GroupEnd A) items f l = (rephased (pipe t items).a (ended_with (pipe t items).a.link.group (pipe t items).a.phase) (ended-spent (pipe t items).a.fin.told (length (pipe t items).a.out) (pipe t items).a.link.group (pipe t items).a.phase) l.0, l.1)
after-item t (GroupEnd B) items f l = (l.0, rephased (pipe t items).b (ended_with (pipe t items).b.link.group (pipe t items).b.phase) (ended-spent (pipe t items).b.fin.told (length (pipe t items).b.out) (pipe t items).b.link.group (pipe t items).b.phase) l.1)
after-item t (Up A link) items f l = l
after-item t (Up B link) items f l = l
after-item t (Calls A call) items f l = (call-lasting t.size t.depth call (pipe t items).a (pipe t items).b (both t A items f.1) l.0, l.1)
after-item t (Calls B call) items f l = (l.0, call-lasting t.size t.depth call (pipe t items).b (pipe t items).a (both t B items f.1) l.1)
after-item t (Lands A) items f l = (l.0, takes-lasting (head (to_land (pipe t items).a)) (pipe t items).b l.1)
after-item t (Lands B) items f l = (takes-lasting (head (to_land (pipe t items).b)) (pipe t items).a l.0, l.1)
after-item t (Completes A) items f l = (completes-lasting t.size t.depth (pipe t items).a (pipe t items).b f.0 (both t A items f.1) l.0, l.1)
after-item t (Completes B) items f l = (l.0, completes-lasting t.size t.depth (pipe t items).b (pipe t items).a f.0 (both t B items f.1) l.1)

fresh-lasting : (number : ℕ) → LastingOf (fresh number)
fresh-lasting number = record { lasts = tt; spent = λ e. absurd (true≢false (sym e)) }

all-lasting : (t : Terms) (items : List Item) → IsFeasible t items → LastingBoth (pipe t items)
all-lasting t [] f = (fresh-lasting t.number, fresh-lasting t.number)
all-lasting t (item ∷ items) f =
    let l = after-item t item items f (all-lasting t items f.1) in
    let b = both-after t A item items f in
    (settled t.size t.depth (apply t.size item (pipe t items)).a (apply t.size item (pipe t items)).b b l.0, settled t.size t.depth (apply t.size item (pipe t items)).b (apply t.size item (pipe t items)).a (b.1, b.0) l.1)

lasting-half : (x : Side) (p : Pipe) → LastingBoth p → LastingOf (half x p)
lasting-half A p l = l.0
lasting-half B p l = l.1

pub lasting : (t : Terms) (x : Side) (items : List Item) → IsFeasible t items → LastingOf (half x (pipe t items))
lasting t x items f = lasting-half x (pipe t items) (all-lasting t items f)
