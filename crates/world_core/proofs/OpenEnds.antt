-- Where ends are only established, write, read, land and complete, no end closes.
use Rattle.std.proofs.Common.{◌≡◌, ◌==◌, ℕ, ◌+◌, min, Bool, true, false, if◌then◌else◌, List, [], ◌∷◌, ◌++◌, length, take, drop, refl, ap, sym, suc, zero, ◌||◌, ◌&&◌, true≢false, subst, ◌∙◌}
use Rattle.std.specs.Prelude.{Option, Some, None, is_some}
use Rattle.smc_num.specs.declared.Side.{Side}
use Rattle.smc_num.specs.declared.Side.TheVariants.{A, B}
use Rattle.smc_num.specs.declared.LinkId.{LinkId}
use Rattle.smc_num.specs.declared.LinkPhase.{LinkPhase}
use Rattle.smc_num.specs.declared.LinkPhase.TheVariants.{Unused, Pending, Live, Dead}
use Rattle.smc_num.specs.Names.{head}
use Rattle.pipe_model.specs.declared.snapshot.Snapshot.{Snapshot}
use Rattle.pipe_model.specs.declared.reply.ResetCause.TheVariants.{PeerAbort}
use Rattle.pipe_model.specs.Snapshot.{is_last}
use Rattle.pipe_model.specs.declared.sent.Sent.{Sent}
use Rattle.pipe_model.specs.Closing.{cause_of, is_closing, after_posting, after_completing}
use Rattle.pipe_model.specs.Ends.{Half, fresh, settle, is_due, is_over, meets_fate, takes, takes_snapshot, validates, strikes, completes, counts_completed, batch, present, posts_batch, window, unread, to_land, to_complete, lands, comes_up}
use Rattle.pipe_model.specs.Calls.{Call, Writes, Reads, calls, is_ended}
use Rattle.pipe_model.specs.Pipe.{Pipe, Terms, Item, Fate, GroupEnd, Up, Calls, Lands, Completes, half, pipe, apply}
use Rattle.pipe_model.specs.Parts.{EachOf}
use Rattle.world_core.specs.Wired.{IsOpenSnapshot, IsOpenSent, IsOpenEnd, EachShot, EachItem, keeps_open}
use Rattle.pipe_model.specs.declared.setup.Setup.{Setup}
use Rattle.pipe_model.specs.declared.entry.Entry.{Entry}
use Rattle.pipe_model.specs.Lending.{Lending, leaves_handshake, returns, pipe_of, terms_of}
use Rattle.pipe_model.specs.Fabric.{loses_group_with}
use Rattle.pipe_model.specs.Connections.{part}

-- lists
pub each-append : (P : Sent → Type 0) (ms : List Sent) (m : Sent) → EachOf P ms → P m → EachOf P (ms ++ m ∷ [])
each-append P [] m e p = (p, tt)
each-append P (k ∷ ms) m e p = (e.0, each-append P ms m e.1 p)

shots-append : (P : Snapshot → Type 0) (ss : List Snapshot) (s : Snapshot) → EachShot P ss → P s → EachShot P (ss ++ s ∷ [])
shots-append P [] s e p = (p, tt)
shots-append P (r ∷ ss) s e p = (e.0, shots-append P ss s e.1 p)

shots-drop : (P : Snapshot → Type 0) (ss : List Snapshot) → EachShot P ss → EachShot P (drop 1 ss)
shots-drop P [] e = tt
shots-drop P (r ∷ ss) e = e.1

abbrev pub MaySent : (Sent → Type 0) → Option Sent → Type 0
MaySent P None = Unit {0}
MaySent P (Some m) = P m

pub each-head : (P : Sent → Type 0) (i : ℕ) (ms : List Sent) → EachOf P ms → MaySent P (head (drop i ms))
each-head P zero [] e = tt
each-head P zero (m ∷ ms) e = e.0
each-head P (suc i) [] e = tt
each-head P (suc i) (m ∷ ms) e = each-head P i ms e.1

-- one end, whichever
either : (h1 h2 : Half) (b : Bool) → IsOpenEnd h1 → IsOpenEnd h2 → IsOpenEnd (if b then h1 else h2)
either h1 h2 true p q = p
either h1 h2 false p q = q

-- what an open end would tell is open
present-open : (h : Half) → IsOpenEnd h → IsOpenSnapshot (present h)
present-open h o = record {
  done = o.finished;
  closed = ap (λ p. is_closing p && (h.fin.told == length h.out)) o.phase;
  aborted = ap (λ p. is_some (cause_of p)) o.phase;
}

posts-open : (h : Half) → IsOpenEnd h → IsOpenEnd (posts_batch h)
posts-open h o = let p = present-open h o in record {
  phase = ap (λ p. after_posting (present h) p) o.phase;
  finished = o.finished;
  fin = o.fin;
  last = p;
  taken = o.taken;
  flight = shots-append IsOpenSnapshot h.flight (present h) o.flight p;
  sent = each-append IsOpenSent h.sent (batch h) o.sent (refl, p);
}

settle-open : (depth : ℕ) (h : Half) → IsOpenEnd h → IsOpenEnd (settle depth h)
settle-open depth h o = either (posts_batch h) h (is_due depth h) (posts-open h o) o

-- the items
call-open : (size : ℕ) (call : Call) (h : Half) → IsOpenEnd h → keeps_open (Calls A call) ≡ true → IsOpenEnd (calls size call h)
call-open size (Writes bytes) h o k = either h (record h { out = h.out ++ take (window size h) bytes }) (is_some (cause_of h.phase) || is_ended h) o
    (record { phase = o.phase; finished = o.finished; fin = o.fin; last = o.last; taken = o.taken; flight = o.flight; sent = o.sent })
call-open size (Reads n) h o k = either h (record h { rd = h.rd + min n (unread h) }) (is_some (cause_of h.phase) || is_closing h.phase) o
    (record { phase = o.phase; finished = o.finished; fin = o.fin; last = o.last; taken = o.taken; flight = o.flight; sent = o.sent })
call-open size _ h o k = absurd (true≢false (sym k))

fate-open : (link : LinkId) (phase : LinkPhase) (h : Half) → IsOpenEnd h → IsOpenEnd (meets_fate link phase h)
fate-open link Unused h o = record { phase = o.phase; finished = o.finished; fin = o.fin; last = o.last; taken = o.taken; flight = o.flight; sent = o.sent }
fate-open link Pending h o = record { phase = o.phase; finished = o.finished; fin = o.fin; last = o.last; taken = o.taken; flight = o.flight; sent = o.sent }
fate-open link Live h o = record { phase = o.phase; finished = o.finished; fin = o.fin; last = o.last; taken = o.taken; flight = o.flight; sent = o.sent }
fate-open link Dead h o = record { phase = o.phase; finished = o.finished; fin = o.fin; last = o.last; taken = o.taken; flight = o.flight; sent = o.sent }

up-open : (link : LinkId) (h : Half) → IsOpenEnd h → IsOpenEnd (comes_up link h)
up-open link h o = record { phase = o.phase; finished = o.finished; fin = o.fin; last = o.last; taken = o.taken; flight = o.flight; sent = o.sent }

lands-open : (h : Half) → IsOpenEnd h → IsOpenEnd (lands h)
lands-open h o = record { phase = o.phase; finished = o.finished; fin = o.fin; last = o.last; taken = o.taken; flight = o.flight; sent = o.sent }

-- an open end is not over
pub open-not-over : (h : Half) → IsOpenEnd h → is_over h ≡ false
open-not-over h o = let f = o.fin in ap (λ b. (b || h.fin.aborted) && is_last h.taken) f.closed ∙ ap (λ b. b && is_last h.taken) f.aborted

-- what an open end takes of an open peer is that snapshot
pub takes-open-is : (m : Sent) (h : Half) → IsOpenSent m → IsOpenEnd h → takes (Some m) h ≡ record h { taken = m.snapshot }
takes-open-is m h p o =
    let s = p.1 in
    ap (λ b. if b then h else if m.check then validates m.snapshot.number h else takes_snapshot m.snapshot h) (open-not-over h o) ∙
    ap (λ b. if b then validates m.snapshot.number h else takes_snapshot m.snapshot h) p.0 ∙
    ap (λ b. if b then strikes PeerAbort (record h { taken = m.snapshot }) else record h { taken = m.snapshot }) s.aborted

takes-open : (o : Option Sent) (h : Half) → MaySent IsOpenSent o → IsOpenEnd h → IsOpenEnd (takes o h)
takes-open None h p o = o
takes-open (Some m) h p o = subst (λ k. IsOpenEnd k) (sym (takes-open-is m h p o))
    (record { phase = o.phase; finished = o.finished; fin = o.fin; last = o.last; taken = p.1; flight = o.flight; sent = o.sent })

-- what of an open end completes is a snapshot
pub completes-open-is : (m : Sent) (h : Half) → IsOpenSent m → IsOpenEnd h → completes (Some m) h ≡ record (counts_completed h) { fin = m.snapshot; flight = drop 1 h.flight }
completes-open-is m h p o =
    ap (λ b. if b then counts_completed h else record (counts_completed h) { fin = m.snapshot; flight = drop 1 h.flight; phase = after_completing m.snapshot h.phase }) p.0 ∙
    ap (λ q. record (counts_completed h) { fin = m.snapshot; flight = drop 1 h.flight; phase = q }) (ap (λ q. after_completing m.snapshot q) o.phase ∙ sym o.phase)

completes-open : (o : Option Sent) (h : Half) → MaySent IsOpenSent o → IsOpenEnd h → IsOpenEnd (completes o h)
completes-open None h p o = o
completes-open (Some m) h p o = subst (λ k. IsOpenEnd k) (sym (completes-open-is m h p o))
    (record { phase = o.phase; finished = o.finished; fin = p.1; last = o.last; taken = o.taken; flight = shots-drop IsOpenSnapshot h.flight o.flight; sent = o.sent })

abbrev pub BothOpen : Pipe → Type 0
BothOpen p = IsOpenEnd p.a × IsOpenEnd p.b

pub apply-open : (size : ℕ) (item : Item) (p : Pipe) → keeps_open item ≡ true → BothOpen p → BothOpen (apply size item p)
apply-open size (Fate A link phase) p k o = (fate-open link phase p.a o.0, o.1)
apply-open size (Fate B link phase) p k o = (o.0, fate-open link phase p.b o.1)
apply-open size (GroupEnd x) p k o = absurd (true≢false (sym k))
apply-open size (Up A link) p k o = (up-open link p.a o.0, o.1)
apply-open size (Up B link) p k o = (o.0, up-open link p.b o.1)
apply-open size (Calls A call) p k o = (call-open size call p.a o.0 k, o.1)
apply-open size (Calls B call) p k o = (o.0, call-open size call p.b o.1 k)
apply-open size (Lands A) p k o = let a = o.0 in (lands-open p.a a, takes-open (head (to_land p.a)) p.b (each-head IsOpenSent p.a.landed p.a.sent a.sent) o.1)
apply-open size (Lands B) p k o = let b = o.1 in (takes-open (head (to_land p.b)) p.a (each-head IsOpenSent p.b.landed p.b.sent b.sent) o.0, lands-open p.b b)
apply-open size (Completes A) p k o = let a = o.0 in (completes-open (head (to_complete p.a)) p.a (each-head IsOpenSent p.a.completed p.a.sent a.sent) a, o.1)
apply-open size (Completes B) p k o = let b = o.1 in (o.0, completes-open (head (to_complete p.b)) p.b (each-head IsOpenSent p.b.completed p.b.sent b.sent) b)

first-open : (number : ℕ) → IsOpenEnd (fresh number)
first-open number = record {
  phase = refl;
  finished = refl;
  fin = record { done = refl; closed = refl; aborted = refl };
  last = record { done = refl; closed = refl; aborted = refl };
  taken = record { done = refl; closed = refl; aborted = refl };
  flight = tt;
  sent = tt;
}

-- after every such part both ends are open
pub both-open : (t : Terms) (items : List Item) → EachItem keeps_open items → BothOpen (pipe t items)
both-open t [] k = (first-open t.number, first-open t.number)
both-open t (item ∷ items) k =
    let q = apply-open t.size item (pipe t items) k.0 (both-open t items k.1) in
    (settle-open t.depth (apply t.size item (pipe t items)).a q.0, settle-open t.depth (apply t.size item (pipe t items)).b q.1)

pub of-half : (x : Side) (p : Pipe) → BothOpen p → IsOpenEnd (half x p)
of-half A p o = o.0
of-half B p o = o.1

pub half-open : (t : Terms) (x : Side) (items : List Item) → EachItem keeps_open items → IsOpenEnd (half x (pipe t items))
half-open t x items k = of-half x (pipe t items) (both-open t items k)

pub never-over : (t : Terms) (x : Side) (items : List Item) → EachItem keeps_open items → is_over (half x (pipe t items)) ≡ false
never-over t x items k = open-not-over (half x (pipe t items)) (half-open t x items k)

-- so a lending ends neither with its end nor with its group
pub stays-out : (setup : Setup) (payload : List ℕ) (e : Entry) (past : List Entry) (x : Side) (l : Lending) → leaves_handshake x l.s e.event e.reply ≡ false → loses_group_with x l.group e past ≡ false
    → EachItem keeps_open (part payload l.group l.s (e ∷ past)) → returns setup payload x e past l ≡ false
stays-out setup payload e past x l stays kept calm =
    ap (λ b. b || (loses_group_with x l.group e past || is_over (half x (pipe_of setup payload l.group l.s (e ∷ past))))) stays
    ∙ (ap (λ b. b || is_over (half x (pipe_of setup payload l.group l.s (e ∷ past)))) kept ∙ never-over (terms_of setup) x (part payload l.group l.s (e ∷ past)) calm)
