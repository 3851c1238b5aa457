-- Which items make an end post nothing: those of the other end, landings, and its own establishment.
use Rattle.std.proofs.Common.{eq-eqb, ◌≡◌, ◌∙◌, ◌==◌, ℕ, ◌+◌, ◌≤◌, Bool, true, false, not, if◌then◌else◌, List, [], ◌∷◌, ◌++◌, length, drop, refl, ap, sym, subst, ◌&&◌, true≢false, nat_lt, arith, length-append}
use Rattle.std.specs.Prelude.{Option, Some, None, is_some}
use Rattle.smc_num.specs.declared.Side.{Side}
use Rattle.smc_num.specs.declared.Side.TheVariants.{A, B}
use Rattle.smc_num.specs.declared.LinkId.{LinkId}
use Rattle.smc_num.specs.declared.LinkPhase.{LinkPhase}
use Rattle.smc_num.specs.declared.LinkPhase.TheVariants.{Unused, Pending, Live, Dead}
use Rattle.smc_num.specs.Names.{head, has_link, same_side}
use Rattle.smc_num.specs.Numbers.{wire_number}
use Rattle.pipe_model.specs.declared.reply.ResetCause.TheVariants.{PeerAbort, Gap}
use Rattle.pipe_model.specs.declared.snapshot.Snapshot.{Snapshot}
use Rattle.pipe_model.specs.declared.sent.Sent.{Sent}
use Rattle.pipe_model.specs.Words.{same_bool}
use Rattle.pipe_model.specs.Snapshot.{shows_gap, tells_same}
use Rattle.pipe_model.specs.Closing.{cause_of, is_closing, is_group_gone, after_completing}
use Rattle.pipe_model.specs.Ends.{Half, fresh, settle, is_due, is_over, meets_fate, takes, takes_snapshot, validates, strikes, completes, counts_completed, batch, present, posts_batch, to_land, to_complete, comes_up}
use Rattle.pipe_model.specs.Pipe.{Pipe, Terms, Item, Fate, GroupEnd, Up, Calls, Lands, Completes, half, pipe, apply}
use Rattle.pipe_model.proofs.Pipes.{nothing-due}
use Rattle.world_core.specs.Wired.{EachItem, keeps_open, IsOpenEnd, IsOpenSent}
use Rattle.world_core.proofs.OpenEnds.{half-open, each-head, MaySent, takes-open-is}
use Rattle.world_core.proofs.Growth.{either, settled-half}
use Rattle.world_core.proofs.UpEnds.{raises, step-up, apply-up}
use Rattle.world_core.proofs.Plain.{or-right}

-- an end that is not due settles as it is
settle-same : (depth : ℕ) (h : Half) → is_due depth h ≡ false → settle depth h ≡ h
settle-same depth h e = ap (λ b. if b then posts_batch h else h) e

-- an item that leaves the end at a side alone
abbrev pub spares : Side → Item → Bool
spares x (Fate y link phase) = not (same_side x y)
spares x (GroupEnd y) = not (same_side x y)
spares x (Up y link) = not (same_side x y)
spares x (Calls y call) = not (same_side x y)
spares x (Lands y) = false
spares x (Completes y) = not (same_side x y)

spared : (size : ℕ) (x : Side) (item : Item) (p : Pipe) → spares x item ≡ true → half x (apply size item p) ≡ half x p
spared size A (Fate B link phase) p e = refl
spared size A (GroupEnd B) p e = refl
spared size A (Up B link) p e = refl
spared size A (Calls B call) p e = refl
spared size A (Completes B) p e = refl
spared size B (Fate A link phase) p e = refl
spared size B (GroupEnd A) p e = refl
spared size B (Up A link) p e = refl
spared size B (Calls A call) p e = refl
spared size B (Completes A) p e = refl
spared size A _ p e = absurd (true≢false (sym e))
spared size B _ p e = absurd (true≢false (sym e))

spared-step : (t : Terms) (x : Side) (item : Item) (items : List Item) → spares x item ≡ true → half x (pipe t (item ∷ items)) ≡ half x (pipe t items)
spared-step t x item items e =
    let s = spared t.size x item (pipe t items) e in
    settled-half t x item (pipe t items) ∙ ap (λ h. settle t.depth h) s ∙ settle-same t.depth (half x (pipe t items)) (nothing-due t x items)

-- such items change nothing of the end
pub all-spared : (t : Terms) (x : Side) (news items : List Item) → EachItem (spares x) news → half x (pipe t (news ++ items)) ≡ half x (pipe t items)
all-spared t x [] items e = refl
all-spared t x (item ∷ news) items e = spared-step t x item (news ++ items) e.0 ∙ all-spared t x news items e.1

-- an item after which an end is not due posts nothing of it
quiet-step : (t : Terms) (x : Side) (item : Item) (items : List Item) → is_due t.depth (half x (apply t.size item (pipe t items))) ≡ false → (half x (apply t.size item (pipe t items))).sent ≡ (half x (pipe t items)).sent →
    (half x (pipe t (item ∷ items))).sent ≡ (half x (pipe t items)).sent
quiet-step t x item items e s = ap (λ (h : Half). h.sent) (settled-half t x item (pipe t items)) ∙ ap (λ (h : Half). h.sent) (settle-same t.depth (half x (apply t.size item (pipe t items))) e) ∙ s

-- a landing: what is taken is not told
due-of-taken : (depth : ℕ) (o : Option Sent) (h : Half) → IsOpenEnd h → MaySent IsOpenSent o → is_due depth h ≡ false → (is_due depth (takes o h) ≡ false) × ((takes o h).sent ≡ h.sent)
due-of-taken depth None h w p e = (e, refl)
due-of-taken depth (Some m) h w p e = let q = takes-open-is m h p w in (ap (λ k. is_due depth k) q ∙ e, ap (λ (k : Half). k.sent) q)

-- a landing makes neither end post
pub landing-quiet : (t : Terms) (x y : Side) (items : List Item) → EachItem keeps_open items → (half x (pipe t (Lands y ∷ items))).sent ≡ (half x (pipe t items)).sent
landing-quiet t A A items k = quiet-step t A (Lands A) items (nothing-due t A items) refl
landing-quiet t B B items k = quiet-step t B (Lands B) items (nothing-due t B items) refl
landing-quiet t A B items k =
    let a = half-open t A items k in
    let b = half-open t B items k in
    let q = due-of-taken t.depth (head (to_land (half B (pipe t items)))) (half A (pipe t items)) a (each-head IsOpenSent (half B (pipe t items)).landed (half B (pipe t items)).sent b.sent) (nothing-due t A items) in
    quiet-step t A (Lands B) items q.0 q.1
landing-quiet t B A items k =
    let a = half-open t A items k in
    let b = half-open t B items k in
    let q = due-of-taken t.depth (head (to_land (half A (pipe t items)))) (half B (pipe t items)) b (each-head IsOpenSent (half A (pipe t items)).landed (half A (pipe t items)).sent a.sent) (nothing-due t B items) in
    quiet-step t B (Lands A) items q.0 q.1

-- an end that is up may be said to come up again on its link
due-again : (depth : ℕ) (h : Half) (link : LinkId) → h.up ≡ true → h.link ≡ link → is_due depth h ≡ false → is_due depth (comes_up link h) ≡ false
due-again depth h link u l e =
    ap (λ k. (true && not (is_group_gone h.phase)) && (has_link k h.live && (nat_lt (length h.flight) depth && not (tells_same (present h) h.last)))) (sym l) ∙
    ap (λ b. (b && not (is_group_gone h.phase)) && (has_link h.link h.live && (nat_lt (length h.flight) depth && not (tells_same (present h) h.last)))) (sym u) ∙ e

up-half : (t : Terms) (x : Side) (link : LinkId) (p : Pipe) → half x (apply t.size (Up x link) p) ≡ comes_up link (half x p)
up-half t A link p = refl
up-half t B link p = refl

up-quiet : (t : Terms) (x : Side) (link : LinkId) (items : List Item) → is_due t.depth (comes_up link (half x (pipe t items))) ≡ false → (half x (pipe t (Up x link ∷ items))).sent ≡ (half x (pipe t items)).sent
up-quiet t x link items e =
    let u = up-half t x link (pipe t items) in
    quiet-step t x (Up x link) items (ap (λ h. is_due t.depth h) u ∙ e) (ap (λ (h : Half). h.sent) u)

pub again-quiet : (t : Terms) (x : Side) (link : LinkId) (items : List Item) → (half x (pipe t items)).up ≡ true → (half x (pipe t items)).link ≡ link → (half x (pipe t (Up x link ∷ items))).sent ≡ (half x (pipe t items)).sent
again-quiet t x link items u l = up-quiet t x link items (due-again t.depth (half x (pipe t items)) link u l (nothing-due t x items))

-- an end that was never called has nothing to tell
pub record IsUntouched (h : Half) : Type 0 where
  pub out : h.out ≡ []
  pub rd : h.rd ≡ 0
  pub told : h.last.told ≡ 0
  pub read : h.last.read ≡ 0

abbrev KeepsOwn : Half → Half → Type 0
KeepsOwn h k = (k.out ≡ h.out) × (k.rd ≡ h.rd) × (k.last ≡ h.last)

untouched-by : (h k : Half) → KeepsOwn h k → IsUntouched h → IsUntouched k
untouched-by h k e u = record { out = e.0 ∙ u.out; rd = e.1 ∙ u.rd; told = ap (λ (s : Snapshot). s.told) e.2 ∙ u.told; read = ap (λ (s : Snapshot). s.read) e.2 ∙ u.read }

own-takes : (o : Option Sent) (h : Half) → KeepsOwn h (takes o h)
own-takes None h = (refl, refl, refl)
own-takes (Some m) h = either (KeepsOwn h) h (if m.check then validates m.snapshot.number h else takes_snapshot m.snapshot h) (is_over h) (refl, refl, refl)
    (either (KeepsOwn h) (validates m.snapshot.number h) (takes_snapshot m.snapshot h) m.check
    (either (KeepsOwn h) (strikes (Gap (wire_number m.snapshot.number) (wire_number h.taken.number)) h) h (shows_gap m.snapshot.number h.taken.number) (refl, refl, refl) (refl, refl, refl))
    (either (KeepsOwn h) (strikes PeerAbort (record h { taken = m.snapshot })) (record h { taken = m.snapshot }) m.snapshot.aborted (refl, refl, refl) (refl, refl, refl)))

own-completes : (o : Option Sent) (h : Half) → KeepsOwn h (completes o h)
own-completes None h = (refl, refl, refl)
own-completes (Some m) h = either (KeepsOwn h) (counts_completed h) (record (counts_completed h) { fin = m.snapshot; flight = drop 1 h.flight; phase = after_completing m.snapshot h.phase }) m.check (refl, refl, refl) (refl, refl, refl)

own-fate : (link : LinkId) (phase : LinkPhase) (h : Half) → KeepsOwn h (meets_fate link phase h)
own-fate link Unused h = (refl, refl, refl)
own-fate link Pending h = (refl, refl, refl)
own-fate link Live h = (refl, refl, refl)
own-fate link Dead h = (refl, refl, refl)

-- that calls are only made on an end that is up
abbrev pub IsCallUp : Item → Pipe → Type 0
IsCallUp (Calls x call) p = (half x p).up ≡ true
IsCallUp _ p = Unit {0}

abbrev pub AreCallsUp : Terms → List Item → Type 0
AreCallsUp t [] = Unit {0}
AreCallsUp t (item ∷ items) = IsCallUp item (pipe t items) × AreCallsUp t items

own-apply : (size : ℕ) (x : Side) (item : Item) (p : Pipe) → keeps_open item ≡ true → IsCallUp item p → (half x p).up ≡ false → KeepsOwn (half x p) (half x (apply size item p))
own-apply size A (Fate A link phase) p k c u = own-fate link phase p.a
own-apply size A (Fate B link phase) p k c u = (refl, refl, refl)
own-apply size B (Fate A link phase) p k c u = (refl, refl, refl)
own-apply size B (Fate B link phase) p k c u = own-fate link phase p.b
own-apply size x (GroupEnd y) p k c u = absurd (true≢false (sym k))
own-apply size A (Up A link) p k c u = (refl, refl, refl)
own-apply size A (Up B link) p k c u = (refl, refl, refl)
own-apply size B (Up A link) p k c u = (refl, refl, refl)
own-apply size B (Up B link) p k c u = (refl, refl, refl)
own-apply size A (Calls A call) p k c u = absurd (true≢false (sym c ∙ u))
own-apply size A (Calls B call) p k c u = (refl, refl, refl)
own-apply size B (Calls A call) p k c u = (refl, refl, refl)
own-apply size B (Calls B call) p k c u = absurd (true≢false (sym c ∙ u))
own-apply size A (Lands A) p k c u = (refl, refl, refl)
own-apply size A (Lands B) p k c u = own-takes (head (to_land p.b)) p.a
own-apply size B (Lands A) p k c u = own-takes (head (to_land p.a)) p.b
own-apply size B (Lands B) p k c u = (refl, refl, refl)
own-apply size A (Completes A) p k c u = own-completes (head (to_complete p.a)) p.a
own-apply size A (Completes B) p k c u = (refl, refl, refl)
own-apply size B (Completes A) p k c u = (refl, refl, refl)
own-apply size B (Completes B) p k c u = own-completes (head (to_complete p.b)) p.b

pub not-due-down : (depth : ℕ) (h : Half) → h.up ≡ false → is_due depth h ≡ false
not-due-down depth h e = ap (λ b. (b && not (is_group_gone h.phase)) && (has_link h.link h.live && (nat_lt (length h.flight) depth && not (tells_same (present h) h.last)))) e

first-untouched : (number : ℕ) → IsUntouched (fresh number)
first-untouched number = record { out = refl; rd = refl; told = refl; read = refl }

pub untouched : (t : Terms) (x : Side) (items : List Item) → EachItem keeps_open items → AreCallsUp t items → (half x (pipe t items)).up ≡ false → IsUntouched (half x (pipe t items))
untouched t A [] k c u = first-untouched t.number
untouched t B [] k c u = first-untouched t.number
untouched t x (item ∷ items) k c u =
    let p : Pipe = pipe t items in
    let d : (half x p).up ≡ false = or-right (raises x item) (half x p).up (sym (step-up t x item p) ∙ u) in
    let a : (half x (apply t.size item p)).up ≡ false = apply-up t.size x item p ∙ sym (step-up t x item p) ∙ u in
    subst (λ h. IsUntouched h) (sym (settled-half t x item p ∙ settle-same t.depth (half x (apply t.size item p)) (not-due-down t.depth (half x (apply t.size item p)) a)))
    (untouched-by (half x p) (half x (apply t.size item p)) (own-apply t.size x item p k.0 c.0 d) (untouched t x items k.1 c.1 d))

-- what such an end would tell is what counts as told
nothing-to-tell : (number : ℕ) (out : ℕ) (rd : ℕ) (done closed aborted : Bool) (last : Snapshot) → out ≡ last.told → rd ≡ last.read → done ≡ false → closed ≡ false → aborted ≡ false → last.done ≡ false → last.closed ≡ false → last.aborted ≡ false →
    tells_same (record { number = number; told = out; read = rd; done = done; closed = closed; aborted = aborted }) last ≡ true
nothing-to-tell number out rd done closed aborted last a b c d e f g h =
    ap (λ q. (q && (rd == last.read)) && (same_bool done last.done && (same_bool closed last.closed && same_bool aborted last.aborted))) (eq-eqb out last.told a) ∙
    ap (λ q. (true && q) && (same_bool done last.done && (same_bool closed last.closed && same_bool aborted last.aborted))) (eq-eqb rd last.read b) ∙
    rw (c, d, e, f, g, h) refl

new-not-due : (depth : ℕ) (h : Half) (link : LinkId) → IsUntouched h → IsOpenEnd h → is_due depth (comes_up link h) ≡ false
new-not-due depth h link u o =
    let l = o.last in
    let told : (if is_some (cause_of h.phase) then h.last.told else length h.out) ≡ h.last.told =
    ap (λ b. if b then h.last.told else length h.out) (ap (λ p. is_some (cause_of p)) o.phase) ∙ ap (λ ns. length ns) u.out ∙ sym u.told in
    let same = nothing-to-tell (h.number + 1) (if is_some (cause_of h.phase) then h.last.told else length h.out) h.rd h.finished (is_closing h.phase && (h.fin.told == length h.out)) (is_some (cause_of h.phase)) h.last
    told (u.rd ∙ sym u.read) o.finished (ap (λ p. is_closing p && (h.fin.told == length h.out)) o.phase) (ap (λ p. is_some (cause_of p)) o.phase) l.done l.closed l.aborted in
    last-false (true && not (is_group_gone h.phase)) (has_link link h.live) (nat_lt (length h.flight) depth) (tells_same (present (comes_up link h)) h.last) same
  where
    last-false : (a b c d : Bool) → d ≡ true → (a && (b && (c && not d))) ≡ false
    last-false true true true d e = ap (λ q. not q) e
    last-false true true false d e = refl
    last-false true false c d e = refl
    last-false false b c d e = refl

-- an end that comes up posts nothing
pub new-quiet : (t : Terms) (x : Side) (link : LinkId) (items : List Item) → EachItem keeps_open items → AreCallsUp t items → (half x (pipe t items)).up ≡ false → (half x (pipe t (Up x link ∷ items))).sent ≡ (half x (pipe t items)).sent
new-quiet t x link items k c u = up-quiet t x link items (new-not-due t.depth (half x (pipe t items)) link (untouched t x items k c u) (half-open t x items k))

-- with one item an end posts at most one message
settle-one : (depth : ℕ) (h : Half) (before : List Sent) → h.sent ≡ before → length (settle depth h).sent ≤ length before + 1
settle-one depth h before e =
    let n : length (h.sent ++ batch h ∷ []) ≡ length h.sent + 1 = length-append h.sent (batch h ∷ []) in
    let l : length h.sent ≡ length before = ap (λ ms. length ms) e in
    either (λ k. length k.sent ≤ length before + 1) (posts_batch h) h (is_due depth h) (omega (arith, n, l)) (omega (arith, l))

pub one-more : (t : Terms) (x : Side) (item : Item) (items : List Item) → (half x (apply t.size item (pipe t items))).sent ≡ (half x (pipe t items)).sent → length (half x (pipe t (item ∷ items))).sent ≤ length (half x (pipe t items)).sent + 1
one-more t x item items e = subst (λ (h : Half). length h.sent ≤ length (half x (pipe t items)).sent + 1) (sym (settled-half t x item (pipe t items))) (settle-one t.depth (half x (apply t.size item (pipe t items))) (half x (pipe t items)).sent e)
