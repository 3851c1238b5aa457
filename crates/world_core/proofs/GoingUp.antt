-- What an end has not completed goes on from what has, so that its peer was told no less than has completed.
use Rattle.std.proofs.Common.{◌≡◌, ◌∙◌, ℕ, ◌+◌, ◌-◌, ◌<◌, ◌≤◌, min, Bool, true, false, if◌then◌else◌, List, [], ◌∷◌, ◌++◌, length, take, drop, refl, ap, sym, subst, ◌||◌, true≢false, arith}
use Rattle.std.specs.Prelude.{Option, Some, None, is_some}
use Rattle.std.proofs.lemmas.List.{drop-append-le, drop-drop, take-append-drop}
use Rattle.smc_num.specs.declared.Side.{Side}
use Rattle.smc_num.specs.declared.Side.TheVariants.{A, B}
use Rattle.smc_num.specs.declared.LinkId.{LinkId}
use Rattle.smc_num.specs.declared.LinkPhase.{LinkPhase}
use Rattle.smc_num.specs.declared.LinkPhase.TheVariants.{Unused, Pending, Live, Dead}
use Rattle.smc_num.specs.Names.{other, head}
use Rattle.pipe_model.specs.declared.closing.Phase.{Phase}
use Rattle.pipe_model.specs.declared.sent.Sent.{Sent}
use Rattle.pipe_model.specs.Closing.{cause_of, is_closing}
use Rattle.pipe_model.specs.Ends.{Half, settle, is_due, meets_fate, takes, completes, batch, present, posts_batch, window, unread, to_land, to_complete}
use Rattle.pipe_model.specs.Calls.{Call, Writes, Reads, calls, is_ended}
use Rattle.pipe_model.specs.Pipe.{Pipe, Terms, Item, Fate, GroupEnd, Up, Calls, Lands, Completes, half, pipe, apply}
use Rattle.pipe_model.specs.Parts.{IsFeasible, CanFollow, actor, is_broken, has_swallow, IsMarked}
use Rattle.pipe_model.proofs.Pipes.{next-of, is-marked, both-after}
use Rattle.world_core.specs.Wired.{EachItem, keeps_open, IsOpenEnd, IsOpenSent}
use Rattle.world_core.specs.Landed.{GoOn}
use Rattle.world_core.proofs.Growth.{either, settled-half}
use Rattle.world_core.proofs.OpenEnds.{takes-open-is, completes-open-is, both-open, apply-open, BothOpen, each-head, MaySent, of-half}
use Rattle.world_core.proofs.Follows.{follows}

-- that messages go on from one count to another, and none tells less than the one before it
abbrev GoUp : ℕ → List Sent → ℕ → Type 0
GoUp reach [] last = reach ≡ last
GoUp reach (m ∷ ms) last = (m.from ≡ reach) × (reach ≤ m.snapshot.told) × GoUp m.snapshot.told ms last

abbrev GoesUp : Half → Type 0
GoesUp h = GoUp h.fin.told (to_complete h) h.last.told

up-append : (reach last : ℕ) (ms : List Sent) (m : Sent) → GoUp reach ms last → m.from ≡ last → last ≤ m.snapshot.told → GoUp reach (ms ++ m ∷ []) m.snapshot.told
up-append reach last [] m g e l = (e ∙ sym g, omega (arith, g, l), refl)
up-append reach last (k ∷ ms) m g e l = (g.0, g.1, up-append k.snapshot.told last ms m g.2 e l)

-- posting
posts : (h : Half) → IsOpenEnd h → h.completed ≤ length h.sent → h.last.told ≤ length h.out → GoesUp h → GoesUp (posts_batch h)
posts h o within out g =
    let is_open = o.phase in
    let from : (batch h).from ≡ h.last.told = ap (λ (q : Phase). if is_some (cause_of q) then (present h).told else h.last.told) is_open in
    let told : (present h).told ≡ length h.out = ap (λ (q : Phase). if is_some (cause_of q) then h.last.told else length h.out) is_open in
    let d : drop h.completed (h.sent ++ batch h ∷ []) ≡ drop h.completed h.sent ++ batch h ∷ [] = drop-append-le h.completed h.sent (batch h ∷ []) within in
    subst (λ ms. GoUp h.fin.told ms (present h).told) (sym d) (up-append h.fin.told h.last.told (drop h.completed h.sent) (batch h) g from (omega (arith, told, out)))

settled : (depth : ℕ) (h : Half) → IsOpenEnd h → h.completed ≤ length h.sent → h.last.told ≤ length h.out → GoesUp h → GoesUp (settle depth h)
settled depth h o within out g = either (λ k. GoesUp k) (posts_batch h) h (is_due depth h) (posts h o within out g) g

-- the items
fate : (link : LinkId) (phase : LinkPhase) (h : Half) → GoesUp h → GoesUp (meets_fate link phase h)
fate link Unused h g = g
fate link Pending h g = g
fate link Live h g = g
fate link Dead h g = g

call : (size : ℕ) (c : Call) (h : Half) → keeps_open (Calls A c) ≡ true → GoesUp h → GoesUp (calls size c h)
call size (Writes bytes) h o g = either (λ k. GoesUp k) h (record h { out = h.out ++ take (window size h) bytes }) (is_some (cause_of h.phase) || is_ended h) g g
call size (Reads n) h o g = either (λ k. GoesUp k) h (record h { rd = h.rd + min n (unread h) }) (is_some (cause_of h.phase) || is_closing h.phase) g g
call size _ h o g = absurd (true≢false (sym o))

taken : (o : Option Sent) (h : Half) → MaySent IsOpenSent o → IsOpenEnd h → GoesUp h → GoesUp (takes o h)
taken None h q oh g = g
taken (Some m) h q oh g = subst (λ k. GoesUp k) (sym (takes-open-is m h q oh)) g

completed : (h : Half) → h.completed < length h.sent → IsOpenEnd h → GoesUp h → GoesUp (completes (head (to_complete h)) h)
completed h more oh g =
    let next = next-of h.completed h.sent more in
    let m : Sent = next.0 in
    let first : head (to_complete h) ≡ Some m = ap (λ ms. head ms) next.1 in
    let q : IsOpenSent m = subst (λ o. MaySent IsOpenSent o) first (each-head IsOpenSent h.completed h.sent oh.sent) in
    let all : GoUp h.fin.told (m ∷ drop (h.completed + 1) h.sent) h.last.told = subst (λ ms. GoUp h.fin.told ms h.last.told) next.1 g in
    subst (λ o. GoesUp (completes o h)) (sym first) (subst (λ k. GoesUp k) (sym (completes-open-is m h q oh)) all.2)

abbrev MayGo : Item → Pipe → Type 0
MayGo (Completes x) p = (half x p).completed < length (half x p).sent
MayGo _ p = Unit {0}

may-go : (item : Item) (p : Pipe) (broken : Bool) → CanFollow item (half (actor item) p) broken → MayGo item p
may-go (Fate x link phase) p b c = tt
may-go (GroupEnd x) p b c = tt
may-go (Up x link) p b c = tt
may-go (Calls x d) p b c = tt
may-go (Lands x) p b c = tt
may-go (Completes x) p b c = c

applied : (size : ℕ) (x : Side) (item : Item) (p : Pipe) → keeps_open item ≡ true → MayGo item p → BothOpen p → GoesUp (half x p) → GoesUp (half x (apply size item p))
applied size A (Fate A link phase) p k c o g = fate link phase p.a g
applied size A (Fate B link phase) p k c o g = g
applied size B (Fate A link phase) p k c o g = g
applied size B (Fate B link phase) p k c o g = fate link phase p.b g
applied size x (GroupEnd y) p k c o g = absurd (true≢false (sym k))
applied size A (Up A link) p k c o g = g
applied size A (Up B link) p k c o g = g
applied size B (Up A link) p k c o g = g
applied size B (Up B link) p k c o g = g
applied size A (Calls A d) p k c o g = call size d p.a k g
applied size A (Calls B d) p k c o g = g
applied size B (Calls A d) p k c o g = g
applied size B (Calls B d) p k c o g = call size d p.b k g
applied size A (Lands A) p k c o g = g
applied size A (Lands B) p k c o g = let b = o.1 in taken (head (to_land p.b)) p.a (each-head IsOpenSent p.b.landed p.b.sent b.sent) o.0 g
applied size B (Lands A) p k c o g = let a = o.0 in taken (head (to_land p.a)) p.b (each-head IsOpenSent p.a.landed p.a.sent a.sent) o.1 g
applied size B (Lands B) p k c o g = g
applied size A (Completes A) p k c o g = completed p.a c o.0 g
applied size A (Completes B) p k c o g = g
applied size B (Completes A) p k c o g = g
applied size B (Completes B) p k c o g = completed p.b c o.1 g

goes-up : (t : Terms) (x : Side) (items : List Item) → EachItem keeps_open items → IsFeasible t items → GoesUp (half x (pipe t items))
goes-up t A [] k f = refl
goes-up t B [] k f = refl
goes-up t x (item ∷ items) k f =
    let p : Pipe = pipe t items in
    let o = both-open t items k.1 in
    let g = applied t.size x item p k.0 (may-go item p (is_broken t (actor item) items) f.0) o (goes-up t x items k.1 f.1) in
    let n = both-after t x item items f in
    let w = n.0 in
    let counts = w.0 in
    let flight = w.2 in
    subst (λ h. GoesUp h) (sym (settled-half t x item p))
    (settled t.depth (half x (apply t.size item p)) (of-half x (apply t.size item p) (apply-open t.size item p k.0 o)) flight.within counts.last_out g)

-- what stands before others that go on from a count tells no more
up-split : (reach last count : ℕ) (xs ys : List Sent) → GoUp reach (xs ++ ys) last → GoOn count ys last → reach ≤ count
up-split reach last count [] [] g h = omega (arith, g, h)
up-split reach last count [] (m ∷ ms) g h = let a = g.0 in let b = h.0 in omega (arith, a, b)
up-split reach last count (m ∷ xs) ys g h = let a = g.1 in let b = up-split m.snapshot.told last count xs ys g.2 h in omega (arith, a, b)

-- what has completed was told to the peer
pub completed-told : (t : Terms) (x : Side) (items : List Item) → EachItem keeps_open items → IsFeasible t items → has_swallow t items ≡ false → (half x (pipe t items)).fin.told ≤ (half (other x) (pipe t items)).taken.told
completed-told t x items k f s =
    let h : Half = half x (pipe t items) in
    let m : IsMarked h = is-marked t x items f in
    let g = follows t x items k f s in
    let n : h.completed + (h.landed - h.completed) ≡ h.landed = omega (arith, m.completed_landed) in
    let d : drop (h.landed - h.completed) (drop h.completed h.sent) ≡ to_land h = drop-drop (h.landed - h.completed) h.completed h.sent ∙ ap (λ i. drop i h.sent) n in
    let all : take (h.landed - h.completed) (to_complete h) ++ to_land h ≡ to_complete h = ap (λ ms. take (h.landed - h.completed) (to_complete h) ++ ms) (sym d) ∙ take-append-drop (h.landed - h.completed) (to_complete h) in
    up-split h.fin.told h.last.told (half (other x) (pipe t items)).taken.told (take (h.landed - h.completed) (to_complete h)) (to_land h)
    (subst (λ ms. GoUp h.fin.told ms h.last.told) (sym all) (goes-up t x items k f)) g.1
