-- The messages of an open end tell its bytes without a hole, and those that are to land go on from what its peer was told.
use Rattle.std.proofs.Common.{◌≡◌, ◌∙◌, ◌==◌, inl, inr, ℕ, ◌+◌, ◌<◌, ◌≤◌, min, max, Bool, true, false, if◌then◌else◌, List, [], ◌∷◌, ◌++◌, length, take, drop, refl, ap, sym, subst, ◌||◌, true≢false, arith, eq-eqb, zero, suc}
use Rattle.std.proofs.lemmas.Bool.{cases_lt}
use Rattle.std.specs.Prelude.{Option, Some, None, is_some}
use Rattle.std.proofs.lemmas.List.{drop-append-le}
use Rattle.smc_num.specs.declared.Side.{Side}
use Rattle.smc_num.specs.declared.Side.TheVariants.{A, B}
use Rattle.smc_num.specs.declared.LinkId.{LinkId}
use Rattle.smc_num.specs.declared.LinkPhase.{LinkPhase}
use Rattle.smc_num.specs.declared.LinkPhase.TheVariants.{Unused, Pending, Live, Dead}
use Rattle.smc_num.specs.Names.{other, head}
use Rattle.pipe_model.specs.declared.closing.Phase.TheVariants.{Open}
use Rattle.pipe_model.specs.declared.sent.Sent.{Sent}
use Rattle.pipe_model.specs.declared.closing.Phase.{Phase}
use Rattle.pipe_model.specs.Closing.{cause_of, is_closing}
use Rattle.pipe_model.specs.Ends.{Half, settle, is_due, meets_fate, takes, completes, counts_completed, batch, present, posts_batch, window, unread, to_land, to_complete, lands}
use Rattle.pipe_model.specs.Calls.{Call, Writes, Reads, calls, is_ended}
use Rattle.pipe_model.specs.Pipe.{Pipe, Terms, Item, Fate, GroupEnd, Up, Calls, Lands, Completes, half, pipe, apply}
use Rattle.pipe_model.specs.Parts.{EachOf, IsFeasible, CanFollow, actor, is_broken, has_swallow, swallows, IsMarked}
use Rattle.pipe_model.proofs.Pipes.{next-of, is-marked, both-after}
use Rattle.world_core.specs.Wired.{EachItem, keeps_open, IsOpenEnd, IsOpenSent}
use Rattle.world_core.specs.Landed.{GoOn, Follows}
use Rattle.world_core.proofs.OpenEnds.{takes-open-is, completes-open-is, both-open, apply-open, BothOpen}

pub go-append : (reach last : ℕ) (ms : List Sent) (m : Sent) → GoOn reach ms last → m.from ≡ last → GoOn reach (ms ++ m ∷ []) m.snapshot.told
go-append reach last [] m g e = (e ∙ sym g, refl)
go-append reach last (k ∷ ms) m g e = (g.0, go-append k.snapshot.told last ms m g.1 e)

-- where messages go on to is told by them
pub go-last : (reach last reach2 last2 : ℕ) (ms : List Sent) (m : Sent) → GoOn reach ms last → GoOn reach (ms ++ m ∷ []) last2 → (m.from ≡ last) × (m.snapshot.told ≡ last2)
go-last reach last reach2 last2 [] m g h = (h.0 ∙ g, h.1)
go-last reach last reach2 last2 (k ∷ ms) m g h = go-last k.snapshot.told last reach2 last2 ms m g.1 h.1

abbrev Both : Half → Half → Type 0
Both h k = Follows h k × Follows k h

pick : (h1 h2 k : Half) (b : Bool) → Both h1 k → Both h2 k → Both (if b then h1 else h2) k
pick h1 h2 k true p q = p
pick h1 h2 k false p q = q

pick-peer : (h k1 k2 : Half) (b : Bool) → Both h k1 → Both h k2 → Both h (if b then k1 else k2)
pick-peer h k1 k2 true p q = p
pick-peer h k1 k2 false p q = q

-- posting
posts : (h k : Half) → h.phase ≡ Open → h.landed ≤ length h.sent → Both h k → Both (posts_batch h) k
posts h k is_open within f =
    let w = f.0 in
    let from : (batch h).from ≡ h.last.told = ap (λ (q : Phase). if is_some (cause_of q) then (present h).told else h.last.told) is_open in
    let d : drop h.landed (h.sent ++ batch h ∷ []) ≡ drop h.landed h.sent ++ batch h ∷ [] = drop-append-le h.landed h.sent (batch h ∷ []) within in (
      (
        go-append 0 h.last.told h.sent (batch h) w.0 from,
        subst (λ ms. GoOn k.taken.told ms (present h).told) (sym d) (go-append k.taken.told h.last.told (drop h.landed h.sent) (batch h) w.1 from),
      ),
      f.1,
    )

turn : (h k : Half) → Both h k → Both k h
turn h k f = (f.1, f.0)

settled : (depth : ℕ) (h k : Half) → h.phase ≡ Open → k.phase ≡ Open → h.landed ≤ length h.sent → k.landed ≤ length k.sent → Both h k → Both (settle depth h) (settle depth k)
settled depth h k oh ok wh wk f =
    let mine : Both (settle depth h) k = pick (posts_batch h) h k (is_due depth h) (posts h k oh wh f) f in
    pick-peer (settle depth h) (posts_batch k) k (is_due depth k) (turn (posts_batch k) (settle depth h) (posts k (settle depth h) ok wk (turn (settle depth h) k mine))) mine

fate : (link : LinkId) (phase : LinkPhase) (h k : Half) → Both h k → Both (meets_fate link phase h) k
fate link Unused h k f = f
fate link Pending h k f = f
fate link Live h k f = f
fate link Dead h k f = f

call : (size : ℕ) (c : Call) (h k : Half) → keeps_open (Calls A c) ≡ true → Both h k → Both (calls size c h) k
call size (Writes bytes) h k o f = pick h (record h { out = h.out ++ take (window size h) bytes }) k (is_some (cause_of h.phase) || is_ended h) f f
call size (Reads n) h k o f = pick h (record h { rd = h.rd + min n (unread h) }) k (is_some (cause_of h.phase) || is_closing h.phase) f f
call size _ h k o f = absurd (true≢false (sym o))

abbrev IsOr : Option Sent → Type 0
IsOr None = Unit {0}
IsOr (Some n) = IsOpenSent n

open-of : (m : Sent) (ms : List Sent) (i : ℕ) (all : List Sent) → drop i all ≡ m ∷ ms → EachOf IsOpenSent all → IsOpenSent m
open-of m ms zero (k ∷ ks) e o = subst (λ (n : Option Sent). IsOr n) (ap (λ ns. head ns) e) o.0
open-of m ms zero [] e o = absurd (true≢false (sym (ap (λ ns. is_some (head ns)) e)))
open-of m ms (suc i) [] e o = absurd (true≢false (sym (ap (λ ns. is_some (head ns)) e)))
open-of m ms (suc i) (k ∷ ks) e o = open-of m ms i ks e o.1

-- a message lands
landed : (h k : Half) → h.landed < length h.sent → IsOpenEnd h → IsOpenEnd k → Both h k → Both (lands h) (takes (head (to_land h)) k)
landed h k more oh ok f =
    let next = next-of h.landed h.sent more in
    let m : Sent = next.0 in
    let first : head (to_land h) ≡ Some m = ap (λ ms. head ms) next.1 in
    let w = f.0 in
    let g : GoOn k.taken.told (m ∷ drop (h.landed + 1) h.sent) h.last.told = subst (λ ms. GoOn k.taken.told ms h.last.told) next.1 w.1 in
    let after : Both (lands h) (record k { taken = m.snapshot }) = ((w.0, g.1), f.1) in
    subst (λ o. Both (lands h) (takes o k)) (sym first)
    (subst (λ q. Both (lands h) q) (sym (takes-open-is m k (open-of m (drop (h.landed + 1) h.sent) h.landed h.sent next.1 oh.sent) ok)) after)

-- one that has landed completes
counted : (h k : Half) → h.completed < h.landed → Both h k → Both (counts_completed h) k
counted h k l f =
    let e : h.landed ≡ max h.landed (h.completed + 1) = omega (arith, l) in
    let w = f.0 in ((w.0, subst (λ n. GoOn k.taken.told (drop n h.sent) h.last.told) e w.1), f.1)

completed : (h k : Half) → h.completed < h.landed → h.landed ≤ length h.sent → IsOpenEnd h → Both h k → Both (completes (head (to_complete h)) h) k
completed h k l within oh f =
    let next = next-of h.completed h.sent (omega (arith, l, within)) in
    let m : Sent = next.0 in
    let first : head (to_complete h) ≡ Some m = ap (λ ms. head ms) next.1 in
    subst (λ o. Both (completes o h) k) (sym first)
    (subst (λ q. Both q k) (sym (completes-open-is m h (open-of m (drop (h.completed + 1) h.sent) h.completed h.sent next.1 oh.sent) oh)) (counted h k l f))

below-mark : (completed landed : ℕ) → (completed == landed) ≡ false → completed ≤ landed → completed < landed
below-mark completed landed n l = elim (cases_lt completed landed) [
  | inl less ↦ less
  | inr more ↦ absurd (true≢false (sym (eq-eqb completed landed (omega (arith, more, l))) ∙ n))
]

abbrev BothIn : Pipe → Type 0
BothIn p = Both p.a p.b

of-or : (a b : Bool) → (a || b) ≡ false → (a ≡ false) × (b ≡ false)
of-or true b e = absurd (true≢false e)
of-or false b e = (refl, e)

abbrev MayGo : Item → Pipe → Type 0
MayGo (Lands x) p = (half x p).landed < length (half x p).sent
MayGo (Completes x) p = (half x p).completed < (half x p).landed
MayGo _ p = Unit {0}

may-go : (item : Item) (p : Pipe) (broken : Bool) → CanFollow item (half (actor item) p) broken → swallows item p ≡ false → ((x : Side) → IsMarked (half x p)) → MayGo item p
may-go (Fate x link phase) p b c s m = tt
may-go (GroupEnd x) p b c s m = tt
may-go (Up x link) p b c s m = tt
may-go (Calls x c) p b f s m = tt
may-go (Lands x) p b c s m = c.0
may-go (Completes x) p b c s m = let k = m x in below-mark (half x p).completed (half x p).landed s k.completed_landed

applied : (size : ℕ) (item : Item) (p : Pipe) → keeps_open item ≡ true → MayGo item p → ((x : Side) → IsMarked (half x p)) → BothOpen p → BothIn p → BothIn (apply size item p)
applied size (Fate A link phase) p k c m o f = fate link phase p.a p.b f
applied size (Fate B link phase) p k c m o f = let g = fate link phase p.b p.a (f.1, f.0) in (g.1, g.0)
applied size (GroupEnd x) p k c m o f = absurd (true≢false (sym k))
applied size (Up A link) p k c m o f = f
applied size (Up B link) p k c m o f = f
applied size (Calls A d) p k c m o f = call size d p.a p.b k f
applied size (Calls B d) p k c m o f = let g = call size d p.b p.a k (f.1, f.0) in (g.1, g.0)
applied size (Lands A) p k c m o f = landed p.a p.b c o.0 o.1 f
applied size (Lands B) p k c m o f = let g = landed p.b p.a c o.1 o.0 (f.1, f.0) in (g.1, g.0)
applied size (Completes A) p k c m o f = let n = m A in completed p.a p.b c n.landed_sent o.0 f
applied size (Completes B) p k c m o f = let n = m B in let g = completed p.b p.a c n.landed_sent o.1 (f.1, f.0) in (g.1, g.0)

all-follow : (t : Terms) (items : List Item) → EachItem keeps_open items → IsFeasible t items → has_swallow t items ≡ false → BothIn (pipe t items)
all-follow t [] k f s = ((refl, refl), (refl, refl))
all-follow t (item ∷ items) k f s =
    let w = of-or (has_swallow t items) (swallows item (pipe t items)) s in
    let p : Pipe = pipe t items in
    let o = both-open t items k.1 in
    let q = applied t.size item p k.0 (may-go item p (is_broken t (actor item) items) f.0 w.1 (λ x. is-marked t x items f.1)) (λ x. is-marked t x items f.1) o (all-follow t items k.1 f.1 w.0) in
    let g = apply-open t.size item p k.0 o in
    let a = g.0 in
    let b = g.1 in
    let n = both-after t A item items f in
    let na = n.0 in
    let nb = n.1 in
    let wa = na.1 in
    let wb = nb.1 in
    settled t.depth (apply t.size item p).a (apply t.size item p).b a.phase b.phase wa.within wb.within q

-- of both ends
pub follows : (t : Terms) (x : Side) (items : List Item) → EachItem keeps_open items → IsFeasible t items → has_swallow t items ≡ false → Follows (half x (pipe t items)) (half (other x) (pipe t items))
follows t A items k f s = let g = all-follow t items k f s in g.0
follows t B items k f s = let g = all-follow t items k f s in g.1
