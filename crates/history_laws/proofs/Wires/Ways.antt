-- Which of the three ways an entry goes: calls and CLC messages leave the wires alone, a delivery and a completion move one post.
use Rattle.std.proofs.Common.{Bool, List, [], ap, cond, drop, false, if◌then◌else◌, inl, inr, nat_lt, not, refl, subst, sym, take, true, true≢false, ℕ, ◌&&◌, ◌==◌, ◌∙◌, ◌∷◌, ◌≡◌, ◌⊎◌}
use Rattle.pipe_model.specs.Pipe.{Lands}
use Rattle.std.specs.Prelude.{None, Option, Some, find, is_some, option_and_then, option_map, unwrap_or}
use Rattle.pipe_model.specs.Wires.{completing, completing_on, landing, lands_on, may_swallow, swallows}
use Rattle.std.proofs.lemmas.Bool.{eqb-true}
use Rattle.pipe_model.specs.declared.event.End.{End}
use Rattle.pipe_model.specs.Connections.{call_on}
use Rattle.pipe_model.specs.declared.post.Post.TheVariants.{Clc as ClcPost, Write as WritePost}
use Rattle.pipe_model.specs.Replies.{told}
use Rattle.pipe_model.specs.declared.event.Event.TheVariants.{Write}
use Rattle.pipe_model.specs.Calls.{Moves}
use Rattle.history_laws.specs.Words.{A, Abort, Aborts, Await, Awaits, B, Call, Calls, Cdc, Close, Closes, Complete, Completed, Completes, Deliver, Dropped, Entry, Event, Finish, Finishes, Item, Known, Landed, LinkId, Llc, Move, Open, Placed, Post, PostRef, Read, Reads, Reply, Setup, Side, Swallow, Writes, completed_told, deeds, deliver_told, fabric, head, if_latest, if_own, is_cut, is_dead, is_latest, is_nil, is_own, is_up, landed_at, landing_on, lands_told, latest, leaves, link_at, other, passes, record_of, reply_of, same_link, same_side, some_reported, swallow_limit, swallowed, swallowed_on, uncompleted, unlanded}
use Rattle.history_laws.specs.Wires.{CompletesNow, LandsNow, Stays, completing_now, landing_now, leaving}
use Rattle.history_laws.specs.Items.{EachItem}
use Rattle.history_laws.proofs.Basics.{and-both, and-false, entry-of, link-is, or-none, same-is}

abbrev pub Chosen : Bool → ℕ → ℕ
Chosen b n = if b then n else 0

-- whether an item is no landing and no completion of the end at a side
abbrev pub apart : Side → Item → Bool
apart x (Lands y) = not (same_side x y)
apart x (Completes y) = not (same_side x y)
apart x _ = true

-- the first of a queue of the latest link of a slot is found, or nothing is
pub data Where (k : ℕ) (past : List Entry) (queue : LinkId → List Placed) (Good : LinkId → Type 0) (what : Option Placed) : Type 0 where
  Nowhere : what ≡ None → Where k past queue Good what
  At : (l : LinkId) (c : Placed) (rest : List Placed) → latest k past ≡ Some l → queue l ≡ c ∷ rest → what ≡ Some c → Good l → Where k past queue Good what

find-on : (k : ℕ) (past : List Entry) (queue : LinkId → List Placed) (Good : LinkId → Type 0) (shows : LinkId → Option Placed) → ((l : LinkId) → (shows l ≡ None) ⊎ (Good l × (shows l ≡ head (queue l)))) → Where k past queue Good (option_and_then shows (latest k past))
find-on k past queue Good shows ok = by (latest k past) refl
  where
    by : (o : Option LinkId) → latest k past ≡ o → Where k past queue Good (option_and_then shows (latest k past))
    by None e = Nowhere (ap (λ o. option_and_then shows o) e)
    by (Some l) e = by-shown (ok l)
      where
        by-queue : (q : List Placed) → queue l ≡ q → Good l → shows l ≡ head (queue l) → Where k past queue Good (option_and_then shows (latest k past))
        by-queue [] f g h = Nowhere (ap (λ o. option_and_then shows o) e ∙ (h ∙ ap (λ (q : List Placed). head q) f))
        by-queue (c ∷ rest) f g h = At l c rest e f (ap (λ o. option_and_then shows o) e ∙ (h ∙ ap (λ (q : List Placed). head q) f)) g

        by-shown : (shows l ≡ None) ⊎ (Good l × (shows l ≡ head (queue l))) → Where k past queue Good (option_and_then shows (latest k past))
        by-shown (inl n) = Nowhere (ap (λ o. option_and_then shows o) e ∙ n)
        by-shown (inr h) = by-queue (queue l) refl h.0 h.1

one-of : (c : Bool) (o : Option Placed) → ((if c then None else o) ≡ None) ⊎ ((c ≡ false) × ((if c then None else o) ≡ o))
one-of true o = inl refl
one-of false o = inr (refl, refl)

other-of : (c : Bool) (o : Option Placed) → ((if c then o else None) ≡ None) ⊎ ((c ≡ true) × ((if c then o else None) ≡ o))
other-of true o = inr (refl, refl)
other-of false o = inl refl

pub not-both : (a b : Bool) → (a && not b) ≡ true → (a ≡ true) × (b ≡ false)
not-both true false e = (refl, refl)
not-both true true e = absurd (true≢false (sym e))
not-both false b e = absurd (true≢false (sym e))

pub nil-is : (ps : List Placed) → is_nil ps ≡ true → ps ≡ []
nil-is [] e = refl
nil-is (p ∷ ps) e = absurd (true≢false (sym e))

-- an item that lands or completes a message of the end at a side
abbrev pub IsMessage : Side → Item → Type 0
IsMessage x (Lands y) = x ≡ y
IsMessage x (Completes y) = x ≡ y
IsMessage x _ = ⊥

-- the link of a slot is on it
slot-at : (k : ℕ) (l : LinkId) (table : List Known) → link_at k table ≡ Some l → (l.slot == k) ≡ true
slot-at k l [] e = cc
slot-at k l (n ∷ table) e = by (n.link.slot == k) refl e (slot-at k l table)
  where
    by : (b : Bool) → (n.link.slot == k) ≡ b → option_map (λ (m : Known). m.link) (cond b (Some n) (find (λ m. m.link.slot == k) table)) ≡ Some l → (link_at k table ≡ Some l → (l.slot == k) ≡ true) → (l.slot == k) ≡ true
    by true f g rest = ap (λ (m : LinkId). m.slot == k) (sym (ap (λ o. unwrap_or o l) g)) ∙ f
    by false f g rest = rest g

-- a post of a side that waits on a link is swallowed
pub record SwallowedNow (link : LinkId) (x : Side) (e : Entry) (past : List Entry) : Type 0 where
  pub first : Placed
  pub rest : List Placed
  pub waiting : unlanded link x past ≡ first ∷ rest
  pub leaves : leaving link x e past ≡ 1
  pub lands : landing_now link x e past ≡ 0
  pub completes : completing_now link x e past ≡ 0

-- what an entry does to one link and the messages of one side: nothing of the side moves; one moves, on another link; the next lands; the oldest landed one completes; the next is swallowed
pub data Goes (payload : List ℕ) (link : LinkId) (x : Side) (e : Entry) (past : List Entry) : Type 0 where
  Quietly : Stays link x e past → ((s : ℕ) → EachItem (apart x) (deeds payload s e.event e.reply past)) → Goes payload link x e past
  Elsewhere : Stays link x e past → (l : LinkId) (c : Placed) (item : Item) → same_link link l ≡ false → some_reported l past ≡ false → IsMessage x item → head (unlanded l x past) ≡ Some c ⊎ head (uncompleted l x past) ≡ Some c
      → ((s : ℕ) → deeds payload s e.event e.reply past ≡ if_own item x s (Some c.at) past) → Goes payload link x e past
  LandsHere : (l : LandsNow link x e past) → is_dead link past ≡ false → ((s : ℕ) → deeds payload s e.event e.reply past ≡ if_own (Lands x) x s (Some l.first.at) past) → Goes payload link x e past
  CompletesHere : (l : CompletesNow link x e past) → some_reported link past ≡ false → ((s : ℕ) → deeds payload s e.event e.reply past ≡ if_own (Completes x) x s (Some l.first.at) past) → Goes payload link x e past
  SwallowedHere : (l : SwallowedNow link x e past) → may_swallow link x past ≡ true → ((s : ℕ) → deeds payload s e.event e.reply past ≡ if_own (Completes x) x s (Some l.first.at) past) → Goes payload link x e past

self : (d : Side) → same_side d d ≡ true
self A = refl
self B = refl

module _ (payload : List ℕ) (link : LinkId) (past : List Entry) where
  abbrev Count : ℕ → Bool → ℕ
  Count k b = if_latest link past (if b && (link.slot == k) then 1 else 0)

  zero-of : if_latest link past 0 ≡ 0
  zero-of = by (is_latest link past)
    where
      by : (b : Bool) → Chosen b 0 ≡ 0
      by true = refl
      by false = refl

  zero-side : (k : ℕ) (b : Bool) → b ≡ false → Count k b ≡ 0
  zero-side k b e = ap (λ c. Count k c) e ∙ zero-of

  zero-else : (k : ℕ) (b : Bool) (l : LinkId) → latest k past ≡ Some l → same_link link l ≡ false → Count k b ≡ 0
  zero-else k b l e f = by (link.slot == k) refl
    where
      by : (c : Bool) → (link.slot == k) ≡ c → Count k b ≡ 0
      by false g = ap (λ c. if_latest link past (if b && c then 1 else 0)) g ∙ (ap (λ c. if_latest link past (if c then 1 else 0)) (and-false b) ∙ zero-of)
      by true g = ap (λ c. if c then (if b && (link.slot == k) then 1 else 0) else 0) (ap (λ o. passes (same_link link) o) (ap (λ j. latest j past) (eqb-true link.slot k g) ∙ e) ∙ f)

  one-here : (k : ℕ) (d : Side) (l : LinkId) → latest k past ≡ Some l → same_link link l ≡ true → Count k (same_side d d) ≡ 1
  one-here k d l e f =
      let g : (link.slot == k) ≡ true = ap (λ (m : LinkId). m.slot == k) (link-is link l f) ∙ slot-at k l (fabric past).latest e in
      ap (λ c. Count k c) (self d)
      ∙ (ap (λ c. if_latest link past (if true && c then 1 else 0)) g
      ∙ ap (λ c. if c then 1 else 0) (ap (λ o. passes (same_link link) o) (ap (λ j. latest j past) (eqb-true link.slot k g) ∙ e) ∙ f))

  still-none : (x : Side) (e : Entry) → leaving link x e past ≡ if_latest link past 0 → landing_now link x e past ≡ if_latest link past 0 → completing_now link x e past ≡ if_latest link past 0 → Stays link x e past
  still-none x e a b c = record { leaves = a ∙ zero-of; lands = b ∙ zero-of; completes = c ∙ zero-of }

  own : (x : Side) (item : Item) (d : Side) (s : ℕ) (at : Option PostRef) → apart x item ≡ true → EachItem (apart x) (if_own item d s at past)
  own x item d s at e = by (passes (is_own d s past) at)
    where
      by : (b : Bool) → EachItem (apart x) (if b then item ∷ [] else [])
      by true = (e, tt)
      by false = tt

  called : (x : Side) (end : End) (call : Call) (s : ℕ) → EachItem (apart x) (call_on end call s past)
  called x end call s = by ((s == end.s) && is_up end.side s past)
    where
      by : (b : Bool) → EachItem (apart x) (if b then Calls end.side call ∷ [] else [])
      by true = (refl, tt)
      by false = tt

  module _ (k : ℕ) (actor : ℕ) (posts : List Post) where
    -- a landing, dropped or not
    landed : (x d : Side) (reply : Reply) (l : LinkId) (c : Placed) (rest : List Placed) → is_dead l past ≡ false → latest k past ≡ Some l → unlanded l d past ≡ c ∷ rest → (leaves x link.slot (Deliver k d) reply ≡ (if same_side x d && (link.slot == k) then 1 else 0))
        → (lands_on x link.slot (Deliver k d) reply ≡ (if same_side x d && (link.slot == k) then 1 else 0)) → landed_at k d reply past ≡ Some c.at → Goes payload link x (entry-of actor (Deliver k d) reply posts) past
    landed x d reply l c rest good e q lv ln at = by-side-of (same_side x d) refl
      where
        by-link : x ≡ d → (b : Bool) → same_link link l ≡ b → Goes payload link x (entry-of actor (Deliver k d) reply posts) past
        by-link i true f = LandsHere (record {
          first = c;
          rest = rest;
          waiting = ap (λ m. unlanded m x past) (link-is link l f) ∙ (ap (λ y. unlanded l y past) i ∙ q);
          leaves = ap (λ n. if_latest link past n) lv ∙ (ap (λ y. Count k (same_side y d)) i ∙ one-here k d l e f);
          lands = ap (λ n. if_latest link past n) ln ∙ (ap (λ y. Count k (same_side y d)) i ∙ one-here k d l e f);
          completes = zero-of;
        }) (ap (λ m. is_dead m past) (link-is link l f) ∙ good) (λ s. ap (λ o. if_own (Lands d) d s o past) at ∙ ap (λ y. if_own (Lands y) y s (Some c.at) past) (sym i))
        by-link i false f = Elsewhere (record { leaves = ap (λ n. if_latest link past n) lv ∙ zero-else k (same_side x d) l e f; lands = ap (λ n. if_latest link past n) ln ∙ zero-else k (same_side x d) l e f; completes = zero-of }) l c (Lands d) f (let a = or-none (is_cut l past) (some_reported l past) good in a.1) i
            (inl (ap (λ (w : List Placed). head w) (ap (λ y. unlanded l y past) i ∙ q))) (λ s. ap (λ o. if_own (Lands d) d s o past) at ∙ ap (λ y. if_own (Lands d) y s (Some c.at) past) (sym i))

        by-side-of : (b : Bool) → same_side x d ≡ b → Goes payload link x (entry-of actor (Deliver k d) reply posts) past
        by-side-of true f = by-link (same-is x d f) (same_link link l) refl
        by-side-of false f = Quietly (record { leaves = ap (λ n. if_latest link past n) lv ∙ zero-side k (same_side x d) f; lands = ap (λ n. if_latest link past n) ln ∙ zero-side k (same_side x d) f; completes = zero-of })
            (λ s. own x (Lands d) d s (landed_at k d reply past) (ap (λ b. not b) f))

    lands-as : (setup : Setup) (y : Side) (c : Placed) (post : Post) → (lands_told setup payload y past c post ≡ Landed c.at) ⊎ ((token : ℕ) × (lands_told setup payload y past c post ≡ Dropped token))
    lands-as setup y c (Cdc from l m) = by (is_some (record_of setup payload y m.token past))
      where
        by : (b : Bool) → ((if b then Landed c.at else Dropped m.token) ≡ Landed c.at) ⊎ ((token : ℕ) × ((if b then Landed c.at else Dropped m.token) ≡ Dropped token))
        by true = inl refl
        by false = inr (m.token, refl)
    lands-as setup y c (WritePost from l key address len) = inl refl
    lands-as setup y c (Llc from l m) = inl refl
    lands-as setup y c (ClcPost from s l m) = inl refl

    -- a delivery on any slot
    pub delivers : (setup : Setup) (x d : Side) (reply : Reply) → reply ≡ deliver_told setup payload (other d) past (landing k d past) → Goes payload link x (entry-of actor (Deliver k d) reply posts) past
    delivers setup x d reply r = by (find-on k past (λ l. unlanded l d past) (λ l. is_dead l past ≡ false) (λ l. landing_on l d past) (λ l. one-of (is_dead l past) (head (unlanded l d past))))
      where
        by : Where k past (λ l. unlanded l d past) (λ l. is_dead l past ≡ false) (landing k d past) → Goes payload link x (entry-of actor (Deliver k d) reply posts) past
        by (Nowhere n) = subst (λ q. Goes payload link x (entry-of actor (Deliver k d) q posts) past) (sym (r ∙ ap (λ o. deliver_told setup payload (other d) past o) n)) (Quietly (record { leaves = zero-of; lands = zero-of; completes = zero-of }) (λ s. tt))
        by (At l c rest e q w good) = by-told (lands-as setup (other d) c c.post)
          where
            by-told : (lands_told setup payload (other d) past c c.post ≡ Landed c.at) ⊎ ((token : ℕ) × (lands_told setup payload (other d) past c c.post ≡ Dropped token)) → Goes payload link x (entry-of actor (Deliver k d) reply posts) past
            by-told (inl t) = subst (λ p. Goes payload link x (entry-of actor (Deliver k d) p posts) past) (sym (r ∙ (ap (λ o. deliver_told setup payload (other d) past o) w ∙ t))) (landed x d (Landed c.at) l c rest good e q refl refl refl)
            by-told (inr t) = subst (λ p. Goes payload link x (entry-of actor (Deliver k d) p posts) past) (sym (r ∙ (ap (λ o. deliver_told setup payload (other d) past o) w ∙ t.1))) (landed x d (Dropped t.0) l c rest good e q refl refl (ap (λ o. option_map (λ p. p.at) o) w))

    -- a completion on any slot
    pub completing-goes : (x d : Side) (reply : Reply) → reply ≡ completed_told (completing k d past) → Goes payload link x (entry-of actor (Complete k d) reply posts) past
    completing-goes x d reply r = by (find-on k past (λ l. uncompleted l d past) (λ l. some_reported l past ≡ false) (λ l. completing_on l d past) (λ l. one-of (some_reported l past) (head (uncompleted l d past))))
      where
        by : Where k past (λ l. uncompleted l d past) (λ l. some_reported l past ≡ false) (completing k d past) → Goes payload link x (entry-of actor (Complete k d) reply posts) past
        by (Nowhere n) = subst (λ q. Goes payload link x (entry-of actor (Complete k d) q posts) past) (sym (r ∙ ap (λ o. completed_told o) n)) (Quietly (record { leaves = zero-of; lands = zero-of; completes = zero-of }) (λ s. tt))
        by (At l c rest e q w good) = subst (λ p. Goes payload link x (entry-of actor (Complete k d) p posts) past) (sym (r ∙ ap (λ o. completed_told o) w)) (by-side-of (same_side x d) refl)
          where
            by-link : x ≡ d → (b : Bool) → same_link link l ≡ b → Goes payload link x (entry-of actor (Complete k d) (Completed c.at) posts) past
            by-link i true f = CompletesHere (record { first = c; rest = rest; waiting = ap (λ m. uncompleted m x past) (link-is link l f) ∙ (ap (λ y. uncompleted l y past) i ∙ q); leaves = zero-of; lands = zero-of; completes = ap (λ y. Count k (same_side y d)) i ∙ one-here k d l e f })
                (ap (λ m. some_reported m past) (link-is link l f) ∙ good) (λ s. ap (λ y. if_own (Completes y) y s (Some c.at) past) (sym i))
            by-link i false f = Elsewhere (record { leaves = zero-of; lands = zero-of; completes = zero-else k (same_side x d) l e f }) l c (Completes d) f good i (inr (ap (λ (w : List Placed). head w) (ap (λ y. uncompleted l y past) i ∙ q))) (λ s. ap (λ y. if_own (Completes d) y s (Some c.at) past) (sym i))

            by-side-of : (b : Bool) → same_side x d ≡ b → Goes payload link x (entry-of actor (Complete k d) (Completed c.at) posts) past
            by-side-of true f = by-link (same-is x d f) (same_link link l) refl
            by-side-of false f = Quietly (record { leaves = zero-of; lands = zero-of; completes = zero-side k (same_side x d) f }) (λ s. own x (Completes d) d s (Some c.at) (ap (λ b. not b) f))

    -- a swallow on any slot
    pub swallowing-goes : (x d : Side) (reply : Reply) → reply ≡ completed_told (swallowed k d past) → Goes payload link x (entry-of actor (Swallow k d) reply posts) past
    swallowing-goes x d reply r = by (find-on k past (λ l. unlanded l d past) (λ l. may_swallow l d past ≡ true) (λ l. swallowed_on l d past) (λ l. other-of (may_swallow l d past) (head (unlanded l d past))))
      where
        by : Where k past (λ l. unlanded l d past) (λ l. may_swallow l d past ≡ true) (swallowed k d past) → Goes payload link x (entry-of actor (Swallow k d) reply posts) past
        by (Nowhere n) = subst (λ q. Goes payload link x (entry-of actor (Swallow k d) q posts) past) (sym (r ∙ ap (λ o. completed_told o) n)) (Quietly (record { leaves = zero-of; lands = zero-of; completes = zero-of }) (λ s. tt))
        by (At l c rest e q w good) = subst (λ p. Goes payload link x (entry-of actor (Swallow k d) p posts) past) (sym (r ∙ ap (λ o. completed_told o) w)) (by-side-of (same_side x d) refl)
          where
            by-link : x ≡ d → (b : Bool) → same_link link l ≡ b → Goes payload link x (entry-of actor (Swallow k d) (Completed c.at) posts) past
            by-link i true f = SwallowedHere (record { first = c; rest = rest; waiting = ap (λ m. unlanded m x past) (link-is link l f) ∙ (ap (λ y. unlanded l y past) i ∙ q); leaves = ap (λ y. Count k (same_side y d)) i ∙ one-here k d l e f; lands = zero-of; completes = zero-of })
                (ap (λ m. may_swallow m x past) (link-is link l f) ∙ (ap (λ y. may_swallow l y past) i ∙ good)) (λ s. ap (λ y. if_own (Completes y) y s (Some c.at) past) (sym i))
            by-link i false f = Elsewhere (record { leaves = zero-else k (same_side x d) l e f; lands = zero-of; completes = zero-of }) l c (Completes d) f (let a = and-both (is_cut l past && not (some_reported l past)) (is_nil (uncompleted l d past) && nat_lt (swallows past) swallow_limit) good in let b = not-both (is_cut l past) (some_reported l past) a.0 in b.1) i (inl (ap (λ (w : List Placed). head w) (ap (λ y. unlanded l y past) i ∙ q))) (λ s. ap (λ y. if_own (Completes d) y s (Some c.at) past) (sym i))

            by-side-of : (b : Bool) → same_side x d ≡ b → Goes payload link x (entry-of actor (Swallow k d) (Completed c.at) posts) past
            by-side-of true f = by-link (same-is x d f) (same_link link l) refl
            by-side-of false f = Quietly (record { leaves = zero-side k (same_side x d) f; lands = zero-of; completes = zero-of }) (λ s. own x (Completes d) d s (Some c.at) (ap (λ b. not b) f))

  quiet-calls : (x : Side) (e : Entry) → leaving link x e past ≡ if_latest link past 0 → landing_now link x e past ≡ if_latest link past 0 → completing_now link x e past ≡ if_latest link past 0
      → ((s : ℕ) → EachItem (apart x) (deeds payload s e.event e.reply past)) → Goes payload link x e past
  quiet-calls x e a b c d = Quietly (still-none x e a b c) d

  -- whatever event is told what the definitions tell
  pub goes : (setup : Setup) (before actor : ℕ) (posts : List Post) (x : Side) (event : Event) (reply : Reply) → reply ≡ reply_of before (told setup payload past event) → Goes payload link x (entry-of actor event reply posts) past
  goes setup before actor posts x (Deliver k d) reply r = delivers k actor posts setup x d reply r
  goes setup before actor posts x (Complete k d) reply r = completing-goes k actor posts x d reply r
  goes setup before actor posts x (Swallow k d) reply r = swallowing-goes k actor posts x d reply r
  goes setup before actor posts x (Write end at len) reply r = quiet-calls x _ refl refl refl (λ s. called x end (Writes (take len (drop at payload))) s)
  goes setup before actor posts x (Read end len) reply r = quiet-calls x _ refl refl refl (λ s. called x end (Reads len) s)
  goes setup before actor posts x (Finish end) reply r = quiet-calls x _ refl refl refl (λ s. called x end Finishes s)
  goes setup before actor posts x (Close end) reply r = quiet-calls x _ refl refl refl (λ s. called x end Closes s)
  goes setup before actor posts x (Abort end) reply r = quiet-calls x _ refl refl refl (λ s. called x end Aborts s)
  goes setup before actor posts x (Await end) reply r = quiet-calls x _ refl refl refl (λ s. called x end Awaits s)
  goes setup before actor posts x (Move end) reply r = quiet-calls x _ refl refl refl (λ s. called x end Moves s)
  goes setup before actor posts x (Open s) reply r = quiet-calls x _ refl refl refl (λ s. tt)
  goes setup before actor posts x event reply r = quiet-calls x _ refl refl refl (λ s. tt)
