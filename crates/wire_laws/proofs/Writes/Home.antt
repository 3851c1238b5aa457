-- Each write that lands is home.
use Rattle.std.proofs.Common.{Bool, List, [], ap, arith, false, if◌then◌else◌, not, refl, subst, suc, sym, true, ℕ, inl, inr, ◌∙◌, ◌∷◌, ◌≡◌}
use Rattle.std.specs.Prelude.{Contains, None, Option, Some, is_some, option_and_then}
use Rattle.std.specs.Option.{IsSomeAnd}
use Rattle.pipe_model.specs.Home.{IsHome, LandsHome, PostIsHome}
use Rattle.pipe_model.specs.Replies.{told}
use Rattle.pipe_model.specs.Wires.{landing}
use Rattle.pipe_model.specs.declared.post.Post.TheVariants.{Clc, Write}
use Rattle.history_laws.specs.Words.{A, B, Cdc, Deliver, Dropped, Entry, Event, Landed, LinkId, Llc, Open, Placed, Post, PostRef, Reply, Setup, Side, deliver_told, head, is_cut, is_dead, landing_on, lands_told, latest, lent, other, post_at, record_of, reply_of, same_link, same_side, some_reported, stands, table_of, unlanded}
use Rattle.history_laws.specs.Lists.{IsAmong}
use Rattle.history_laws.specs.Made.{IsMadeAll}
use Rattle.history_laws.proofs.Basics.{and-both, link-is, none-is, not-false, or-none, or-right, same-is, some-is}
use Rattle.history_laws.proofs.Wires.{first-stands, unlanded-stand}
use Rattle.link_laws.specs.Awaited.{AreOnKnown}
use Rattle.link_laws.specs.Lasting.{NoneAgain}
use Rattle.link_laws.proofs.Joined.{flows-of}
use Rattle.link_laws.proofs.Lasting.{none-again}
use Rattle.wire_laws.specs.Writes.{GoesUnderBound, IsWaitingWrite}
use Rattle.wire_laws.proofs.Writes.Bound.{goes-under-bound}
use Rattle.wire_laws.proofs.Writes.Lent.{on-wire-at}

-- the two words for what stands in a list
contains : {X : Type 0} (a : X) (xs : List X) → IsAmong a xs → Contains xs a
contains a [] i = absurd i
contains a (x ∷ xs) (inl e) = (0, omega arith, sym e)
contains a (x ∷ xs) (inr i) = let c = contains a xs i in let low = c.1 in (suc c.0, omega (arith, low), c.2)

module _ (setup : Setup) (payload : List ℕ) (past : List Entry) (m : IsMadeAll setup payload past) (known : AreOnKnown setup past) where
  -- a link that is not dead stands at both sides
  pub alive-stands : (link : LinkId) → is_dead link past ≡ false → (x : Side) → stands link (table_of x past) ≡ true
  alive-stands link alive x =
      let q = or-none (not (stands link (table_of A past))) (not (stands link (table_of B past))) (or-right (is_cut link past) (some_reported link past) alive) in
      by x q.0 q.1
    where
      by : (y : Side) → not (stands link (table_of A past)) ≡ false → not (stands link (table_of B past)) ≡ false → stands link (table_of y past) ≡ true
      by A a b = not-false (stands link (table_of A past)) a
      by B a b = not-false (stands link (table_of B past)) b

  write-home : (x : Side) (link : LinkId) (at : PostRef) (key address len : ℕ) (rest : List Placed) → is_dead link past ≡ false → unlanded link x past ≡ record { at = at; post = Write x link key address len } ∷ rest → PostIsHome setup payload at past (Write x link key address len)
  write-home x link at key address len rest alive q =
      let again : NoneAgain past = none-again setup payload past m (flows-of setup payload past m) in
      let w : IsWaitingWrite x link past at key address len rest = record { kept = again.again x link (alive-stands link alive x); before = []; unlanded_is = q } in
      by (goes-under-bound setup payload past m known x link at key address len rest w (alive-stands link alive (other x)))
    where
      by : GoesUnderBound setup payload (other x) link past at key address len → PostIsHome setup payload at past (Write x link key address len)
      by g = subst (λ o. IsSomeAnd o (λ c. IsHome setup payload (other x) link key address len c.token past)) (sym g.goes.following) (record {
        lending = g.goes.lending;
        lent_now = contains g.goes.lending (lent setup payload (other x) past) (g.goes.lent_now g.group);
        named = g.goes.named;
        bound_once = g.bound_once;
        from_start = g.goes.from_start;
        to_end = g.goes.to_end;
      })

  post-home : (x : Side) (link : LinkId) (at : PostRef) (post : Post) (rest : List Placed) → is_dead link past ≡ false → unlanded link x past ≡ record { at = at; post = post } ∷ rest → PostIsHome setup payload at past post
  post-home x link at (Cdc from l c) rest alive q = tt
  post-home x link at (Llc from l c) rest alive q = tt
  post-home x link at (Clc from s l c) rest alive q = tt
  post-home x link at (Write from l key address len) rest alive q =
      let on = and-both (same_side x from) (same_link link l) (on-wire-at link x past [] (record { at = at; post = Write from l key address len }) rest q) in
      let same : Write from l key address len ≡ Write x link key address len = ap (λ z. Write z l key address len) (sym (same-is x from on.0)) ∙ ap (λ k. Write x k key address len) (sym (link-is link l on.1)) in
      subst (λ p. PostIsHome setup payload at past p) (sym same) (write-home x link at key address len rest alive (q ∙ ap (λ p. record { at = at; post = p } ∷ rest) same))

  first-home : (x : Side) (link : LinkId) (c : Placed) (rest : List Placed) → is_dead link past ≡ false → unlanded link x past ≡ c ∷ rest → IsSomeAnd (post_at c.at past) (PostIsHome setup payload c.at past)
  first-home x link c rest alive q = subst (λ o. IsSomeAnd o (PostIsHome setup payload c.at past)) (sym (first-stands past (unlanded link x past) c rest (unlanded-stand link x past) q)) (post-home x link c.at c.post rest alive q)

  -- what would land on a slot
  abbrev pub Lands : Side → Option Placed → Type 0
  Lands x o = (c : Placed) → o ≡ Some c → (link : LinkId) × ((rest : List Placed) × ((is_dead link past ≡ false) × (unlanded link x past ≡ c ∷ rest)))

  lands-on : (x : Side) (link : LinkId) → Lands x (landing_on link x past)
  lands-on x link c e = by (is_dead link past) refl (unlanded link x past) refl e
    where
      by : (b : Bool) → is_dead link past ≡ b → (cs : List Placed) → unlanded link x past ≡ cs → (if b then None else head cs) ≡ Some c → (l : LinkId) × ((rest : List Placed) × ((is_dead l past ≡ false) × (unlanded l x past ≡ c ∷ rest)))
      by true p cs q f = absurd (none-is c f)
      by false p [] q f = absurd (none-is c f)
      by false p (d ∷ cs) q f = (link, (cs, (p, q ∙ ap (λ k. k ∷ cs) (some-is d c f))))

  pub lands-at : (slot : ℕ) (x : Side) → Lands x (landing slot x past)
  lands-at slot x c e = by (latest slot past) e
    where
      by : (o : Option LinkId) → option_and_then (λ link. landing_on link x past) o ≡ Some c → (l : LinkId) × ((rest : List Placed) × ((is_dead l past ≡ false) × (unlanded l x past ≡ c ∷ rest)))
      by None f = absurd (none-is c f)
      by (Some link) f = lands-on x link c f

  -- whatever a delivery is told
  module _ (slot : ℕ) (dir : Side) where
    abbrev Home : Reply → Type 0
    Home reply = LandsHome setup payload (Deliver slot dir) reply past

    placed-home : (c : Placed) → IsSomeAnd (post_at c.at past) (PostIsHome setup payload c.at past) → (post : Post) → Home (lands_told setup payload (other dir) past c post)
    placed-home c p (Write from link key address len) = p
    placed-home c p (Llc from link n) = p
    placed-home c p (Clc from s link n) = p
    placed-home c p (Cdc from link n) = by (is_some (record_of setup payload (other dir) n.token past))
      where
        by : (b : Bool) → Home (if b then Landed c.at else Dropped n.token)
        by true = p
        by false = tt

    told-home : (o : Option Placed) → Lands dir o → Home (deliver_told setup payload (other dir) past o)
    told-home None f = tt
    told-home (Some c) f = let l = f c refl in placed-home c (first-home dir l.0 c l.1.0 l.1.1.0 l.1.1.1) c.post

  home-by : (before : ℕ) (event : Event) (reply : Reply) → reply ≡ reply_of before (told setup payload past event) → LandsHome setup payload event reply past
  home-by before (Deliver slot dir) reply e = subst (λ r. LandsHome setup payload (Deliver slot dir) r past) (sym e) (told-home slot dir (landing slot dir past) (lands-at slot dir))
  home-by before (Open s) reply e = tt
  home-by before event reply e = tt

-- each write that lands with an entry is home
pub lands-home : (setup : Setup) (payload : List ℕ) (e : Entry) (past : List Entry) → IsMadeAll setup payload (e ∷ past) → AreOnKnown setup past → LandsHome setup payload e.event e.reply past
lands-home setup payload e past m known = home-by setup payload past m.1 known m.0.0 e.event e.reply m.0.1.reply
