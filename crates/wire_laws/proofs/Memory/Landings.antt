-- With each entry the RMBs of a side stay as they are, or one write of its peer lands in them, which was the first on its link.
use Rattle.std.proofs.Common.{Bool, List, [], ap, arith, eqb-true, false, if◌then◌else◌, refl, subst, sym, true, true≢false, ℕ, ◌&&◌, ◌==◌, ◌∙◌, ◌∷◌, ◌≡◌}
use Rattle.std.specs.Prelude.{None, Option, Some, is_some, option_and_then}
use Rattle.pipe_model.specs.Replies.{told}
use Rattle.pipe_model.specs.Wires.{landing}
use Rattle.pipe_model.specs.declared.post.Post.TheVariants.{Clc, Write}
use Rattle.history_laws.specs.Made.{IsMade, IsMadeAll}
use Rattle.history_laws.specs.Wires.{LandsNow}
use Rattle.history_laws.specs.Words.{Cdc, Deliver, Dropped, Entry, Event, Landed, LinkId, Llc, Open, Placed, Post, PostRef, Reply, Setup, Side, deliver_told, head, if_latest, is_dead, is_latest, landing_on, lands_told, latest, other, passes, post_at, record_of, reply_of, same_link, same_side, unlanded}
use Rattle.history_laws.proofs.Basics.{and-both, by-bool, entry-of, link-is, none-is, other-other, same-is, some-is}
use Rattle.history_laws.proofs.Wires.{first-stands, unlanded-stand}
use Rattle.link_laws.specs.Awaited.{AreOnKnown}
use Rattle.wire_laws.specs.Memory.{byte_after, byte_in}
use Rattle.wire_laws.proofs.Writes.{lands-at, on-wire-at}

-- that a post is no write
abbrev pub IsNoWrite : Post → Type 0
IsNoWrite (Write from link key address len) = ⊥
IsNoWrite _ = Unit {0}

-- what an entry does to the RMBs of a side
pub data BytesAfter (setup : Setup) (payload : List ℕ) (x y : Side) (e : Entry) (past : List Entry) : Type 0 where
  Unwritten : ((rmb address : ℕ) → byte_in setup payload y rmb address (e ∷ past) ≡ byte_in setup payload y rmb address past) → ((link : LinkId) (l : LandsNow link x e past) → IsNoWrite l.first.post) → BytesAfter setup payload x y e past
  Written : (link : LinkId) (at : PostRef) (key first len : ℕ) (rest : List Placed) → is_dead link past ≡ false → unlanded link x past ≡ record { at = at; post = Write x link key first len } ∷ rest
      → ((rmb address : ℕ) → byte_in setup payload y rmb address (e ∷ past) ≡ byte_after setup payload y rmb address at past (byte_in setup payload y rmb address past) (Some (Write x link key first len)))
      → ((k : LinkId) (l : LandsNow k x e past) → l.first ≡ record { at = at; post = Write x link key first len }) → BytesAfter setup payload x y e past

some-first : (link : LinkId) (o : Option LinkId) → passes (same_link link) o ≡ true → o ≡ Some link
some-first link None e = absurd (true≢false (sym e))
some-first link (Some l) e = ap (λ k. Some k) (sym (link-is link l e))

head-first : (b : Bool) (cs : List Placed) (first c : Placed) (rest : List Placed) → cs ≡ first ∷ rest → (if b then None else head cs) ≡ Some c → first ≡ c
head-first true cs first c rest q e = absurd (none-is c e)
head-first false cs first c rest q e = some-is first c (sym (ap (λ ds. head ds) q) ∙ e)

abbrev Counted : Bool → ℕ → ℕ
Counted b n = if b then n else 0

one-if : (b c : Bool) → Counted b (Counted c 1) ≡ 1 → (b ≡ true) × (c ≡ true)
one-if true true e = (refl, refl)
one-if true false e = absurd (omega (arith, e))
one-if false c e = absurd (omega (arith, e))

none-if : (b : Bool) → Counted b 0 ≡ 1 → ⊥
none-if true e = omega (arith, e)
none-if false e = omega (arith, e)

module _ (setup : Setup) (payload : List ℕ) (past : List Entry) (m : IsMadeAll setup payload past) (known : AreOnKnown setup past) (y : Side) where
  abbrev Byte : ℕ → ℕ → ℕ
  Byte rmb address = byte_in setup payload y rmb address past

  -- the first post of a link on which one lands is the one that is delivered
  first-is : (slot : ℕ) (dir : Side) (c : Placed) → other y ≡ dir → landing slot dir past ≡ Some c → (link : LinkId) → if_latest link past (if same_side (other y) dir && (link.slot == slot) then 1 else 0) ≡ 1 → (first : Placed) (rest : List Placed) → unlanded link (other y) past ≡ first ∷ rest → first ≡ c
  first-is slot dir c side w link lands first rest q =
      let b = one-if (is_latest link past) (same_side (other y) dir && (link.slot == slot)) lands in
      let k : link.slot ≡ slot = eqb-true link.slot slot (and-both (same_side (other y) dir) (link.slot == slot) b.1).1 in
      let at : latest slot past ≡ Some link = ap (λ n. latest n past) (sym k) ∙ some-first link (latest link.slot past) b.0 in
      head-first (is_dead link past) (unlanded link dir past) first c rest (ap (λ z. unlanded link z past) (sym side) ∙ q) (ap (λ o. option_and_then (λ l. landing_on l dir past) o) (sym at) ∙ w)

  module _ (actor : ℕ) (posts : List Post) (slot : ℕ) (dir : Side) where
    abbrev After : Reply → Type 0
    After reply = BytesAfter setup payload (other y) y (entry-of actor (Deliver slot dir) reply posts) past

    -- what is delivered to the other side
    else-landed : (at : PostRef) → same_side (other y) dir ≡ false → After (Landed at)
    else-landed at f = Unwritten (λ rmb address. ap (λ (b : Bool). if b then byte_after setup payload y rmb address at past (Byte rmb address) (post_at at past) else Byte rmb address) f)
        (λ link l. absurd (none-if (is_latest link past) (ap (λ b. if_latest link past (if b && (link.slot == slot) then 1 else 0)) (sym f) ∙ l.lands)))

    else-dropped : (token : ℕ) → same_side (other y) dir ≡ false → After (Dropped token)
    else-dropped token f = Unwritten (λ rmb address. refl) (λ link l. absurd (none-if (is_latest link past) (ap (λ b. if_latest link past (if b && (link.slot == slot) then 1 else 0)) (sym f) ∙ l.lands)))

    -- and to this one
    module _ (c : Placed) (w : landing slot dir past ≡ Some c) (side : same_side (other y) dir ≡ true) where
      there : (link : LinkId) × ((rest : List Placed) × ((is_dead link past ≡ false) × (unlanded link dir past ≡ c ∷ rest)))
      there = lands-at setup payload past m known slot dir c w

      same : other y ≡ dir
      same = same-is (other y) dir side

      stands-there : post_at c.at past ≡ Some c.post
      stands-there = first-stands past (unlanded there.0 dir past) c there.1.0 (unlanded-stand there.0 dir past) there.1.1.1

      byte-is : (rmb address : ℕ) (post : Post) → c.post ≡ post → (if same_side (other y) dir then byte_after setup payload y rmb address c.at past (Byte rmb address) (post_at c.at past) else Byte rmb address) ≡ byte_after setup payload y rmb address c.at past (Byte rmb address) (Some post)
      byte-is rmb address post p =
          ap (λ (b : Bool). if b then byte_after setup payload y rmb address c.at past (Byte rmb address) (post_at c.at past) else Byte rmb address) side ∙
          ap (λ o. byte_after setup payload y rmb address c.at past (Byte rmb address) o) (stands-there ∙ ap (λ q. Some q) p)

      no-write : IsNoWrite c.post → (link : LinkId) → if_latest link past (if same_side (other y) dir && (link.slot == slot) then 1 else 0) ≡ 1 → (first : Placed) (rest : List Placed) → unlanded link (other y) past ≡ first ∷ rest → IsNoWrite first.post
      no-write n link lands first rest q = subst (λ (d : Placed). IsNoWrite d.post) (sym (first-is slot dir c same w link lands first rest q)) n

      unwritten : (post : Post) → c.post ≡ post → IsNoWrite post → ((rmb address : ℕ) → byte_after setup payload y rmb address c.at past (Byte rmb address) (Some post) ≡ Byte rmb address) → After (Landed c.at)
      unwritten post p n f = Unwritten (λ rmb address. byte-is rmb address post p ∙ f rmb address) (λ link l. no-write (subst (λ q. IsNoWrite q) (sym p) n) link l.lands l.first l.rest l.waiting)

      written : (from : Side) (l : LinkId) (key first len : ℕ) → c.post ≡ Write from l key first len → After (Landed c.at)
      written from l key first len p = Written there.0 c.at key first len there.1.0 there.1.1.0 (ap (λ z. unlanded there.0 z past) same ∙ (there.1.1.1 ∙ ap (λ d. d ∷ there.1.0) is)) (λ rmb address. byte-is rmb address (Write (other y) there.0 key first len) post-is) (λ k n. first-is slot dir c same w k n.lands n.first n.rest n.waiting ∙ is)
        where
          on : (same_side dir from ≡ true) × (same_link there.0 l ≡ true)
          on = and-both (same_side dir from) (same_link there.0 l) (on-wire-at there.0 dir past [] (record { at = c.at; post = Write from l key first len }) there.1.0 (there.1.1.1 ∙ ap (λ q. record { at = c.at; post = q } ∷ there.1.0) p))

          post-is : c.post ≡ Write (other y) there.0 key first len
          post-is = p ∙ (ap (λ z. Write z l key first len) (sym (same-is dir from on.0) ∙ sym same) ∙ ap (λ k. Write (other y) k key first len) (sym (link-is there.0 l on.1)))

          is : c ≡ record { at = c.at; post = Write (other y) there.0 key first len }
          is = ap (λ q. let d : Placed = record { at = c.at; post = q } in d) post-is

      by-post : (post : Post) → c.post ≡ post → After (lands_told setup payload (other dir) past c post)
      by-post (Write from l key first len) p = written from l key first len p
      by-post (Llc from l n) p = unwritten (Llc from l n) p tt (λ rmb address. refl)
      by-post (Clc from s l n) p = unwritten (Clc from s l n) p tt (λ rmb address. refl)
      by-post (Cdc from l n) p = by (is_some (record_of setup payload (other dir) n.token past))
        where
          by : (b : Bool) → After (if b then Landed c.at else Dropped n.token)
          by true = unwritten (Cdc from l n) p tt (λ rmb address. refl)
          by false = Unwritten (λ rmb address. refl) (λ link k. no-write (subst (λ q. IsNoWrite q) (sym p) tt) link k.lands k.first k.rest k.waiting)

    else-post : (c : Placed) (post : Post) → same_side (other y) dir ≡ false → After (lands_told setup payload (other dir) past c post)
    else-post c (Write from l key first len) f = else-landed c.at f
    else-post c (Llc from l n) f = else-landed c.at f
    else-post c (Clc from s l n) f = else-landed c.at f
    else-post c (Cdc from l n) f = by (is_some (record_of setup payload (other dir) n.token past))
      where
        by : (b : Bool) → After (if b then Landed c.at else Dropped n.token)
        by true = else-landed c.at f
        by false = else-dropped n.token f

    told-after : (o : Option Placed) → landing slot dir past ≡ o → After (deliver_told setup payload (other dir) past o)
    told-after None w = Unwritten (λ rmb address. refl) (λ link l. absurd (none-if (is_latest link past) l.lands))
    told-after (Some c) w = by-bool _ (same_side (other y) dir) (λ s. by-post c w s c.post refl) (λ f. else-post c c.post f)

  bytes-by : (before actor : ℕ) (posts : List Post) (event : Event) (reply : Reply) → reply ≡ reply_of before (told setup payload past event) → BytesAfter setup payload (other y) y (entry-of actor event reply posts) past
  bytes-by before actor posts (Deliver slot dir) reply r = subst (λ q. BytesAfter setup payload (other y) y (entry-of actor (Deliver slot dir) q posts) past) (sym r) (told-after actor posts slot dir (landing slot dir past) refl)
  bytes-by before actor posts (Open s) reply r = Unwritten (λ rmb address. refl) (λ link l. absurd (none-if (is_latest link past) l.lands))
  bytes-by before actor posts event reply r = Unwritten (λ rmb address. refl) (λ link l. absurd (none-if (is_latest link past) l.lands))

  pub bytes-after : (before : ℕ) (e : Entry) → IsMade setup payload past before e → BytesAfter setup payload (other y) y e past
  bytes-after before e made = bytes-by before e.actor e.posts e.event e.reply made.reply

-- and seen from the peer
pub bytes-of : (setup : Setup) (payload : List ℕ) (past : List Entry) → IsMadeAll setup payload past → AreOnKnown setup past → (x : Side) (before : ℕ) (e : Entry) → IsMade setup payload past before e → BytesAfter setup payload x (other x) e past
bytes-of setup payload past m known x before e made = subst (λ z. BytesAfter setup payload z (other x) e past) (other-other x) (bytes-after setup payload past m known (other x) before e made)
