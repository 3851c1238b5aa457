-- What the pipes post with an entry: behind each write stands the CDC message that tells it, and what is sent later follows under the same token.
use Rattle.std.proofs.Common.{Bool, List, [], ap, append-nil, append_assoc, arith, eq-eqb, false, filter_map, flat_map, if◌then◌else◌, length, length-append, map, nat_le, refl, subst, sym, true, true≢false, ℕ, ◌%◌, ◌&&◌, ◌*◌, ◌++◌, ◌+◌, ◌-◌, ◌/◌, ◌<◌, ◌==◌, ◌∙◌, ◌∷◌, ◌≡◌, ◌≤◌}
use Rattle.std.specs.Prelude.{None, Option, Some, unwrap_or}
use Rattle.std.specs.List.{cons_option}
use Rattle.std.proofs.lemmas.Bool.{leb-false, leb-true}
use Rattle.std.proofs.lemmas.Nat.{div-add-mod', mod-mul-add, mod_below}
use Rattle.std.proofs.lemmas.List.Elements.{filter_map-append}
use Rattle.std.proofs.Math.Nat.{zero-mod}
use Rattle.smc_num.specs.Places.{address_of, element_start}
use Rattle.pipe_model.specs.declared.post.Post.TheVariants.{Clc, Write}
use Rattle.pipe_model.specs.declared.sent.Sent.{Sent}
use Rattle.pipe_model.specs.Home.{cdc_in}
use Rattle.pipe_model.specs.Keys.{last_bound}
use Rattle.history_laws.specs.Words.{A, B, Cdc, CdcMessage, EachOf, Entry, LinkId, Llc, Offered, Place, Post, Setup, Side, cdc_posts, connection_posts, element_size, end_posts, head, offered, offered_place, offered_sockets, other, pipe_posts, rmb_at, same_link, same_side, sent_posts, spelled, validation, writes}
use Rattle.history_laws.specs.Wires.{if_meant, message}
use Rattle.history_laws.proofs.Basics.{same-link, same-self}
use Rattle.history_laws.proofs.Posts.{filter_map-flat, flat-none, given}
use Rattle.wire_laws.specs.Memory.{carried}
use Rattle.wire_laws.proofs.Agreement.{all-own, end-other, end-own, on_it, pipe-of-end, under}

-- that something holds of each of these posts and what stands behind it, others standing behind them all
abbrev pub EachBefore : (Post → List Post → Type 0) → List Post → List Post → Type 0
EachBefore R tail [] = Unit {0}
EachBefore R tail (p ∷ ps) = R p (ps ++ tail) × EachBefore R tail ps

pub before-append : (R : Post → List Post → Type 0) (ps qs tail : List Post) → EachBefore R (qs ++ tail) ps → EachBefore R tail qs → EachBefore R tail (ps ++ qs)
before-append R [] qs tail a b = b
before-append R (p ∷ ps) qs tail a b = (subst (λ rs. R p rs) (sym (append_assoc ps qs tail)) a.0, before-append R ps qs tail a.1 b)

before-more : (Q R : Post → List Post → Type 0) → ((p : Post) (rest : List Post) → Q p rest → R p rest) → (tail ps : List Post) → EachBefore Q tail ps → EachBefore R tail ps
before-more Q R f tail [] a = tt
before-more Q R f tail (p ∷ ps) a = (f p (ps ++ tail) a.0, before-more Q R f tail ps a.1)

-- that a write is one for the bytes of what an end sent, in the element that its peer offered and under the key bound last to its RMB; and
-- that behind it stands the message for it, with those for what is sent later
pub record Tells (size : ℕ) (x : Side) (o : Offered) (now : List Entry) (link : LinkId) (key address len : ℕ) (m : Sent) (later : List Sent) (rest : List Post) : Type 0 where
  pub on : link ≡ m.link
  pub key_is : key ≡ unwrap_or (last_bound (other x) (rmb_at o.offer.address) m.link now) 0
  pub some : m.from ≡ m.snapshot.told → ⊥
  pub from_start : element_start size (offered_place o.offer) ≤ address
  pub to_end : address + len ≤ element_start size (offered_place o.offer) + size
  -- from which count of the stream on it carries bytes, and where those go
  pub count : ℕ
  pub address_is : address ≡ address_of size (offered_place o.offer) count
  pub in_one : count % size + len ≤ size
  pub not_before : m.from ≤ count
  pub up_to : (count + len) + carried rest ≡ m.snapshot.told
  pub first : head (filter_map cdc_in rest) ≡ Some (message size o.offer.token m)
  pub told : filter_map (under link x o.offer.token) rest ≡ message size o.offer.token m ∷ map (message size o.offer.token) (on_it link later)

-- the bytes of a batch lie in the element: in one piece, or in two of which the second goes round
in-one : (size start from to : ℕ) → from % size + (to - from) ≤ size → (start + from % size) + (to - from) ≤ start + size
in-one size start from to fits = omega (arith, fits)

to-the-end : (size start from : ℕ) → 0 < size → (start + from % size) + (size - from % size) ≤ start + size
to-the-end size start from pos = omega (arith, pos)

gone-round : (size start from to : ℕ) → 0 < size → to ≤ from + size → (start + 0 % size) + (to - from - (size - from % size)) ≤ start + size
gone-round size start from to pos few = let none : 0 % size ≡ 0 = zero-mod size in omega (arith, none, few)

at-front : (size start n : ℕ) → start ≤ start + n % size
at-front size start n = omega arith

-- that a message carries bytes forward, no more than an element holds
abbrev pub CarriesOn : ℕ → Sent → Type 0
CarriesOn size m = (m.snapshot.told ≤ m.from + size) × (m.from ≤ m.snapshot.told)

-- the posts of one message
module _ (size : ℕ) (pos : 0 < size) (x : Side) (o : Offered) (now : List Entry) (m : Sent) (later : List Sent) (tail : List Post) (few : m.snapshot.told ≤ m.from + size) (forward : m.from ≤ m.snapshot.told)
    (behind : (link : LinkId) → filter_map (under link x o.offer.token) tail ≡ map (message size o.offer.token) (on_it link later)) where
  abbrev Key : ℕ
  Key = unwrap_or (last_bound (other x) (rmb_at o.offer.address) m.link now) 0

  abbrev At : Place
  At = offered_place o.offer

  abbrev Start : ℕ
  Start = element_start size At

  abbrev Spelled : CdcMessage
  Spelled = spelled size o.offer.token m.snapshot

  abbrev Told : Post
  Told = Cdc x m.link Spelled

  -- a write is of that side, and tells so
  abbrev pub BatchTells : Post → List Post → Type 0
  BatchTells (Write from l key address len) rest = (from ≡ x) × Tells size x o now l key address len m later rest
  BatchTells _ rest = Unit {0}

  meant : if_meant ((same_side x x && same_link m.link m.link) && (o.offer.token == Spelled.token)) Spelled ≡ Some Spelled
  meant =
      ap (λ b. if_meant ((b && same_link m.link m.link) && (o.offer.token == Spelled.token)) Spelled) (same-self x) ∙
      (ap (λ b. if_meant (b && (o.offer.token == Spelled.token)) Spelled) (same-link m.link) ∙ ap (λ b. if_meant b Spelled) (eq-eqb o.offer.token Spelled.token refl))

  module _ (same : Spelled ≡ message size o.offer.token m) (some : m.from ≡ m.snapshot.told → ⊥) where
    told-is : filter_map (under m.link x o.offer.token) (Told ∷ tail) ≡ message size o.offer.token m ∷ map (message size o.offer.token) (on_it m.link later)
    told-is = ap (λ f. cons_option f (filter_map (under m.link x o.offer.token) tail)) meant ∙ (ap (λ c. c ∷ filter_map (under m.link x o.offer.token) tail) same ∙ ap (λ cs. message size o.offer.token m ∷ cs) (behind m.link))

    one-write : (address len : ℕ) (rest : List Post) (n : ℕ) → address ≡ address_of size At n → n % size + len ≤ size → m.from ≤ n → (n + len) + carried rest ≡ m.snapshot.told → Start ≤ address → address + len ≤ Start + size → head (filter_map cdc_in rest) ≡ Some Spelled → filter_map (under m.link x o.offer.token) rest ≡ filter_map (under m.link x o.offer.token) (Told ∷ tail)
        → BatchTells (Write x m.link Key address len) rest
    one-write address len rest n ad one not up low high f t = (
      refl,
      record {
        on = refl;
        key_is = refl;
        some = some;
        from_start = low;
        to_end = high;
        count = n;
        address_is = ad;
        in_one = one;
        not_before = not;
        up_to = up;
        first = f ∙ ap (λ c. Some c) same;
        told = t ∙ told-is;
      },
    )

  -- the count from which on a stream goes round
  abbrev round-at : ℕ
  round-at = m.from + (size - m.from % size)

  at-round : round-at % size ≡ 0
  at-round =
      let below = mod_below m.from size pos in
      let regrouped : m.from + (size - m.from % size) ≡ (m.from / size + 1) * size + 0 = omega (arith, div-add-mod' m.from size, below) in
      ap (λ k. k % size) regrouped ∙ mod-mul-add (m.from / size + 1) size 0 pos

  not-none : (m.from == m.snapshot.told) ≡ false → m.from ≡ m.snapshot.told → ⊥
  not-none e q = true≢false (sym (eq-eqb m.from m.snapshot.told q) ∙ e)

  beyond : nat_le (m.from % size + (m.snapshot.told - m.from)) size ≡ false → size < m.from % size + (m.snapshot.told - m.from)
  beyond f = leb-false (m.from % size + (m.snapshot.told - m.from)) size f

  writes-tell : (same : Spelled ≡ message size o.offer.token m) (a b : Bool) → (m.from == m.snapshot.told) ≡ a → nat_le (m.from % size + (m.snapshot.told - m.from)) size ≡ b
      → EachBefore BatchTells tail ((if a then [] else if b then Write x m.link Key (address_of size At m.from) (m.snapshot.told - m.from) ∷ [] else
      Write x m.link Key (address_of size At m.from) (size - m.from % size) ∷ Write x m.link Key (address_of size At 0) (m.snapshot.told - m.from - (size - m.from % size)) ∷ []) ++ Told ∷ [])
  writes-tell same true b e f = (tt, tt)
  writes-tell same false true e f = (
    one-write same (not-none e) (address_of size At m.from) (m.snapshot.told - m.from) _ m.from refl (leb-true (m.from % size + (m.snapshot.told - m.from)) size f) (omega arith) (omega (arith, forward))
        (at-front size Start m.from) (in-one size Start m.from m.snapshot.told (leb-true (m.from % size + (m.snapshot.told - m.from)) size f)) refl refl,
    (tt, tt),
  )
  writes-tell same false false e f = (
    one-write same (not-none e) (address_of size At m.from) (size - m.from % size) _ m.from refl (let below = mod_below m.from size pos in omega (arith, below)) (omega arith) (let far = beyond f in omega (arith, forward, far))
        (at-front size Start m.from) (to-the-end size Start m.from pos) refl refl,
    (
      one-write same (not-none e) (address_of size At 0) (m.snapshot.told - m.from - (size - m.from % size)) _ round-at (ap (λ k. Start + k) (zero-mod size ∙ sym at-round)) (let r = at-round in omega (arith, r, few)) (omega arith)
          (let far = beyond f in let below = mod_below m.from size pos in omega (arith, forward, far, below)) (at-front size Start 0) (gone-round size Start m.from m.snapshot.told pos few) refl refl,
      (tt, tt),
    ),
  )

  pub batch-tells : EachBefore BatchTells tail (cdc_posts size x Key o.offer m)
  batch-tells = by m.check refl
    where
      by : (b : Bool) → m.check ≡ b → EachBefore BatchTells tail (if b then Cdc x m.link (validation size o.offer.token m.snapshot) ∷ [] else writes size x m.link Key At m.from m.snapshot.told ++ Told ∷ [])
      by true e = (tt, tt)
      by false e = writes-tell (ap (λ (b : Bool). if b then validation size o.offer.token m.snapshot else Spelled) (sym e)) (m.from == m.snapshot.told) (nat_le (m.from % size + (m.snapshot.told - m.from)) size) refl refl

-- a write that the pipes post with an entry: whose it is, and what it tells
pub record NewWrite (setup : Setup) (payload : List ℕ) (e : Entry) (past : List Entry) (from : Side) (link : LinkId) (key address len : ℕ) (rest : List Post) : Type 0 where
  pub x : Side
  pub from_is : from ≡ x
  pub s : ℕ
  pub offer : Offered
  pub offered_is : offered (other x) s past ≡ Some offer
  pub earlier : List Sent
  pub sent : Sent
  pub later : List Sent
  pub given_is : given setup payload e past x s ≡ earlier ++ sent ∷ later
  pub tells : Tells (element_size setup) x offer (e ∷ past) link key address len sent later rest

abbrev pub IsNewWrite : Setup → List ℕ → Entry → List Entry → Post → List Post → Type 0
IsNewWrite setup payload e past (Write from link key address len) rest = NewWrite setup payload e past from link key address len rest
IsNewWrite setup payload e past _ rest = Unit {0}

pub flat-append : {X Y : Type 0} (f : X → List Y) (xs ys : List X) → flat_map f (xs ++ ys) ≡ flat_map f xs ++ flat_map f ys
flat-append f [] ys = refl
flat-append f (x ∷ xs) ys = ap (λ zs. f x ++ zs) (flat-append f xs ys) ∙ sym (append_assoc (f x) (flat_map f xs) (flat_map f ys))

no-length : {X : Type 0} (xs : List X) → length xs ≡ 0 → xs ≡ []
no-length [] e = refl
no-length (x ∷ xs) e = absurd (omega (arith, e))

-- of three lists that together are the middle one the last is empty
last-none : {X : Type 0} (xs ys zs : List X) → xs ++ (ys ++ zs) ≡ ys → zs ≡ []
last-none xs ys zs e = no-length zs (omega (arith, ap (λ ws. length ws) e, length-append xs (ys ++ zs), length-append ys zs))

module _ (setup : Setup) (payload : List ℕ) (e : Entry) (past : List Entry) (pos : 0 < element_size setup) (few : (x : Side) (s : ℕ) → EachOf (CarriesOn (element_size setup)) (given setup payload e past x s))
    (alone : (x : Side) (s : ℕ) (o : Offered) → offered (other x) s past ≡ Some o → (link : LinkId) → filter_map (under link x o.offer.token) (connection_posts setup payload e past) ≡ map (message (element_size setup) o.offer.token) (on_it link (given setup payload e past x s))) where
  abbrev Size : ℕ
  Size = element_size setup

  abbrev R : Post → List Post → Type 0
  R = IsNewWrite setup payload e past

  -- the posts of one end, nothing of it standing behind them
  module _ (x : Side) (s : ℕ) (tail : List Post) (none : (o : Offered) → offered (other x) s past ≡ Some o → (link : LinkId) → filter_map (under link x o.offer.token) tail ≡ []) where
    -- what stands behind some of them is what is sent later
    pub later-behind : (o : Offered) → offered (other x) s past ≡ Some o → (ms : List Sent) (link : LinkId) → filter_map (under link x o.offer.token) (flat_map (sent_posts Size x (Some o) (e ∷ past)) ms ++ tail) ≡ map (message Size o.offer.token) (on_it link ms)
    later-behind o f ms link =
        filter_map-append (under link x o.offer.token) (flat_map (sent_posts Size x (Some o) (e ∷ past)) ms) tail ∙
        (ap (λ cs. filter_map (under link x o.offer.token) (flat_map (sent_posts Size x (Some o) (e ∷ past)) ms) ++ cs) (none o f link) ∙
        (append-nil (filter_map (under link x o.offer.token) (flat_map (sent_posts Size x (Some o) (e ∷ past)) ms)) ∙ (filter_map-flat (under link x o.offer.token) (sent_posts Size x (Some o) (e ∷ past)) ms ∙ all-own link x Size o (e ∷ past) ms)))

    sents : (o : Offered) → offered (other x) s past ≡ Some o → (earlier ms : List Sent) → given setup payload e past x s ≡ earlier ++ ms → EachOf (CarriesOn Size) ms → EachBefore R tail (flat_map (sent_posts Size x (Some o) (e ∷ past)) ms)
    sents o f earlier [] q w = tt
    sents o f earlier (m ∷ ms) q w = before-append R (sent_posts Size x (Some o) (e ∷ past) m) (flat_map (sent_posts Size x (Some o) (e ∷ past)) ms) tail
        (before-more (BatchTells Size pos x o (e ∷ past) m ms (flat_map (sent_posts Size x (Some o) (e ∷ past)) ms ++ tail) w.0.0 w.0.1 behind) R found (flat_map (sent_posts Size x (Some o) (e ∷ past)) ms ++ tail) (sent_posts Size x (Some o) (e ∷ past) m)
        (batch-tells Size pos x o (e ∷ past) m ms (flat_map (sent_posts Size x (Some o) (e ∷ past)) ms ++ tail) w.0.0 w.0.1 behind))
        (sents o f (earlier ++ m ∷ []) ms (q ∙ sym (append_assoc earlier (m ∷ []) ms)) w.1)
      where
        behind : (link : LinkId) → filter_map (under link x o.offer.token) (flat_map (sent_posts Size x (Some o) (e ∷ past)) ms ++ tail) ≡ map (message Size o.offer.token) (on_it link ms)
        behind link = later-behind o f ms link

        found : (p : Post) (rest : List Post) → BatchTells Size pos x o (e ∷ past) m ms (flat_map (sent_posts Size x (Some o) (e ∷ past)) ms ++ tail) w.0.0 w.0.1 behind p rest → R p rest
        found (Write from l key address len) rest t = record { x = x; from_is = t.0; s = s; offer = o; offered_is = f; earlier = earlier; sent = m; later = ms; given_is = q; tells = t.1 }
        found (Cdc from l c) rest t = tt
        found (Llc from l c) rest t = tt
        found (Clc from t l c) rest u = tt

    pub end-tells : EachBefore R tail (end_posts setup payload x s e past)
    end-tells = by (offered (other x) s past) refl
      where
        by : (q : Option Offered) → offered (other x) s past ≡ q → EachBefore R tail (flat_map (sent_posts Size x q (e ∷ past)) (given setup payload e past x s))
        by None f = subst (λ ps. EachBefore R tail ps) (sym (flat-none (sent_posts Size x None (e ∷ past)) (given setup payload e past x s) (λ m. refl))) tt
        by (Some o) f = sents o f [] (given setup payload e past x s) refl (few x s)

  abbrev pub PostsOf : ℕ → List Post
  PostsOf s = pipe_posts setup payload s e past

  -- behind the posts of a socket stand none under its tokens
  pub none-behind : (front : List ℕ) (s : ℕ) (back : List ℕ) → offered_sockets setup past ≡ front ++ s ∷ back → (x : Side) (o : Offered) → offered (other x) s past ≡ Some o → (link : LinkId) → filter_map (under link x o.offer.token) (flat_map PostsOf back ++ []) ≡ []
  none-behind front s back q x o f link =
      ap (λ ps. filter_map (under link x o.offer.token) ps) (append-nil (flat_map PostsOf back)) ∙
      last-none (filter_map (under link x o.offer.token) (flat_map PostsOf front)) (map (message Size o.offer.token) (on_it link (given setup payload e past x s))) (filter_map (under link x o.offer.token) (flat_map PostsOf back)) together
    where
      own : filter_map (under link x o.offer.token) (PostsOf s) ≡ map (message Size o.offer.token) (on_it link (given setup payload e past x s))
      own = pipe-of-end link setup payload e past x o.offer.token s ∙ end-own link setup payload e past x s o f

      parts : filter_map (under link x o.offer.token) (connection_posts setup payload e past) ≡ filter_map (under link x o.offer.token) (flat_map PostsOf front) ++ (filter_map (under link x o.offer.token) (PostsOf s) ++ filter_map (under link x o.offer.token) (flat_map PostsOf back))
      parts =
          ap (λ ss. filter_map (under link x o.offer.token) (flat_map PostsOf ss)) q ∙
          (ap (λ ps. filter_map (under link x o.offer.token) ps) (flat-append PostsOf front (s ∷ back)) ∙
          (filter_map-append (under link x o.offer.token) (flat_map PostsOf front) (PostsOf s ++ flat_map PostsOf back) ∙
          ap (λ cs. filter_map (under link x o.offer.token) (flat_map PostsOf front) ++ cs) (filter_map-append (under link x o.offer.token) (PostsOf s) (flat_map PostsOf back))))

      together : filter_map (under link x o.offer.token) (flat_map PostsOf front) ++ (map (message Size o.offer.token) (on_it link (given setup payload e past x s)) ++ filter_map (under link x o.offer.token) (flat_map PostsOf back)) ≡ map (message Size o.offer.token) (on_it link (given setup payload e past x s))
      together =
          ap (λ cs. filter_map (under link x o.offer.token) (flat_map PostsOf front) ++ (cs ++ filter_map (under link x o.offer.token) (flat_map PostsOf back))) (sym own) ∙
          (sym parts ∙ alone x s o f link)

  -- all of them, socket by socket
  sockets-tell : (front back : List ℕ) → offered_sockets setup past ≡ front ++ back → EachBefore R [] (flat_map PostsOf back)
  sockets-tell front [] q = tt
  sockets-tell front (s ∷ back) q = before-append R (PostsOf s) (flat_map PostsOf back) []
      (before-append R (end_posts setup payload A s e past) (end_posts setup payload B s e past) (flat_map PostsOf back ++ [])
      (end-tells A s (end_posts setup payload B s e past ++ (flat_map PostsOf back ++ [])) none-a)
      (end-tells B s (flat_map PostsOf back ++ []) (none-behind front s back q B)))
      (sockets-tell (front ++ s ∷ []) back (q ∙ sym (append_assoc front (s ∷ []) back)))
    where
      none-a : (o : Offered) → offered B s past ≡ Some o → (link : LinkId) → filter_map (under link A o.offer.token) (end_posts setup payload B s e past ++ (flat_map PostsOf back ++ [])) ≡ []
      none-a o f link =
          filter_map-append (under link A o.offer.token) (end_posts setup payload B s e past) (flat_map PostsOf back ++ []) ∙
          (ap (λ cs. cs ++ filter_map (under link A o.offer.token) (flat_map PostsOf back ++ [])) (end-other link setup payload e past A o.offer.token s) ∙ none-behind front s back q A o f link)

  pub pipes-tell : EachBefore R [] (connection_posts setup payload e past)
  pipes-tell = sockets-tell [] (offered_sockets setup past) refl
