-- Each byte of a message that an end sends with an entry is carried by a write which the entry posts on the end's link.
use Rattle.std.proofs.Common.{Bool, List, [], ap, append-nil, append_assoc, arith, cond, drop, eqb-true, false, filter, filter_map, flat_map, if◌then◌else◌, inl, inr, length, map, nat_le, refl, subst, suc, sym, true, true≢false, zero, ℕ, ◌%◌, ◌&&◌, ◌++◌, ◌+◌, ◌-◌, ◌<◌, ◌==◌, ◌∙◌, ◌∷◌, ◌≡◌, ◌≢◌, ◌≤◌, eq-eqb}
use Rattle.std.specs.List.{range_with_len}
use Rattle.std.specs.Prelude.{Some, option_and_then, option_map, unwrap_or}
use Rattle.std.proofs.lemmas.Bool.{cases_lt, leb-false}
use Rattle.std.proofs.lemmas.Nat.{mod_below, pow_pos}
use Rattle.std.proofs.lemmas.List.Elements.{filter_map-append}
use Rattle.smc_num.specs.Places.{address_of}
use Rattle.pipe_model.specs.Home.{cdc_in}
use Rattle.pipe_model.specs.Keys.{last_bound}
use Rattle.pipe_model.specs.declared.post.Post.TheVariants.{Clc, Write}
use Rattle.pipe_model.specs.declared.sent.Sent.{Sent}
use Rattle.history_laws.specs.Lists.{IsAmong}
use Rattle.history_laws.specs.Made.{IsMade}
use Rattle.history_laws.specs.Wires.{message}
use Rattle.history_laws.specs.Words.{A, B, Cdc, EachOf, Entry, LinkId, Llc, Offered, Place, Placed, Post, PostRef, Setup, Side, cdc_posts, connection_posts, draft, element_size, end_posts, head, is_offered, is_on, next_number, numbered, offered, offered_place, offered_sockets, other, rmb_at, same_link, sent_posts, spelled, up_to, validation}
use Rattle.history_laws.proofs.Basics.{by-bool, same-link, same-self}
use Rattle.history_laws.proofs.Posts.{given}
use Rattle.link_laws.proofs.Keys.{among-map}
use Rattle.lending_laws.specs.Ends.{OffersGoOn}
use Rattle.wire_laws.specs.Agreement.{Agrees, AllOwed, OwedToAgreement}
use Rattle.wire_laws.proofs.Agreement.{end-other, news-are, offered-now, on_it, own-posted, tokens-else, under}
use Rattle.wire_laws.proofs.Writes.{BatchTells, CarriesOn, EachBefore, IsAimed, News, PostsOf, Tells, aim-one-at, batch-tells, drop-behind, entry-new, few, flat-append, later-behind, none-behind}

-- a post among some with what stands before and behind it, others standing behind them all
pub record HasPost (P : Post → List Post → Type 0) (tail ps : List Post) : Type 0 where
  pub before : List Post
  pub post : Post
  pub after : List Post
  pub is : ps ≡ before ++ post ∷ after
  pub has : P post (after ++ tail)

has-left : (P : Post → List Post → Type 0) (ps qs tail : List Post) → HasPost P (qs ++ tail) ps → HasPost P tail (ps ++ qs)
has-left P ps qs tail h = record { before = h.before; post = h.post; after = h.after ++ qs; is = ap (λ rs. rs ++ qs) h.is ∙ append_assoc h.before (h.post ∷ h.after) qs; has = subst (λ rs. P h.post rs) (sym (append_assoc h.after qs tail)) h.has }

has-right : (P : Post → List Post → Type 0) (ps qs tail : List Post) → HasPost P tail qs → HasPost P tail (ps ++ qs)
has-right P ps qs tail h = record { before = ps ++ h.before; post = h.post; after = h.after; is = ap (λ rs. ps ++ rs) h.is ∙ sym (append_assoc ps h.before (h.post ∷ h.after)); has = h.has }

has-of : (P : Post → List Post → Type 0) (tail ps qs : List Post) → ps ≡ qs → HasPost P tail ps → HasPost P tail qs
has-of P tail ps qs e h = subst (λ rs. HasPost P tail rs) e h

-- that a write is one for the byte of a message
abbrev pub Brings : ℕ → Side → Offered → List Entry → Sent → List Sent → ℕ → Post → List Post → Type 0
Brings size x o now m later n (Write from l key address len) rest = (from ≡ x) × ((t : Tells size x o now l key address len m later rest) × ((t.count ≤ n) × (n < t.count + len)))
Brings size x o now m later n _ rest = ⊥

-- the writes of one message
module _ (size : ℕ) (pos : 0 < size) (x : Side) (o : Offered) (now : List Entry) (m : Sent) (later : List Sent) (tail : List Post) (few : m.snapshot.told ≤ m.from + size) (forward : m.from ≤ m.snapshot.told)
    (behind : (link : LinkId) → filter_map (under link x o.offer.token) tail ≡ map (message size o.offer.token) (on_it link later)) (plain : m.check ≡ false) (n : ℕ) (low : m.from ≤ n) (high : n < m.snapshot.told) where
  abbrev Key : ℕ
  Key = unwrap_or (last_bound (other x) (rmb_at o.offer.address) m.link now) 0

  abbrev At : Place
  At = offered_place o.offer

  abbrev Told : Post
  Told = Cdc x m.link (spelled size o.offer.token m.snapshot)

  abbrev BT : Post → List Post → Type 0
  BT = BatchTells size pos x o now m later tail few forward behind

  abbrev Br : Post → List Post → Type 0
  Br = Brings size x o now m later n

  abbrev Ws : Bool → Bool → List Post
  Ws a b = (if a then [] else if b then Write x m.link Key (address_of size At m.from) (m.snapshot.told - m.from) ∷ [] else
      Write x m.link Key (address_of size At m.from) (size - m.from % size) ∷ Write x m.link Key (address_of size At 0) (m.snapshot.told - m.from - (size - m.from % size)) ∷ []) ++ Told ∷ []

  pick : (a b : Bool) → (m.from == m.snapshot.told) ≡ a → nat_le (m.from % size + (m.snapshot.told - m.from)) size ≡ b → EachBefore BT tail (Ws a b) → HasPost Br tail (Ws a b)
  pick true b e f t = absurd (let q = eqb-true m.from m.snapshot.told e in omega (arith, q, low, high))
  pick false true e f t =
      let one : Tells size x o now m.link Key (address_of size At m.from) (m.snapshot.told - m.from) m later (Told ∷ tail) = t.0.1 in
      let u : (one.count + (m.snapshot.told - m.from)) + 0 ≡ m.snapshot.told = one.up_to in
      record { before = []; post = Write x m.link Key (address_of size At m.from) (m.snapshot.told - m.from); after = Told ∷ []; is = refl; has = (refl, (one, (omega (arith, u, low, forward), omega (arith, u, high)))) }
  pick false false e f t =
      let below = mod_below m.from size pos in
      let far : size < m.from % size + (m.snapshot.told - m.from) = leb-false (m.from % size + (m.snapshot.told - m.from)) size f in
      let two : Tells size x o now m.link Key (address_of size At m.from) (size - m.from % size) m later (Write x m.link Key (address_of size At 0) (m.snapshot.told - m.from - (size - m.from % size)) ∷ Told ∷ tail) = t.0.1 in
      let three : Tells size x o now m.link Key (address_of size At 0) (m.snapshot.told - m.from - (size - m.from % size)) m later (Told ∷ tail) = t.1.0.1 in
      let u : (two.count + (size - m.from % size)) + ((m.snapshot.told - m.from - (size - m.from % size)) + 0) ≡ m.snapshot.told = two.up_to in
      let v : (three.count + (m.snapshot.told - m.from - (size - m.from % size))) + 0 ≡ m.snapshot.told = three.up_to in
      elim (cases_lt n (m.from + (size - m.from % size))) [
        | inl first ↦ record { before = []; post = Write x m.link Key (address_of size At m.from) (size - m.from % size); after = Write x m.link Key (address_of size At 0) (m.snapshot.told - m.from - (size - m.from % size)) ∷ Told ∷ []; is = refl; has = (refl, (two, (omega (arith, u, low, far, below), omega (arith, u, first, far, below)))) }
        | inr second ↦ record { before = Write x m.link Key (address_of size At m.from) (size - m.from % size) ∷ []; post = Write x m.link Key (address_of size At 0) (m.snapshot.told - m.from - (size - m.from % size)); after = Told ∷ []; is = refl; has = (refl, (three, (omega (arith, v, second, far, below), omega (arith, v, high)))) }
      ]

  pub batch-has : HasPost Br tail (cdc_posts size x Key o.offer m)
  batch-has = by m.check plain (batch-tells size pos x o now m later tail few forward behind)
    where
      by : (c : Bool) → c ≡ false → EachBefore BT tail (if c then Cdc x m.link (validation size o.offer.token m.snapshot) ∷ [] else Ws (m.from == m.snapshot.told) (nat_le (m.from % size + (m.snapshot.told - m.from)) size))
          → HasPost Br tail (if c then Cdc x m.link (validation size o.offer.token m.snapshot) ∷ [] else Ws (m.from == m.snapshot.told) (nat_le (m.from % size + (m.snapshot.told - m.from)) size))
      by true q t = absurd (true≢false q)
      by false q t = pick (m.from == m.snapshot.told) (nat_le (m.from % size + (m.snapshot.told - m.from)) size) refl refl t

-- lists
split-at : {X : Type 0} (a : X) (xs : List X) → IsAmong a xs → (front : List X) × ((back : List X) × (xs ≡ front ++ a ∷ back))
split-at a [] i = absurd i
split-at a (x ∷ xs) (inl e) = ([], (xs, ap (λ y. y ∷ xs) (sym e)))
split-at a (x ∷ xs) (inr i) = let r = split-at a xs i in (x ∷ r.0, (r.1.0, ap (λ ys. x ∷ ys) r.1.1))

filter-in : {X : Type 0} (f : X → Bool) (a : X) (xs : List X) → IsAmong a xs → f a ≡ true → IsAmong a (filter f xs)
filter-in f a [] i e = absurd i
filter-in f a (x ∷ xs) i e = by (f x) refl i (λ j. filter-in f a xs j e)
  where
    by : (b : Bool) → f x ≡ b → IsAmong a (x ∷ xs) → (IsAmong a xs → IsAmong a (filter f xs)) → IsAmong a (cond b (x ∷ filter f xs) (filter f xs))
    by true q (inl r) rest = inl r
    by true q (inr j) rest = inr (rest j)
    by false q (inl r) rest = absurd (true≢false (sym (ap (λ y. f y) (sym r) ∙ e) ∙ q))
    by false q (inr j) rest = rest j

eqb-ne : (k n : ℕ) → (k == n) ≡ false → k ≢ n
eqb-ne k n e q = true≢false (sym (eq-eqb k n q) ∙ e)

in-range : (from n k : ℕ) → from ≤ k → k < from + n → IsAmong k (range_with_len from n)
in-range from zero k a b = absurd (omega (arith, a, b))
in-range from (suc n) k a b = by-bool (IsAmong k (range_with_len from (suc n))) (k == from) (λ e. inl (eqb-true k from e)) (λ e. inr (in-range (from + 1) n k (let d : k ≢ from = eqb-ne k from e in omega (arith, a, d)) (omega (arith, b))))

-- the socket is among those on which a connection was offered
in-offered : (setup : Setup) (past : List Entry) (s : ℕ) → s < setup.sockets → is_offered past s ≡ true → IsAmong s (offered_sockets setup past)
in-offered setup past s low g = filter-in (is_offered past) s (map (λ n. n - 1) (up_to setup.sockets)) (subst (λ k. IsAmong k (map (λ n. n - 1) (up_to setup.sockets))) (let w : s + 1 - 1 ≡ s = omega arith in w) (among-map (λ n. n - 1) (s + 1) (up_to setup.sockets) (in-range 1 setup.sockets (s + 1) (omega arith) (omega (arith, low))))) g

-- among all that the pipes post with an entry
module _ (setup : Setup) (payload : List ℕ) (e : Entry) (past : List Entry) (pos : 0 < element_size setup) (few : (x : Side) (s : ℕ) → EachOf (CarriesOn (element_size setup)) (given setup payload e past x s))
    (alone : (x : Side) (s : ℕ) (o : Offered) → offered (other x) s past ≡ Some o → (link : LinkId) → filter_map (under link x o.offer.token) (connection_posts setup payload e past) ≡ map (message (element_size setup) o.offer.token) (on_it link (given setup payload e past x s))) where
  abbrev Size : ℕ
  Size = element_size setup

  module _ (s : ℕ) (m : Sent) (earlier later : List Sent) (plain : m.check ≡ false) (on : CarriesOn Size m) (n : ℕ) (low : m.from ≤ n) (high : n < m.snapshot.told) where
    abbrev Of : Side → Offered → Post → List Post → Type 0
    Of x o = Brings Size x o (e ∷ past) m later n

    end-has : (x : Side) (tail : List Post) (none : (r : Offered) → offered (other x) s past ≡ Some r → (link : LinkId) → filter_map (under link x r.offer.token) tail ≡ []) (o : Offered) → offered (other x) s past ≡ Some o → given setup payload e past x s ≡ earlier ++ m ∷ later
        → HasPost (Of x o) tail (end_posts setup payload x s e past)
    end-has x tail none o f q =
        has-of (Of x o) tail (flat_map F earlier ++ (F m ++ flat_map F later)) (end_posts setup payload x s e past)
        (sym (ap (λ r. flat_map (sent_posts Size x r (e ∷ past)) (given setup payload e past x s)) f ∙ (ap (λ ms. flat_map F ms) q ∙ flat-append F earlier (m ∷ later))))
        (has-right (Of x o) (flat_map F earlier) (F m ++ flat_map F later) tail (has-left (Of x o) (F m) (flat_map F later) tail
        (batch-has Size pos x o (e ∷ past) m later (flat_map F later ++ tail) on.0 on.1 (λ link. later-behind setup payload e past pos few alone x s tail none o f later link) plain n low high)))
      where
        F : Sent → List Post
        F = sent_posts Size x (Some o) (e ∷ past)

    abbrev Posts : ℕ → List Post
    Posts t = PostsOf setup payload e past pos few alone t

    module _ (front back : List ℕ) (q : offered_sockets setup past ≡ front ++ s ∷ back) where
      none-a : (o : Offered) → offered B s past ≡ Some o → (link : LinkId) → filter_map (under link A o.offer.token) (end_posts setup payload B s e past ++ (flat_map Posts back ++ [])) ≡ []
      none-a o f link =
          filter_map-append (under link A o.offer.token) (end_posts setup payload B s e past) (flat_map Posts back ++ []) ∙
          (ap (λ cs. cs ++ filter_map (under link A o.offer.token) (flat_map Posts back ++ [])) (end-other link setup payload e past A o.offer.token s) ∙ none-behind setup payload e past pos few alone front s back q A o f link)

      socket-has : (x : Side) (o : Offered) → offered (other x) s past ≡ Some o → given setup payload e past x s ≡ earlier ++ m ∷ later → HasPost (Of x o) (flat_map Posts back ++ []) (Posts s)
      socket-has A o f g = has-left (Of A o) (end_posts setup payload A s e past) (end_posts setup payload B s e past) (flat_map Posts back ++ []) (end-has A (end_posts setup payload B s e past ++ (flat_map Posts back ++ [])) none-a o f g)
      socket-has B o f g = has-right (Of B o) (end_posts setup payload A s e past) (end_posts setup payload B s e past) (flat_map Posts back ++ []) (end-has B (flat_map Posts back ++ []) (none-behind setup payload e past pos few alone front s back q B) o f g)

      pub pipes-have : (x : Side) (o : Offered) → offered (other x) s past ≡ Some o → given setup payload e past x s ≡ earlier ++ m ∷ later → HasPost (Of x o) [] (connection_posts setup payload e past)
      pipes-have x o f g = has-of (Of x o) [] (flat_map Posts front ++ (Posts s ++ flat_map Posts back)) (connection_posts setup payload e past) (sym (ap (λ ss. flat_map Posts ss) q ∙ flat-append Posts front (s ∷ back)))
          (has-right (Of x o) (flat_map Posts front) (Posts s ++ flat_map Posts back) [] (has-left (Of x o) (Posts s) (flat_map Posts back) [] (socket-has x o f g)))

-- where such a post stands on a link
pub record HasPlaced (link : LinkId) (x : Side) (entry first : ℕ) (before : List Post) (post : Post) (after : List Post) : Type 0 where
  pub front : List Placed
  pub number : ℕ
  pub number_is : number ≡ first + length before
  pub is : filter (λ c. is_on link x c.post) (numbered entry first (before ++ post ∷ after)) ≡ front ++ record { at = record { entry = entry; post = number }; post = post } ∷ filter (λ c. is_on link x c.post) (numbered entry (number + 1) after)

placed-there : (link : LinkId) (x : Side) (entry first : ℕ) (before : List Post) (post : Post) (after : List Post) → is_on link x post ≡ true → HasPlaced link x entry first before post after
placed-there link x entry first [] post after on = record {
  front = [];
  number = first;
  number_is = omega arith;
  is = ap (λ b. cond b (record { at = record { entry = entry; post = first }; post = post } ∷ filter (λ c. is_on link x c.post) (numbered entry (first + 1) after)) (filter (λ c. is_on link x c.post) (numbered entry (first + 1) after))) on;
}
placed-there link x entry first (p ∷ before) post after on =
    let r : HasPlaced link x entry (first + 1) before post after = placed-there link x entry (first + 1) before post after on in
    record {
      front = cond (is_on link x p) (record { at = record { entry = entry; post = first }; post = p } ∷ r.front) r.front;
      number = r.number;
      number_is = omega (arith, r.number_is);
      is = by (is_on link x p) r;
    }
  where
    by : (b : Bool) (r : HasPlaced link x entry (first + 1) before post after) → cond b (record { at = record { entry = entry; post = first }; post = p } ∷ filter (λ c. is_on link x c.post) (numbered entry (first + 1) (before ++ post ∷ after))) (filter (λ c. is_on link x c.post) (numbered entry (first + 1) (before ++ post ∷ after)))
        ≡ cond b (record { at = record { entry = entry; post = first }; post = p } ∷ r.front) r.front ++ record { at = record { entry = entry; post = r.number }; post = post } ∷ filter (λ c. is_on link x c.post) (numbered entry (r.number + 1) after)
    by true r = ap (λ cs. record { at = record { entry = entry; post = first }; post = p } ∷ cs) r.is
    by false r = r.is

-- a write that waits for a byte of an end's stream
pub record Waits (setup : Setup) (payload : List ℕ) (x : Side) (link : LinkId) (past : List Entry) (s : ℕ) (o : Offered) (n : ℕ) (waiting : List Placed) : Type 0 where
  pub at : PostRef
  pub key : ℕ
  pub address : ℕ
  pub len : ℕ
  pub front : List Placed
  pub rest : List Placed
  pub is : waiting ≡ front ++ record { at = at; post = Write x link key address len } ∷ rest
  pub aimed : IsAimed setup payload x link past at address len rest s o
  pub low : aimed.count ≤ n
  pub high : n < aimed.count + len

module _ (setup : Setup) (payload : List ℕ) (e : Entry) (past : List Entry) (before : ℕ) (made : IsMade setup payload past before e) (owed : OwedToAgreement setup payload past) (beside : OffersGoOn e past) (all : AllOwed setup payload past) (agree : Agrees setup payload past) where
  abbrev D : Entry
  D = draft setup payload past before e.event

  pub new-waits : (x : Side) (s : ℕ) (o : Offered) → offered (other x) s past ≡ Some o → (earlier : List Sent) (m : Sent) (later : List Sent) → given setup payload D past x s ≡ earlier ++ m ∷ later → m.check ≡ false → CarriesOn (element_size setup) m → (n : ℕ) → m.from ≤ n → n < m.snapshot.told
      → Waits setup payload x m.link (e ∷ past) s o n (News setup payload e past before made owed beside all agree m.link x)
  new-waits x s o f earlier m later g plain on n low high = by h.post h.is h.has
    where
      at : (front : List ℕ) × ((back : List ℕ) × (offered_sockets setup past ≡ front ++ s ∷ back))
      at = split-at s (offered_sockets setup past) (in-offered setup past s (owed.known (other x) s o f) (offered-now setup payload e past before made owed beside (other x) s o f))

      pipes : HasPost (Brings (element_size setup) x o (D ∷ past) m later n) [] (connection_posts setup payload D past)
      pipes = pipes-have setup payload D past (pow_pos (setup.size_code + 14)) (few setup payload e past before made owed beside all agree)
          (λ z t r i link. own-posted link setup payload D past z t r i (tokens-else setup payload e past before made owed beside (other z) t r i) (owed.known (other z) t r i) (offered-now setup payload e past before made owed beside (other z) t r i))
          s m earlier later plain on n low high at.0 at.1.0 at.1.1 x o f g

      h : HasPost (Brings (element_size setup) x o (D ∷ past) m later n) [] e.posts
      h = has-of (Brings (element_size setup) x o (D ∷ past) m later n) [] (D.posts ++ connection_posts setup payload D past) e.posts (sym made.posts) (has-right (Brings (element_size setup) x o (D ∷ past) m later n) D.posts (connection_posts setup payload D past) [] pipes)

      by : (post : Post) → e.posts ≡ h.before ++ post ∷ h.after → Brings (element_size setup) x o (D ∷ past) m later n post (h.after ++ []) → Waits setup payload x m.link (e ∷ past) s o n (News setup payload e past before made owed beside all agree m.link x)
      by (Cdc from l c) i b = absurd b
      by (Llc from l c) i b = absurd b
      by (Clc from t l c) i b = absurd b
      by (Write from l key address len) i b = of-write b.0 (subst (λ ps. (t : Tells (element_size setup) x o (D ∷ past) l key address len m later ps) × ((t.count ≤ n) × (n < t.count + len))) (append-nil h.after) b.1)
        where
          of-write : from ≡ x → (t : Tells (element_size setup) x o (D ∷ past) l key address len m later h.after) × ((t.count ≤ n) × (n < t.count + len)) → Waits setup payload x m.link (e ∷ past) s o n (News setup payload e past before made owed beside all agree m.link x)
          of-write side t =
              let tells : Tells (element_size setup) x o (D ∷ past) l key address len m later h.after = t.0 in
              let on : is_on m.link x (Write x l key address len) ≡ true = ap (λ b. b && same_link m.link l) (same-self x) ∙ (ap (λ k. same_link m.link k) tells.on ∙ same-link m.link) in
              let q : e.posts ≡ h.before ++ Write x l key address len ∷ h.after = i ∙ ap (λ z. h.before ++ Write z l key address len ∷ h.after) side in
              let p : HasPlaced m.link x (next_number past) 1 h.before (Write x l key address len) h.after = placed-there m.link x (next_number past) 1 h.before (Write x l key address len) h.after on in
              let behind-is : drop p.number e.posts ≡ h.after = ap (λ ps. drop p.number ps) q ∙ drop-behind h.before (Write x l key address len) h.after p.number (omega (arith, p.number_is)) in
              let a = aim-one-at setup payload e past before made owed beside all agree x m.link l (sym tells.on) (record { entry = next_number past; post = p.number }) key address len (filter (λ c. is_on m.link x c.post) (numbered (next_number past) (p.number + 1) h.after)) h.after s o earlier m later
              (omega arith) f g tells
              (ap (λ r. option_and_then (λ (k : Entry). head (filter_map cdc_in (drop p.number k.posts))) r) (entry-new e past) ∙ ap (λ ps. head (filter_map cdc_in ps)) behind-is)
              (ap (λ r. unwrap_or (option_map (λ (k : Entry). drop p.number k.posts) r) []) (entry-new e past) ∙ behind-is)
              (news-are m.link x o.offer.token (next_number past) (p.number + 1) h.after) in
              record {
                at = record { entry = next_number past; post = p.number };
                key = key;
                address = address;
                len = len;
                front = p.front;
                rest = filter (λ c. is_on m.link x c.post) (numbered (next_number past) (p.number + 1) h.after);
                is = ap (λ ps. filter (λ c. is_on m.link x c.post) (numbered (next_number past) 1 ps)) q ∙ (p.is ∙ ap (λ k. p.front ++ record { at = record { entry = next_number past; post = p.number }; post = Write x k key address len } ∷ filter (λ c. is_on m.link x c.post) (numbered (next_number past) (p.number + 1) h.after)) tells.on);
                aimed = a.0;
                low = omega (arith, a.1, t.1.0);
                high = omega (arith, a.1, t.1.1);
              }
