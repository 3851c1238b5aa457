-- The lendings of a side: tokens count them, each is that of its socket's one offer; and what is lent changes by returns and offers alone.
use Rattle.std.proofs.Common.{Bool, List, [], ap, arith, eq-eqb, eqb-true, false, filter, filter_map, if◌then◌else◌, inl, inr, length, not, refl, subst, sym, true, true≢false, ℕ, ◌++◌, ◌==◌, ◌∙◌, ◌∷◌, ◌≡◌, ◌≤◌, ◌⊎◌}
use Rattle.std.specs.Prelude.{None, Option, Some}
use Rattle.std.specs.Option.{option_or}
use Rattle.history_laws.specs.Words.{Entry, Lending, Offered, Setup, Side, head, lendings, lends, lends_by, lent, new_offer, offer_in, offered, returns}
use Rattle.history_laws.specs.Lists.{IsAmong}
use Rattle.history_laws.proofs.Offers.{all-offers, begins, in-append, in-back, in-front, kept, states}
use Rattle.history_laws.specs.Made.{IsMadeAll, IsMade}
use Rattle.history_laws.specs.Offers.{Begins, BeginsNone, BeginsOne, HasOffers, HasStates, NewLending}
use Rattle.history_laws.proofs.Basics.{by-bool, none-is, not-true, some-is}
use Rattle.lending_laws.specs.Lendings.{AreCounted, AreLendings, Changes, IsOfOffer}

-- what passes a filter
pub in-filter : {X : Type 0} (f : X → Bool) (x : X) (xs : List X) → IsAmong x (filter f xs) → IsAmong x xs × (f x ≡ true)
in-filter f x [] i = absurd i
in-filter f x (y ∷ ys) i = by (f y) refl (in-filter f x ys) i
  where
    by : (b : Bool) → f y ≡ b → (IsAmong x (filter f ys) → IsAmong x ys × (f x ≡ true)) → IsAmong x (if b then y ∷ filter f ys else filter f ys) → IsAmong x (y ∷ ys) × (f x ≡ true)
    by true e rest (inl q) = (inl q, ap f q ∙ e)
    by true e rest (inr j) = (let r = rest j in (inr r.0, r.1))
    by false e rest j = (let r = rest j in (inr r.0, r.1))

pub filter-in : {X : Type 0} (f : X → Bool) (x : X) (xs : List X) → IsAmong x xs → f x ≡ true → IsAmong x (filter f xs)
filter-in f x [] i e = absurd i
filter-in f x (y ∷ ys) i e = by (f y) refl (λ j. filter-in f x ys j e) i
  where
    by : (b : Bool) → f y ≡ b → (IsAmong x ys → IsAmong x (filter f ys)) → IsAmong x (y ∷ ys) → IsAmong x (if b then y ∷ filter f ys else filter f ys)
    by true g rest (inl q) = inl q
    by true g rest (inr j) = inr (rest j)
    by false g rest (inl q) = absurd (true≢false (sym e ∙ (ap f q ∙ g)))
    by false g rest (inr j) = rest j

-- what is lent was lent
pub lent-was : (setup : Setup) (payload : List ℕ) (x : Side) (past : List Entry) (l : Lending) → IsAmong l (lent setup payload x past) → IsAmong l (lendings x past)
lent-was setup payload x [] l i = i
lent-was setup payload x (e ∷ past) l i = by (lent-was setup payload x past l) (in-append l (filter_map (lends x) e.posts) (filter (λ m. not (returns setup payload x e past m)) (lent setup payload x past)) i)
  where
    by : (IsAmong l (lent setup payload x past) → IsAmong l (lendings x past)) → IsAmong l (filter_map (lends x) e.posts) ⊎ IsAmong l (filter (λ m. not (returns setup payload x e past m)) (lent setup payload x past)) → IsAmong l (lendings x (e ∷ past))
    by old (inl j) = in-front l (filter_map (lends x) e.posts) (lendings x past) j
    by old (inr j) = in-back l (filter_map (lends x) e.posts) (lendings x past) (old (let q = in-filter (λ m. not (returns setup payload x e past m)) l (lent setup payload x past) j in q.0))

-- tokens that count are apart
token-few : (ls : List Lending) → AreCounted ls → (l : Lending) → IsAmong l ls → l.token ≤ length ls
token-few [] c l i = absurd i
token-few (m ∷ ls) c l (inl e) = omega (arith, ap (λ (k : Lending). k.token) e, c.0)
token-few (m ∷ ls) c l (inr i) = omega (arith, token-few ls c.1 l i)

token-one : (ls : List Lending) → AreCounted ls → (l m : Lending) → IsAmong l ls → IsAmong m ls → l.token ≡ m.token → l ≡ m
token-one [] c l m i j e = absurd i
token-one (k ∷ ls) c l m (inl p) (inl q) e = p ∙ sym q
token-one (k ∷ ls) c l m (inr i) (inr j) e = token-one ls c.1 l m i j e
token-one (k ∷ ls) c l m (inl p) (inr j) e = absurd (let few = token-few ls c.1 m j in omega (arith, ap (λ (n : Lending). n.token) p, c.0, e, few))
token-one (k ∷ ls) c l m (inr i) (inl q) e = absurd (let few = token-few ls c.1 l i in omega (arith, ap (λ (n : Lending). n.token) q, c.0, e, few))

module _ (setup : Setup) (payload : List ℕ) (past : List Entry) (before : ℕ) (e : Entry) (made : IsMade setup payload past before e) (st : (s : ℕ) → HasStates s past) (off : (s : ℕ) → HasOffers s past) (x : Side) where
  pub changes : Changes setup payload x e past
  changes = record {
    begins = begins setup payload past before e made st off x;
    stays = λ l i r. in-back l (filter_map (lends x) e.posts) (filter (λ m. not (returns setup payload x e past m)) (lent setup payload x past)) (filter-in (λ m. not (returns setup payload x e past m)) l (lent setup payload x past) i (ap (λ b. not b) r));
    was = λ l i. by l (in-append l (filter_map (lends x) e.posts) (filter (λ m. not (returns setup payload x e past m)) (lent setup payload x past)) i);
  }
    where
      by : (l : Lending) → IsAmong l (filter_map (lends x) e.posts) ⊎ IsAmong l (filter (λ m. not (returns setup payload x e past m)) (lent setup payload x past)) → IsAmong l (filter_map (lends x) e.posts) ⊎ (IsAmong l (lent setup payload x past) × (returns setup payload x e past l ≡ false))
      by l (inl i) = inl i
      by l (inr i) = (let q = in-filter (λ m. not (returns setup payload x e past m)) l (lent setup payload x past) i in inr (q.0, not-true (returns setup payload x e past l) q.1))

  -- a new lending, by its offer
  pub in-new : (n : NewLending setup payload x e past) (l : Lending) → IsAmong l (filter_map (lends x) e.posts) → l ≡ lends_by n.s n.link (new_offer setup payload x n.first n.link past)
  in-new n l i = by (subst (λ ls. IsAmong l ls) n.lends_one i)
    where
      by : IsAmong l (lends_by n.s n.link (new_offer setup payload x n.first n.link past) ∷ []) → l ≡ lends_by n.s n.link (new_offer setup payload x n.first n.link past)
      by (inl q) = q
      by (inr j) = absurd j

  pub offered-now : (n : NewLending setup payload x e past) → offered x n.s (e ∷ past) ≡ Some (record { link = n.link; offer = new_offer setup payload x n.first n.link past })
  offered-now n = ap (λ (os : List Offered). option_or (head os) (offered x n.s past)) (n.offers n.s ∙ ap (λ b. if b then record { link = n.link; offer = new_offer setup payload x n.first n.link past } ∷ [] else []) (eq-eqb n.s n.s refl))

  -- before it, the side had not offered there
  pub not-offered : (n : NewLending setup payload x e past) → offered x n.s past ≡ None
  not-offered n = by (offered x n.s past) refl
    where
      by : (o : Option Offered) → offered x n.s past ≡ o → offered x n.s past ≡ None
      by None i = i
      by (Some o) i = absurd (true≢false (sym n.early ∙ (let h = off n.s in h.later x o i)))

  of-offer-after : ((l : Lending) → IsAmong l (lendings x past) → IsOfOffer x past l) → (l : Lending) → IsAmong l (lendings x (e ∷ past)) → IsOfOffer x (e ∷ past) l
  of-offer-after was l i = by (begins setup payload past before e made st off x) (in-append l (filter_map (lends x) e.posts) (lendings x past) i)
    where
      old : IsAmong l (lendings x past) → IsOfOffer x (e ∷ past) l
      old j = let q = was l j in let r = q.1 in (q.0, (kept setup payload past before e made st off x l.s q.0 r.0, r.1))

      by : Begins setup payload x e past → IsAmong l (filter_map (lends x) e.posts) ⊎ IsAmong l (lendings x past) → IsOfOffer x (e ∷ past) l
      by b (inr j) = old j
      by (BeginsNone none os) (inl j) = absurd (subst (λ ls. IsAmong l ls) none j)
      by (BeginsOne n) (inl j) =
          let q = in-new n l j in
          let s : l.s ≡ n.s = ap (λ (k : Lending). k.s) q in
          (record { link = n.link; offer = new_offer setup payload x n.first n.link past }, (ap (λ t. offered x t (e ∷ past)) s ∙ offered-now n, q ∙ ap (λ t. lends_by t n.link (new_offer setup payload x n.first n.link past)) (sym s)))

  offer-of-after : ((s : ℕ) (o : Offered) → offered x s past ≡ Some o → IsAmong (lends_by s o.link o.offer) (lendings x past)) → (s : ℕ) (o : Offered) → offered x s (e ∷ past) ≡ Some o → IsAmong (lends_by s o.link o.offer) (lendings x (e ∷ past))
  offer-of-after was s o i = by (begins setup payload past before e made st off x)
    where
      old : offered x s past ≡ Some o → IsAmong (lends_by s o.link o.offer) (lendings x (e ∷ past))
      old j = in-back (lends_by s o.link o.offer) (filter_map (lends x) e.posts) (lendings x past) (was s o j)

      as-was : filter_map (offer_in x s) e.posts ≡ [] → IsAmong (lends_by s o.link o.offer) (lendings x (e ∷ past))
      as-was n = old (sym (ap (λ (os : List Offered). option_or (head os) (offered x s past)) n) ∙ i)

      by : Begins setup payload x e past → IsAmong (lends_by s o.link o.offer) (lendings x (e ∷ past))
      by (BeginsNone none n) = as-was (n s)
      by (BeginsOne n) = by-bool (IsAmong (lends_by s o.link o.offer) (lendings x (e ∷ past))) (s == n.s)
          (λ q.
          let is : s ≡ n.s = eqb-true s n.s q in
          let new : Offered = record { link = n.link; offer = new_offer setup payload x n.first n.link past } in
          let same : o ≡ new = some-is o new (sym i ∙ (ap (λ t. offered x t (e ∷ past)) is ∙ offered-now n)) in
          let there : IsAmong (lends_by n.s n.link (new_offer setup payload x n.first n.link past)) (filter_map (lends x) e.posts) = subst (λ ls. IsAmong (lends_by n.s n.link (new_offer setup payload x n.first n.link past)) ls) (sym n.lends_one) (inl refl) in
          in-front (lends_by s o.link o.offer) (filter_map (lends x) e.posts) (lendings x past) (subst (λ (k : Lending). IsAmong k (filter_map (lends x) e.posts)) (sym (ap (λ t. lends_by t o.link o.offer) is ∙ ap (λ (r : Offered). lends_by n.s r.link r.offer) same)) there))
          (λ q. as-was (n.offers s ∙ ap (λ b. if b then record { link = n.link; offer = new_offer setup payload x n.first n.link past } ∷ [] else []) q))

  counted-after : AreCounted (lendings x past) → AreCounted (lendings x (e ∷ past))
  counted-after was = by (begins setup payload past before e made st off x)
    where
      by : Begins setup payload x e past → AreCounted (lendings x (e ∷ past))
      by (BeginsNone none n) = subst (λ (ls : List Lending). AreCounted (ls ++ lendings x past)) (sym none) was
      by (BeginsOne n) = subst (λ (ls : List Lending). AreCounted (ls ++ lendings x past)) (sym n.lends_one) (refl, was)

  pub lendings-after : AreLendings x past → AreLendings x (e ∷ past)
  lendings-after was =
      let counted : AreCounted (lendings x (e ∷ past)) = counted-after was.counted in
      record {
        counted = counted;
        of_offer = of-offer-after was.of_offer;
        offer_of = offer-of-after was.offer_of;
        by_socket = λ l m i j q.
            let a = of-offer-after was.of_offer l i in
            let b = of-offer-after was.of_offer m j in
            let f = a.1 in
            let g = b.1 in
            let same : a.0 ≡ b.0 = some-is a.0 b.0 (sym f.0 ∙ (ap (λ t. offered x t (e ∷ past)) q ∙ g.0)) in
            f.1 ∙ (ap (λ t. lends_by t a.0.link a.0.offer) q ∙ (ap (λ (r : Offered). lends_by m.s r.link r.offer) same ∙ sym g.1));
        by_token = token-one (lendings x (e ∷ past)) counted;
      }

-- after each history
pub all-lendings : (setup : Setup) (payload : List ℕ) (past : List Entry) → IsMadeAll setup payload past → (x : Side) → AreLendings x past
all-lendings setup payload [] m x = record { counted = tt; of_offer = λ l i. absurd i; offer_of = λ s o i. absurd (none-is o i); by_socket = λ l k i j q. absurd i; by_token = λ l k i j q. absurd i }
all-lendings setup payload (e ∷ past) m x = let one = m.0 in lendings-after setup payload past one.0 e one.1 (states setup payload past m.1) (all-offers setup payload past m.1) x (all-lendings setup payload past m.1 x)
