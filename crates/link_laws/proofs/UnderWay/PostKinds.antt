-- Which messages of a kind lists of posts have: none among the posts of connections, and one where parts have one.
use Rattle.std.proofs.Common.{Bool, List, None, Some, [], ap, false, if◌then◌else◌, inl, inr, refl, true, ℕ, ◌%◌, ◌++◌, ◌+◌, ◌-◌, ◌==◌, ◌∙◌, ◌∷◌, ◌≡◌, ◌⊎◌}
use Rattle.pipe_model.specs.declared.post.Post.TheVariants.{Clc, Write}
use Rattle.std.specs.Prelude.{Option, flat_map, nat_le}
use Rattle.pipe_model.specs.declared.sent.Sent.{Sent}
use Rattle.std.specs.Option.{option_or}
use Rattle.history_laws.specs.Words.{A, B, Cdc, Entry, Fabric, LinkId, Llc, Offered, Place, Post, Setup, Side, connection_posts, element_size, end_posts, group_on, items, offered, offered_sockets, other, part, pipe_posts, posts_of, sent_posts, terms_of, writes}
use Rattle.link_laws.specs.Linked.{Under, under_in, under_of}
use Rattle.link_laws.specs.UnderWay.{AreOnMade, HasOneOf, kind_in, kind_of, link_kind}

-- none of these posts is an LLC message
abbrev pub HasNoLlc : List Post → Type 0
HasNoLlc [] = Unit {0}
HasNoLlc (Llc from link m ∷ posts) = ⊥
HasNoLlc (post ∷ posts) = HasNoLlc posts

-- nor among two such lists
pub no-llc-append : (ps qs : List Post) → HasNoLlc ps → HasNoLlc qs → HasNoLlc (ps ++ qs)
no-llc-append [] qs a b = b
no-llc-append (Llc from link m ∷ ps) qs a b = a
no-llc-append (Write from link key address len ∷ ps) qs a b = no-llc-append ps qs a b
no-llc-append (Cdc from link m ∷ ps) qs a b = no-llc-append ps qs a b
no-llc-append (Clc from s link m ∷ ps) qs a b = no-llc-append ps qs a b

no-llc-flat : {X : Type 0} (f : X → List Post) (xs : List X) → ((x : X) → HasNoLlc (f x)) → HasNoLlc (flat_map f xs)
no-llc-flat f [] each = tt
no-llc-flat f (x ∷ xs) each = no-llc-append (f x) (flat_map f xs) (each x) (no-llc-flat f xs each)

no-llc-writes : (size : ℕ) (x : Side) (link : LinkId) (key : ℕ) (place : Place) (from to : ℕ) → HasNoLlc (writes size x link key place from to)
no-llc-writes size x link key place from to = by (from == to) (nat_le (from % size + (to - from)) size) _ _ _ _ _ _
  where
    by : (b c : Bool) (k1 k2 k3 l1 l2 l3 : ℕ) → HasNoLlc (if b then [] else if c then Write x link key k1 l1 ∷ [] else Write x link key k2 l2 ∷ Write x link key k3 l3 ∷ [])
    by true c k1 k2 k3 l1 l2 l3 = tt
    by false true k1 k2 k3 l1 l2 l3 = tt
    by false false k1 k2 k3 l1 l2 l3 = tt

no-llc-sent : (size : ℕ) (x : Side) (o : Option Offered) (past : List Entry) (m : Sent) → HasNoLlc (sent_posts size x o past m)
no-llc-sent size x None past m = tt
no-llc-sent size x (Some o) past m = by m.check _ _ _ (no-llc-writes size x m.link _ _ m.from _)
  where
    by : (b : Bool) (c d : _) (ws : List Post) → HasNoLlc ws → HasNoLlc (if b then Cdc x m.link c ∷ [] else ws ++ Cdc x m.link d ∷ [])
    by true c d ws w = tt
    by false c d ws w = no-llc-append ws (Cdc x m.link d ∷ []) w tt

-- the posts of all connections
pub no-llc-connections : (setup : Setup) (payload : List ℕ) (e : Entry) (past : List Entry) → HasNoLlc (connection_posts setup payload e past)
no-llc-connections setup payload e past = no-llc-flat (λ s. pipe_posts setup payload s e past) (offered_sockets setup past) (λ s. no-llc-append (end_posts setup payload A s e past) (end_posts setup payload B s e past) (ends A s) (ends B s))
  where
    ends : (x : Side) (s : ℕ) → HasNoLlc (end_posts setup payload x s e past)
    ends x s = no-llc-flat (sent_posts (element_size setup) x (offered (other x) s past) (e ∷ past)) (posts_of (terms_of setup) x (items payload (group_on s past) s e past) (part payload (group_on s past) s past)) (λ m. no-llc-sent (element_size setup) x (offered (other x) s past) (e ∷ past) m)

-- posts without an LLC message have none of a kind, and are on no wire of one
module _ (kind : Under → Bool) where
  -- there is none of a kind
  pub no-llc-kind : (ps : List Post) → HasNoLlc ps → kind_in kind ps ≡ None
  no-llc-kind [] a = refl
  no-llc-kind (Llc from link m ∷ ps) a = absurd a
  no-llc-kind (Write from link key address len ∷ ps) a = no-llc-kind ps a
  no-llc-kind (Cdc from link m ∷ ps) a = no-llc-kind ps a
  no-llc-kind (Clc from s link m ∷ ps) a = no-llc-kind ps a

  -- so one at most
  pub no-llc-one : (ps : List Post) → HasNoLlc ps → HasOneOf kind ps
  no-llc-one [] a = tt
  no-llc-one (Llc from link m ∷ ps) a = absurd a
  no-llc-one (Write from link key address len ∷ ps) a = (inl refl, no-llc-one ps a)
  no-llc-one (Cdc from link m ∷ ps) a = (inl refl, no-llc-one ps a)
  no-llc-one (Clc from s link m ∷ ps) a = (inl refl, no-llc-one ps a)

  -- the first of a kind in two lists
  pub kind-append : (ps qs : List Post) → kind_in kind (ps ++ qs) ≡ option_or (kind_in kind ps) (kind_in kind qs)
  kind-append [] qs = refl
  kind-append (p ∷ ps) qs = by (kind_of kind p) (kind-append ps qs)
    where
      by : (o : Option Under) → kind_in kind (ps ++ qs) ≡ option_or (kind_in kind ps) (kind_in kind qs) → option_or o (kind_in kind (ps ++ qs)) ≡ option_or (option_or o (kind_in kind ps)) (kind_in kind qs)
      by None e = e
      by (Some w) e = refl

  -- lists of which one has none of a kind
  pub one-append : (ps qs : List Post) → HasOneOf kind ps → HasOneOf kind qs → (kind_in kind ps ≡ None) ⊎ (kind_in kind qs ≡ None) → HasOneOf kind (ps ++ qs)
  one-append [] qs a b e = b
  one-append (p ∷ ps) qs a b e = (first (kind_of kind p) refl a.0 e, one-append ps qs a.1 b (rest (kind_of kind p) e))
    where
      none : (w : Under) → Some w ≡ None → ⊥
      none w e = cc

      first : (o : Option Under) → kind_of kind p ≡ o → (o ≡ None) ⊎ (kind_in kind ps ≡ None) → (option_or o (kind_in kind ps) ≡ None) ⊎ (kind_in kind qs ≡ None) → (kind_of kind p ≡ None) ⊎ (kind_in kind (ps ++ qs) ≡ None)
      first None is a e = inl is
      first (Some w) is (inl h) e = absurd (none w h)
      first (Some w) is (inr h) (inl g) = absurd (none w g)
      first (Some w) is (inr h) (inr g) = inr (kind-append ps qs ∙ (ap (λ o. option_or o (kind_in kind qs)) h ∙ g))

      rest : (o : Option Under) → (option_or o (kind_in kind ps) ≡ None) ⊎ (kind_in kind qs ≡ None) → (kind_in kind ps ≡ None) ⊎ (kind_in kind qs ≡ None)
      rest None e = e
      rest (Some w) (inl g) = absurd (none w g)
      rest (Some w) (inr g) = inr g

  -- a post alone
  pub one-alone : (p : Post) → HasOneOf kind (p ∷ [])
  one-alone p = (inr refl, tt)

  -- before posts without an LLC message
  pub one-before : (ps qs : List Post) → HasOneOf kind ps → HasNoLlc qs → HasOneOf kind (ps ++ qs)
  one-before ps qs a b = one-append ps qs a (no-llc-one qs b) (inr (no-llc-kind qs b))

  -- the first of a kind is not among what has no LLC message
  pub kind-before : (ps qs : List Post) → HasNoLlc qs → kind_in kind (ps ++ qs) ≡ kind_in kind ps
  kind-before ps qs b = kind-append ps qs ∙ (ap (λ o. option_or (kind_in kind ps) o) (no-llc-kind qs b) ∙ by (kind_in kind ps))
    where
      by : (o : Option Under) → option_or o None ≡ o
      by None = refl
      by (Some w) = refl

-- the words of the link flow are those of its kind
pub link-of : (p : Post) → kind_of link_kind p ≡ under_of p
link-of (Llc from link m) = refl
link-of (Write from link key address len) = refl
link-of (Cdc from link m) = refl
link-of (Clc from s link m) = refl

-- the first of the link flow, in both words
pub link-in : (ps : List Post) → kind_in link_kind ps ≡ under_in ps
link-in [] = refl
link-in (p ∷ ps) = ap (λ o. option_or o (kind_in link_kind ps)) (link-of p) ∙ ap (λ o. option_or (under_of p) o) (link-in ps)

-- posts on links that were made
pub no-llc-made : (f : Fabric) (ps : List Post) → HasNoLlc ps → AreOnMade f ps
no-llc-made f [] a = tt
no-llc-made f (Llc from link m ∷ ps) a = absurd a
no-llc-made f (Write from link key address len ∷ ps) a = no-llc-made f ps a
no-llc-made f (Cdc from link m ∷ ps) a = no-llc-made f ps a
no-llc-made f (Clc from s link m ∷ ps) a = no-llc-made f ps a

-- posts on links that were made, joined
pub made-append : (f : Fabric) (ps qs : List Post) → AreOnMade f ps → AreOnMade f qs → AreOnMade f (ps ++ qs)
made-append f [] qs a b = b
made-append f (Llc from link m ∷ ps) qs a b = (a.0, made-append f ps qs a.1 b)
made-append f (Write from link key address len ∷ ps) qs a b = made-append f ps qs a b
made-append f (Cdc from link m ∷ ps) qs a b = made-append f ps qs a b
made-append f (Clc from s link m ∷ ps) qs a b = made-append f ps qs a b

-- before posts without an LLC message
pub made-before : (f : Fabric) (ps qs : List Post) → AreOnMade f ps → HasNoLlc qs → AreOnMade f (ps ++ qs)
made-before f ps qs a b = made-append f ps qs a (no-llc-made f qs b)
