-- Of what all pipes post with an entry, the CDC messages under one token are those of one end.
use Rattle.std.proofs.Common.{◌≡◌, ◌∙◌, ◌==◌, ℕ, ◌+◌, ◌-◌, ◌≤◌, ◌<◌, Bool, true, false, if◌then◌else◌, List, [], ◌∷◌, ◌++◌, map, filter, filter_map, flat_map, refl, ap, sym, ◌&&◌, true≢false, append-nil, arith, suc, zero, eq-eqb, eqb-true, nat_le, ◌%◌}
use Rattle.std.specs.Prelude.{Option, Some, None, cond}
use Rattle.std.specs.List.{cons_option, range_with_len}
use Rattle.std.proofs.lemmas.List.Elements.{filter_map-append}
use Rattle.smc_num.specs.declared.Side.{Side}
use Rattle.smc_num.specs.declared.Side.TheVariants.{A, B}
use Rattle.smc_num.specs.declared.LinkId.{LinkId}
use Rattle.smc_num.specs.Names.{other, same_side}
use Rattle.smc_num.specs.Places.{Place}
use Rattle.clc_wire.specs.declared.offer.Offer.{Offer}
use Rattle.cdc_wire.specs.declared.CdcMessage.{CdcMessage}
use Rattle.pipe_model.specs.declared.setup.Setup.{Setup}
use Rattle.pipe_model.specs.declared.post.Post.{Post}
use Rattle.pipe_model.specs.declared.post.Post.TheVariants.{Cdc}
use Rattle.pipe_model.specs.declared.entry.Entry.{Entry}
use Rattle.pipe_model.specs.declared.sent.Sent.{Sent}
use Rattle.pipe_model.specs.Words.{element_size}
use Rattle.pipe_model.specs.Snapshot.{spelled, validation}
use Rattle.pipe_model.specs.History.{Offered, offered}
use Rattle.pipe_model.specs.Pipe.{posts_of}
use Rattle.pipe_model.specs.Parts.{EachOf}
use Rattle.pipe_model.specs.Connections.{group_on, items, part}
use Rattle.pipe_model.specs.Lending.{terms_of}
use Rattle.pipe_model.specs.Posts.{writes, offered_place, cdc_posts, sent_posts, end_posts, pipe_posts, is_offered, offered_sockets, connection_posts}
use Rattle.world_core.specs.Wired.{cdc_under, if_meant, message}
use Rattle.world_core.specs.Agreement.{IsElse}
use Rattle.world_core.specs.WireSteps.{IsCdcOn, EachPost}
use Rattle.world_core.proofs.Plain.{same-self}

-- lists
pub filter_map-flat : {X Y Z : Type 0} (f : Y → Option Z) (g : X → List Y) (xs : List X) → filter_map f (flat_map g xs) ≡ flat_map (λ x. filter_map f (g x)) xs
filter_map-flat f g [] = refl
filter_map-flat f g (x ∷ xs) = filter_map-append f (g x) (flat_map g xs) ∙ ap (λ zs. filter_map f (g x) ++ zs) (filter_map-flat f g xs)

pub flat-none : {X Y : Type 0} (f : X → List Y) (xs : List X) → ((x : X) → f x ≡ []) → flat_map f xs ≡ []
flat-none f [] e = refl
flat-none f (x ∷ xs) e = ap (λ ys. ys ++ flat_map f xs) (e x) ∙ flat-none f xs e

pub flat-one : {X Y : Type 0} (f : X → List Y) (g : X → Y) (xs : List X) → ((x : X) → f x ≡ g x ∷ []) → flat_map f xs ≡ map g xs
flat-one f g [] e = refl
flat-one f g (x ∷ xs) e = ap (λ ys. ys ++ flat_map f xs) (e x) ∙ ap (λ ys. g x ∷ ys) (flat-one f g xs e)

module _ {Y : Type 0} (f : ℕ → List Y) (p : ℕ → Bool) (s : ℕ) (else_none : (t : ℕ) → (t == s) ≡ false → f t ≡ []) where
  abbrev From : ℕ → ℕ → List Y
  From b n = flat_map f (filter p (map (λ k. k - 1) (range_with_len b n)))

  kept-none : (t : ℕ) (c : Bool) (rest : List ℕ) → (t == s) ≡ false → flat_map f (cond c (t ∷ rest) rest) ≡ flat_map f rest
  kept-none t true rest e = ap (λ ys. ys ++ flat_map f rest) (else_none t e)
  kept-none t false rest e = refl

  not-here : (t : ℕ) (c : Bool) → (t == s) ≡ c → (t ≡ s → ⊥) → c ≡ false
  not-here t true e n = absurd (n (eqb-true t s e))
  not-here t false e n = refl

  pub behind : (b n : ℕ) → s + 1 < b → From b n ≡ []
  behind b zero l = refl
  behind b (suc n) l =
      let i : (b - 1 ≡ s) → ⊥ = λ e. omega (arith, l, e) in
      kept-none (b - 1) (p (b - 1)) _ (not-here (b - 1) (b - 1 == s) refl i) ∙ behind (b + 1) n (omega (arith, l))

  pub met : (b n : ℕ) → p s ≡ true → 1 ≤ b → b ≤ s + 1 → s + 1 < b + n → From b n ≡ f s
  met b zero t o l r = absurd (omega (arith, l, r))
  met b (suc n) t o l r = by (b - 1 == s) refl (λ i. met (b + 1) n t (omega arith) (omega (arith, l, i, o)) (omega (arith, r)))
    where
      by : (c : Bool) → (b - 1 == s) ≡ c → (((b - 1 ≡ s) → ⊥) → From (b + 1) n ≡ f s) → From b (suc n) ≡ f s
      by true e next =
          let same : b - 1 ≡ s = eqb-true (b - 1) s e in
          ap (λ c. flat_map f (cond c ((b - 1) ∷ filter p (map (λ k. k - 1) (range_with_len (b + 1) n))) (filter p (map (λ k. k - 1) (range_with_len (b + 1) n))))) (ap (λ k. p k) same ∙ t) ∙
          ap (λ ys. f (b - 1) ++ ys) (behind (b + 1) n (omega (arith, same, o))) ∙ append-nil (f (b - 1)) ∙ ap (λ k. f k) same
      by false e next =
          let i : (b - 1 ≡ s) → ⊥ = λ g. true≢false (sym (eq-eqb (b - 1) s g) ∙ e) in
          kept-none (b - 1) (p (b - 1)) _ e ∙ next i

-- what one message makes an end post
no-cdc-choice : (x : Side) (token : ℕ) (a b : Bool) (one two : List Post) → filter_map (cdc_under x token) one ≡ [] → filter_map (cdc_under x token) two ≡ [] → filter_map (cdc_under x token) (if a then [] else if b then one else two) ≡ []
no-cdc-choice x token true b one two e f = refl
no-cdc-choice x token false true one two e f = e
no-cdc-choice x token false false one two e f = f

no-cdc-writes : (x y : Side) (token size : ℕ) (link : LinkId) (key : ℕ) (place : Place) (from to : ℕ) → filter_map (cdc_under x token) (writes size y link key place from to) ≡ []
no-cdc-writes x y token size link key place from to = no-cdc-choice x token (from == to) (nat_le (from % size + (to - from)) size) _ _ refl refl

meant-self : (x : Side) (token : ℕ) (link : LinkId) (m : CdcMessage) → m.token ≡ token → cdc_under x token (Cdc x link m) ≡ Some m
meant-self x token link m e = ap (λ b. if_meant (b && (token == m.token)) m) (same-self x) ∙ ap (λ b. if_meant b m) (eq-eqb token m.token (sym e))

meant-other : (x : Side) (token : ℕ) (link : LinkId) (m : CdcMessage) → cdc_under x token (Cdc (other x) link m) ≡ None
meant-other A token link m = refl
meant-other B token link m = refl

meant-else : (x : Side) (token : ℕ) (link : LinkId) (m : CdcMessage) → (token == m.token) ≡ false → cdc_under x token (Cdc x link m) ≡ None
meant-else x token link m e = ap (λ b. if_meant (same_side x x && b) m) e ∙ ap (λ b. if_meant (b && false) m) (same-self x)

-- the writes and the one CDC message of a batch, by what is meant of the latter
batch-by : (x y : Side) (token size key : ℕ) (o : Offer) (m : Sent) (check : Bool) (found : Option CdcMessage) →
    cdc_under x token (Cdc y m.link (if check then validation size o.token m.snapshot else spelled size o.token m.snapshot)) ≡ found →
    filter_map (cdc_under x token) (if check then Cdc y m.link (validation size o.token m.snapshot) ∷ [] else writes size y m.link key (offered_place o) m.from m.snapshot.told ++ Cdc y m.link (spelled size o.token m.snapshot) ∷ []) ≡ cons_option found []
batch-by x y token size key o m true found e = ap (λ f. cons_option f []) e
batch-by x y token size key o m false found e =
    filter_map-append (cdc_under x token) (writes size y m.link key (offered_place o) m.from m.snapshot.told) (Cdc y m.link (spelled size o.token m.snapshot) ∷ []) ∙
    ap (λ ms. ms ++ filter_map (cdc_under x token) (Cdc y m.link (spelled size o.token m.snapshot) ∷ [])) (no-cdc-writes x y token size m.link key (offered_place o) m.from m.snapshot.told) ∙
    ap (λ f. cons_option f []) e

token-of : (size : ℕ) (o : Offer) (m : Sent) (check : Bool) → (if check then validation size o.token m.snapshot else spelled size o.token m.snapshot).token ≡ o.token
token-of size o m true = refl
token-of size o m false = refl

batch-own : (x : Side) (size key : ℕ) (o : Offer) (m : Sent) → filter_map (cdc_under x o.token) (cdc_posts size x key o m) ≡ message size o.token m ∷ []
batch-own x size key o m = batch-by x x o.token size key o m m.check (Some (message size o.token m)) (meant-self x o.token m.link (message size o.token m) (token-of size o m m.check))

batch-else : (x : Side) (token size key : ℕ) (o : Offer) (m : Sent) → (token == o.token) ≡ false → filter_map (cdc_under x token) (cdc_posts size x key o m) ≡ []
batch-else x token size key o m e = batch-by x x token size key o m m.check None (meant-else x token m.link (message size o.token m) (ap (λ n. token == n) (token-of size o m m.check) ∙ e))

batch-other : (x : Side) (token size key : ℕ) (o : Offer) (m : Sent) → filter_map (cdc_under x token) (cdc_posts size (other x) key o m) ≡ []
batch-other x token size key o m = batch-by x (other x) token size key o m m.check None (meant-other x token m.link (message size o.token m))

-- what an end posts
sent-other : (x : Side) (token size : ℕ) (o : Option Offered) (past : List Entry) (m : Sent) → filter_map (cdc_under x token) (sent_posts size (other x) o past m) ≡ []
sent-other x token size None past m = refl
sent-other x token size (Some o) past m = batch-other x token size _ o.offer m

sent-else : (x : Side) (token size : ℕ) (o : Option Offered) (past : List Entry) (m : Sent) → IsElse token o → filter_map (cdc_under x token) (sent_posts size x o past m) ≡ []
sent-else x token size None past m e = refl
sent-else x token size (Some o) past m e = batch-else x token size _ o.offer m e

module _ (setup : Setup) (payload : List ℕ) (e : Entry) (past : List Entry) where
  -- the messages that the pipe of a socket gives an end to post
  abbrev pub given : Side → ℕ → List Sent
  given x s = posts_of (terms_of setup) x (items payload (group_on s past) s e past) (part payload (group_on s past) s past)

  end-other : (x : Side) (token s : ℕ) → filter_map (cdc_under x token) (end_posts setup payload (other x) s e past) ≡ []
  end-other x token s =
      filter_map-flat (cdc_under x token) (sent_posts (element_size setup) (other x) (offered (other (other x)) s past) (e ∷ past)) (given (other x) s) ∙
      flat-none _ (given (other x) s) (sent-other x token (element_size setup) (offered (other (other x)) s past) (e ∷ past))

  end-else : (x : Side) (token s : ℕ) → IsElse token (offered (other x) s past) → filter_map (cdc_under x token) (end_posts setup payload x s e past) ≡ []
  end-else x token s n =
      filter_map-flat (cdc_under x token) (sent_posts (element_size setup) x (offered (other x) s past) (e ∷ past)) (given x s) ∙
      flat-none _ (given x s) (λ m. sent-else x token (element_size setup) (offered (other x) s past) (e ∷ past) m n)

  end-own : (x : Side) (s : ℕ) (o : Offered) → offered (other x) s past ≡ Some o → filter_map (cdc_under x o.offer.token) (end_posts setup payload x s e past) ≡ map (message (element_size setup) o.offer.token) (given x s)
  end-own x s o f =
      ap (λ q. filter_map (cdc_under x o.offer.token) (flat_map (sent_posts (element_size setup) x q (e ∷ past)) (given x s))) f ∙
      filter_map-flat (cdc_under x o.offer.token) (sent_posts (element_size setup) x (Some o) (e ∷ past)) (given x s) ∙
      flat-one _ (message (element_size setup) o.offer.token) (given x s) (λ m. batch-own x (element_size setup) _ o.offer m)

  -- both ends of a socket: the other one's are not meant
  pipe-of-end : (x : Side) (token s : ℕ) → filter_map (cdc_under x token) (pipe_posts setup payload s e past) ≡ filter_map (cdc_under x token) (end_posts setup payload x s e past)
  pipe-of-end A token s =
      filter_map-append (cdc_under A token) (end_posts setup payload A s e past) (end_posts setup payload B s e past) ∙
      ap (λ ms. filter_map (cdc_under A token) (end_posts setup payload A s e past) ++ ms) (end-other A token s) ∙ append-nil (filter_map (cdc_under A token) (end_posts setup payload A s e past))
  pipe-of-end B token s =
      filter_map-append (cdc_under B token) (end_posts setup payload A s e past) (end_posts setup payload B s e past) ∙
      ap (λ ms. ms ++ filter_map (cdc_under B token) (end_posts setup payload B s e past)) (end-other B token s)

  -- under a token that no offer gave, nothing is posted
  pub nothing-strange : (x : Side) (token : ℕ) → ((s : ℕ) → IsElse token (offered (other x) s past)) → filter_map (cdc_under x token) (connection_posts setup payload e past) ≡ []
  nothing-strange x token n =
      filter_map-flat (cdc_under x token) (λ s. pipe_posts setup payload s e past) (offered_sockets setup past) ∙
      flat-none _ (offered_sockets setup past) (λ s. pipe-of-end x token s ∙ end-else x token s (n s))

  -- under the token of an offer, what its end posts is
  pub own-posted : (x : Side) (s : ℕ) (o : Offered) → offered (other x) s past ≡ Some o → ((t : ℕ) → (t == s) ≡ false → IsElse o.offer.token (offered (other x) t past)) → s < setup.sockets → is_offered past s ≡ true →
      filter_map (cdc_under x o.offer.token) (connection_posts setup payload e past) ≡ map (message (element_size setup) o.offer.token) (given x s)
  own-posted x s o f n l g =
      filter_map-flat (cdc_under x o.offer.token) (λ t. pipe_posts setup payload t e past) (offered_sockets setup past) ∙
      met (λ t. filter_map (cdc_under x o.offer.token) (pipe_posts setup payload t e past)) (is_offered past) s (λ t d. pipe-of-end x o.offer.token t ∙ end-else x o.offer.token t (n t d)) 1 setup.sockets g (omega arith) (omega arith) (omega (arith, l)) ∙
      pipe-of-end x o.offer.token s ∙ end-own x s o f

-- the links of what is posted
module _ (link : LinkId) where
  pub on-append : (ps qs : List Post) → EachPost (IsCdcOn link) ps → EachPost (IsCdcOn link) qs → EachPost (IsCdcOn link) (ps ++ qs)
  on-append [] qs p q = q
  on-append (post ∷ ps) qs p q = (p.0, on-append ps qs p.1 q)

  on-flat : {X : Type 0} (f : X → List Post) (xs : List X) → ((x : X) → EachPost (IsCdcOn link) (f x)) → EachPost (IsCdcOn link) (flat_map f xs)
  on-flat f [] e = tt
  on-flat f (x ∷ xs) e = on-append (f x) (flat_map f xs) (e x) (on-flat f xs e)

  on-choice : (b : Bool) (one two : List Post) → EachPost (IsCdcOn link) one → EachPost (IsCdcOn link) two → EachPost (IsCdcOn link) (if b then one else two)
  on-choice true one two p q = p
  on-choice false one two p q = q

  on-batch : (size key : ℕ) (x : Side) (o : Offer) (m : Sent) → m.link ≡ link → EachPost (IsCdcOn link) (cdc_posts size x key o m)
  on-batch size key x o m e = on-choice m.check _ _ (e, tt)
      (on-append (writes size x m.link key (offered_place o) m.from m.snapshot.told) (Cdc x m.link (spelled size o.token m.snapshot) ∷ [])
      (on-choice (m.from == m.snapshot.told) _ _ tt (on-choice (nat_le (m.from % size + (m.snapshot.told - m.from)) size) _ _ (tt, tt) (tt, (tt, tt)))) (e, tt))

  on-sent : (size : ℕ) (x : Side) (o : Option Offered) (past : List Entry) (ms : List Sent) → EachOf (λ m. m.link ≡ link) ms → EachPost (IsCdcOn link) (flat_map (sent_posts size x o past) ms)
  on-sent size x o past [] e = tt
  on-sent size x None past (m ∷ ms) e = on-sent size x None past ms e.1
  on-sent size x (Some o) past (m ∷ ms) e = on-append (cdc_posts size x _ o.offer m) _ (on-batch size _ x o.offer m e.0) (on-sent size x (Some o) past ms e.1)

  pub pipes-on : (setup : Setup) (payload : List ℕ) (e : Entry) (past : List Entry) → ((x : Side) (s : ℕ) → EachOf (λ m. m.link ≡ link) (given setup payload e past x s)) → EachPost (IsCdcOn link) (connection_posts setup payload e past)
  pipes-on setup payload e past f = on-flat (λ s. pipe_posts setup payload s e past) (offered_sockets setup past)
      (λ s. on-append (end_posts setup payload A s e past) (end_posts setup payload B s e past)
      (on-sent (element_size setup) A (offered B s past) (e ∷ past) (given setup payload e past A s) (f A s)) (on-sent (element_size setup) B (offered A s past) (e ∷ past) (given setup payload e past B s) (f B s)))
