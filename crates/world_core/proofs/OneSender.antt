-- At most one end acts with an entry, so that all pipes together post one batch.
use Rattle.std.proofs.Common.{◌≡◌, ◌∙◌, ◌==◌, ◌⊎◌, inl, inr, ℕ, ◌+◌, ◌-◌, ◌%◌, ◌≤◌, Bool, true, false, not, if◌then◌else◌, List, [], ◌∷◌, ◌++◌, length, take, drop, flat_map, refl, ap, sym, subst, ◌&&◌, true≢false, arith, append-nil, length-append, nat_le, eqb-true, eq-eqb}
use Rattle.std.specs.Prelude.{Option, Some, None, unwrap_or}
use Rattle.smc_num.specs.declared.Side.{Side}
use Rattle.smc_num.specs.declared.Side.TheVariants.{A, B}
use Rattle.smc_num.specs.Places.{rmb_at}
use Rattle.smc_num.specs.Names.{other, same_side}
use Rattle.pipe_model.specs.declared.setup.Setup.{Setup}
use Rattle.pipe_model.specs.declared.event.Event.{Event}
use Rattle.pipe_model.specs.declared.event.End.{End}
use Rattle.pipe_model.specs.declared.event.Event.TheVariants.{Open, Write, Read, Clc, Deliver, Complete}
use Rattle.pipe_model.specs.declared.post.Post.{Post}
use Rattle.pipe_model.specs.declared.post.Post.TheVariants.{Write as WritePost, Cdc, Llc, Clc as ClcPost}
use Rattle.pipe_model.specs.declared.post.PostRef.{PostRef}
use Rattle.pipe_model.specs.declared.entry.Entry.{Entry}
use Rattle.pipe_model.specs.declared.sent.Sent.{Sent}
use Rattle.pipe_model.specs.Words.{element_size, passes}
use Rattle.pipe_model.specs.Snapshot.{spelled}
use Rattle.pipe_model.specs.History.{Offered, offered, is_cdc}
use Rattle.pipe_model.specs.Calls.{Call, Writes, Reads}
use Rattle.pipe_model.specs.Pipe.{Item, Calls, Lands, Completes, posts_of}
use Rattle.pipe_model.specs.Wires.{uncompleted}
use Rattle.pipe_model.specs.Connections.{is_up, call_on, is_own, if_own, deeds, items, part, landed_at, completed_at}
use Rattle.pipe_model.specs.Lending.{terms_of}
use Rattle.pipe_model.specs.Keys.{last_bound}
use Rattle.pipe_model.specs.Posts.{writes, offered_place, sent_posts, end_posts, pipe_posts, is_offered, offered_sockets, connection_posts}
use Rattle.pipe_model.specs.Lawful.{draft}
use Rattle.pipe_model.specs.Fits.{Fits}
use Rattle.world_core.specs.Played.{IsMade, IsPlayed}
use Rattle.world_core.specs.OneLink.{the_link}
use Rattle.world_core.specs.Wired.{EachItem, passes_by}
use Rattle.world_core.specs.WireSteps.{CompletesNow, Way}
use Rattle.world_core.specs.Agreement.{IsOnlyLink, HasOffers, GoesOn, IsShaken, IsElse, IsCalm, PostsFew}
use Rattle.world_core.proofs.PipePosts.{given, flat-none, met}
use Rattle.world_core.proofs.Places.{uncompleted-stand, first-stands}
use Rattle.world_core.proofs.Ways.{way, own-items}
use Rattle.world_core.proofs.Own.{own-some, own-none, grouped, tokens-else}
use Rattle.world_core.proofs.Heads.{Gave, gave}
use Rattle.world_core.proofs.Senders.{rests}
use Rattle.world_core.proofs.Batches.{given-none, given-few}
use Rattle.world_core.proofs.Plain.{and-right, same-self}

-- one batch is three posts at most
few-writes : (a b : Bool) (p q r : Post) → length (if a then [] else if b then p ∷ [] else q ∷ r ∷ []) ≤ 2
few-writes true b p q r = omega arith
few-writes false true p q r = omega arith
few-writes false false p q r = omega arith

few-by : (check : Bool) (one two : List Post) → length one ≤ 3 → length two ≤ 3 → length (if check then one else two) ≤ 3
few-by true one two a b = a
few-by false one two a b = b

few-sent : (size : ℕ) (x : Side) (o : Offered) (past : List Entry) (m : Sent) → length (sent_posts size x (Some o) past m) ≤ 3
few-sent size x o past m =
    let key : ℕ = unwrap_or (last_bound (other x) (rmb_at o.offer.address) m.link past) 0 in
    let w : length (writes size x m.link key (offered_place o.offer) m.from m.snapshot.told) ≤ 2 = few-writes (m.from == m.snapshot.told) (nat_le (m.from % size + (m.snapshot.told - m.from)) size) _ _ _ in
    let n : length (writes size x m.link key (offered_place o.offer) m.from m.snapshot.told ++ Cdc x m.link (spelled size o.offer.token m.snapshot) ∷ []) ≡ length (writes size x m.link key (offered_place o.offer) m.from m.snapshot.told) + 1 =
    length-append (writes size x m.link key (offered_place o.offer) m.from m.snapshot.told) (Cdc x m.link (spelled size o.offer.token m.snapshot) ∷ []) in
    few-by m.check _ _ (omega arith) (omega (arith, n, w))

-- which items make the ends rest
call-rests : (y : Side) (t : ℕ) (end : End) (call : Call) (past : List Entry) → ((t == end.s) && same_side y end.side) ≡ false → EachItem (rests y) (call_on end call t past)
call-rests y t end call past e = by (t == end.s) (is_up end.side t past) e
  where
    by : (b u : Bool) → (b && same_side y end.side) ≡ false → EachItem (rests y) (if b && u then Calls end.side call ∷ [] else [])
    by true true f = (ap (λ c. not c) f, tt)
    by true false f = tt
    by false u f = tt

passing-rests : (y d : Side) (b : Bool) → EachItem (passes_by d) (if b then Completes d ∷ [] else []) → EachItem (rests y) (if b then Completes d ∷ [] else [])
passing-rests y d true p = absurd (true≢false (sym p.0 ∙ ap (λ c. not c) (same-self d)))
passing-rests y d false p = tt

none-rests : (y : Side) (ds : List Item) → ds ≡ [] → EachItem (rests y) ds
none-rests y ds e = subst (λ is. EachItem (rests y) is) (sym e) tt

module _ (setup : Setup) (payload : List ℕ) (e : Entry) (past : List Entry) (before n : ℕ) (made : IsMade setup payload past before e) (played : IsPlayed setup payload past n)
    (offers : HasOffers setup past) (only : IsOnlyLink past) (go : GoesOn e past) (shaken : IsShaken setup past) (calm : (x : Side) → IsCalm x e past) where
  abbrev pub D : Entry
  D = draft setup payload past before e.event

  abbrev pub Deeds : ℕ → List Item
  Deeds t = deeds payload t e.event e.reply past

  -- every end but one rests
  pub record Single : Type 0 where
    pub s : ℕ
    pub x : Side
    pub rest : (y : Side) (t : ℕ) → ((t == s) && same_side y x) ≡ false → EachItem (rests y) (Deeds t)

  of-call : (end : End) (call : Call) → ((t : ℕ) → Deeds t ≡ call_on end call t past) → Single
  of-call end call d = record { s = end.s; x = end.side; rest = λ y t f. subst (λ is. EachItem (rests y) is) (sym (d t)) (call-rests y t end call past f) }

  all-rest : ((y : Side) (t : ℕ) → EachItem (rests y) (Deeds t)) → Single
  all-rest f = record { s = 0; x = A; rest = λ y t g. f y t }

  -- a completion is that of the one socket under whose token it stands
  not-its : (d : Side) (t s0 : ℕ) (o0 : Offered) (post : Post) (l : CompletesNow the_link d e past) → ((t == s0) ≡ false) → offered (other d) s0 past ≡ Some o0 → ((token : ℕ) → is_cdc d token l.first.post ≡ true → token ≡ o0.offer.token) →
      (q : Option Offered) → offered (other d) t past ≡ q → if_own (Completes d) d t (Some l.first.at) past ≡ []
  not-its d t s0 o0 post l ne f tok None g = own-none (Completes d) d t (Some l.first.at) past g
  not-its d t s0 o0 post l ne f tok (Some o) g =
      own-some (Completes d) d t l.first.at past o l.first.post g (first-stands past (uncompleted the_link d past) l.first l.rest (uncompleted-stand the_link d past) l.waiting) ∙
      ap (λ b. if b then Completes d ∷ [] else []) (test (is_cdc d o.offer.token l.first.post) refl)
    where
      test : (b : Bool) → is_cdc d o.offer.token l.first.post ≡ b → b ≡ false
      test false h = refl
      test true h =
          let other_token : IsElse o0.offer.token (Some o) = subst (λ r. IsElse o0.offer.token r) g (tokens-else setup past offers (other d) s0 o0 f t ne) in
          absurd (true≢false (sym (eq-eqb o0.offer.token o.offer.token (sym (tok o.offer.token h))) ∙ other_token))

  abbrev token_in : Post → ℕ
  token_in (Cdc from link m) = m.token
  token_in _ = 0

  its-token : (d : Side) (token : ℕ) (post : Post) → is_cdc d token post ≡ true → token ≡ token_in post
  its-token d token (WritePost from link key address len) f = absurd (true≢false (sym f))
  its-token d token (Llc from link m) f = absurd (true≢false (sym f))
  its-token d token (ClcPost from s link m) f = absurd (true≢false (sym f))
  its-token d token (Cdc from link m) f = eqb-true token m.token (and-right (same_side d from) (token == m.token) f)

  none-its : (d : Side) (t : ℕ) (l : CompletesNow the_link d e past) → ((s : ℕ) → IsElse (token_in l.first.post) (offered (other d) s past)) → (q : Option Offered) → offered (other d) t past ≡ q → if_own (Completes d) d t (Some l.first.at) past ≡ []
  none-its d t l f None g = own-none (Completes d) d t (Some l.first.at) past g
  none-its d t l f (Some o) g =
      own-some (Completes d) d t l.first.at past o l.first.post g (first-stands past (uncompleted the_link d past) l.first l.rest (uncompleted-stand the_link d past) l.waiting) ∙
      ap (λ b. if b then Completes d ∷ [] else []) (test (is_cdc d o.offer.token l.first.post) refl)
    where
      test : (b : Bool) → is_cdc d o.offer.token l.first.post ≡ b → b ≡ false
      test false h = refl
      test true h =
          let else_is : IsElse (token_in l.first.post) (Some o) = subst (λ r. IsElse (token_in l.first.post) r) g (f t) in
          absurd (true≢false (sym (eq-eqb (token_in l.first.post) o.offer.token (sym (its-token d o.offer.token l.first.post h))) ∙ else_is))

  other-rests : (y d : Side) (t : ℕ) (at : Option PostRef) → same_side y d ≡ false → EachItem (rests y) (if_own (Completes d) d t at past)
  other-rests y d t at f = own-items (rests y) (Completes d) d t at past (ap (λ c. not c) f)

  its-rests : (d y : Side) (t s0 : ℕ) (at : Option PostRef) → ((t == s0) && same_side y d) ≡ false → ((t == s0) ≡ false → Deeds t ≡ []) → Deeds t ≡ if_own (Completes d) d t at past → EachItem (rests y) (Deeds t)
  its-rests d y t s0 at f none is = by (t == s0) refl f
    where
      by : (b : Bool) → (t == s0) ≡ b → (b && same_side y d) ≡ false → EachItem (rests y) (Deeds t)
      by false h g = none-rests y (Deeds t) (none h)
      by true h g = subst (λ is. EachItem (rests y) is) (sym is) (other-rests y d t at g)

  of-completion : (d : Side) → ((t : ℕ) → Deeds t ≡ if_own (Completes d) d t (completed_at e.reply) past) → Way payload the_link d e past → Single
  of-completion d is (inl w) = all-rest (λ y t. subst (λ js. EachItem (rests y) js) (sym (is t)) (passing-rests y d (passes (is_own d t past) (completed_at e.reply)) (subst (λ js. EachItem (passes_by d) js) (is t) (w.1 t))))
  of-completion d is (inr (inl w)) = let l = w.0 in all-rest (λ y t. subst (λ js. EachItem (rests y) js) (sym (w.1 t)) (own-items (rests y) (Lands d) d t (Some l.first.at) past refl))
  of-completion d is (inr (inr w)) = let l = w.0 in by (gave setup (other d) (token_in l.first.post) past offers)
    where
      by : Gave (other d) (token_in (w.0).first.post) past ⊎ ((s : ℕ) → IsElse (token_in (w.0).first.post) (offered (other d) s past)) → Single
      by (inr f) = let l = w.0 in all-rest (λ y t. none-rests y (Deeds t) (w.1 t ∙ none-its d t l f (offered (other d) t past) refl))
      by (inl g) =
          let l = w.0 in
          let s0 : ℕ = g.0 in
          let h = g.1 in
          let o0 : Offered = h.0 in
          let i = h.1 in
          record {
            s = s0;
            x = d;
            rest = λ y t f. its-rests d y t s0 (completed_at e.reply) f (λ ne. w.1 t ∙ not-its d t s0 o0 l.first.post l ne i.0 (λ token c. its-token d token l.first.post c ∙ i.1) (offered (other d) t past) refl) (is t);
          }

  single-by : (event : Event) → e.event ≡ event → Fits setup (length payload) event → Single
  single-by (Open s) v b = all-rest (λ y t. none-rests y (Deeds t) (ap (λ event. deeds payload t event e.reply past) v))
  single-by (Clc s dir) v b = all-rest (λ y t. none-rests y (Deeds t) (ap (λ event. deeds payload t event e.reply past) v))
  single-by (Write end at len) v b = of-call end (Writes (take len (drop at payload))) (λ t. ap (λ event. deeds payload t event e.reply past) v)
  single-by (Read end len) v b = of-call end (Reads len) (λ t. ap (λ event. deeds payload t event e.reply past) v)
  single-by (Deliver slot d) v b = all-rest (λ y t. subst (λ js. EachItem (rests y) js) (sym (ap (λ event. deeds payload t event e.reply past) v)) (own-items (rests y) (Lands d) d t (landed_at slot d e.reply past) past refl))
  single-by (Complete slot d) v b = of-completion d (λ t. ap (λ event. deeds payload t event e.reply past) v) (way payload past e setup before d only made)
  single-by _ v b = absurd b

  pub single : Single
  single = single-by e.event refl made.built

  -- what the pipes of the sockets post
  end-none : (y : Side) (t : ℕ) → given setup payload D past y t ≡ [] → end_posts setup payload y t D past ≡ []
  end-none y t f = ap (λ ms. flat_map (sent_posts (element_size setup) y (offered (other y) t past) (D ∷ past)) ms) f

  pub rest-posts : (y : Side) (t : ℕ) → EachItem (rests y) (Deeds t) → end_posts setup payload y t D past ≡ []
  rest-posts y t r = end-none y t (given-none setup payload e past before n made played offers only go shaken calm y t r)

  both-none : (ps qs : List Post) → ps ≡ [] → qs ≡ [] → ps ++ qs ≡ []
  both-none ps qs f g = ap (λ rs. rs ++ qs) f ∙ g

  none-of : (q : Single) (t : ℕ) → (t == q.s) ≡ false → pipe_posts setup payload t D past ≡ []
  none-of q t f = both-none (end_posts setup payload A t D past) (end_posts setup payload B t D past) (rest-posts A t (q.rest A t (ap (λ b. b && same_side A q.x) f))) (rest-posts B t (q.rest B t (ap (λ b. b && same_side B q.x) f)))

  apart : (x : Side) (s : ℕ) → ((s == s) && same_side (other x) x) ≡ false
  apart A s = last-no (s == s)
    where
      last-no : (b : Bool) → (b && false) ≡ false
      last-no true = refl
      last-no false = refl
  apart B s = last-no (s == s)
    where
      last-no : (b : Bool) → (b && false) ≡ false
      last-no true = refl
      last-no false = refl

  one-end : (x : Side) (s : ℕ) → EachItem (rests (other x)) (Deeds s) → pipe_posts setup payload s D past ≡ end_posts setup payload x s D past
  one-end A s r = ap (λ ps. end_posts setup payload A s D past ++ ps) (rest-posts B s r) ∙ append-nil (end_posts setup payload A s D past)
  one-end B s r = ap (λ ps. ps ++ end_posts setup payload B s D past) (rest-posts A s r)

  pub posts-of : (q : Single) → pipe_posts setup payload q.s D past ≡ end_posts setup payload q.x q.s D past
  posts-of q = one-end q.x q.s (q.rest (other q.x) q.s (apart q.x q.s))

  -- where the one end was not offered, nothing is posted at all
  pub nowhere : (q : Single) → end_posts setup payload q.x q.s D past ≡ [] → connection_posts setup payload D past ≡ []
  nowhere q f = flat-none (λ t. pipe_posts setup payload t D past) (offered_sockets setup past) (λ t. by t (t == q.s) refl)
    where
      by : (t : ℕ) (b : Bool) → (t == q.s) ≡ b → pipe_posts setup payload t D past ≡ []
      by t true g = ap (λ k. pipe_posts setup payload k D past) (eqb-true t q.s g) ∙ posts-of q ∙ f
      by t false g = none-of q t g

  pub all-of : (q : Single) (o : Offered) → offered (other q.x) q.s past ≡ Some o → connection_posts setup payload D past ≡ end_posts setup payload q.x q.s D past
  all-of q o f =
      met (λ t. pipe_posts setup payload t D past) (is_offered past) q.s (none-of q) 1 setup.sockets (ap (λ g. not (g == 0)) (grouped setup past offers (other q.x) q.s o f)) (omega arith) (omega arith) (omega (arith, offers.known (other q.x) q.s o f)) ∙ posts-of q

  few-by-given : (q : Single) (o : Offered) → offered (other q.x) q.s past ≡ Some o → (ms : List Sent) → given setup payload D past q.x q.s ≡ ms → length ms ≤ 1 → PostsFew setup payload D past
  few-by-given q o f [] g l = inl (nowhere q (end-none q.x q.s g))
  few-by-given q o f (m ∷ []) g l =
      let posts : connection_posts setup payload D past ≡ sent_posts (element_size setup) q.x (Some o) (D ∷ past) m =
      all-of q o f ∙ ap (λ r. flat_map (sent_posts (element_size setup) q.x r (D ∷ past)) (given setup payload D past q.x q.s)) f ∙ ap (λ ns. flat_map (sent_posts (element_size setup) q.x (Some o) (D ∷ past)) ns) g ∙
      append-nil (sent_posts (element_size setup) q.x (Some o) (D ∷ past) m) in
      inr (record {
        x = q.x;
        s = q.s;
        offer = o;
        offered_is = f;
        sent = m;
        sent_is = subst (λ k. posts_of (terms_of setup) q.x (items payload k q.s D past) (part payload k q.s past) ≡ m ∷ []) (grouped setup past offers (other q.x) q.s o f) g;
        posts_are = posts;
        few = subst (λ ps. length ps ≤ 3) (sym posts) (few-sent (element_size setup) q.x o (D ∷ past) m);
      })
  few-by-given q o f (m ∷ r ∷ ms) g l = absurd (omega (arith, l))

  few-by-offer : (q : Single) (o : Option Offered) → offered (other q.x) q.s past ≡ o → PostsFew setup payload D past
  few-by-offer q None f = inl (nowhere q (ap (λ r. flat_map (sent_posts (element_size setup) q.x r (D ∷ past)) (given setup payload D past q.x q.s)) f ∙ flat-none _ (given setup payload D past q.x q.s) (λ m. refl)))
  few-by-offer q (Some o) f = few-by-given q o f (given setup payload D past q.x q.s) refl (given-few setup payload e past before n made played offers only go shaken calm q.x q.s)

  -- nothing is posted by the pipes, or one batch of one end
  pub posts-few : PostsFew setup payload D past
  posts-few = let q = single in few-by-offer q (offered (other q.x) q.s past) refl
