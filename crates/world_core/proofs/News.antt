-- What an entry puts on the wire of a side is the next batch of an end, or nothing of that end.
use Rattle.std.proofs.Common.{◌≡◌, ◌∙◌, ◌==◌, ◌⊎◌, inl, inr, ℕ, ◌<◌, Bool, true, false, List, [], ◌∷◌, ◌++◌, length, map, filter, filter_map, refl, ap, sym, subst, ◌&&◌, true≢false, arith, eqb-true, append-nil}
use Rattle.smc_num.specs.Places.{Place}
use Rattle.std.proofs.lemmas.Nat.{pow_pos}
use Rattle.std.specs.Prelude.{Some, None, is_some, unwrap_or}
use Rattle.std.specs.List.{cons_option}
use Rattle.std.proofs.lemmas.List.Elements.{filter-append, filter_map-append}
use Rattle.smc_num.specs.declared.Side.{Side}
use Rattle.smc_num.specs.declared.Side.TheVariants.{A, B}
use Rattle.smc_num.specs.Names.{other, same_side, same_link, head}
use Rattle.smc_num.specs.Places.{rmb_at}
use Rattle.cdc_wire.specs.declared.CdcMessage.{CdcMessage}
use Rattle.pipe_model.specs.declared.setup.Setup.{Setup}
use Rattle.pipe_model.specs.declared.post.Post.{Post}
use Rattle.pipe_model.specs.declared.entry.Entry.{Entry}
use Rattle.pipe_model.specs.declared.sent.Sent.{Sent}
use Rattle.pipe_model.specs.Words.{element_size}
use Rattle.pipe_model.specs.History.{Offered, offered}
use Rattle.pipe_model.specs.Wires.{is_on}
use Rattle.pipe_model.specs.Ends.{Half}
use Rattle.pipe_model.specs.Keys.{last_bound}
use Rattle.pipe_model.specs.Pipe.{Terms, Item, half, pipe, posts_of}
use Rattle.pipe_model.specs.Parts.{EachOf, CarriesFew}
use Rattle.pipe_model.specs.Connections.{items, part}
use Rattle.pipe_model.specs.Lending.{terms_of}
use Rattle.pipe_model.specs.Posts.{offered_place, cdc_posts, connection_posts}
use Rattle.pipe_model.specs.Lawful.{draft}
use Rattle.pipe_model.proofs.Pipes.{carries-few}
use Rattle.world_core.specs.Played.{IsOneLink, IsPlayed}
use Rattle.world_core.specs.OneLink.{the_link}
use Rattle.world_core.specs.Wired.{HasGone, IsOpenSent, cdc_under, if_meant, message}
use Rattle.world_core.specs.WireSteps.{EachPost}
use Rattle.world_core.specs.Agreement.{PostsFew, PostsOne, CanBe}
use Rattle.world_core.specs.Landed.{GoOn, Carries}
use Rattle.world_core.proofs.Growth.{since-more}
use Rattle.world_core.proofs.AskedPosts.{IsControl, asked-control, none-under}
use Rattle.world_core.proofs.Handshaken.{shaken, has-offers, one-batch, gives-items}
use Rattle.world_core.proofs.Parts.{part-open, part-on}
use Rattle.world_core.proofs.Idle.{on-link}
use Rattle.world_core.proofs.OpenEnds.{half-open}
use Rattle.world_core.proofs.Agreement.{agrees}
use Rattle.world_core.proofs.Agreed.{news-own}
use Rattle.world_core.proofs.Follows.{follows, go-last}
use Rattle.world_core.proofs.OnWay.{carries-append, carries-control, batch-own, batch-else, each-batch, filter-all, filter-none, each-filter}
use Rattle.world_core.proofs.Plain.{some-is}

pub each-last : (P : Sent → Type 0) (ms : List Sent) (m : Sent) → EachOf P (ms ++ m ∷ []) → P m
each-last P [] m e = e.0
each-last P (k ∷ ms) m e = each-last P ms m e.1

pub go-same : (r a b : ℕ) (ms : List Sent) → GoOn r ms a → GoOn r ms b → a ≡ b
go-same r a b [] g h = sym g ∙ h
go-same r a b (m ∷ ms) g h = go-same m.snapshot.told a b ms g.1 h.1

pub some-bytes : (setup : Setup) → 0 < element_size setup
some-bytes setup = grind (arith, pow_pos)

map-none : (f : Sent → CdcMessage) (ms : List Sent) → [] ≡ map f ms → ms ≡ []
map-none f [] e = refl
map-none f (m ∷ ms) e = absurd (true≢false (ap (λ ns. is_some (head ns)) (sym e)))

none-of : (x : Side) (token : ℕ) (ps : List Post) → EachPost (λ p. cdc_under x token p ≡ None) ps → filter_map (cdc_under x token) ps ≡ []
none-of x token [] e = refl
none-of x token (p ∷ ps) e = ap (λ o. cons_option o (filter_map (cdc_under x token) ps)) e.0 ∙ none-of x token ps e.1

and-false : (a b : Bool) → b ≡ false → (a && b) ≡ false
and-false true b e = e
and-false false b e = refl

module _ (setup : Setup) (one : IsOneLink setup) (payload : List ℕ) (e : Entry) (past : List Entry) (n : ℕ) (p : IsPlayed setup payload (e ∷ past) n) (x : Side) where
  abbrev T : Terms
  T = terms_of setup

  abbrev D : Entry
  D = draft setup payload past p.0 e.event

  abbrev Conn : List Post
  Conn = connection_posts setup payload D past

  abbrev New : List Post
  New = filter (is_on the_link x) Conn

  abbrev All : List Post
  All = filter (is_on the_link x) e.posts

  made-posts : e.posts ≡ D.posts ++ Conn
  made-posts = let m = p.1 in m.posts

  controls : EachPost IsControl D.posts
  controls = let m = p.1 in asked-control setup payload past e.event D.reply m.built

  -- what is posted is another end's
  abbrev pub IsElses : ℕ → PostsOne setup payload D past → Type 0
  IsElses token q = (same_side x q.x ≡ false) ⊎ ((token == q.offer.offer.token) ≡ false)

  abbrev key-of : PostsOne setup payload D past → ℕ
  key-of q = unwrap_or (last_bound (other q.x) (rmb_at q.offer.offer.address) q.sent.link (D ∷ past)) 0

  batch-is : (q : PostsOne setup payload D past) → Conn ≡ cdc_posts (element_size setup) q.x (key-of q) q.offer.offer q.sent
  batch-is q = q.posts_are

  side-is : (y : Side) → same_side x y ≡ true → y ≡ x
  side-is y i = by x y i
    where
      by : (a b : Side) → same_side a b ≡ true → b ≡ a
      by A A i = refl
      by B B i = refl
      by A B i = absurd (true≢false (sym i))
      by B A i = absurd (true≢false (sym i))

  module _ (place : Place) (token last : ℕ) where
    abbrev On : List Post → List Sent → ℕ → Type 0
    On ps ms to = Carries (element_size setup) x place token last ps ms to

    other-on : (q : PostsOne setup payload D past) → same_side x q.x ≡ false → On New [] last
    other-on q d = subst (λ ps. On ps [] last) (sym (ap (λ ps. filter (is_on the_link x) ps) (batch-is q) ∙ filter-none (is_on the_link x) (cdc_posts (element_size setup) q.x (key-of q) q.offer.offer q.sent)
        (each-batch (λ r. is_on the_link x r ≡ false) (element_size setup) q.x (key-of q) q.offer.offer q.sent (λ a l. ap (λ b. b && same_link the_link q.sent.link) d) (λ m t. ap (λ b. b && same_link the_link q.sent.link) d)))) (refl, refl)

    else-on : (q : PostsOne setup payload D past) → IsElses token q → On New [] last
    else-on q (inl d) = other-on q d
    else-on q (inr d) = by (same_side x q.x) refl
      where
        batch : List Post
        batch = cdc_posts (element_size setup) q.x (key-of q) q.offer.offer q.sent

        alike : (b : Bool) → (same_side x q.x && same_link the_link q.sent.link) ≡ b → EachPost (λ r. is_on the_link x r ≡ b) batch
        alike b i = each-batch (λ r. is_on the_link x r ≡ b) (element_size setup) q.x (key-of q) q.offer.offer q.sent (λ a l. i) (λ m t. i)

        filtered : (b : Bool) → (same_side x q.x && same_link the_link q.sent.link) ≡ b → On batch [] last → On (filter (is_on the_link x) batch) [] last
        filtered true i c = subst (λ ps. On ps [] last) (sym (filter-all (is_on the_link x) batch (alike true i))) c
        filtered false i c = subst (λ ps. On ps [] last) (sym (filter-none (is_on the_link x) batch (alike false i))) (refl, refl)

        by : (b : Bool) → same_side x q.x ≡ b → On New [] last
        by false i = other-on q i
        by true i =
            subst (λ ps. On ps [] last) (sym (ap (λ ps. filter (is_on the_link x) ps) (batch-is q)))
            (filtered (same_side x q.x && same_link the_link q.sent.link) refl
            (subst (λ y. On (cdc_posts (element_size setup) y (key-of q) q.offer.offer q.sent) [] last) (sym (side-is q.x i)) (batch-else (element_size setup) x place token last (key-of q) q.offer.offer q.sent d)))

    -- behind the control posts of the entry
    with-control : (ms : List Sent) (to : ℕ) → On New ms to → On All ms to
    with-control ms to c =
        subst (λ ps. On ps ms to) (sym (ap (λ ps. filter (is_on the_link x) ps) made-posts ∙ filter-append (is_on the_link x) D.posts Conn))
        (carries-append (element_size setup) x place token New ms last to c last (filter (is_on the_link x) D.posts) []
        (carries-control (element_size setup) x place token last (filter (is_on the_link x) D.posts) (each-filter IsControl (is_on the_link x) D.posts controls)))

    none-on : Conn ≡ [] → On New [] last
    none-on f = subst (λ ps. On (filter (is_on the_link x) ps) [] last) (sym f) (refl, refl)

    -- a token that no end of the side has
    pub strange-news : ((q : PostsOne setup payload D past) → IsElses token q) → On All [] last
    strange-news s = with-control [] last (by (one-batch setup one payload e past n p))
      where
        by : PostsFew setup payload D past → On New [] last
        by (inl f) = none-on f
        by (inr q) = else-on q (s q)

  -- an end whose peer has offered
  module _ (s : ℕ) (o : Offered) (f : offered (other x) s past ≡ Some o) where
    abbrev Now : Half
    Now = half x (pipe T (part payload 1 s past))

    abbrev Then : Half
    Then = half x (pipe T (items payload 1 s e past ++ part payload 1 s past))

    can : CanBe T (part payload 1 s past)
    can = let a = agrees setup payload past p.0 p.3 (shaken setup one payload past p.0 p.3) in a.part_can_be s

    cans : CanBe T (part payload 1 s (e ∷ past))
    cans = let a = agrees setup payload (e ∷ past) n p (shaken setup one payload (e ∷ past) n p) in a.part_can_be s

    pub follows-now : GoOn 0 Now.sent Now.last.told
    follows-now = let c = can in let g = follows T x (part payload 1 s past) (part-open setup payload 1 s past p.0 p.3 (shaken setup one payload past p.0 p.3)) c.feasible c.whole in g.0

    pub follows-then : GoOn 0 Then.sent Then.last.told
    follows-then = let c = cans in let g = follows T x (part payload 1 s (e ∷ past)) (part-open setup payload 1 s (e ∷ past) n p (shaken setup one payload (e ∷ past) n p)) c.feasible c.whole in g.0

    module _ (l c : ℕ) (g : HasGone Now Then l c) where
      own-news : filter_map (cdc_under x o.offer.token) e.posts ≡ map (message (element_size setup) o.offer.token) g.more
      own-news =
          let sh = shaken setup one payload (e ∷ past) n p in
          let q = sh.1 in
          let r = q.1 in
          news-own setup payload e past p.0 p.0 p.1 p.3 (has-offers setup one payload past p.0 p.3) q.0 r.0 r.1 x s o f l c g

      none-more : filter_map (cdc_under x o.offer.token) Conn ≡ [] → g.more ≡ []
      none-more i = map-none (message (element_size setup) o.offer.token) g.more
          (sym (ap (λ ps. filter_map (cdc_under x o.offer.token) ps) made-posts ∙ filter_map-append (cdc_under x o.offer.token) D.posts Conn ∙ ap (λ ms. ms ++ filter_map (cdc_under x o.offer.token) Conn) (none-under x o.offer.token D.posts controls) ∙ i) ∙ own-news)

      still-last : g.more ≡ [] → Now.last.told ≡ Then.last.told
      still-last i = go-same 0 Now.last.told Then.last.told Now.sent follows-now
          (subst (λ ms. GoOn 0 ms Then.last.told) (g.sent_is ∙ ap (λ ms. Now.sent ++ ms) i ∙ append-nil Now.sent) follows-then)

      abbrev Goal : Type 0
      Goal = Carries (element_size setup) x (offered_place o.offer) o.offer.token Now.last.told New g.more Then.last.told

      none-goal : g.more ≡ [] → Carries (element_size setup) x (offered_place o.offer) o.offer.token Now.last.told New [] Now.last.told → Goal
      none-goal i c = subst (λ ms. Carries (element_size setup) x (offered_place o.offer) o.offer.token Now.last.told New ms Then.last.told) (sym i) (subst (λ k. Carries (element_size setup) x (offered_place o.offer) o.offer.token Now.last.told New [] k) (still-last i) c)

      elses-none : (q : PostsOne setup payload D past) → IsElses o.offer.token q → filter_map (cdc_under x o.offer.token) Conn ≡ []
      elses-none q d = ap (λ ps. filter_map (cdc_under x o.offer.token) ps) (batch-is q) ∙ none-of x o.offer.token (cdc_posts (element_size setup) q.x (key-of q) q.offer.offer q.sent)
          (each-batch (λ r. cdc_under x o.offer.token r ≡ None) (element_size setup) q.x (key-of q) q.offer.offer q.sent (λ a k. refl) (λ m t. ap (λ b. if_meant b m) (by d m t)))
        where
          by : (same_side x q.x ≡ false) ⊎ ((o.offer.token == q.offer.offer.token) ≡ false) → (m : CdcMessage) → m.token ≡ q.offer.offer.token → (same_side x q.x && (o.offer.token == m.token)) ≡ false
          by (inl i) m t = ap (λ b. b && (o.offer.token == m.token)) i
          by (inr i) m t = and-false (same_side x q.x) (o.offer.token == m.token) (ap (λ k. o.offer.token == k) t ∙ i)

      own-goal : (q : PostsOne setup payload D past) → q.x ≡ x → q.s ≡ s → q.offer ≡ o → Goal
      own-goal q i j k =
          let gives = gives-items setup one payload e past n p in
          let m : Sent = q.sent in
          let more : g.more ≡ m ∷ [] =
          sym (since-more Now Then l c g) ∙ ap (λ is. posts_of T x is (part payload 1 s past)) (sym (gives.of_draft 1 s))
          ∙ subst (λ y. posts_of T y (items payload 1 s D past) (part payload 1 s past) ≡ m ∷ []) i (subst (λ r. posts_of T q.x (items payload 1 r D past) (part payload 1 r past) ≡ m ∷ []) j q.sent_is) in
          let sent : Then.sent ≡ Now.sent ++ m ∷ [] = g.sent_is ∙ ap (λ ms. Now.sent ++ ms) more in
          let ends = go-last 0 Now.last.told 0 Then.last.told Now.sent m follows-now (subst (λ ms. GoOn 0 ms Then.last.told) sent follows-then) in
          let all : List Item = part payload 1 s (e ∷ past) in
          let sh = shaken setup one payload (e ∷ past) n p in
          let keeps = part-open setup payload 1 s (e ∷ past) n p sh in
          let on = on-link the_link T x all keeps (part-on setup payload 1 s (e ∷ past) n p sh) in
          let open-end = half-open T x all keeps in
          let cs = cans in
          let link : m.link ≡ the_link = each-last (λ r. r.link ≡ the_link) Now.sent m (subst (λ ms. EachOf (λ r. r.link ≡ the_link) ms) sent on.sent) in
          let is-open : IsOpenSent m = each-last IsOpenSent Now.sent m (subst (λ ms. EachOf IsOpenSent ms) sent open-end.sent) in
          let few : CarriesFew (element_size setup) (length Then.out) m = each-last (CarriesFew (element_size setup) (length Then.out)) Now.sent m (subst (λ ms. EachOf (CarriesFew (element_size setup) (length Then.out)) ms) sent (carries-few T x all cs.feasible)) in
          let batch : List Post = cdc_posts (element_size setup) x (key-of q) o.offer m in
          let new : New ≡ batch =
          ap (λ ps. filter (is_on the_link x) ps) (batch-is q ∙ ap (λ y. cdc_posts (element_size setup) y (key-of q) q.offer.offer m) i ∙ ap (λ (r : Offered). cdc_posts (element_size setup) x (key-of q) r.offer m) k)
          ∙ filter-all (is_on the_link x) batch (each-batch (λ r. is_on the_link x r ≡ true) (element_size setup) x (key-of q) o.offer m (λ a b. on-own m link) (λ a b. on-own m link)) in
          let owned = batch-own (element_size setup) x (offered_place o.offer) o.offer.token (some-bytes setup) (key-of q) o.offer m is-open.0 refl refl few.forward few.few in
          subst (λ ps. Carries (element_size setup) x (offered_place o.offer) o.offer.token Now.last.told ps g.more Then.last.told) (sym new)
          (subst (λ ms. Carries (element_size setup) x (offered_place o.offer) o.offer.token Now.last.told batch ms Then.last.told) (sym more)
          (subst (λ r. Carries (element_size setup) x (offered_place o.offer) o.offer.token r batch (m ∷ []) Then.last.told) ends.0
          (subst (λ r. Carries (element_size setup) x (offered_place o.offer) o.offer.token m.from batch (m ∷ []) r) ends.1 owned)))
        where
          on-own : (m : Sent) → m.link ≡ the_link → (same_side x x && same_link the_link m.link) ≡ true
          on-own m i = ap (λ r. same_side x x && same_link the_link r) i ∙ ap (λ b. b && same_link the_link the_link) (self x)
            where
              self : (y : Side) → same_side y y ≡ true
              self A = refl
              self B = refl

      -- the new posts are those of what it sent
      pub news : Carries (element_size setup) x (offered_place o.offer) o.offer.token Now.last.told All g.more Then.last.told
      news = with-control (offered_place o.offer) o.offer.token Now.last.told g.more Then.last.told (by (one-batch setup one payload e past n p))
        where
          at : (q : PostsOne setup payload D past) (a : Bool) (b : Bool) → same_side x q.x ≡ a → (o.offer.token == q.offer.offer.token) ≡ b → Goal
          at q false b i j = none-goal (none-more (elses-none q (inl i))) (else-on (offered_place o.offer) o.offer.token Now.last.told q (inl i))
          at q true false i j = none-goal (none-more (elses-none q (inr j))) (else-on (offered_place o.offer) o.offer.token Now.last.told q (inr j))
          at q true true i j =
              let offers = has-offers setup one payload past p.0 p.3 in
              let side : q.x ≡ x = side-is q.x i in
              let there : offered (other x) q.s past ≡ Some q.offer = subst (λ y. offered (other y) q.s past ≡ Some q.offer) side q.offered_is in
              let same : q.s ≡ s = sym (offers.tokens (other x) s q.s o q.offer f there (eqb-true o.offer.token q.offer.offer.token j)) in
              own-goal q side same (some-is q.offer o (sym there ∙ ap (λ r. offered (other x) r past) same ∙ f))

          by : PostsFew setup payload D past → Goal
          by (inl i) = none-goal (none-more (ap (λ ps. filter_map (cdc_under x o.offer.token) ps) i)) (none-on (offered_place o.offer) o.offer.token Now.last.told i)
          by (inr q) = at q (same_side x q.x) (o.offer.token == q.offer.offer.token) refl refl
