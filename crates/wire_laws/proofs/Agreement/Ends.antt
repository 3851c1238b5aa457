-- What an entry makes of each end of a connection, and what it posts of it on each link.
use Rattle.std.proofs.Common.{Bool, List, [], ap, append-nil, arith, drop, false, filter_map, length, map, not, refl, subst, suc, sym, true, true≢false, zero, ℕ, ◌++◌, ◌+◌, ◌<◌, ◌==◌, ◌∙◌, ◌∷◌, ◌≡◌}
use Rattle.pipe_model.specs.declared.sent.Sent.{Sent}
use Rattle.pipe_model.specs.Fabric.{after}
use Rattle.std.proofs.lemmas.List.Elements.{filter_map-append}
use Rattle.std.specs.Prelude.{None, Option, Some, option_map, unwrap_or}
use Rattle.std.proofs.lemmas.Bool.{eq-eqb, eqb-true}
use Rattle.std.proofs.Math.Seq.{drop-append_seam}
use Rattle.pipe_model.specs.Connections.{comes_up}
use Rattle.pipe_model.specs.Pipe.{Lands}
use Rattle.history_laws.specs.Words.{A, B, Completes, Entry, Half, Item, LinkId, Offered, Setup, Side, Terms, connection_posts, deeds, draft, element_size, fabric, group_on, half, head, is_offered, items, next_number, offered, other, part, pipe, posts_of, step, terms_of, to_complete}
use Rattle.history_laws.proofs.Items.{AllStayOn, Counts, Sends, StaysOn, below, below-messages, counts-all, counts-step, items-are, pipe-is-up, same-items, sends-all, sends-on, sends-step, silent, stay-all-below, swallows-one}
use Rattle.history_laws.specs.Made.{IsMade}
use Rattle.history_laws.proofs.Posts.{all-control, connections-data, unseen-after}
use Rattle.history_laws.proofs.Wires.{apart, news_on}
use Rattle.history_laws.specs.Wires.{IsElse, message}
use Rattle.history_laws.proofs.Basics.{completes-one, lands-one, none-is}
use Rattle.lending_laws.specs.Ends.{OffersGoOn}
use Rattle.wire_laws.specs.Agreement.{OwedToAgreement}
use Rattle.wire_laws.proofs.Agreement.Posts.{news-are, none-asked, nothing-strange, own-posted, under}
use Rattle.wire_laws.proofs.Agreement.Step.{on_it}

-- an end that is not up has sent nothing, over every list of items
pub idle-any : (t : Terms) (x : Side) (is : List Item) → (half x (pipe t is)).up ≡ false → (half x (pipe t is)).sent ≡ []
idle-any t x is u =
    let all : is ++ [] ≡ is = append-nil is in
    let q : posts_of t x is [] ≡ [] = silent t x is [] (ap (λ js. (half x (pipe t js)).up) all ∙ u) in
    ap (λ js. (half x (pipe t js)).sent) (sym all) ∙ (sym (by x (half x (pipe t (is ++ []))).sent) ∙ q)
  where
    by : (y : Side) (ms : List Sent) → drop (length (half y (pipe t [])).sent) ms ≡ ms
    by A [] = refl
    by A (m ∷ ms) = refl
    by B [] = refl
    by B (m ∷ ms) = refl

module _ (setup : Setup) (payload : List ℕ) (e : Entry) (past : List Entry) (before : ℕ) (made : IsMade setup payload past before e) (owed : OwedToAgreement setup payload past) (beside : OffersGoOn e past) where
  abbrev T : Terms
  T = terms_of setup

  abbrev D : Entry
  D = draft setup payload past before e.event

  abbrev P : ℕ → List Item
  P s = part payload (group_on s past) s past

  abbrev I : ℕ → List Item
  I s = items payload (group_on s past) s e past

  abbrev Below : ℕ → List Item
  Below s = below (group_on s past) s e past

  abbrev Ds : ℕ → List Item
  Ds s = deeds payload s e.event e.reply past

  abbrev pub Now : Side → ℕ → Half
  Now x s = half x (pipe T (P s))

  abbrev pub Mid : Side → ℕ → Half
  Mid x s = half x (pipe T (Below s ++ P s))

  abbrev pub Then : Side → ℕ → Half
  Then x s = half x (pipe T (I s ++ P s))

  -- the draft of the entry gives the same items
  pub draft-fabric : fabric (D ∷ past) ≡ fabric (e ∷ past)
  draft-fabric = sym (ap (λ ps. after e.event e.reply ps past (fabric past)) made.posts ∙ ap (λ r. after e.event r (D.posts ++ connection_posts setup payload D past) past (fabric past)) made.reply ∙
      unseen-after e.event D.reply D.posts (connection_posts setup payload D past) past (fabric past) (connections-data setup payload D past))

  pub draft-items : (group s : ℕ) → items payload group s D past ≡ items payload group s e past
  draft-items group s = same-items payload group s D e past refl (sym made.reply) draft-fabric

  -- the CDC messages of the entry are those of the pipes
  pub of-pipes : (link : LinkId) (x : Side) (token : ℕ) → news_on link x token e past ≡ filter_map (under link x token) (connection_posts setup payload D past)
  of-pipes link x token =
      news-are link x token (next_number past) 1 e.posts ∙
      ap (λ ps. filter_map (under link x token) ps) made.posts ∙ filter_map-append (under link x token) D.posts (connection_posts setup payload D past) ∙
      ap (λ ms. ms ++ filter_map (under link x token) (connection_posts setup payload D past)) (none-asked link x token D.posts (all-control setup payload past e.event D.reply))

  pub no-news-strange : (link : LinkId) (x : Side) (token : ℕ) → ((s : ℕ) → IsElse token (offered (other x) s past)) → news_on link x token e past ≡ []
  no-news-strange link x token f = of-pipes link x token ∙ nothing-strange link setup payload D past x token f

  -- other sockets have other tokens
  pub tokens-else : (x : Side) (s : ℕ) (o : Offered) → offered x s past ≡ Some o → (t : ℕ) → (t == s) ≡ false → IsElse o.offer.token (offered x t past)
  tokens-else x s o f t d = by (offered x t past) refl
    where
      by : (q : Option Offered) → offered x t past ≡ q → IsElse o.offer.token q
      by None g = tt
      by (Some r) g = test (o.offer.token == r.offer.token) refl
        where
          test : (b : Bool) → (o.offer.token == r.offer.token) ≡ b → b ≡ false
          test true h = absurd (true≢false (sym (eq-eqb t s (sym (owed.tokens x s t o r f g (eqb-true o.offer.token r.offer.token h)))) ∙ d))
          test false h = refl

  abbrev group_by : Option Offered → ℕ
  group_by q = unwrap_or (option_map (λ (link : LinkId). link.group) (option_map (λ (o : Offered). o.link) q)) 0

  -- where a side has offered, B has
  pub b-offered : (x : Side) (s : ℕ) (o : Offered) → offered x s past ≡ Some o → (r : Offered) × (offered B s past ≡ Some r)
  b-offered B s o f = (o, f)
  b-offered A s o f = by (offered B s past) refl
    where
      by : (q : Option Offered) → offered B s past ≡ q → (r : Offered) × (offered B s past ≡ Some r)
      by None g = absurd (none-is o (sym (owed.answer s g) ∙ f))
      by (Some r) g = (r, g)

  pub offered-now : (x : Side) (s : ℕ) (o : Offered) → offered x s past ≡ Some o → is_offered past s ≡ true
  offered-now x s o f = let r = b-offered x s o f in ap (λ q. not (group_by q == 0)) r.1 ∙ ap (λ b. not b) (owed.grouped s r.0 r.1)

  -- what it posts of an end on a link is what the end sends there
  pub news-own : (x : Side) (s : ℕ) (o : Offered) → offered (other x) s past ≡ Some o → (more : List Sent) → (Then x s).sent ≡ (Now x s).sent ++ more → (link : LinkId) →
      news_on link x o.offer.token e past ≡ map (message (element_size setup) o.offer.token) (on_it link more)
  news-own x s o f more sent link =
      of-pipes link x o.offer.token ∙
      (own-posted link setup payload D past x s o f (tokens-else (other x) s o f) (owed.known (other x) s o f) (offered-now (other x) s o f) ∙
      (ap (λ is. map (message (element_size setup) o.offer.token) (on_it link (posts_of T x is (P s)))) (draft-items (group_on s past) s) ∙
      ap (λ ms. map (message (element_size setup) o.offer.token) (on_it link ms)) (ap (λ ms. drop (length (Now x s).sent) ms) sent ∙ drop-append_seam (Now x s).sent more)))

  -- what stands below its deeds
  once-up : (x : Side) (s : ℕ) (l : LinkId) → comes_up x s e past ≡ Some l → (Now x s).up ≡ false
  once-up x s l q = pipe-is-up T x payload (group_on s past) s past ∙ beside.once x s l q

  pub below-stay : (x : Side) (s : ℕ) → AllStayOn T x (Below s) (P s)
  below-stay x s = stay-all-below T x (group_on s past) s e past (P s) (once-up x s)

  pub mid-sends : (x : Side) (s : ℕ) → Sends (Now x s) (Mid x s)
  mid-sends x s = sends-all T x (Below s) (P s) (below-stay x s)

  pub mid-counts : (x : Side) (s : ℕ) → Counts (Now x s) (Mid x s)
  mid-counts x s = counts-all T x (Below s) (P s) (below-messages (group_on s past) s e past) (below-stay x s)

  -- by the deeds
  pub items-by : (s : ℕ) (ds : List Item) → Ds s ≡ ds → I s ≡ ds ++ Below s
  items-by s ds d = items-are payload (group_on s past) s e past ∙ ap (λ is. is ++ Below s) d

  pub then-none : (x : Side) (s : ℕ) → Ds s ≡ [] → Then x s ≡ Mid x s
  then-none x s d = ap (λ is. half x (pipe T (is ++ P s))) (items-by s [] d)

  pub then-one : (x : Side) (s : ℕ) (item : Item) → Ds s ≡ item ∷ [] → Then x s ≡ half x (step T item (pipe T (Below s ++ P s)))
  then-one x s item d = ap (λ is. half x (pipe T (is ++ P s))) (items-by s (item ∷ []) d)

  pub none-sends : (x : Side) (s : ℕ) → Ds s ≡ [] → Sends (Now x s) (Then x s)
  none-sends x s d = subst (λ k. Sends (Now x s) k) (sym (then-none x s d)) (mid-sends x s)

  pub none-counts : (x : Side) (s : ℕ) → Ds s ≡ [] → Counts (Now x s) (Then x s)
  none-counts x s d = subst (λ k. Counts (Now x s) k) (sym (then-none x s d)) (mid-counts x s)

  pub one-sends : (x : Side) (s : ℕ) (item : Item) → Ds s ≡ item ∷ [] → StaysOn x item (Mid x s) → Sends (Now x s) (Then x s)
  one-sends x s item d o = subst (λ k. Sends (Now x s) k) (sym (then-one x s item d)) (sends-on (Now x s) (Mid x s) (half x (step T item (pipe T (Below s ++ P s)))) (mid-sends x s) (sends-step T x item (pipe T (Below s ++ P s)) o))

  pub one-counts : (x : Side) (s : ℕ) (item : Item) → Ds s ≡ item ∷ [] → apart x item ≡ true → StaysOn x item (Mid x s) → Counts (Now x s) (Then x s)
  one-counts x s item d a o =
      let c = mid-counts x s in
      let q = counts-step T x item (pipe T (Below s ++ P s)) a o in
      subst (λ k. Counts (Now x s) k) (sym (then-one x s item d)) (q.0 ∙ c.0, q.1 ∙ c.1)

  -- a message lands
  pub lands-counts : (x : Side) (s : ℕ) → Ds s ≡ Lands x ∷ [] → ((Then x s).landed ≡ (Now x s).landed + 1) × ((Then x s).completed ≡ (Now x s).completed)
  lands-counts x s d =
      let c = mid-counts x s in
      let g = lands-one T x (pipe T (Below s ++ P s)) in
      (ap (λ (k : Half). k.landed) (then-one x s (Lands x) d) ∙ (g.landed_is ∙ ap (λ n. n + 1) c.0), ap (λ (k : Half). k.completed) (then-one x s (Lands x) d) ∙ (g.completed_is ∙ c.1))

  -- what is first among the messages of an end stays so below the deeds
  pub first-mid : (x : Side) (s : ℕ) (m : Sent) → head (to_complete (Now x s)) ≡ Some m → head (to_complete (Mid x s)) ≡ Some m
  first-mid x s m q =
      let p = mid-sends x s in
      let c = mid-counts x s in
      ap (λ n. head (drop n (Mid x s).sent)) c.1 ∙ (ap (λ ms. head (drop (Now x s).completed ms)) p.sent_is ∙ by (Now x s).completed (Now x s).sent p.more q)
    where
      by : (n : ℕ) (ms more : List Sent) → head (drop n ms) ≡ Some m → head (drop n (ms ++ more)) ≡ Some m
      by zero [] more i = absurd (none-is m i)
      by zero (k ∷ ms) more i = i
      by (suc n) [] more i = absurd (none-is m i)
      by (suc n) (k ∷ ms) more i = by n ms more i

  -- one that has landed completes
  pub completes-counts : (x : Side) (s : ℕ) → Ds s ≡ Completes x ∷ [] → (m : Sent) → head (to_complete (Now x s)) ≡ Some m → (Now x s).completed < (Now x s).landed → ((Then x s).landed ≡ (Now x s).landed) × ((Then x s).completed ≡ (Now x s).completed + 1)
  completes-counts x s d m q less =
      let c = mid-counts x s in
      let g = completes-one T x (pipe T (Below s ++ P s)) m (first-mid x s m q) (omega (arith, less, c.0, c.1)) in
      (ap (λ (k : Half). k.landed) (then-one x s (Completes x) d) ∙ (g.landed_is ∙ c.0), ap (λ (k : Half). k.completed) (then-one x s (Completes x) d) ∙ (g.completed_is ∙ ap (λ n. n + 1) c.1))

  -- one that has not landed completes: it was swallowed
  pub swallowed-counts : (x : Side) (s : ℕ) → Ds s ≡ Completes x ∷ [] → (m : Sent) → head (to_complete (Now x s)) ≡ Some m → (Now x s).completed ≡ (Now x s).landed → ((Then x s).landed ≡ (Now x s).landed + 1) × ((Then x s).completed ≡ (Now x s).completed + 1)
  swallowed-counts x s d m q same =
      let c = mid-counts x s in
      let g = swallows-one T x (pipe T (Below s ++ P s)) m (first-mid x s m q) (c.1 ∙ (same ∙ sym c.0)) in
      (ap (λ (k : Half). k.landed) (then-one x s (Completes x) d) ∙ (g.0 ∙ ap (λ n. n + 1) c.0), ap (λ (k : Half). k.completed) (then-one x s (Completes x) d) ∙ (g.1 ∙ ap (λ n. n + 1) c.1))
