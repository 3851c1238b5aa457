-- Wires and pipes go on agreeing with each entry of a played history.
use Rattle.std.proofs.Common.{◌≡◌, ◌∙◌, ◌==◌, inl, inr, ℕ, true, if◌then◌else◌, List, [], ◌∷◌, ◌++◌, length, drop, map, filter_map, refl, ap, sym, subst, true≢false, suc, zero, not}
use Rattle.std.specs.Prelude.{Option, Some, None, is_some}
use Rattle.std.specs.List.{cons_option}
use Rattle.std.proofs.lemmas.List.Elements.{filter_map-append}
use Rattle.smc_num.specs.declared.Side.{Side}
use Rattle.smc_num.specs.declared.Side.TheVariants.{A, B}
use Rattle.smc_num.specs.Names.{other, head}
use Rattle.cdc_wire.specs.declared.CdcMessage.{CdcMessage}
use Rattle.pipe_model.specs.declared.setup.Setup.{Setup}
use Rattle.pipe_model.specs.declared.entry.Entry.{Entry}
use Rattle.pipe_model.specs.declared.sent.Sent.{Sent}
use Rattle.pipe_model.specs.Words.{element_size}
use Rattle.pipe_model.specs.History.{Offered, offered}
use Rattle.pipe_model.specs.Fabric.{fabric, after}
use Rattle.pipe_model.specs.Wires.{unlanded, uncompleted}
use Rattle.pipe_model.specs.Ends.{Half}
use Rattle.pipe_model.specs.Pipe.{Terms, Item, Fate, GroupEnd, Up, Calls, Lands, Completes, half, pipe, posts_of}
use Rattle.pipe_model.specs.Parts.{EachOf, IsMarked}
use Rattle.pipe_model.specs.Connections.{group_on, deeds, if_own, items, part}
use Rattle.pipe_model.specs.Lending.{terms_of}
use Rattle.pipe_model.specs.Posts.{is_offered, connection_posts}
use Rattle.pipe_model.specs.Lawful.{draft}
use Rattle.pipe_model.proofs.Pipes.{is-marked}
use Rattle.world_core.specs.Played.{IsMade, IsPlayed}
use Rattle.world_core.specs.OneLink.{the_link}
use Rattle.world_core.specs.Wired.{cdc_under, cdcs, message, IsCarried, HasGone, EachItem, passes_by, keeps_open, IsOnLink}
use Rattle.world_core.specs.WireSteps.{LandsNow, CompletesNow, Way, IsCdcOn, EachPost}
use Rattle.world_core.specs.Goings.{Going, Stayed, Lands_own, Lands_other, Completes_own, Completes_other}
use Rattle.world_core.specs.Agreement.{IsOnlyLink, HasOffers, GoesOn, IsShaken, IsElse, CarriesNoStranger, CanBe, Agree}
use Rattle.world_core.proofs.DataPosts.{unseen-after, connections-data}
use Rattle.world_core.proofs.Growth.{since-more}
use Rattle.world_core.proofs.Idle.{all-passed-by, on-link}
use Rattle.world_core.proofs.Carrying.{stays-unlanded, stays-uncompleted, lands-unlanded, lands-uncompleted, completes-unlanded, completes-uncompleted}
use Rattle.world_core.proofs.Carried.{carried-stays, carried-passes, carried-lands, carried-leaves, carried-completes, next-lands, next-completes, some-left}
use Rattle.world_core.proofs.PipePosts.{given, nothing-strange, own-posted, on-append as posts-append, pipes-on}
use Rattle.world_core.proofs.Places.{unlanded-stand, uncompleted-stand, first-stands}
use Rattle.world_core.proofs.Ways.{way}
use Rattle.world_core.proofs.EntryItems.{each-append, each-more, on-append, is_fate_or_up, fate-or-up-passes, below, below-calm, items-are, items-open, items-on, same-items}
use Rattle.world_core.proofs.Parts.{part-open, part-on}
use Rattle.world_core.proofs.Feasible.{is_no_message, can-more, can-land, can-complete, has-returning}
use Rattle.world_core.proofs.AskedPosts.{asked-control, none-under, none-else}
use Rattle.world_core.proofs.Own.{own-none, own-some, IsOrNot, Is, IsNot, is-or-not, grouped, tokens-else, gone-below, gone-lands, gone-completes, room-below, later-below}

both-pass : (item : Item) → passes_by A item ≡ true → passes_by B item ≡ true → is_no_message item ≡ true
both-pass (Fate x link phase) e f = refl
both-pass (GroupEnd x) e f = refl
both-pass (Up x link) e f = refl
both-pass (Calls x call) e f = refl
both-pass (Lands A) e f = absurd (true≢false (sym e))
both-pass (Lands B) e f = absurd (true≢false (sym f))
both-pass (Completes A) e f = absurd (true≢false (sym e))
both-pass (Completes B) e f = absurd (true≢false (sym f))

each-both : (is : List Item) → EachItem (passes_by A) is → EachItem (passes_by B) is → EachItem is_no_message is
each-both [] p q = tt
each-both (i ∷ is) p q = (both-pass i p.0 q.0, each-both is p.1 q.1)

pub fate-or-up-no-message : (item : Item) → is_fate_or_up item ≡ true → is_no_message item ≡ true
fate-or-up-no-message item e = both-pass item (fate-or-up-passes A item e) (fate-or-up-passes B item e)

pub each-drop : (P : Sent → Type 0) (n : ℕ) (ms : List Sent) → EachOf P ms → EachOf P (drop n ms)
each-drop P zero [] e = tt
each-drop P zero (m ∷ ms) e = e
each-drop P (suc n) [] e = tt
each-drop P (suc n) (m ∷ ms) e = each-drop P n ms e.1

module _ (setup : Setup) (payload : List ℕ) (e : Entry) (past : List Entry) (before n : ℕ) (made : IsMade setup payload past before e) (played : IsPlayed setup payload past n)
    (offers : HasOffers setup past) (only : IsOnlyLink past) (go : GoesOn e past) (shaken : IsShaken setup past) where
  abbrev T : Terms
  T = terms_of setup

  abbrev D : Entry
  D = draft setup payload past before e.event

  abbrev P : ℕ → List Item
  P s = part payload 1 s past

  abbrev I : ℕ → List Item
  I s = items payload 1 s e past

  abbrev Now : Side → ℕ → Half
  Now x s = half x (pipe T (P s))

  abbrev Then : Side → ℕ → Half
  Then x s = half x (pipe T (I s ++ P s))

  abbrev Below : ℕ → List Item
  Below s = below 1 s e past

  -- the draft of the entry gives the same items
  draft-fabric : fabric (D ∷ past) ≡ fabric (e ∷ past)
  draft-fabric = sym (ap (λ ps. after e.event e.reply ps past (fabric past)) made.posts ∙ ap (λ r. after e.event r (D.posts ++ connection_posts setup payload D past) past (fabric past)) made.reply ∙
      unseen-after e.event D.reply D.posts (connection_posts setup payload D past) past (fabric past) (connections-data setup payload D past))

  pub draft-items : (group s : ℕ) → items payload group s D past ≡ items payload group s e past
  draft-items group s = same-items payload group s D e past refl (sym made.reply) draft-fabric

  -- what is posted goes on the link
  given-on : (x : Side) (s : ℕ) → EachOf (λ m. m.link ≡ the_link) (given setup payload D past x s)
  given-on x s =
      let g : ℕ = group_on s past in
      let ks = each-append keeps_open (items payload g s e past) (part payload g s past) (items-open setup payload g s e past made.built go) (part-open setup payload g s past n played shaken) in
      let us = on-append the_link (items payload g s e past) (part payload g s past) (items-on setup payload g s e past made.built go) (part-on setup payload g s past n played shaken) in
      let o : IsOnLink the_link (half x (pipe T (items payload g s e past ++ part payload g s past))) = on-link the_link T x (items payload g s e past ++ part payload g s past) ks us in
      subst (λ is. EachOf (λ m. m.link ≡ the_link) (posts_of T x is (part payload g s past))) (sym (draft-items g s))
      (each-drop (λ m. m.link ≡ the_link) (length (half x (pipe T (part payload g s past))).sent) (half x (pipe T (items payload g s e past ++ part payload g s past))).sent o.sent)

  pub posts-on : EachPost (IsCdcOn the_link) e.posts
  posts-on = subst (λ ps. EachPost (IsCdcOn the_link) ps) (sym made.posts)
      (posts-append the_link D.posts (connection_posts setup payload D past) (none-else the_link D.posts (asked-control setup payload past e.event D.reply made.built)) (pipes-on the_link setup payload D past given-on))

  -- the CDC messages of the entry are those of the pipes
  news-are : (x : Side) (token : ℕ) → filter_map (cdc_under x token) e.posts ≡ filter_map (cdc_under x token) (connection_posts setup payload D past)
  news-are x token = ap (λ ps. filter_map (cdc_under x token) ps) made.posts ∙ filter_map-append (cdc_under x token) D.posts (connection_posts setup payload D past) ∙
      ap (λ ms. ms ++ filter_map (cdc_under x token) (connection_posts setup payload D past)) (none-under x token D.posts (asked-control setup payload past e.event D.reply made.built))

  offered-now : (x : Side) (s : ℕ) (o : Offered) → offered x s past ≡ Some o → is_offered past s ≡ true
  offered-now x s o f = ap (λ g. not (g == 0)) (grouped setup past offers x s o f)

  pub news-own : (x : Side) (s : ℕ) (o : Offered) → offered (other x) s past ≡ Some o → (l c : ℕ) (g : HasGone (Now x s) (Then x s) l c) → filter_map (cdc_under x o.offer.token) e.posts ≡ map (message (element_size setup) o.offer.token) g.more
  news-own x s o f l c g =
      news-are x o.offer.token ∙ own-posted setup payload D past x s o f (tokens-else setup past offers (other x) s o f) (offers.known (other x) s o f) (offered-now (other x) s o f) ∙
      ap (λ k. map (message (element_size setup) o.offer.token) (posts_of T x (items payload k s D past) (part payload k s past))) (grouped setup past offers (other x) s o f) ∙
      ap (λ is. map (message (element_size setup) o.offer.token) (posts_of T x is (P s))) (draft-items 1 s) ∙
      ap (λ ms. map (message (element_size setup) o.offer.token) ms) (since-more (Now x s) (Then x s) l c g)

  news-strange : (x : Side) (token : ℕ) → ((s : ℕ) → IsElse token (offered (other x) s past)) → filter_map (cdc_under x token) e.posts ≡ []
  news-strange x token f = news-are x token ∙ nothing-strange setup payload D past x token f

  -- under a token that was not offered nothing is carried, and nothing comes
  none-and : (o : Option CdcMessage) (ms : List CdcMessage) → cons_option o ms ≡ [] → (o ≡ None) × (ms ≡ [])
  none-and None ms f = (refl, f)
  none-and (Some m) ms f = absurd (true≢false (ap (λ ns. is_some (head ns)) f))

  module _ (x : Side) (carries : CarriesNoStranger x past) (token : ℕ) (strange : (s : ℕ) → IsElse token (offered (other x) s past)) where
    with-none : (ms ns : List CdcMessage) → ms ≡ [] → ns ≡ [] → ms ++ ns ≡ []
    with-none ms ns f g = ap (λ ks. ks ++ ns) f ∙ g

    strange-rest : (l : LandsNow the_link x e past) → (cdc_under x token l.first.post ≡ None) × (cdcs x token l.rest ≡ [])
    strange-rest l = none-and (cdc_under x token l.first.post) (cdcs x token l.rest) (ap (λ ps. cdcs x token ps) (sym l.waiting) ∙ carries.landing token strange)

    strange-returning : (l : CompletesNow the_link x e past) → (cdc_under x token l.first.post ≡ None) × (cdcs x token l.rest ≡ [])
    strange-returning l = none-and (cdc_under x token l.first.post) (cdcs x token l.rest) (ap (λ ps. cdcs x token ps) (sym l.waiting) ∙ carries.completing token strange)

    strange-by : Way payload the_link x e past → (cdcs x token (unlanded the_link x (e ∷ past)) ≡ []) × (cdcs x token (uncompleted the_link x (e ∷ past)) ≡ [])
    strange-by (inl w) = (
      stays-unlanded x token the_link e past posts-on w.0 ∙ with-none _ _ (carries.landing token strange) (news-strange x token strange),
      stays-uncompleted x token the_link e past posts-on w.0 ∙ carries.completing token strange,
    )
    strange-by (inr (inl w)) =
        let l = w.0 in
        let r = strange-rest l in (
          lands-unlanded x token the_link e past posts-on l ∙ with-none _ _ r.1 (news-strange x token strange),
          lands-uncompleted x token the_link e past posts-on l ∙ with-none _ _ (carries.completing token strange) (ap (λ o. cons_option o []) r.0),
        )
    strange-by (inr (inr w)) =
        let l = w.0 in
        let r = strange-returning l in (
          completes-unlanded x token the_link e past posts-on l ∙ with-none _ _ (carries.landing token strange) (news-strange x token strange),
          completes-uncompleted x token the_link e past posts-on l ∙ r.1,
        )

    pub strange-step : (cdcs x token (unlanded the_link x (e ∷ past)) ≡ []) × (cdcs x token (uncompleted the_link x (e ∷ past)) ≡ [])
    strange-step = strange-by (way payload past e setup before x only made)

  -- items of a way
  items-by : (s : ℕ) (ds : List Item) → deeds payload s e.event e.reply past ≡ ds → I s ≡ ds ++ Below s
  items-by s ds d = items-are payload 1 s e past ∙ ap (λ is. is ++ Below s) d

  calm : (s : ℕ) → EachItem is_fate_or_up (Below s)
  calm s = below-calm 1 s e past go

  -- how far an end has gone, over the items in another form
  gone-over : (x : Side) (s l c : ℕ) (js : List Item) → I s ≡ js → HasGone (Now x s) (half x (pipe T (js ++ P s))) l c → HasGone (Now x s) (Then x s) l c
  gone-over x s l c js f g = subst (λ is. HasGone (Now x s) (half x (pipe T (is ++ P s))) l c) (sym f) g

  module _ (agree : Agree setup payload past) where
    mark : (x : Side) (s : ℕ) → IsMarked (Now x s)
    mark x s = let c = agree.part_can_be s in is-marked T x (P s) c.feasible

    module _ (x : Side) (s : ℕ) (o : Offered) (f : offered (other x) s past ≡ Some o) where
      abbrev Goal : Type 0
      Goal = IsCarried (element_size setup) the_link x o.offer.token (e ∷ past) (Then x s)

      carried-lands-by : (l : LandsNow the_link x e past) → deeds payload s e.event e.reply past ≡ if_own (Lands x) x s (Some l.first.at) past → IsOrNot x o.offer.token l.first.post → Goal
      carried-lands-by l d (Is m i n) =
          let place = first-stands past (unlanded the_link x past) l.first l.rest (unlanded-stand the_link x past) l.waiting in
          let g = gone-over x s _ _ (Lands x ∷ Below s) (items-by s (Lands x ∷ []) (d ∙ own-some (Lands x) x s l.first.at past o l.first.post f place ∙ ap (λ b. if b then Lands x ∷ [] else []) i)) (gone-lands T x (Below s) (P s) (calm s)) in
          carried-lands (element_size setup) the_link x o.offer.token e past (Now x s) (Then x s) posts-on (mark x s) (agree.carried x s o f) l m n g (news-own x s o f _ _ g)
      carried-lands-by l d (IsNot i n) =
          let place = first-stands past (unlanded the_link x past) l.first l.rest (unlanded-stand the_link x past) l.waiting in
          let g = gone-over x s _ _ (Below s) (items-by s [] (d ∙ own-some (Lands x) x s l.first.at past o l.first.post f place ∙ ap (λ b. if b then Lands x ∷ [] else []) i)) (gone-below T x (Below s) (P s) (calm s)) in
          carried-passes (element_size setup) the_link x o.offer.token e past (Now x s) (Then x s) posts-on (mark x s) (agree.carried x s o f) l g (news-own x s o f _ _ g) n

      carried-completes-by : (l : CompletesNow the_link x e past) → deeds payload s e.event e.reply past ≡ if_own (Completes x) x s (Some l.first.at) past → IsOrNot x o.offer.token l.first.post → Goal
      carried-completes-by l d (Is m i n) =
          let place = first-stands past (uncompleted the_link x past) l.first l.rest (uncompleted-stand the_link x past) l.waiting in
          let b = next-completes (element_size setup) the_link x o.offer.token e past (Now x s) (Then x s) posts-on (mark x s) (agree.carried x s o f) l m n in
          let g = gone-over x s _ _ (Completes x ∷ Below s) (items-by s (Completes x ∷ []) (d ∙ own-some (Completes x) x s l.first.at past o l.first.post f place ∙ ap (λ c. if c then Completes x ∷ [] else []) i))
          (gone-completes T x (Below s) (P s) (calm s) b.x b.others (mark x s) b.is) in
          carried-completes (element_size setup) the_link x o.offer.token e past (Now x s) (Then x s) posts-on (mark x s) (agree.carried x s o f) l m n g (news-own x s o f _ _ g) (has-returning (Now x s) b.x b.others b.is)
      carried-completes-by l d (IsNot i n) =
          let place = first-stands past (uncompleted the_link x past) l.first l.rest (uncompleted-stand the_link x past) l.waiting in
          let g = gone-over x s _ _ (Below s) (items-by s [] (d ∙ own-some (Completes x) x s l.first.at past o l.first.post f place ∙ ap (λ b. if b then Completes x ∷ [] else []) i)) (gone-below T x (Below s) (P s) (calm s)) in
          carried-leaves (element_size setup) the_link x o.offer.token e past (Now x s) (Then x s) posts-on (mark x s) (agree.carried x s o f) l g (news-own x s o f _ _ g) n

      carried-by : Way payload the_link x e past → Goal
      carried-by (inl w) =
          let passes = subst (λ is. EachItem (passes_by x) is) (sym (items-are payload 1 s e past))
          (each-append (passes_by x) (deeds payload s e.event e.reply past) (Below s) (w.1 s) (each-more is_fate_or_up (passes_by x) (fate-or-up-passes x) (Below s) (calm s))) in
          let g = all-passed-by T x (I s) (P s) passes in
          carried-stays (element_size setup) the_link x o.offer.token e past (Now x s) (Then x s) posts-on (mark x s) (agree.carried x s o f) g (news-own x s o f _ _ g) w.0
      carried-by (inr (inl w)) = let l = w.0 in carried-lands-by l (w.1 s) (is-or-not x o.offer.token l.first.post)
      carried-by (inr (inr w)) = let l = w.0 in carried-completes-by l (w.1 s) (is-or-not x o.offer.token l.first.post)

      -- how the end has gone, beside the wire
      gone-lands-by : (l : LandsNow the_link x e past) → deeds payload s e.event e.reply past ≡ if_own (Lands x) x s (Some l.first.at) past → IsOrNot x o.offer.token l.first.post → Going the_link x o.offer.token e past (Now x s) (Then x s)
      gone-lands-by l d (Is m i n) =
          let place = first-stands past (unlanded the_link x past) l.first l.rest (unlanded-stand the_link x past) l.waiting in
          Lands_own l m n (gone-over x s _ _ (Lands x ∷ Below s) (items-by s (Lands x ∷ []) (d ∙ own-some (Lands x) x s l.first.at past o l.first.post f place ∙ ap (λ b. if b then Lands x ∷ [] else []) i)) (gone-lands T x (Below s) (P s) (calm s)))
      gone-lands-by l d (IsNot i n) =
          let place = first-stands past (unlanded the_link x past) l.first l.rest (unlanded-stand the_link x past) l.waiting in
          Lands_other l n (gone-over x s _ _ (Below s) (items-by s [] (d ∙ own-some (Lands x) x s l.first.at past o l.first.post f place ∙ ap (λ b. if b then Lands x ∷ [] else []) i)) (gone-below T x (Below s) (P s) (calm s)))

      gone-completes-by : (l : CompletesNow the_link x e past) → deeds payload s e.event e.reply past ≡ if_own (Completes x) x s (Some l.first.at) past → IsOrNot x o.offer.token l.first.post → Going the_link x o.offer.token e past (Now x s) (Then x s)
      gone-completes-by l d (Is m i n) =
          let place = first-stands past (uncompleted the_link x past) l.first l.rest (uncompleted-stand the_link x past) l.waiting in
          let b = next-completes (element_size setup) the_link x o.offer.token e past (Now x s) (Then x s) posts-on (mark x s) (agree.carried x s o f) l m n in
          Completes_own l m n (gone-over x s _ _ (Completes x ∷ Below s) (items-by s (Completes x ∷ []) (d ∙ own-some (Completes x) x s l.first.at past o l.first.post f place ∙ ap (λ c. if c then Completes x ∷ [] else []) i))
          (gone-completes T x (Below s) (P s) (calm s) b.x b.others (mark x s) b.is)) (has-returning (Now x s) b.x b.others b.is)
      gone-completes-by l d (IsNot i n) =
          let place = first-stands past (uncompleted the_link x past) l.first l.rest (uncompleted-stand the_link x past) l.waiting in
          Completes_other l n (gone-over x s _ _ (Below s) (items-by s [] (d ∙ own-some (Completes x) x s l.first.at past o l.first.post f place ∙ ap (λ b. if b then Completes x ∷ [] else []) i)) (gone-below T x (Below s) (P s) (calm s)))

      gone-by : Way payload the_link x e past → Going the_link x o.offer.token e past (Now x s) (Then x s)
      gone-by (inl w) =
          let passes = subst (λ is. EachItem (passes_by x) is) (sym (items-are payload 1 s e past))
          (each-append (passes_by x) (deeds payload s e.event e.reply past) (Below s) (w.1 s) (each-more is_fate_or_up (passes_by x) (fate-or-up-passes x) (Below s) (calm s))) in
          Stayed w.0 (all-passed-by T x (I s) (P s) passes)
      gone-by (inr (inl w)) = let l = w.0 in gone-lands-by l (w.1 s) (is-or-not x o.offer.token l.first.post)
      gone-by (inr (inr w)) = let l = w.0 in gone-completes-by l (w.1 s) (is-or-not x o.offer.token l.first.post)

      pub gone : Going the_link x o.offer.token e past (Now x s) (Then x s)
      gone = gone-by (way payload past e setup before x only made)

      -- what the link carried of an end it still carries
      pub carried-step : Goal
      carried-step = carried-by (way payload past e setup before x only made)

    -- the part can be
    over : (s : ℕ) (ds : List Item) → deeds payload s e.event e.reply past ≡ ds → CanBe T ((ds ++ Below s) ++ P s) → CanBe T (I s ++ P s)
    over s ds d c = subst (λ is. CanBe T (is ++ P s)) (sym (items-by s ds d)) c

    can-below : (s : ℕ) → CanBe T (Below s ++ P s)
    can-below s = can-more T (Below s) (P s) (each-more is_fate_or_up is_no_message fate-or-up-no-message (Below s) (calm s)) (agree.part_can_be s)

    can-lands-own : (x : Side) (s : ℕ) (o : Offered) → offered (other x) s past ≡ Some o → (l : LandsNow the_link x e past) → deeds payload s e.event e.reply past ≡ if_own (Lands x) x s (Some l.first.at) past → IsOrNot x o.offer.token l.first.post → CanBe T (I s ++ P s)
    can-lands-own x s o f l d (Is m i n) =
        let place = first-stands past (unlanded the_link x past) l.first l.rest (unlanded-stand the_link x past) l.waiting in
        let b = next-lands (element_size setup) the_link x o.offer.token e past (Now x s) (Then x s) posts-on (mark x s) (agree.carried x s o f) l m n in
        let h : Half = Now x s in
        over s (Lands x ∷ []) (d ∙ own-some (Lands x) x s l.first.at past o l.first.post f place ∙ ap (λ c. if c then Lands x ∷ [] else []) i)
        (can-land T x (Below s ++ P s) (room-below T x (Below s) (P s) (calm s) (some-left h.landed h.sent b.x b.others b.is)) (can-below s))
    can-lands-own x s o f l d (IsNot i n) =
        let place = first-stands past (unlanded the_link x past) l.first l.rest (unlanded-stand the_link x past) l.waiting in
        over s [] (d ∙ own-some (Lands x) x s l.first.at past o l.first.post f place ∙ ap (λ c. if c then Lands x ∷ [] else []) i) (can-below s)

    can-completes-own : (x : Side) (s : ℕ) (o : Offered) → offered (other x) s past ≡ Some o → (l : CompletesNow the_link x e past) → deeds payload s e.event e.reply past ≡ if_own (Completes x) x s (Some l.first.at) past → IsOrNot x o.offer.token l.first.post →
        CanBe T (I s ++ P s)
    can-completes-own x s o f l d (Is m i n) =
        let place = first-stands past (uncompleted the_link x past) l.first l.rest (uncompleted-stand the_link x past) l.waiting in
        let b = next-completes (element_size setup) the_link x o.offer.token e past (Now x s) (Then x s) posts-on (mark x s) (agree.carried x s o f) l m n in
        over s (Completes x ∷ []) (d ∙ own-some (Completes x) x s l.first.at past o l.first.post f place ∙ ap (λ c. if c then Completes x ∷ [] else []) i)
        (can-complete T x (Below s ++ P s) (later-below T x (Below s) (P s) (calm s) (has-returning (Now x s) b.x b.others b.is)) (can-below s))
    can-completes-own x s o f l d (IsNot i n) =
        let place = first-stands past (uncompleted the_link x past) l.first l.rest (uncompleted-stand the_link x past) l.waiting in
        over s [] (d ∙ own-some (Completes x) x s l.first.at past o l.first.post f place ∙ ap (λ c. if c then Completes x ∷ [] else []) i) (can-below s)

    can-lands-by : (x : Side) (s : ℕ) (l : LandsNow the_link x e past) → deeds payload s e.event e.reply past ≡ if_own (Lands x) x s (Some l.first.at) past → (o : Option Offered) → offered (other x) s past ≡ o → CanBe T (I s ++ P s)
    can-lands-by x s l d None f = over s [] (d ∙ own-none (Lands x) x s (Some l.first.at) past f) (can-below s)
    can-lands-by x s l d (Some o) f = can-lands-own x s o f l d (is-or-not x o.offer.token l.first.post)

    can-completes-by : (x : Side) (s : ℕ) (l : CompletesNow the_link x e past) → deeds payload s e.event e.reply past ≡ if_own (Completes x) x s (Some l.first.at) past → (o : Option Offered) → offered (other x) s past ≡ o → CanBe T (I s ++ P s)
    can-completes-by x s l d None f = over s [] (d ∙ own-none (Completes x) x s (Some l.first.at) past f) (can-below s)
    can-completes-by x s l d (Some o) f = can-completes-own x s o f l d (is-or-not x o.offer.token l.first.post)

    can-by : (s : ℕ) → Way payload the_link A e past → Way payload the_link B e past → CanBe T (I s ++ P s)
    can-by s (inl v) (inl w) =
        subst (λ is. CanBe T (is ++ P s)) (sym (items-are payload 1 s e past))
        (can-more T (deeds payload s e.event e.reply past ++ Below s) (P s)
        (each-append is_no_message (deeds payload s e.event e.reply past) (Below s) (each-both (deeds payload s e.event e.reply past) (v.1 s) (w.1 s)) (each-more is_fate_or_up is_no_message fate-or-up-no-message (Below s) (calm s)))
        (agree.part_can_be s))
    can-by s (inr (inl v)) w = can-lands-by A s v.0 (v.1 s) (offered B s past) refl
    can-by s (inr (inr v)) w = can-completes-by A s v.0 (v.1 s) (offered B s past) refl
    can-by s (inl v) (inr (inl w)) = can-lands-by B s w.0 (w.1 s) (offered A s past) refl
    can-by s (inl v) (inr (inr w)) = can-completes-by B s w.0 (w.1 s) (offered A s past) refl

    pub can-step : (s : ℕ) → CanBe T (I s ++ P s)
    can-step s = can-by s (way payload past e setup before A only made) (way payload past e setup before B only made)
