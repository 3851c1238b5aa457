-- After each entry of a played history the wire of the side that acts stands for it again, has had room for the posts, and each may be sent.
use Rattle.std.proofs.Common.{◌≡◌, ◌∙◌, ℕ, ◌^◌, ◌+◌, ◌*◌, ◌≤◌, Bool, true, false, List, [], ◌∷◌, ◌++◌, length, map, filter, filter_map, refl, ap, sym, subst, true≢false, arith, length-append, one-mul, mul-add, mul_left_comm, mul_comm}
use Rattle.std.specs.Prelude.{Option, Some, None, IsSome, is_some}
use Rattle.std.proofs.lemmas.List.{length-map}
use Rattle.smc_num.specs.declared.Side.{Side}
use Rattle.smc_num.specs.declared.Side.TheVariants.{A, B}
use Rattle.smc_num.specs.declared.LinkId.{LinkId}
use Rattle.smc_num.specs.Names.{other, head}
use Rattle.cdc_wire.specs.declared.CdcMessage.{CdcMessage}
use Rattle.clc_wire.specs.declared.message.ClcMessage.{ClcMessage}
use Rattle.clc_wire.specs.Clc.{Fits}
use Rattle.pipe_model.specs.Fallback.{untaken}
use Rattle.rmb_region.specs.Regions.{Buffer}
use Rattle.pipe_model.specs.declared.sent.Sent.{Sent}
use Rattle.pipe_model.specs.declared.setup.Setup.{Setup}
use Rattle.pipe_model.specs.declared.post.Post.{Post}
use Rattle.pipe_model.specs.declared.post.Post.TheVariants.{Write, Cdc, Llc, Clc}
use Rattle.pipe_model.specs.declared.entry.Entry.{Entry}
use Rattle.pipe_model.specs.Words.{element_size, rmbs_of, elements_of}
use Rattle.pipe_model.specs.History.{Offered, offered, next_number}
use Rattle.pipe_model.specs.Wires.{unlanded, uncompleted}
use Rattle.pipe_model.specs.Ends.{Half}
use Rattle.pipe_model.specs.Pipe.{half, posts_of}
use Rattle.pipe_model.specs.Connections.{is_up, items, part}
use Rattle.pipe_model.specs.Lending.{terms_of, pipe_of}
use Rattle.pipe_model.specs.Lawful.{draft}
use Rattle.rc_link.specs.declared.InFlight.{InFlight}
use Rattle.rc_link.specs.Wire.{Queues, placed, room_of}
use Rattle.conn_end.specs.Kept.{Kept}
use Rattle.side_core.specs.Records.{aimer}
use Rattle.side_core.specs.Manager.{Manager, Represents}
use Rattle.side_core.proofs.Managers.{aimers_same}
use Rattle.world_core.specs.Played.{IsOneLink, IsPlayed}
use Rattle.world_core.specs.OneLink.{the_link}
use Rattle.world_core.specs.Wired.{cdc_under, message}
use Rattle.world_core.specs.WireSteps.{EachPost}
use Rattle.world_core.specs.Goings.{Going, Stayed, Lands_own, Lands_other, Completes_own, Completes_other}
use Rattle.world_core.specs.Agreement.{HasOffers, GivesItems, GoesOn, IsShaken, PostsOne}
use Rattle.world_core.specs.Managers.{manager_of, HasLendings}
use Rattle.world_core.proofs.ClcFits.{untaken-fits}
use Rattle.world_core.specs.Hosts.{IsWorldSet, half_of, plains, shots, IsWireAfter, with_posts, places_of}
use Rattle.world_core.specs.Sending.{carried_from, goes_on_wire, moved, acting_side, MaySendAll}
use Rattle.world_core.proofs.Handshaken.{shaken, has-offers, gives-items}
use Rattle.world_core.proofs.PlayedWorlds.{played}
use Rattle.world_core.proofs.Idle.{idle}
use Rattle.world_core.proofs.Parts.{part-open}
use Rattle.world_core.proofs.UpEnds.{pipe-is-up}
use Rattle.world_core.proofs.Own.{grouped}
use Rattle.world_core.proofs.Growth.{sent-since}
use Rattle.world_core.proofs.LinkFacts.{up-has-offers}
use Rattle.world_core.proofs.FewUps.{fits-elements}
use Rattle.world_core.proofs.LastSent.{last-told}
use Rattle.world_core.proofs.Aimers.{aimed, plain-here}
use Rattle.world_core.proofs.PostsFrom.{IsSentBy, posts-from, of-acting, each-posted}
use Rattle.world_core.proofs.PostedClc.{IsPosted, clc-posted}
use Rattle.world_core.proofs.CarriedPosts.{carried-placed, carried-long, carried-plain, told_by, one-cdc}
use Rattle.world_core.proofs.WiresAfter.{goes, news-sent, wire-with, wire-carries, CarriesAfter}

some-in : (ms : List Sent) (m : Sent) (is : List Sent) → is ≡ ms ++ m ∷ [] → is ≡ [] → ⊥
some-in [] m is e f = true≢false (ap (λ (ks : List Sent). is_some (head ks)) (sym e ∙ f))
some-in (k ∷ ms) m is e f = true≢false (ap (λ (ks : List Sent). is_some (head ks)) (sym e ∙ f))

-- that the token of a CDC message names an end
abbrev pub IsAimed : Manager Kept → Post → Type 0
IsAimed v (Cdc from link m) = IsSome (aimer m.token v.records)
IsAimed v _ = Unit {0}

-- the one link is on the one slot
pub one-slot : (link : LinkId) → link ≡ the_link → link.slot ≡ 1
one-slot link e = ap (λ (l : LinkId). l.slot) e

-- each may be sent
may-all : (sockets : ℕ) (x : Side) (past : List Entry) (v : Manager Kept) (posts : List Post) → ((s : ℕ) (m : ClcMessage) → head (untaken x s past) ≡ Some m → Fits m) → EachPost (IsAimed v) posts → EachPost (IsPosted sockets x past) posts
    → EachPost (IsSentBy sockets x) posts → MaySendAll sockets v posts
may-all sockets x past v [] fit f g h = tt
may-all sockets x past v (Cdc from link m ∷ posts) fit f g h = ((one-slot link h.0.1, f.0), may-all sockets x past v posts fit f.1 g.1 h.1)
may-all sockets x past v (Clc from s link m ∷ posts) fit f g h = let known = g.0 in ((known.0, fit s m known.1), may-all sockets x past v posts fit f.1 g.1 h.1)
may-all sockets x past v (Write from link key address len ∷ posts) fit f g h = (one-slot link h.0.1, may-all sockets x past v posts fit f.1 g.1 h.1)
may-all sockets x past v (Llc from link m ∷ posts) fit f g h = (one-slot link h.0.1, may-all sockets x past v posts fit f.1 g.1 h.1)

-- each element has places for its snapshots
one-rmb : (setup : Setup) → IsOneLink setup → (x : Side) → rmbs_of setup x ≡ 1
one-rmb setup one A = one.rmbs_a
one-rmb setup one B = one.rmbs_b

room-enough : (rmbs elements depth : ℕ) → rmbs ≡ 1 → 3 * (depth * elements) + 1 ≤ rmbs * elements * (3 * depth + 1) + 32
room-enough rmbs elements depth e =
    let one : 1 * elements * (3 * depth + 1) ≡ elements * (3 * depth + 1) = ap (λ n. n * (3 * depth + 1)) (one-mul elements) in
    let each : elements * (3 * depth + 1) ≡ elements * (3 * depth) + elements * 1 = mul-add elements (3 * depth) 1 in
    let same : elements * (3 * depth) ≡ 3 * (depth * elements) = mul_left_comm elements 3 depth ∙ ap (λ n. 3 * n) (mul_comm elements depth) in
    subst (λ r. 3 * (depth * elements) + 1 ≤ r * elements * (3 * depth + 1) + 32) (sym e) (omega (arith, one, each, same))

is-there : (o : Option ℕ) (s : ℕ) → o ≡ Some s → IsSome o
is-there (Some t) s e = refl
is-there None s e = absurd (true≢false (sym (ap (λ (q : Option ℕ). is_some q) e)))

module _ (setup : Setup) (one : IsOneLink setup) (payload : List ℕ) (e : Entry) (past : List Entry) (n : ℕ) (p : IsPlayed setup payload (e ∷ past) n) where
  gives : GivesItems setup payload p.0 e past
  gives = gives-items setup one payload e past n p

  knows : IsShaken setup (e ∷ past)
  knows = shaken setup one payload (e ∷ past) n p

  later : HasOffers setup (e ∷ past)
  later = has-offers setup one payload (e ∷ past) n p

  abbrev Then : Side → ℕ → Half
  Then x s = half_of setup payload x s (e ∷ past)

  abbrev Posts_of : Side → ℕ → List Sent
  Posts_of x s = posts_of (terms_of setup) x (items payload 1 s e past) (part payload 1 s past)

  -- what an end sent grows by what its pipe posted
  grown : (x : Side) (s : ℕ) (o : Offered) → offered (other x) s past ≡ Some o → (Then x s).sent ≡ (half_of setup payload x s past).sent ++ Posts_of x s
  grown x s o f = by (goes setup one payload e past n p x s o f)
    where
      by : Going the_link x o.offer.token e past (half_of setup payload x s past) (Then x s) → (Then x s).sent ≡ (half_of setup payload x s past).sent ++ Posts_of x s
      by (Stayed q g) = sent-since (half_of setup payload x s past) (Then x s) _ _ g
      by (Lands_other l k g) = sent-since (half_of setup payload x s past) (Then x s) _ _ g
      by (Lands_own l m k g) = sent-since (half_of setup payload x s past) (Then x s) _ _ g
      by (Completes_other l k g) = sent-since (half_of setup payload x s past) (Then x s) _ _ g
      by (Completes_own l m k g r) = sent-since (half_of setup payload x s past) (Then x s) _ _ g

  -- an end that posts is up, and that message tells what it told last
  module _ (x : Side) (s : ℕ) (o : Offered) (f : offered (other x) s past ≡ Some o) (sent : Sent) (posts : Posts_of x s ≡ sent ∷ []) where
    with-one : (Then x s).sent ≡ (half_of setup payload x s past).sent ++ sent ∷ []
    with-one = grown x s o f ∙ ap (λ ms. (half_of setup payload x s past).sent ++ ms) posts

    up : is_up x s (e ∷ past) ≡ true
    up = by (is_up x s (e ∷ past)) refl
      where
        by : (b : Bool) → is_up x s (e ∷ past) ≡ b → b ≡ true
        by true u = refl
        by false u = absurd (some-in (half_of setup payload x s past).sent sent (Then x s).sent with-one
            (idle (terms_of setup) x (part payload 1 s (e ∷ past)) (part-open setup payload 1 s (e ∷ past) n p knows) (pipe-is-up (terms_of setup) x payload 1 s (e ∷ past) ∙ u)))

    still : offered (other x) s (e ∷ past) ≡ Some o
    still = let go : GoesOn e past = gives.goes_on in go.kept (other x) s o f

    tells : (Then x s).last ≡ sent.snapshot
    tells = last-told (terms_of setup) x (part payload 1 s (e ∷ past)) (part-open setup payload 1 s (e ∷ past) n p knows) (half_of setup payload x s past).sent sent with-one

    module _ (lendings : HasLendings setup payload (e ∷ past)) (regions : List Buffer) where
      abbrev M : Manager Half
      M = manager_of setup payload regions x (e ∷ past)

      pub aims-here : aimer o.offer.token (M).records ≡ Some s
      aims-here =
          let w = played setup one payload (e ∷ past) n p in
          let r = up-has-offers setup w.stage (e ∷ past) w.world x s up x in
          aimed setup payload (e ∷ past) later lendings x s o still (record { link = the_link; offer = r.0 }) r.1 up

      told-here : told_by M (next_number past) o.offer.token ≡ sent.snapshot
      told-here =
          let w = played setup one payload (e ∷ past) n p in
          let r = up-has-offers setup w.stage (e ∷ past) w.world x s up x in
          let m : CdcMessage = message (element_size setup) o.offer.token (record sent { check = false }) in
          plain-here setup payload (e ∷ past) later lendings x s o still (record { link = the_link; offer = r.0 }) r.1 up regions x the_link m refl ∙
          (ap (λ g. (half x (pipe_of setup payload g s (e ∷ past))).last) (grouped setup (e ∷ past) later (other x) s o still) ∙ tells)

  module _ (lendings : HasLendings setup payload (e ∷ past)) (x : Side) (acts : acting_side e.event ≡ x) where
    from : EachPost (IsSentBy setup.sockets x) e.posts
    from = let a = posts-from setup one payload e past n p in subst (λ y. EachPost (IsSentBy setup.sockets y) e.posts) acts a.from

    module _ (regions : List Buffer) where
      abbrev N : Manager Half
      N = manager_of setup payload regions x (e ∷ past)

      abbrev Cs : List InFlight
      Cs = carried_from N (next_number past) 1 e.posts

      plain-by : (s : ℕ) (o : Offered) → offered (other x) s past ≡ Some o → (ms : List Sent) → Posts_of x s ≡ ms → length ms ≤ 1 → map (λ k. told_by N (next_number past) o.offer.token) (map (message (element_size setup) o.offer.token) ms) ≡ shots ms
      plain-by s o f [] g l = refl
      plain-by s o f (m ∷ []) g l = ap (λ k. k ∷ []) (told-here x s o f m g lendings regions)
      plain-by s o f (m ∷ k ∷ ms) g l = absurd (omega (arith, l))

      plain-own : (s : ℕ) (o : Offered) → offered (other x) s past ≡ Some o → plains x o.offer.token Cs ≡ shots (Posts_of x s)
      plain-own s o f =
          let news : filter_map (cdc_under x o.offer.token) e.posts ≡ map (message (element_size setup) o.offer.token) (Posts_of x s) = news-sent setup one payload e past n p x s o f in
          let a = posts-from setup one payload e past n p in
          let few : length (filter_map (cdc_under x o.offer.token) e.posts) ≤ 1 = one-cdc x o.offer.token e.posts a.last in
          let long : length (filter_map (cdc_under x o.offer.token) e.posts) ≡ length (map (message (element_size setup) o.offer.token) (Posts_of x s)) = ap (λ ms. length ms) news in
          let same : length (map (message (element_size setup) o.offer.token) (Posts_of x s)) ≡ length (Posts_of x s) = length-map (Posts_of x s) (message (element_size setup) o.offer.token) in
          carried-plain N (next_number past) x o.offer.token 1 e.posts ∙
          (ap (λ ks. map (λ k. told_by N (next_number past) o.offer.token) ks) news ∙ plain-by s o f (Posts_of x s) refl (omega (arith, few, long, same)))

      -- the wire of the side that acts
      pub wire-own : (w : Queues) → IsWireAfter setup payload x past w → IsWireAfter setup payload x (e ∷ past) (with_posts Cs (moved x e.event w))
      wire-own w wire = wire-with setup one payload e past n p x w wire Cs (carried-placed N (next_number past) setup.sockets x 1 e.posts from) plain-own

      -- the token of each CDC message names an end
      pub each-aimed : (v : Manager Kept) → Represents v N → EachPost (IsAimed v) e.posts
      each-aimed v stands = each-posted setup one payload e past n p (IsAimed v) (λ y s l m k. tt) (λ y l m. tt) (λ y l k a len. tt) (λ q m t. aims q m t)
        where
          aims-at : (q : PostsOne setup payload (draft setup payload past p.0 e.event) past) (m : CdcMessage) → m.token ≡ (q.offer).offer.token → q.x ≡ x → aimer m.token (N).records ≡ Some q.s
          aims-at q m t same =
              let posts : Posts_of q.x q.s ≡ q.sent ∷ [] = sym (ap (λ is. posts_of (terms_of setup) q.x is (part payload 1 q.s past)) (gives.of_draft 1 q.s)) ∙ q.sent_is in
              ap (λ k. aimer k (N).records) t ∙
              subst (λ y. aimer (q.offer).offer.token (manager_of setup payload regions y (e ∷ past)).records ≡ Some q.s) same (aims-here q.x q.s q.offer q.offered_is q.sent posts lendings regions)

          aims : (q : PostsOne setup payload (draft setup payload past p.0 e.event) past) (m : CdcMessage) → m.token ≡ (q.offer).offer.token → IsSome (aimer m.token v.records)
          aims q m t =
              let works = stands.works in
              is-there (aimer m.token v.records) q.s (aimers_same m.token v.records (N).records works.records ∙ aims-at q m t (of-acting setup one payload e past n p q ∙ acts))

      -- each post may be sent
      pub may-send : length (e ∷ past) ≤ 2 ^ 18 → IsWorldSet setup payload → (v : Manager Kept) → Represents v N → MaySendAll setup.sockets v e.posts
      may-send few worlds v stands =
          may-all setup.sockets x (e ∷ past) v e.posts (λ s m first. untaken-fits setup one payload (e ∷ past) n p few x (worlds.set x) x s m first) (each-aimed v stands) (clc-posted setup one payload e past n p x acts) from

  -- the wire has room for the posts
  pub room-own : (x : Side) → acting_side e.event ≡ x → (w : Queues) → IsWireAfter setup payload x past w → length (filter goes_on_wire e.posts) ≤ room_of (moved x e.event w)
  room-own x acts w wire =
      let v : Queues = moved x e.event w in
      let a = posts-from setup one payload e past n p in
      let from : EachPost (IsSentBy setup.sockets x) e.posts = subst (λ y. EachPost (IsSentBy setup.sockets y) e.posts) acts a.from in
      let m : Manager Half = manager_of setup payload [] x past in
      let cs : List InFlight = carried_from m (next_number past) 1 e.posts in
      let c : CarriesAfter setup x e past cs v = wire-carries setup one payload e past n p x w wire cs (carried-placed m (next_number past) setup.sockets x 1 e.posts from) in
      let fits = fits-elements setup one payload x (e ∷ past) n p in
      let long : length cs ≡ length (filter goes_on_wire e.posts) = carried-long m (next_number past) 1 e.posts in
      let waiting : length (map placed (v.waiting ++ cs)) ≡ length (unlanded the_link x (e ∷ past)) = ap (λ ps. length ps) c.waiting in
      let landed : length (map placed v.landed) ≡ length (uncompleted the_link x (e ∷ past)) = ap (λ ps. length ps) c.landed in
      let i : length (map placed (v.waiting ++ cs)) ≡ length (v.waiting ++ cs) = length-map (v.waiting ++ cs) placed in
      let j : length (map placed v.landed) ≡ length v.landed = length-map v.landed placed in
      let k : length (v.waiting ++ cs) ≡ length v.waiting + length cs = length-append v.waiting cs in
      let both : length (unlanded the_link x (e ∷ past) ++ uncompleted the_link x (e ∷ past)) ≡ length (unlanded the_link x (e ∷ past)) + length (uncompleted the_link x (e ∷ past)) = length-append (unlanded the_link x (e ∷ past)) (uncompleted the_link x (e ∷ past)) in
      let most : length (unlanded the_link x (e ∷ past) ++ uncompleted the_link x (e ∷ past)) ≤ 3 * (setup.depth * elements_of setup x) + 1 = fits.posts in
      let places : v.places ≡ places_of setup x = c.places in
      let enough = room-enough (rmbs_of setup x) (elements_of setup x) setup.depth (one-rmb setup one x) in
      omega (arith, long, waiting, landed, i, j, k, both, most, places, enough)
