-- After each entry of a played history the wire of each side stands for it again, with the plain snapshots beside the messages.
use Rattle.std.proofs.Common.{◌≡◌, ◌∙◌, ℕ, ◌+◌, false, List, [], ◌∷◌, ◌++◌, drop, map, filter, filter_map, refl, ap, sym, subst, ◌&&◌, true≢false, append-nil}
use Rattle.std.specs.Prelude.{Option, Some, None, is_some, option_map, cond}
use Rattle.std.specs.List.{cons_option}
use Rattle.smc_num.specs.declared.Side.{Side}
use Rattle.smc_num.specs.declared.Side.TheVariants.{A, B}
use Rattle.smc_num.specs.Names.{other, same_side, same_link, head}
use Rattle.cdc_wire.specs.declared.CdcMessage.{CdcMessage}
use Rattle.pipe_model.specs.declared.sent.Sent.{Sent}
use Rattle.pipe_model.specs.declared.setup.Setup.{Setup}
use Rattle.pipe_model.specs.declared.post.Post.{Post}
use Rattle.pipe_model.specs.declared.post.Post.TheVariants.{Write, Cdc, Llc, Clc}
use Rattle.pipe_model.specs.declared.entry.Entry.{Entry}
use Rattle.pipe_model.specs.Words.{element_size}
use Rattle.pipe_model.specs.History.{Offered, offered, next_number, numbered}
use Rattle.pipe_model.specs.Wires.{is_on, unlanded, uncompleted}
use Rattle.pipe_model.specs.Ends.{Half}
use Rattle.pipe_model.specs.Pipe.{posts_of}
use Rattle.pipe_model.specs.Parts.{IsMarked}
use Rattle.pipe_model.specs.Connections.{items, part}
use Rattle.pipe_model.specs.Lending.{terms_of}
use Rattle.pipe_model.proofs.Pipes.{is-marked}
use Rattle.rc_link.specs.declared.InFlight.{InFlight}
use Rattle.rc_link.specs.Wire.{Queues, placed, empty, with_landed, with_completed, landed_with}
use Rattle.world_core.specs.Played.{IsOneLink, IsMade, IsPlayed}
use Rattle.world_core.specs.OneLink.{the_link}
use Rattle.world_core.specs.Wired.{cdc_under, cdcs, message, HasGone}
use Rattle.world_core.specs.WireSteps.{EachPost}
use Rattle.world_core.specs.Goings.{Going, Stayed, Lands_own, Lands_other, Completes_own, Completes_other}
use Rattle.world_core.specs.Agreement.{IsOnlyLink, HasOffers, GoesOn, IsShaken, GivesItems, Agree}
use Rattle.world_core.specs.Hosts.{half_of, plains, shots, TellsPlainly, places_of, IsWireAfter, with_posts}
use Rattle.world_core.specs.Sending.{moved, acting_side}
use Rattle.world_core.proofs.Handshaken.{shaken, has-offers, gives-items}
use Rattle.world_core.proofs.Agreement.{agrees, new-token, new-end, lands-nothing, returns-nothing}
use Rattle.world_core.proofs.Agreed.{gone, news-own, strange-step}
use Rattle.world_core.proofs.Growth.{since-more}
use Rattle.world_core.proofs.WireKept.{stays-waiting, stays-landed, front-waits, lands-waiting, lands-landed, front-landed, completes-waiting, completes-landed}
use Rattle.world_core.proofs.TellsKept.{tells-stays, tells-lands, tells-completes}
use Rattle.world_core.proofs.WireMoves.{Moving, Moves_none, Moves_landed, Moves_completed, moving, only-of}
use Rattle.world_core.proofs.PostsFrom.{IsSentBy, posts-from}
use Rattle.world_core.proofs.Plain.{apart-sides, some-is}

-- where no CDC message is under a token, no plain snapshot is
none-plain : (x : Side) (token : ℕ) (ws : List InFlight) → cdcs x token (map placed ws) ≡ [] → plains x token ws ≡ []
none-plain x token [] e = refl
none-plain x token (c ∷ ws) e = by (cdc_under x token c.post) e (λ f. none-plain x token ws f)
  where
    by : (o : Option CdcMessage) → cons_option o (cdcs x token (map placed ws)) ≡ [] → (cdcs x token (map placed ws) ≡ [] → plains x token ws ≡ []) → cons_option (option_map (λ m. c.plain) o) (plains x token ws) ≡ []
    by None f rest = rest f
    by (Some m) f rest = absurd (true≢false (ap (λ ms. is_some (head ms)) f))

-- posts of the other side are none of a side's
not-on : (sockets : ℕ) (x : Side) (post : Post) → IsSentBy sockets (other x) post → is_on the_link x post ≡ false
not-on sockets x (Write from l key address len) f = ap (λ s. same_side x s && same_link the_link l) f.0 ∙ ap (λ b. b && same_link the_link l) (apart-sides x)
not-on sockets x (Cdc from l m) f = ap (λ s. same_side x s && same_link the_link l) f.0 ∙ ap (λ b. b && same_link the_link l) (apart-sides x)
not-on sockets x (Llc from l m) f = ap (λ s. same_side x s && same_link the_link l) f.0 ∙ ap (λ b. b && same_link the_link l) (apart-sides x)
not-on sockets x (Clc from s l m) f = ap (λ s. same_side x s && false) f.0 ∙ ap (λ b. b && false) (apart-sides x)

none-on : (sockets : ℕ) (x : Side) (entry first : ℕ) (posts : List Post) → EachPost (IsSentBy sockets (other x)) posts → filter (λ c. is_on the_link x c.post) (numbered entry first posts) ≡ []
none-on sockets x entry first [] f = refl
none-on sockets x entry first (post ∷ posts) f =
    ap (λ b. cond b (record { at = record { entry = entry; post = first }; post = post } ∷ filter (λ c. is_on the_link x c.post) (numbered entry (first + 1) posts)) (filter (λ c. is_on the_link x c.post) (numbered entry (first + 1) posts)))
    (not-on sockets x post f.0) ∙ none-on sockets x entry (first + 1) posts f.1

not-under : (sockets : ℕ) (x : Side) (token : ℕ) (post : Post) → IsSentBy sockets (other x) post → cdc_under x token post ≡ None
not-under sockets A token (Cdc A l m) f = absurd (true≢false (ap (λ s. same_side A s) f.0))
not-under sockets A token (Cdc B l m) f = refl
not-under sockets B token (Cdc A l m) f = refl
not-under sockets B token (Cdc B l m) f = absurd (true≢false (ap (λ s. same_side B s) f.0))
not-under sockets x token (Write from l key address len) f = refl
not-under sockets x token (Llc from l m) f = refl
not-under sockets x token (Clc from s l m) f = refl

none-under : (sockets : ℕ) (x : Side) (token : ℕ) (posts : List Post) → EachPost (IsSentBy sockets (other x)) posts → filter_map (cdc_under x token) posts ≡ []
none-under sockets x token [] f = refl
none-under sockets x token (post ∷ posts) f = ap (λ o. cons_option o (filter_map (cdc_under x token) posts)) (not-under sockets x token post f.0) ∙ none-under sockets x token posts f.1

none-mapped : {X Y : Type 0} (f : X → Y) (xs : List X) → map f xs ≡ [] → xs ≡ []
none-mapped f [] e = refl
none-mapped f (x ∷ xs) e = absurd (true≢false (ap (λ ys. is_some (head ys)) e))

-- what a wire carries with posts, the plain snapshots apart
pub record CarriesAfter (setup : Setup) (x : Side) (e : Entry) (past : List Entry) (cs : List InFlight) (v : Queues) : Type 0 where
  pub places : v.places ≡ places_of setup x
  pub waiting : map placed (v.waiting ++ cs) ≡ unlanded the_link x (e ∷ past)
  pub landed : map placed v.landed ≡ uncompleted the_link x (e ∷ past)

module _ (setup : Setup) (one : IsOneLink setup) (payload : List ℕ) (e : Entry) (past : List Entry) (n : ℕ) (p : IsPlayed setup payload (e ∷ past) n) where
  made : IsMade setup payload past p.0 e
  made = p.1

  offers : HasOffers setup past
  offers = has-offers setup one payload past p.0 p.3

  only : IsOnlyLink past
  only = only-of setup one payload past p.0 p.3

  gives : GivesItems setup payload p.0 e past
  gives = gives-items setup one payload e past n p

  knows : IsShaken setup past
  knows = shaken setup one payload past p.0 p.3

  agree : Agree setup payload past
  agree = agrees setup payload past p.0 p.3 knows

  -- what an end has under way
  abbrev Now : Side → ℕ → Half
  Now x s = half_of setup payload x s past

  abbrev Then : Side → ℕ → Half
  Then x s = half_of setup payload x s (e ∷ past)

  abbrev Posts_of : Side → ℕ → List Sent
  Posts_of x s = posts_of (terms_of setup) x (items payload 1 s e past) (part payload 1 s past)

  pub goes : (x : Side) (s : ℕ) (o : Offered) → offered (other x) s past ≡ Some o → Going the_link x o.offer.token e past (Now x s) (Then x s)
  goes x s o f = gone setup payload e past p.0 p.0 made p.3 offers only gives.goes_on knows agree x s o f

  marked : (x : Side) (s : ℕ) → IsMarked (Now x s)
  marked x s = let c = agree.part_can_be s in is-marked (terms_of setup) x (part payload 1 s past) c.feasible

  -- the CDC messages of an end among the posts are those of what its pipe posts
  pub news-sent : (x : Side) (s : ℕ) (o : Offered) → offered (other x) s past ≡ Some o → filter_map (cdc_under x o.offer.token) e.posts ≡ map (message (element_size setup) o.offer.token) (Posts_of x s)
  news-sent x s o f = by (goes x s o f)
    where
      so : (l c : ℕ) (g : HasGone (Now x s) (Then x s) l c) → filter_map (cdc_under x o.offer.token) e.posts ≡ map (message (element_size setup) o.offer.token) (Posts_of x s)
      so l c g = news-own setup payload e past p.0 p.0 made p.3 offers only gives.goes_on knows x s o f l c g ∙ ap (λ ms. map (message (element_size setup) o.offer.token) ms) (sym (since-more (Now x s) (Then x s) l c g))

      by : Going the_link x o.offer.token e past (Now x s) (Then x s) → filter_map (cdc_under x o.offer.token) e.posts ≡ map (message (element_size setup) o.offer.token) (Posts_of x s)
      by (Stayed q g) = so _ _ g
      by (Lands_other l k g) = so _ _ g
      by (Lands_own l m k g) = so _ _ g
      by (Completes_other l k g) = so _ _ g
      by (Completes_own l m k g r) = so _ _ g

  -- the posts of a wire, with those of the entry
  module _ (x : Side) (w : Queues) (wire : IsWireAfter setup payload x past w) (cs : List InFlight) (are : map placed cs ≡ filter (λ c. is_on the_link x c.post) (numbered (next_number past) 1 e.posts)) where
    carries-by : Moving x e past w → CarriesAfter setup x e past cs (moved x e.event w)
    carries-by (Moves_none s m) = subst (λ v. CarriesAfter setup x e past cs v) (sym m)
        (record { places = wire.places; waiting = stays-waiting the_link x e past cs are w wire.waiting wire.landed s; landed = stays-landed the_link x e past cs are w wire.waiting wire.landed s })
    carries-by (Moves_landed l m) =
        let f = front-waits the_link x e past cs are w wire.waiting wire.landed l in
        subst (λ v. CarriesAfter setup x e past cs v) (sym (m ∙ ap (λ ds. with_landed (head ds) w) f.is))
        (record { places = wire.places; waiting = lands-waiting the_link x e past cs are w wire.waiting wire.landed l; landed = lands-landed the_link x e past cs are w wire.waiting wire.landed l })
    carries-by (Moves_completed l m) =
        let f = front-landed the_link x e past cs are w wire.waiting wire.landed l in
        subst (λ v. CarriesAfter setup x e past cs v) (sym (m ∙ ap (λ ds. with_completed (head ds) w) f.is))
        (record { places = wire.places; waiting = completes-waiting the_link x e past cs are w wire.waiting wire.landed l; landed = completes-landed the_link x e past cs are w wire.waiting wire.landed l })

    pub wire-carries : CarriesAfter setup x e past cs (moved x e.event w)
    wire-carries = carries-by (moving setup one payload past p.0 p.3 p.0 e made x w wire)

  module _ (x : Side) (w : Queues) (wire : IsWireAfter setup payload x past w) (cs : List InFlight) (are : map placed cs ≡ filter (λ c. is_on the_link x c.post) (numbered (next_number past) 1 e.posts))
      (plain : (s : ℕ) (o : Offered) → offered (other x) s past ≡ Some o → plains x o.offer.token cs ≡ shots (Posts_of x s)) where
    abbrev Tells : Queues → Type 0
    Tells v = (s : ℕ) (o : Offered) → offered (other x) s past ≡ Some o → TellsPlainly x o.offer.token v (Then x s)

    -- an end that was offered just now has nothing under way
    tells-new : (v : Queues) → map placed v.waiting ≡ unlanded the_link x (e ∷ past) → map placed v.landed ≡ uncompleted the_link x (e ∷ past)
        → (s : ℕ) (o : Offered) → offered (other x) s (e ∷ past) ≡ Some o → offered (other x) s past ≡ None → TellsPlainly x o.offer.token v (Then x s)
    tells-new v waiting landed s o f none =
        let after : IsShaken setup (e ∷ past) = shaken setup one payload (e ∷ past) n p in
        let sent : (Then x s).sent ≡ [] = new-end setup payload e past p.0 p.0 n made p.3 p offers only gives.goes_on knows after agree x s none in
        let c = strange-step setup payload e past p.0 p.0 made p.3 offers only gives.goes_on knows x (agree.strange x) o.offer.token (new-token setup (other x) s o e past after.0 gives.goes_on f none) in
        record {
          landing = none-plain x o.offer.token v.waiting (ap (λ ps. cdcs x o.offer.token ps) waiting ∙ c.0) ∙ sym (ap (λ ms. shots ms) (lands-nothing (Then x s) sent));
          completing = none-plain x o.offer.token v.landed (ap (λ ps. cdcs x o.offer.token ps) landed ∙ c.1) ∙ sym (ap (λ ms. shots ms) (returns-nothing (Then x s) sent));
        }

    tells-all : (v : Queues) → map placed v.waiting ≡ unlanded the_link x (e ∷ past) → map placed v.landed ≡ uncompleted the_link x (e ∷ past) → Tells v
        → (s : ℕ) (o : Offered) → offered (other x) s (e ∷ past) ≡ Some o → TellsPlainly x o.offer.token v (Then x s)
    tells-all v waiting landed tells s o f = by (offered (other x) s past) refl
      where
        by : (q : Option Offered) → offered (other x) s past ≡ q → TellsPlainly x o.offer.token v (Then x s)
        by None g = tells-new v waiting landed s o f g
        by (Some r) g =
            let go : GoesOn e past = gives.goes_on in
            subst (λ (k : Offered). TellsPlainly x k.offer.token v (Then x s)) (some-is r o (sym (go.kept (other x) s r g) ∙ f)) (tells s r g)

    -- a wire with other posts keeps its places and reports
    with-other : (ws ls : List InFlight) → map placed ws ≡ unlanded the_link x (e ∷ past) → map placed ls ≡ uncompleted the_link x (e ∷ past) → Tells (record w { waiting = ws; landed = ls })
        → IsWireAfter setup payload x (e ∷ past) (record w { waiting = ws; landed = ls })
    with-other ws ls waiting landed tells = record {
      places = wire.places;
      waiting = waiting;
      landed = landed;
      uncut = wire.uncut;
      unreported_a = wire.unreported_a;
      unreported_b = wire.unreported_b;
      plain = tells-all (record w { waiting = ws; landed = ls }) waiting landed tells;
    }

    -- the wire with what was posted, by what left it
    after-none : Moving x e past w → IsWireAfter setup payload x (e ∷ past) (with_posts cs (moved x e.event w))
    after-none (Moves_none s m) =
        subst (λ v. IsWireAfter setup payload x (e ∷ past) (with_posts cs v)) (sym m)
        (with-other (w.waiting ++ cs) w.landed (stays-waiting the_link x e past cs are w wire.waiting wire.landed s) (stays-landed the_link x e past cs are w wire.waiting wire.landed s)
        (λ i o f. tells-stays the_link x o.offer.token e past (Now x i) (Then x i) (marked x i) cs (plain i o f) w (wire.plain i o f) s (goes x i o f)))
    after-none (Moves_landed l m) =
        let f = front-waits the_link x e past cs are w wire.waiting wire.landed l in
        let v : Queues = record w { waiting = drop 1 w.waiting; landed = landed_with f.c w.landed } in
        let is : with_landed (head w.waiting) w ≡ v = ap (λ ds. with_landed (head ds) w) f.is in
        subst (λ u. IsWireAfter setup payload x (e ∷ past) (with_posts cs u)) (sym (m ∙ is))
        (with-other (drop 1 w.waiting ++ cs) (landed_with f.c w.landed) (lands-waiting the_link x e past cs are w wire.waiting wire.landed l) (lands-landed the_link x e past cs are w wire.waiting wire.landed l)
        (λ i o g. subst (λ ds. TellsPlainly x o.offer.token (record w { waiting = ds ++ cs; landed = landed_with f.c w.landed }) (Then x i)) (sym (ap (λ ds. drop 1 ds) f.is))
        (tells-lands the_link x o.offer.token e past (Now x i) (Then x i) (marked x i) cs (plain i o g) w (wire.plain i o g) f.c f.others f.is wire.waiting l (goes x i o g))))
    after-none (Moves_completed l m) =
        let f = front-landed the_link x e past cs are w wire.waiting wire.landed l in
        let v : Queues = record w { landed = drop 1 w.landed } in
        let is : with_completed (head w.landed) w ≡ v = ap (λ ds. with_completed (head ds) w) f.is in
        subst (λ u. IsWireAfter setup payload x (e ∷ past) (with_posts cs u)) (sym (m ∙ is))
        (with-other (w.waiting ++ cs) (drop 1 w.landed) (completes-waiting the_link x e past cs are w wire.waiting wire.landed l) (completes-landed the_link x e past cs are w wire.waiting wire.landed l)
        (λ i o g. subst (λ ds. TellsPlainly x o.offer.token (record w { waiting = w.waiting ++ cs; landed = ds }) (Then x i)) (sym (ap (λ ds. drop 1 ds) f.is))
        (tells-completes the_link x o.offer.token e past (Now x i) (Then x i) (marked x i) cs (plain i o g) w (wire.plain i o g) f.c f.others f.is wire.landed l (goes x i o g))))

    -- a wire with the posts of an entry
    pub wire-with : IsWireAfter setup payload x (e ∷ past) (with_posts cs (moved x e.event w))
    wire-with = after-none (moving setup one payload past p.0 p.3 p.0 e made x w wire)

  -- the wire of the side that doesn't act
  pub wire-theirs : (x : Side) → acting_side e.event ≡ other x → (w : Queues) → IsWireAfter setup payload x past w → IsWireAfter setup payload x (e ∷ past) (moved x e.event w)
  wire-theirs x acts w wire =
      let v : Queues = moved x e.event w in
      let a = posts-from setup one payload e past n p in
      let from : EachPost (IsSentBy setup.sockets (other x)) e.posts = subst (λ y. EachPost (IsSentBy setup.sockets y) e.posts) acts a.from in
      subst (λ ds. IsWireAfter setup payload x (e ∷ past) (record v { waiting = ds })) (append-nil v.waiting)
      (wire-with x w wire [] (sym (none-on setup.sockets x (next_number past) 1 e.posts from))
      (λ s o f. sym (ap (λ ms. shots ms) (none-mapped (message (element_size setup) o.offer.token) (Posts_of x s) (sym (news-sent x s o f) ∙ none-under setup.sockets x o.offer.token e.posts from)))))

-- before anything happened
pub wire-first : (setup : Setup) (payload : List ℕ) (x : Side) → IsWireAfter setup payload x [] (empty (places_of setup x) false)
wire-first setup payload x = record {
  places = refl;
  waiting = refl;
  landed = refl;
  uncut = refl;
  unreported_a = refl;
  unreported_b = refl;
  plain = λ s o f. absurd (true≢false (sym (ap (λ q. is_some q) f)));
}
