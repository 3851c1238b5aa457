-- CONFIRM LINK lands at A, and the reply to it at B: each is what a manager does with it.
use Rattle.std.proofs.Common.{◌≡◌, ◌∙◌, ℕ, ◌<◌, Bool, true, false, if◌then◌else◌, List, [], ◌∷◌, ◌++◌, refl, ap, sym, subst}
use Rattle.std.specs.Prelude.{Option, Some, None, option_map}
use Rattle.smc_num.specs.declared.Side.{Side}
use Rattle.smc_num.specs.declared.Side.TheVariants.{A, B}
use Rattle.smc_num.specs.Names.{other, head}
use Rattle.rmb_region.specs.Regions.{Buffer}
use Rattle.llc_wire.specs.declared.LlcMessage.{LlcMessage}
use Rattle.pipe_model.specs.declared.setup.Setup.{Setup}
use Rattle.pipe_model.specs.declared.event.Event.TheVariants.{Deliver}
use Rattle.pipe_model.specs.declared.reply.Reply.TheVariants.{Landed}
use Rattle.pipe_model.specs.declared.flow.FlowStep.TheVariants.{Live}
use Rattle.pipe_model.specs.declared.post.Post.{Post}
use Rattle.pipe_model.specs.declared.post.Post.TheVariants.{Llc}
use Rattle.pipe_model.specs.declared.post.Placed.{Placed}
use Rattle.pipe_model.specs.declared.entry.Entry.{Entry}
use Rattle.pipe_model.specs.History.{Offered, offered, post_at, is_cdc}
use Rattle.pipe_model.specs.Words.{passes}
use Rattle.pipe_model.specs.Pipe.{Lands}
use Rattle.pipe_model.specs.Fabric.{act_of}
use Rattle.pipe_model.specs.Wires.{landing, unlanded}
use Rattle.pipe_model.specs.Connections.{EndState, after_event, up_by, deeds, names_cdc}
use Rattle.pipe_model.specs.Lending.{lends_by, leaves_handshake}
use Rattle.pipe_model.specs.Messages.{pair_on, confirm_link}
use Rattle.pipe_model.specs.Posts.{connection_posts}
use Rattle.pipe_model.specs.Lawful.{asked, act_posts}
use Rattle.side_core.specs.Acting.{confirms_link, confirming_posts, confirm_reply}
use Rattle.world_core.specs.OneLink.{the_link, Stage, Asking, LiveAtA, llc_of}
use Rattle.world_core.specs.Sockets.{IsWorld}
use Rattle.world_core.specs.Played.{IsPlayed}
use Rattle.world_core.specs.Agreement.{IsShaken}
use Rattle.world_core.specs.Managers.{manager_of, first_on, awaits_confirm, keeps_element, HasLendings}
use Rattle.world_core.proofs.Confirmations.{act-a, act-b, world-at-a, world-at-b}
use Rattle.world_core.proofs.DataPosts.{connections-data, shows-plus}
use Rattle.world_core.proofs.InHistory.{first-waiting-in}
use Rattle.world_core.proofs.Landings.{lands-made, first-llc}
use Rattle.world_core.proofs.Moves.{world-same}
use Rattle.world_core.proofs.QuietEvents.{by-side, entry-of}
use Rattle.world_core.proofs.PlainPosts.{ArePlain, data-plain, plain-append}
use Rattle.world_core.proofs.KeyedEnds.{KnowsEnds, UpFacts}
use Rattle.world_core.proofs.KnownEntries.{knows-ends, offers-of}
use Rattle.world_core.proofs.Lendings.{lent-to-up, lending-due}
use Rattle.world_core.proofs.Confirming.{Confirming, at_a, at_b, IsConfirming, IsWaiting, is-waiting, keys-known}
use Rattle.world_core.proofs.RisenEnds.{taker-rises, other-stays}
use Rattle.world_core.proofs.RisenPosts.{risen-posts}

-- what becomes of both managers as a side takes CONFIRM LINK or the reply to it, and what is posted
pub record IsConfirmed (setup : Setup) (payload : List ℕ) (regions : List Buffer) (x : Side) (reply : Bool) (e : Entry) (past : List Entry) : Type 0 where
  pub taker : manager_of setup payload regions x (e ∷ past) ≡ confirms_link (Live reply true) the_link (manager_of setup payload regions x past)
  pub theirs : manager_of setup payload regions (other x) (e ∷ past) ≡ manager_of setup payload regions (other x) past
  pub posts : e.posts ≡ confirming_posts (Live reply true) the_link (manager_of setup payload regions x past)

-- an LLC post is itself
llc-self : (p q : Post) → llc_of p ≡ Some q → p ≡ q
llc-self (Llc from link m) q e = cc
llc-self _ q e = cc

-- what is asked for as the message lands
reply-asked : {x : Side} {t : ℕ} {from to : Stage} {reply : Bool} → Confirming x t from to reply → (setup : Setup) (payload : List ℕ) (regions : List Buffer) (past : List Entry) (m : LlcMessage)
    → act_posts setup x past (Some (record { link = the_link; message = m; step = Live reply true })) ≡ confirm_reply reply the_link (manager_of setup payload regions x past)
reply-asked (at_a t qp rq) setup payload regions past m = refl
reply-asked (at_b t qp) setup payload regions past m = refl

reply-plain : {x : Side} {t : ℕ} {from to : Stage} {reply : Bool} → Confirming x t from to reply → (setup : Setup) (payload : List ℕ) (regions : List Buffer) (past : List Entry) → ArePlain (confirm_reply reply the_link (manager_of setup payload regions x past))
reply-plain (at_a t qp rq) setup payload regions past = (refl, tt)
reply-plain (at_b t qp) setup payload regions past = tt

-- the entry of such a landing
module _ {x : Side} {from to : Stage} {reply : Bool} (setup : Setup) (payload : List ℕ) (regions : List Buffer) (past : List Entry) (c : Confirming x (first_on x past) from to reply) (world : IsWorld setup from past)
    (lendings_are : HasLendings setup payload past) (placed : Placed) (dir : Side) (message : LlcMessage) (actor n : ℕ) (posts : List Post)
    (next : landing 1 dir past ≡ Some placed) (acts : act_of x (Some placed.post) past ≡ Some (record { link = the_link; message = message; step = Live reply true }))
    (goes : (a : ℕ) → IsWorld setup to (entry-of a (Deliver 1 dir) (Landed placed.at) (confirm_reply reply the_link (manager_of setup payload regions x past)) ∷ past))
    (confirming : (a : ℕ) (ps : List Post) → IsConfirming payload x reply (entry-of a (Deliver 1 dir) (Landed placed.at) ps) past)
    (asks : asked setup payload past (Deliver 1 dir) (Landed placed.at) ≡ act_posts setup x past (act_of x (option_map (λ c. c.post) (landing 1 dir past)) past))
    (played : IsPlayed setup payload (entry-of actor (Deliver 1 dir) (Landed placed.at) posts ∷ past) n) (shaken : IsShaken setup (entry-of actor (Deliver 1 dir) (Landed placed.at) posts ∷ past)) where
  abbrev front : List Post
  front = confirm_reply reply the_link (manager_of setup payload regions x past)

  abbrev draft_now : Entry
  draft_now = entry-of 0 (Deliver 1 dir) (Landed placed.at) (confirm_reply reply the_link (manager_of setup payload regions x past))

  asked-is : asked setup payload past (Deliver 1 dir) (Landed placed.at) ≡ front
  asked-is =
      asks ∙ (ap (λ o. act_posts setup x past (act_of x (option_map (λ (c : Placed). c.post) o) past)) next
      ∙ (ap (λ a. act_posts setup x past a) acts ∙ reply-asked c setup payload regions past message))

  posts-are : posts ≡ front ++ connection_posts setup payload draft_now past
  posts-are =
      let m = played.1 in
      m.posts
      ∙ (ap (λ r. let q : Entry = record { actor = 0; event = Deliver 1 dir; reply = r; posts = asked setup payload past (Deliver 1 dir) r } in q.posts ++ connection_posts setup payload q past) (sym m.reply)
      ∙ ap (λ (ps : List Post). ps ++ connection_posts setup payload (entry-of 0 (Deliver 1 dir) (Landed placed.at) ps) past) asked-is)

  plain-now : ArePlain posts
  plain-now = subst (λ (ps : List Post). ArePlain ps) (sym posts-are)
      (plain-append front (connection_posts setup payload draft_now past) (reply-plain c setup payload regions past) (data-plain (connection_posts setup payload draft_now past) (connections-data setup payload draft_now past)))

  world-now : IsWorld setup to (entry-of actor (Deliver 1 dir) (Landed placed.at) posts ∷ past)
  world-now = subst (λ (ps : List Post). IsWorld setup to (entry-of actor (Deliver 1 dir) (Landed placed.at) ps ∷ past)) (sym posts-are)
      (world-same setup to (entry-of actor (Deliver 1 dir) (Landed placed.at) (front ++ connection_posts setup payload draft_now past) ∷ past) (entry-of actor (Deliver 1 dir) (Landed placed.at) front ∷ past)
      (shows-plus (entry-of actor (Deliver 1 dir) (Landed placed.at) front) (connection_posts setup payload draft_now past) past (connections-data setup payload draft_now past)) (goes actor))

  waits : IsWaiting setup x (first_on x past) past
  waits = is-waiting setup past c world

  known : first_on x past < setup.sockets
  known = let q = shaken.1 in let r = q.1 in let o = offers-of setup past r.1 in o.known (other x) (first_on x past) (record { link = the_link; offer = waits.offer }) waits.theirs

  stays : (y : Side) (s : ℕ) → leaves_handshake y s (Deliver 1 dir) (Landed placed.at) ≡ false
  stays = by-side (λ y. (s : ℕ) → leaves_handshake y s (Deliver 1 dir) (Landed placed.at) ≡ false) (λ s. refl) (λ s. refl)

  knows : KnowsEnds setup payload past
  knows = let q = shaken.1 in let r = q.1 in knows-ends setup payload past played.0 played.3 r.1 (lent-to-up setup payload from past world lendings_are)

  facts : UpFacts setup payload x (first_on x past) past
  facts =
      let l = world.link in
      let now_link = let v = world-now in v.link in
      let k = keys-known c in
      let rest = k.1 in
      record {
        offer = waits.offer;
        theirs = waits.theirs;
        named = ap (λ o. option_map (λ (p : Offered). p.link) o) waits.of_b;
        heard = ap (λ st. if awaits_confirm st then None else option_map (λ (p : Offered). p.offer) (offered (other x) (first_on x past) past)) waits.state ∙ ap (λ o. option_map (λ (p : Offered). p.offer) o) waits.theirs;
        rmb = waits.rmb;
        lending = lends_by (first_on x past) the_link waits.own;
        lent_is = lendings_are.each x (first_on x past) ∙ lending-due x (first_on x past) past (record { link = the_link; offer = waits.own }) waits.ours (ap (λ st. keeps_element st) waits.state);
        keys = l.keys (other x) ∙ k.0;
        book = l.book x ∙ rest.1;
      }

  pub link-confirmed : IsConfirmed setup payload regions x reply (entry-of actor (Deliver 1 dir) (Landed placed.at) posts) past
  link-confirmed =
      let now_link = let v = world-now in v.link in
      let draft_link = let v = goes 0 in v.link in
      record {
        taker = taker-rises setup payload regions (entry-of actor (Deliver 1 dir) (Landed placed.at) posts) past c world now_link (confirming actor posts) plain-now n played shaken lendings_are stays (λ s. refl) known;
        theirs = other-stays setup payload regions (entry-of actor (Deliver 1 dir) (Landed placed.at) posts) past c world now_link (confirming actor posts) plain-now n played shaken lendings_are stays (λ s. refl);
        posts = posts-are ∙ ap (λ (ps : List Post). front ++ ps) (risen-posts setup payload regions draft_now past c world.link draft_link (confirming 0 front) waits knows facts known);
      }

-- the two landings
module _ (setup : Setup) (payload : List ℕ) (regions : List Buffer) (past : List Entry) (lendings_are : HasLendings setup payload past) (placed : Placed) (actor n : ℕ) (posts : List Post) (p : Post) (is_llc : llc_of placed.post ≡ Some p) where
  -- no message of an end lands with it
  no-deeds : (dir from : Side) (message : LlcMessage) (s : ℕ) → post_at placed.at past ≡ Some placed.post → placed.post ≡ Llc from the_link message → deeds payload s (Deliver 1 dir) (Landed placed.at) past ≡ []
  no-deeds dir from message s known is = by (offered (other dir) s past)
    where
      by : (o : Option Offered) → (if passes (λ o. names_cdc dir o.offer.token placed.at past) o then Lands dir ∷ [] else []) ≡ []
      by None = refl
      by (Some r) = ap (λ q. if passes (is_cdc dir (r.offer).token) q then Lands dir ∷ [] else []) (known ∙ ap (λ q. Some q) is)

  pub request-landed : (qp : ℕ) → IsWorld setup (Asking (first_on A past) qp) past → landing 1 B past ≡ Some placed
      → IsPlayed setup payload (entry-of actor (Deliver 1 B) (Landed placed.at) posts ∷ past) n → IsShaken setup (entry-of actor (Deliver 1 B) (Landed placed.at) posts ∷ past)
      → IsConfirmed setup payload regions A true (entry-of actor (Deliver 1 B) (Landed placed.at) posts) past
  request-landed qp world next played shaken =
      let l = world.link in
      let first : head (unlanded the_link B past) ≡ Some placed = sym (lands-made setup (Asking (first_on A past) qp) past B l refl) ∙ next in
      let waits = first-llc (unlanded the_link B past) placed p (Llc B the_link (confirm_link setup B false the_link qp)) [] first is_llc (l.waiting B) in
      let is : placed.post ≡ Llc B the_link (confirm_link setup B false the_link qp) = llc-self placed.post p is_llc ∙ waits.0 in
      let acts = act-a setup actor (first_on A past) qp past placed l is in
      let known : post_at placed.at past ≡ Some placed.post = first-waiting-in the_link B past placed first in
      link-confirmed setup payload regions past (at_a (first_on A past) qp (pair_on A 1 past)) world lendings_are placed B (confirm_link setup B false the_link qp) actor n posts next acts
      (λ a. world-at-a setup a (first_on A past) qp past placed (pair_on A 1 past) world first is waits.1)
      (λ a ps. record {
        message = confirm_link setup B false the_link qp;
        act = ap (λ o. act_of A o past) known ∙ acts;
        idle = refl;
        no_deeds = λ s. no-deeds B B (confirm_link setup B false the_link qp) s known is;
        no_ups = by-side (λ y. (s : ℕ) → up_by y s (Deliver 1 B) (Landed placed.at) past ≡ None) (λ s. refl) (λ s. refl);
        early = by-side (λ y. (s : ℕ) (state : EndState) → after_event y s (Deliver 1 B) (Landed placed.at) state ≡ state) (λ s state. refl) (λ s state. refl);
      }) refl played shaken

  pub answer-landed : (qp : ℕ) → IsWorld setup (LiveAtA (first_on B past) qp) past → landing 1 A past ≡ Some placed
      → IsPlayed setup payload (entry-of actor (Deliver 1 A) (Landed placed.at) posts ∷ past) n → IsShaken setup (entry-of actor (Deliver 1 A) (Landed placed.at) posts ∷ past)
      → IsConfirmed setup payload regions B false (entry-of actor (Deliver 1 A) (Landed placed.at) posts) past
  answer-landed qp world next played shaken =
      let l = world.link in
      let first : head (unlanded the_link A past) ≡ Some placed = sym (lands-made setup (LiveAtA (first_on B past) qp) past A l refl) ∙ next in
      let waits = first-llc (unlanded the_link A past) placed p (Llc A the_link (confirm_link setup A true the_link qp)) [] first is_llc (l.waiting A) in
      let is : placed.post ≡ Llc A the_link (confirm_link setup A true the_link qp) = llc-self placed.post p is_llc ∙ waits.0 in
      let acts = act-b setup actor (first_on B past) qp past placed l is in
      let known : post_at placed.at past ≡ Some placed.post = first-waiting-in the_link A past placed first in
      link-confirmed setup payload regions past (at_b (first_on B past) qp) world lendings_are placed A (confirm_link setup A true the_link qp) actor n posts next acts
      (λ a. world-at-b setup a (first_on B past) qp past placed world first is waits.1)
      (λ a ps. record {
        message = confirm_link setup A true the_link qp;
        act = ap (λ o. act_of B o past) known ∙ acts;
        idle = refl;
        no_deeds = λ s. no-deeds A A (confirm_link setup A true the_link qp) s known is;
        no_ups = by-side (λ y. (s : ℕ) → up_by y s (Deliver 1 A) (Landed placed.at) past ≡ None) (λ s. refl) (λ s. refl);
        early = by-side (λ y. (s : ℕ) (state : EndState) → after_event y s (Deliver 1 A) (Landed placed.at) state ≡ state) (λ s state. refl) (λ s state. refl);
      }) refl played shaken
