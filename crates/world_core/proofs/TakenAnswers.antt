-- A takes an Accept or a Decline, B a Confirm or a Decline, or nothing is taken: to the next world each time.
use Rattle.std.proofs.Common.{◌≡◌, ap, inl, inr, refl, subst, ◌∙◌}
use Rattle.std.proofs.lemmas.Bool.{eq-eqb}
use Rattle.pipe_model.specs.declared.event.Event.TheVariants.{Clc as ClcEvent}
use Rattle.pipe_model.specs.declared.reply.SentKind.TheVariants.{Confirm as ConfirmSent, ConfirmLink as LinkSent}
use Rattle.pipe_model.specs.declared.reply.Reply.TheVariants.{Established, FellBack, Sent, Declined}
use Rattle.pipe_model.specs.declared.post.Post.TheVariants.{Llc, Clc}
use Rattle.pipe_model.specs.declared.verdict.ClcStep.TheVariants.{SendConfirm, Decline, Fell, Ready}
use Rattle.clc_wire.specs.declared.message.ClcMessage.TheVariants.{Accept as AcceptMessage, Confirm as ConfirmMessage, Decline as DeclineMessage}
use Rattle.clc_wire.specs.declared.refusal.Refusal.{Refusal}
use Rattle.world_core.specs.Played.{IsOneLink}
use Rattle.smc_num.specs.declared.Side.TheVariants.{A, B}
use Rattle.llc_wire.specs.declared.LlcMessage.{LlcMessage}
use Rattle.pipe_model.specs.Replies.{clc_told}
use Rattle.pipe_model.specs.declared.reply.Reply.{Reply}
use Rattle.pipe_model.specs.History.{Offered}
use Rattle.world_core.proofs.QuietEvents.{by-side, entry-of}
use Rattle.pipe_model.specs.Fabric.{peer}
use Rattle.smc_num.specs.declared.Side.{Side}
use Rattle.smc_num.specs.Names.{no_link}
use Rattle.pipe_model.specs.Connections.{named_link}
use Rattle.pipe_model.specs.declared.entry.Entry.{Entry}
use Rattle.pipe_model.specs.Lawful.{asked}
use Rattle.pipe_model.specs.Posts.{confirm_post, new_offer}
use Rattle.pipe_model.specs.Handshake.{lacks, on_accept, on_confirm}
use Rattle.world_core.proofs.Verdicts.{OnAccept, joins, on-confirm, on-first, on-later, refuses}
use Rattle.world_core.proofs.LinkMoves.{asks-to-confirm, makes-link, still-confirm, still-fall, still-refusal-a, still-up}
use Rattle.pipe_model.specs.declared.post.Post.{Post}
use Rattle.pipe_model.specs.declared.setup.Setup.{Setup}
use Rattle.world_core.specs.Sockets.{AcceptFallen, AcceptRefused, Accepted, AwaitsLink, Confirmed, Fallen, FirstAccepted, FirstConfirmed, IsOffer, IsWorld, Proposed, Refused, Socket, StandsAt, Up, has_not_lent, offered_at, on_link, suits}
use Rattle.world_core.proofs.Handshakes.{asks-link, comes-up-later, confirms-first, confirms-later, falls-at-a, falls-at-b, offer-of, refuses-accept}
use Rattle.smc_num.specs.declared.LinkId.{LinkId}
use Rattle.world_core.proofs.Offers.{has-free, new-is-offer, none-lent, unlent-free, new-place}
use Rattle.world_core.specs.OneLink.{Asking, Begun, LiveAtBoth, Made, Stage, fabric_at, the_link}
use Rattle.std.specs.Prelude.{List, None, Option, Some, [], false, filter_map, if◌then◌else◌, length, option_map, true, unwrap_or, ℕ, ◌==◌, ◌∷◌, ◌⊎◌}
use Rattle.pipe_model.specs.Lending.{free_places, lends}
use Rattle.pipe_model.specs.Messages.{confirm_link, pair_on, refusal}
use Rattle.world_core.proofs.ClcMoves.{clc-is-apart, clc-world, keeps-same, link-still, llc-is-apart, none-apart}
use Rattle.world_core.proofs.TakenMessages.{asking-suits, begun-with, idle, is-this, lent-none, live-with, made-suits, made-with, on-a-proposal, told-is, unoffered-alike, is-taken}
use Rattle.clc_wire.specs.declared.offer.Offer.{Offer}
use Rattle.world_core.specs.Lent.{Begins, BeginsNone, BeginsOne, LeadsOn}

module _ (setup : Setup) (one : IsOneLink setup) (payload : List ℕ) (actor t : ℕ) (older : List Entry) where
  abbrev GoesWith : Side → Reply → List Post → Type 0
  GoesWith dir reply posts = LeadsOn setup payload (entry-of actor (ClcEvent t dir) reply posts) older

  -- the link that the Accept on the socket names
  named : (k : Socket) (o : Offer) → StandsAt setup k t older → offered_at k B ≡ on_link o → unwrap_or (named_link t older) no_link ≡ the_link
  named k o at e = ap (λ (q : Option Offered). unwrap_or (option_map (λ r. r.link) q) no_link) (at.offer B ∙ e)

  -- A takes the Accept of first contact
  on-first-accept : (reply : Reply) (posts : List Post) (o : Offer) → IsWorld setup (Begun t) older → StandsAt setup (FirstAccepted o) t older
      → reply ≡ clc_told setup payload t B older → posts ≡ asked setup payload older (ClcEvent t B) reply → GoesWith B reply posts
  on-first-accept reply posts o w at r p =
      let e : (t == t) ≡ true = eq-eqb t t refl in
      let i : IsOffer setup B true o = offer-of setup (FirstAccepted o) B o at.offers refl in
      let v : on_accept o (lacks setup payload A older) ≡ SendConfirm true = on-first setup payload older t o w.link i.first_is in
      let k = is-taken setup payload (FirstAccepted o) t B older (AcceptMessage o) (SendConfirm true) at refl refl v in
      let told : reply ≡ Sent ConfirmSent = r ∙ k.reply in
      let free = unlent-free setup payload A older one.rmbs_a (none-lent setup payload A older (w.unlent A refl)) one.elements_a in
      let c : Offer = new_offer setup payload A true the_link older in
      let j : IsOffer setup A true c = new-is-offer setup payload A true (Begun t) older free.0 w.link free.1 in
      let given : posts ≡ Clc A t (Some the_link) (ConfirmMessage c) ∷ [] =
      p ∙ (ap (λ (x : Reply). asked setup payload older (ClcEvent t B) x) told ∙ (k.posts ∙ ap (λ (l : LinkId). confirm_post setup payload t true l older ∷ []) (named (FirstAccepted o) o at refl))) in
      is-this setup one payload actor t older B reply (Sent ConfirmSent) posts (Clc A t (Some the_link) (ConfirmMessage c) ∷ []) told given (record {
        stage = Made t;
        begins = by-side (λ x. Begins setup payload x (entry-of actor (ClcEvent t B) (Sent ConfirmSent) (Clc A t (Some the_link) (ConfirmMessage c) ∷ [])) older) (BeginsOne t B c refl refl (at.offer A) (new-place setup payload A true (Begun t) older free.0 w.link free.1) refl) (BeginsNone refl);
        world = clc-world setup actor t B (Sent ConfirmSent) (Clc A t (Some the_link) (ConfirmMessage c) ∷ []) older (Begun t) (Made t) w (makes-link setup actor t older o c w.link (at.offer B) i j)
            (by-side (λ x. ((peer x (fabric_at (Begun t))).group ≡ 0) ⊎ ((peer x (fabric_at (Begun t))).group ≡ (peer x (fabric_at (Made t))).group)) (inl refl) (inr refl))
            (FirstAccepted o) (FirstConfirmed o c) at (confirms-first setup actor t older e o c j) (ap (λ b. if b then true else false) e)
            (λ s h. made-suits t s h) (λ s. clc-is-apart s t A (Some the_link) (ConfirmMessage c))
            (by-side (λ x. has_not_lent x (Made t) ≡ true → (has_not_lent x (Begun t) ≡ true) × (filter_map (lends x) (Clc A t (Some the_link) (ConfirmMessage c) ∷ []) ≡ [])) (λ h. cc) (λ h. cc));
      })

  -- B takes the Confirm of first contact
  on-first-confirm : (reply : Reply) (posts : List Post) (o c : Offer) → IsWorld setup (Made t) older → StandsAt setup (FirstConfirmed o c) t older
      → reply ≡ clc_told setup payload t A older → posts ≡ asked setup payload older (ClcEvent t A) reply → GoesWith A reply posts
  on-first-confirm reply posts o c w at r p =
      let e : (t == t) ≡ true = eq-eqb t t refl in
      let j : IsOffer setup A true c = offer-of setup (FirstConfirmed o c) A c at.offers refl in
      let v : on_confirm c (lacks setup payload B older) ≡ Ready = on-confirm setup payload older (Made t) c w.link refl j.psn in
      let k = is-taken setup payload (FirstConfirmed o c) t A older (ConfirmMessage c) Ready at refl refl v in
      let told : reply ≡ Sent LinkSent = r ∙ (k.reply ∙ ap (λ b. if b then Sent LinkSent else Established) j.first_is) in
      let qp : ℕ = pair_on B 1 older in
      let m : LlcMessage = confirm_link setup B false the_link qp in
      let given : posts ≡ Llc B the_link m ∷ [] =
      p ∙ (ap (λ (x : Reply). asked setup payload older (ClcEvent t A) x) told ∙ (k.posts
      ∙ (ap (λ (l : LinkId). if c.first then Llc B l (confirm_link setup B false l (pair_on B l.slot older)) ∷ [] else []) (named (FirstConfirmed o c) o at refl)
      ∙ ap (λ b. if b then Llc B the_link m ∷ [] else []) j.first_is))) in
      is-this setup one payload actor t older A reply (Sent LinkSent) posts (Llc B the_link m ∷ []) told given (record {
        stage = Asking t qp;
        begins = by-side (λ x. Begins setup payload x (entry-of actor (ClcEvent t A) (Sent LinkSent) (Llc B the_link m ∷ [])) older) (BeginsNone refl) (BeginsNone refl);
        world = clc-world setup actor t A (Sent LinkSent) (Llc B the_link m ∷ []) older (Made t) (Asking t qp) w (asks-to-confirm setup actor t older c qp w.link (at.offer A) j)
            (λ x. inr refl)
            (FirstConfirmed o c) (AwaitsLink o c) at (asks-link setup actor t older e o c m) (ap (λ b. if b then true else false) e)
            (λ s h. asking-suits t qp s h) (λ s f. llc-is-apart s B the_link m)
            (by-side (λ x. has_not_lent x (Asking t qp) ≡ true → (has_not_lent x (Made t) ≡ true) × (filter_map (lends x) (Llc B the_link m ∷ []) ≡ [])) (λ h. cc) (λ h. cc));
      })

  -- A takes an Accept of later contact
  on-later-accept : (u : ℕ) (reply : Reply) (posts : List Post) (o : Offer) → IsWorld setup (LiveAtBoth u) older → StandsAt setup (Accepted o) t older → suits (LiveAtBoth u) t (Accepted o) ≡ true
      → reply ≡ clc_told setup payload t B older → posts ≡ asked setup payload older (ClcEvent t B) reply → GoesWith B reply posts
  on-later-accept u reply posts o w at suit r p = by_verdict (on-later setup one payload older u o w.link i.first_is i.psn)
    where
      e : (t == t) ≡ true
      e = eq-eqb t t refl

      i : IsOffer setup B false o
      i = offer-of setup (Accepted o) B o at.offers refl

      by_verdict : OnAccept (length (free_places setup payload A older) == 0) (on_accept o (lacks setup payload A older)) → GoesWith B reply posts
      by_verdict (refuses lack v) =
          let k = is-taken setup payload (Accepted o) t B older (AcceptMessage o) (Decline lack) at refl refl v in
          let told : reply ≡ Declined lack = r ∙ k.reply in
          is-this setup one payload actor t older B reply (Declined lack) posts (Clc A t None (DeclineMessage (refusal A lack)) ∷ []) told (p ∙ (ap (λ (x : Reply). asked setup payload older (ClcEvent t B) x) told ∙ k.posts)) (record {
            stage = LiveAtBoth u;
            begins = by-side (λ x. Begins setup payload x (entry-of actor (ClcEvent t B) (Declined lack) (Clc A t None (DeclineMessage (refusal A lack)) ∷ [])) older) (BeginsNone refl) (BeginsNone refl);
            world = clc-world setup actor t B (Declined lack) (Clc A t None (DeclineMessage (refusal A lack)) ∷ []) older (LiveAtBoth u) (LiveAtBoth u) w
                (link-still setup actor t B (Declined lack) (Clc A t None (DeclineMessage (refusal A lack)) ∷ []) older (LiveAtBoth u) w.link (still-refusal-a t older (fabric_at (LiveAtBoth u)) lack (refusal A lack)))
                (keeps-same (LiveAtBoth u)) (Accepted o) (AcceptRefused o (refusal A lack)) at (refuses-accept setup actor t older e o lack (refusal A lack)) suit
                (λ s k f h. h) (λ s. clc-is-apart s t A None (DeclineMessage (refusal A lack)))
                (lent-none (LiveAtBoth u) (Clc A t None (DeclineMessage (refusal A lack)) ∷ []) refl refl);
          })
      by_verdict (joins some v) =
          let k = is-taken setup payload (Accepted o) t B older (AcceptMessage o) (SendConfirm false) at refl refl v in
          let told : reply ≡ Established = r ∙ k.reply in
          let free = has-free setup payload A older one.rmbs_a some in
          let c : Offer = new_offer setup payload A false the_link older in
          let j : IsOffer setup A false c = new-is-offer setup payload A false (LiveAtBoth u) older free.0 w.link free.1 in
          let given : posts ≡ Clc A t (Some the_link) (ConfirmMessage c) ∷ [] =
          p ∙ (ap (λ (x : Reply). asked setup payload older (ClcEvent t B) x) told ∙ (k.posts ∙ ap (λ (l : LinkId). confirm_post setup payload t false l older ∷ []) (named (Accepted o) o at refl))) in
          is-this setup one payload actor t older B reply Established posts (Clc A t (Some the_link) (ConfirmMessage c) ∷ []) told given (record {
            stage = LiveAtBoth u;
            begins = by-side (λ x. Begins setup payload x (entry-of actor (ClcEvent t B) Established (Clc A t (Some the_link) (ConfirmMessage c) ∷ [])) older) (BeginsOne t B c refl refl (at.offer A) (new-place setup payload A false (LiveAtBoth u) older free.0 w.link free.1) refl) (BeginsNone refl);
            world = clc-world setup actor t B Established (Clc A t (Some the_link) (ConfirmMessage c) ∷ []) older (LiveAtBoth u) (LiveAtBoth u) w
                (link-still setup actor t B Established (Clc A t (Some the_link) (ConfirmMessage c) ∷ []) older (LiveAtBoth u) w.link (still-confirm t older (fabric_at (LiveAtBoth u)) c refl))
                (keeps-same (LiveAtBoth u)) (Accepted o) (Confirmed o c) at (confirms-later setup actor t older e o c (at.offer B) j) suit
                (λ s k f h. h) (λ s. clc-is-apart s t A (Some the_link) (ConfirmMessage c))
                (by-side (λ x. has_not_lent x (LiveAtBoth u) ≡ true → (has_not_lent x (LiveAtBoth u) ≡ true) × (filter_map (lends x) (Clc A t (Some the_link) (ConfirmMessage c) ∷ []) ≡ [])) (λ h. cc) (λ h. cc));
          })

  -- B takes a Confirm of later contact
  on-later-confirm : (u : ℕ) (reply : Reply) (posts : List Post) (o c : Offer) → IsWorld setup (LiveAtBoth u) older → StandsAt setup (Confirmed o c) t older → suits (LiveAtBoth u) t (Confirmed o c) ≡ true
      → reply ≡ clc_told setup payload t A older → posts ≡ asked setup payload older (ClcEvent t A) reply → GoesWith A reply posts
  on-later-confirm u reply posts o c w at suit r p =
      let e : (t == t) ≡ true = eq-eqb t t refl in
      let j : IsOffer setup A false c = offer-of setup (Confirmed o c) A c at.offers refl in
      let v : on_confirm c (lacks setup payload B older) ≡ Ready = on-confirm setup payload older (LiveAtBoth u) c w.link refl j.psn in
      let k = is-taken setup payload (Confirmed o c) t A older (ConfirmMessage c) Ready at refl refl v in
      let told : reply ≡ Established = r ∙ (k.reply ∙ ap (λ b. if b then Sent LinkSent else Established) j.first_is) in
      let given : posts ≡ [] =
      p ∙ (ap (λ (x : Reply). asked setup payload older (ClcEvent t A) x) told ∙ (k.posts
      ∙ ap (λ b. let l : LinkId = unwrap_or (named_link t older) no_link in if b then Llc B l (confirm_link setup B false l (pair_on B l.slot older)) ∷ [] else []) j.first_is)) in
      is-this setup one payload actor t older A reply Established posts [] told given (record {
        stage = LiveAtBoth u;
        begins = by-side (λ x. Begins setup payload x (entry-of actor (ClcEvent t A) Established []) older) (BeginsNone refl) (BeginsNone refl);
        world = clc-world setup actor t A Established [] older (LiveAtBoth u) (LiveAtBoth u) w
            (link-still setup actor t A Established [] older (LiveAtBoth u) w.link (still-up t older (fabric_at (LiveAtBoth u))))
            (keeps-same (LiveAtBoth u)) (Confirmed o c) (Up o c) at (comes-up-later setup actor t older e o c (at.offer B)) suit
            (λ s k f h. h) (λ s f. none-apart s) (lent-none (LiveAtBoth u) [] refl refl);
      })

  -- a Decline is taken
  on-decline-a : (stage : Stage) (reply : Reply) (posts : List Post) (d : Refusal) → IsWorld setup stage older → StandsAt setup (Refused d) t older → suits stage t (Refused d) ≡ true
      → reply ≡ clc_told setup payload t B older → posts ≡ asked setup payload older (ClcEvent t B) reply → GoesWith B reply posts
  on-decline-a stage reply posts d w at suit r p =
      let k = is-taken setup payload (Refused d) t B older (DeclineMessage d) Fell at refl refl refl in
      let told : reply ≡ FellBack = r ∙ k.reply in
      is-this setup one payload actor t older B reply FellBack posts [] told (p ∙ (ap (λ (x : Reply). asked setup payload older (ClcEvent t B) x) told ∙ k.posts)) (record {
        stage = stage;
        begins = by-side (λ x. Begins setup payload x (entry-of actor (ClcEvent t B) FellBack []) older) (BeginsNone refl) (BeginsNone refl);
        world = clc-world setup actor t B FellBack [] older stage stage w
            (link-still setup actor t B FellBack [] older stage w.link (still-fall t older (fabric_at stage) B))
            (keeps-same stage) (Refused d) Fallen at (falls-at-a setup actor t older (eq-eqb t t refl) d) (unoffered-alike stage t (Refused d) Fallen refl refl suit)
            (λ s k f h. h) (λ s f. none-apart s) (lent-none stage [] refl refl);
      })

  on-decline-b : (u : ℕ) (reply : Reply) (posts : List Post) (o : Offer) (d : Refusal) → IsWorld setup (LiveAtBoth u) older → StandsAt setup (AcceptRefused o d) t older → suits (LiveAtBoth u) t (AcceptRefused o d) ≡ true
      → reply ≡ clc_told setup payload t A older → posts ≡ asked setup payload older (ClcEvent t A) reply → GoesWith A reply posts
  on-decline-b u reply posts o d w at suit r p =
      let k = is-taken setup payload (AcceptRefused o d) t A older (DeclineMessage d) Fell at refl refl refl in
      let told : reply ≡ FellBack = r ∙ k.reply in
      is-this setup one payload actor t older A reply FellBack posts [] told (p ∙ (ap (λ (x : Reply). asked setup payload older (ClcEvent t A) x) told ∙ k.posts)) (record {
        stage = LiveAtBoth u;
        begins = by-side (λ x. Begins setup payload x (entry-of actor (ClcEvent t A) FellBack []) older) (BeginsNone refl) (BeginsNone refl);
        world = clc-world setup actor t A FellBack [] older (LiveAtBoth u) (LiveAtBoth u) w
            (link-still setup actor t A FellBack [] older (LiveAtBoth u) w.link (still-fall t older (fabric_at (LiveAtBoth u)) A))
            (keeps-same (LiveAtBoth u)) (AcceptRefused o d) (AcceptFallen o) at (falls-at-b setup actor t older (eq-eqb t t refl) o d) suit
            (λ s k f h. h) (λ s f. none-apart s) (lent-none (LiveAtBoth u) [] refl refl);
      })

  -- whatever is taken
  pub clc-goes : (stage : Stage) (k : Socket) (dir : Side) (reply : Reply) (posts : List Post) → IsWorld setup stage older → StandsAt setup k t older → suits stage t k ≡ true
      → reply ≡ clc_told setup payload t dir older → posts ≡ asked setup payload older (ClcEvent t dir) reply → GoesWith dir reply posts
  clc-goes stage Proposed A reply posts w at suit r p = on-a-proposal setup one payload actor t older stage reply posts w at suit r p
  clc-goes stage (Refused d) B reply posts w at suit r p = on-decline-a stage reply posts d w at suit r p
  clc-goes stage (FirstAccepted o) B reply posts w at suit r p = on-first-accept reply posts o (subst (λ (st : Stage). IsWorld setup st older) (begun-with stage t o suit) w) at r p
  clc-goes stage (FirstConfirmed o c) A reply posts w at suit r p = on-first-confirm reply posts o c (subst (λ (st : Stage). IsWorld setup st older) (made-with stage t o c suit) w) at r p
  clc-goes stage (Accepted o) B reply posts w at suit r p =
      let u = live-with stage t (Accepted o) refl refl suit in
      on-later-accept u.0 reply posts o (subst (λ (st : Stage). IsWorld setup st older) u.1 w) at (subst (λ (st : Stage). suits st t (Accepted o) ≡ true) u.1 suit) r p
  clc-goes stage (AcceptRefused o d) A reply posts w at suit r p =
      let u = live-with stage t (AcceptRefused o d) refl refl suit in
      on-decline-b u.0 reply posts o d (subst (λ (st : Stage). IsWorld setup st older) u.1 w) at (subst (λ (st : Stage). suits st t (AcceptRefused o d) ≡ true) u.1 suit) r p
  clc-goes stage (Confirmed o c) A reply posts w at suit r p =
      let u = live-with stage t (Confirmed o c) refl refl suit in
      on-later-confirm u.0 reply posts o c (subst (λ (st : Stage). IsWorld setup st older) u.1 w) at (subst (λ (st : Stage). suits st t (Confirmed o c) ≡ true) u.1 suit) r p
  clc-goes stage k A reply posts w at suit r p = idle setup one payload actor t older stage A reply posts w r p (told-is setup payload k t A older at)
  clc-goes stage k B reply posts w at suit r p = idle setup one payload actor t older stage B reply posts w r p (told-is setup payload k t B older at)
