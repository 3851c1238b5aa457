-- CONFIRM LINK lands at A, then its reply at B: the link goes live there, and the end of first contact comes up.
use Rattle.std.proofs.Common.{◌≡◌, ap, inr, refl, subst, sym, ◌∙◌}
use Rattle.std.proofs.lemmas.List.{append-nil}
use Rattle.pipe_model.specs.Keys.{by_post as keys_by_post, book_act, book_clc, by_act, if_group}
use Rattle.pipe_model.specs.declared.event.Event.TheVariants.{Deliver}
use Rattle.pipe_model.specs.declared.reply.Reply.TheVariants.{Landed}
use Rattle.pipe_model.specs.declared.post.PostRef.{PostRef}
use Rattle.pipe_model.specs.declared.flow.FlowStep.{FlowStep}
use Rattle.pipe_model.specs.declared.flow.FlowStep.TheVariants.{Live}
use Rattle.pipe_model.specs.declared.post.Post.TheVariants.{Llc}
use Rattle.smc_num.specs.declared.Side.{Side}
use Rattle.world_core.proofs.TakenMessages.{else-of, to-else}
use Rattle.llc_wire.specs.declared.LlcMessage.{LlcMessage}
use Rattle.smc_num.specs.Names.{head, same_link}
use Rattle.std.specs.Option.{option_or}
use Rattle.smc_num.specs.declared.Side.TheVariants.{A, B}
use Rattle.pipe_model.specs.declared.post.Post.{Post}
use Rattle.clc_wire.specs.declared.message.ClcMessage.{ClcMessage}
use Rattle.world_core.proofs.ClcMoves.{AreApart, llc-is-apart, none-apart}
use Rattle.world_core.proofs.Openings.{world-moves}
use Rattle.pipe_model.specs.declared.entry.Entry.{Entry}
use Rattle.pipe_model.specs.declared.setup.Setup.{Setup}
use Rattle.pipe_model.specs.Lending.{lends}
use Rattle.pipe_model.specs.Flows.{on_confirm_link, on_confirm_link_reply}
use Rattle.smc_num.specs.Links.{link_at}
use Rattle.clc_wire.specs.declared.offer.Offer.{Offer}
use Rattle.pipe_model.specs.Connections.{after_event, comes_up, confirmed_by}
use Rattle.pipe_model.specs.declared.post.Placed.{Placed}
use Rattle.pipe_model.specs.Words.{passes}
use Rattle.world_core.proofs.LinkMoves.{not-elsewhere, waits-on}
use Rattle.world_core.proofs.InHistory.{first-waiting-in}
use Rattle.pipe_model.specs.Wires.{if_latest, leaves, unlanded}
use Rattle.world_core.proofs.Handshakes.{offer-of, two-offers}
use Rattle.smc_num.specs.declared.LinkId.{LinkId}
use Rattle.world_core.proofs.Moves.{MovesLink, MovesSocket}
use Rattle.pipe_model.specs.Fabric.{Act, Fabric, act_in, act_of, lands, peer}
use Rattle.world_core.proofs.QuietEvents.{by-side, entry-of}
use Rattle.std.specs.Prelude.{Bool, List, None, Option, Some, [], drop, false, filter_map, fold, if◌then◌else◌, is_some, option_and_then, true, ℕ, ◌&&◌, ◌++◌, ◌==◌, ◌||◌, ◌∷◌, ◌⊎◌}
use Rattle.world_core.specs.OneLink.{Asking, IsAtStage, LiveAtA, LiveAtBoth, book_at, fabric_at, keys_at, llc_in, posted_llc, the_key, the_keys, the_link, waiting_at}
use Rattle.world_core.proofs.Landings.{elsewhere-stays}
use Rattle.pipe_model.specs.Messages.{confirm_link}
use Rattle.world_core.specs.Sockets.{AwaitsLink, Fallen, FirstUp, FirstUpAtA, IsOffer, IsWorld, Proposed, Refused, Socket, StandsAt, Unopened, early_at, first_step, has_not_lent, is_unoffered, offered_at, on_link, suits, untaken_at, up_at}
use Rattle.pipe_model.specs.History.{Offered, next_number, offer_in, offered, post_at}

-- a link that goes live brings no end up on a socket without an offer
not-confirmed : (link : LinkId) (step : FlowStep) → confirmed_by None link step ≡ None
not-confirmed link (Live reply true) = refl
not-confirmed link (Live reply false) = refl
not-confirmed link _ = refl

brings-none : (offer : Option Offered) → offer ≡ None → (a : Option Act) → option_and_then (λ act. confirmed_by offer act.link act.step) a ≡ None
brings-none offer e None = refl
brings-none offer e (Some act) = ap (λ o. confirmed_by o act.link act.step) e ∙ not-confirmed act.link act.step

-- nor does it move that socket
pub unoffered-lands : (setup : Setup) (actor : ℕ) (dir : Side) (at : PostRef) (posts : List Post) (older : List Entry) (s : ℕ) (k : Socket) → StandsAt setup k s older → is_unoffered k ≡ true → AreApart s posts
    → MovesSocket setup (entry-of actor (Deliver 1 dir) (Landed at) posts) older s k k
unoffered-lands setup actor dir at posts older s k stands un a = record {
  up = by-side (λ x. (is_some (comes_up x s (entry-of actor (Deliver 1 dir) (Landed at) posts) older) || up_at k x) ≡ up_at k x)
      (ap (λ (o : Option LinkId). is_some o || up_at k A) (brings-none (offered B s older) offer (act_in A (entry-of actor (Deliver 1 dir) (Landed at) posts) older)))
      (ap (λ (o : Option LinkId). is_some o || up_at k B) (brings-none (offered B s older) offer (act_in B (entry-of actor (Deliver 1 dir) (Landed at) posts) older)));
  early = by-side (λ x. after_event x s (Deliver 1 dir) (Landed at) (early_at k x) ≡ early_at k x) refl refl;
  offer = λ x. ap (λ (os : List Offered). option_or (head os) (offered_at k x)) (a.offers x);
  messages = λ x. ap (λ (ms : List ClcMessage). untaken_at setup k x ++ ms) (a.messages x) ∙ append-nil (untaken_at setup k x);
  opened = refl;
  raw = refl;
  offers = λ o. o;
}
  where
    none-at : (j : Socket) → is_unoffered j ≡ true → offered_at j B ≡ None
    none-at Unopened e = refl
    none-at Fallen e = refl
    none-at Proposed e = refl
    none-at (Refused r) e = refl
    none-at _ e = cc

    offer : offered B s older ≡ None
    offer = stands.offer B ∙ none-at k un

-- the socket of first contact
first-of-three : (k : Socket) → (first_step k == 3) ≡ true → (o : Offer) × ((p : Offer) × (k ≡ AwaitsLink o p))
first-of-three (AwaitsLink o p) e = (o, (p, refl))
first-of-three _ e = cc

first-of-four : (k : Socket) → (first_step k == 4) ≡ true → (o : Offer) × ((p : Offer) × (k ≡ FirstUpAtA o p))
first-of-four (FirstUpAtA o p) e = (o, (p, refl))
first-of-four _ e = cc

-- where it offers on the link, the link that goes live brings its end up
brings-up : (o : Offer) → o.first ≡ true → (offer : Option Offered) → offer ≡ on_link o → (reply : Bool) → confirmed_by offer the_link (Live reply true) ≡ Some the_link
brings-up o first offer e reply = ap (λ q. confirmed_by q the_link (Live reply true)) e ∙ ap (λ b. if b && true then Some the_link else None) first

then-of : {X : Type 0} (b : Bool) (x y z : X) → b ≡ true → (if b then x else y) ≡ z → x ≡ z
then-of true x y z e h = h
then-of false x y z e h = cc

to-then : {X : Type 0} (b : Bool) (x y z : X) → b ≡ true → x ≡ z → (if b then x else y) ≡ z
to-then true x y z e h = h
to-then false x y z e h = cc

module _ (setup : Setup) (actor t qp : ℕ) (older : List Entry) (c : Placed) where
  abbrev pub request : LlcMessage
  request = confirm_link setup B false the_link qp

  abbrev pub answer : ℕ → LlcMessage
  answer n = confirm_link setup A true the_link n

  -- what A does
  pub act-a : IsAtStage setup (Asking t qp) older → c.post ≡ Llc B the_link request → act_of A (Some c.post) older ≡ Some (record { link = the_link; message = request; step = Live true true })
  act-a at is =
      ap (λ p. act_of A (Some p) older) is
      ∙ ap (λ (f : Fabric). let a : Act = record { link = the_link; message = request; step = on_confirm_link 1 f.a.flow.link } in Some a) at.fabric_is

  pub act-b : IsAtStage setup (LiveAtA t qp) older → c.post ≡ Llc A the_link (answer qp) → act_of B (Some c.post) older ≡ Some (record { link = the_link; message = answer qp; step = Live false true })
  act-b at is =
      ap (λ p. act_of B (Some p) older) is
      ∙ ap (λ (f : Fabric). let a : Act = record { link = the_link; message = answer qp; step = on_confirm_link_reply f.b.flow.link } in Some a) at.fabric_is

  -- CONFIRM LINK has left its wire
  link-at-a : (n : ℕ) → IsAtStage setup (Asking t qp) older → head (unlanded the_link B older) ≡ Some c → c.post ≡ Llc B the_link request → filter_map llc_in (drop 1 (unlanded the_link B older)) ≡ []
      → MovesLink setup (entry-of actor (Deliver 1 B) (Landed c.at) (Llc A the_link (answer n) ∷ [])) older (Asking t qp) (LiveAtA t n)
  link-at-a n at first is gone =
      let known : post_at c.at older ≡ Some c.post = first-waiting-in the_link B older c first in
      let acts : act_in A (entry-of actor (Deliver 1 B) (Landed c.at) (Llc A the_link (answer n) ∷ [])) older ≡ Some (record { link = the_link; message = request; step = Live true true }) =
      ap (λ o. act_of A o older) known ∙ act-a at is in
      record {
        path = refl;
        cuts_none = refl;
        groups = refl;
        fabric_is = ap (λ o. lands o A older (fabric_at (Asking t qp))) (known ∙ ap Some is);
        keys = by-side (λ x. if_group (peer x (fabric_at (LiveAtA t n))).group (fold (keys_by_post x (peer x (fabric_at (LiveAtA t n))).table) (by_act x (peer x (fabric_at (Asking t qp))).flow (peer x (fabric_at (LiveAtA t n))).table (act_in x (entry-of actor (Deliver 1 B) (Landed c.at) (Llc A the_link (answer n) ∷ [])) older) (keys_at x (Asking t qp))) (Llc A the_link (answer n) ∷ [])) ≡ keys_at x (LiveAtA t n))
            (ap (λ a. by_act A (fabric_at (Asking t qp)).a.flow (fabric_at (LiveAtA t n)).a.table a (the_keys A)) acts) refl;
        book = by-side (λ x. (if (peer x (fabric_at (LiveAtA t n))).group == 0 then [] else book_clc x (Deliver 1 B) (Landed c.at) older (book_act (peer x (fabric_at (Asking t qp))).table (act_in x (entry-of actor (Deliver 1 B) (Landed c.at) (Llc A the_link (answer n) ∷ [])) older) (book_at x (Asking t qp)))) ≡ book_at x (LiveAtA t n))
            (ap (λ a. book_act (fabric_at (Asking t qp)).a.table a (the_key B ∷ [])) acts) refl;
        waiting = by-side (λ x. filter_map llc_in (drop (if_latest the_link older (leaves x 1 (Deliver 1 B) (Landed c.at))) (unlanded the_link x older)) ++ posted_llc the_link x (next_number older) 1 (Llc A the_link (answer n) ∷ []) ≡ waiting_at setup x (LiveAtA t n))
            (waits-on the_link A older [] _ (Llc A the_link (answer n) ∷ []) (at.waiting A) refl)
            (ap (λ (f : Fabric). filter_map llc_in (drop (if passes (same_link the_link) (link_at 1 f.latest) then 1 else 0) (unlanded the_link B older)) ++ []) at.fabric_is ∙ ap (λ (ps : List Post). ps ++ []) gone);
        elsewhere = λ link x apart. two-none (filter_map llc_in (drop (if_latest link older (leaves x link.slot (Deliver 1 B) (Landed c.at))) (unlanded link x older))) (posted_llc link x (next_number older) 1 (Llc A the_link (answer n) ∷ []))
            (elsewhere-stays setup (Asking t qp) actor older at B c first link x (leaves x link.slot (Deliver 1 B) (Landed c.at)) apart) (not-elsewhere setup actor t older link x (next_number older) A (answer n) apart);
      }
    where
      two-none : (ps qs : List Post) → ps ≡ [] → qs ≡ [] → ps ++ qs ≡ []
      two-none ps qs e f = ap (λ (us : List Post). us ++ qs) e ∙ f

  -- and its reply
  link-at-b : IsAtStage setup (LiveAtA t qp) older → head (unlanded the_link A older) ≡ Some c → c.post ≡ Llc A the_link (answer qp) → filter_map llc_in (drop 1 (unlanded the_link A older)) ≡ []
      → MovesLink setup (entry-of actor (Deliver 1 A) (Landed c.at) []) older (LiveAtA t qp) (LiveAtBoth t)
  link-at-b at first is gone =
      let known : post_at c.at older ≡ Some c.post = first-waiting-in the_link A older c first in
      let acts : act_in B (entry-of actor (Deliver 1 A) (Landed c.at) []) older ≡ Some (record { link = the_link; message = answer qp; step = Live false true }) =
      ap (λ o. act_of B o older) known ∙ act-b at is in
      record {
        path = refl;
        cuts_none = refl;
        groups = refl;
        fabric_is = ap (λ o. lands o B older (fabric_at (LiveAtA t qp))) (known ∙ ap Some is);
        keys = by-side (λ x. if_group (peer x (fabric_at (LiveAtBoth t))).group (fold (keys_by_post x (peer x (fabric_at (LiveAtBoth t))).table) (by_act x (peer x (fabric_at (LiveAtA t qp))).flow (peer x (fabric_at (LiveAtBoth t))).table (act_in x (entry-of actor (Deliver 1 A) (Landed c.at) []) older) (keys_at x (LiveAtA t qp))) []) ≡ keys_at x (LiveAtBoth t))
            refl (ap (λ a. by_act B (fabric_at (LiveAtA t qp)).b.flow (fabric_at (LiveAtBoth t)).b.table a (the_keys B)) acts);
        book = by-side (λ x. (if (peer x (fabric_at (LiveAtBoth t))).group == 0 then [] else book_clc x (Deliver 1 A) (Landed c.at) older (book_act (peer x (fabric_at (LiveAtA t qp))).table (act_in x (entry-of actor (Deliver 1 A) (Landed c.at) []) older) (book_at x (LiveAtA t qp)))) ≡ book_at x (LiveAtBoth t))
            refl (ap (λ a. book_act (fabric_at (LiveAtA t qp)).b.table a (the_key A ∷ [])) acts);
        waiting = by-side (λ x. filter_map llc_in (drop (if_latest the_link older (leaves x 1 (Deliver 1 A) (Landed c.at))) (unlanded the_link x older)) ++ [] ≡ waiting_at setup x (LiveAtBoth t))
            (ap (λ (f : Fabric). filter_map llc_in (drop (if passes (same_link the_link) (link_at 1 f.latest) then 1 else 0) (unlanded the_link A older)) ++ []) at.fabric_is ∙ ap (λ (ps : List Post). ps ++ []) gone)
            (waits-on the_link B older [] [] [] (at.waiting B) refl);
        elsewhere = λ link x apart. ap (λ (ps : List Post). ps ++ []) (elsewhere-stays setup (LiveAtA t qp) actor older at A c first link x (leaves x link.slot (Deliver 1 A) (Landed c.at)) apart);
      }

  -- the socket of first contact comes up at A
  up-at-a : (n s : ℕ) (o p : Offer) → StandsAt setup (AwaitsLink o p) s older → act_in A (entry-of actor (Deliver 1 B) (Landed c.at) (Llc A the_link (answer n) ∷ [])) older ≡ Some (record { link = the_link; message = request; step = Live true true })
      → MovesSocket setup (entry-of actor (Deliver 1 B) (Landed c.at) (Llc A the_link (answer n) ∷ [])) older s (AwaitsLink o p) (FirstUpAtA o p)
  up-at-a n s o p at acts =
      let i : IsOffer setup B true o = offer-of setup (AwaitsLink o p) B o at.offers refl in
      record {
        up = by-side (λ x. (is_some (comes_up x s (entry-of actor (Deliver 1 B) (Landed c.at) (Llc A the_link (answer n) ∷ [])) older) || up_at (AwaitsLink o p) x) ≡ up_at (FirstUpAtA o p) x)
            (ap (λ (a : Option Act). is_some (option_and_then (λ act. confirmed_by (offered B s older) act.link act.step) a) || false) acts
            ∙ ap (λ (q : Option LinkId). is_some q || false) (brings-up o i.first_is (offered B s older) (at.offer B) true))
            refl;
        early = by-side (λ x. after_event x s (Deliver 1 B) (Landed c.at) (early_at (AwaitsLink o p) x) ≡ early_at (FirstUpAtA o p) x) refl refl;
        offer = by-side (λ x. option_or (head (filter_map (offer_in x s) (Llc A the_link (answer n) ∷ []))) (offered_at (AwaitsLink o p) x) ≡ offered_at (FirstUpAtA o p) x) refl refl;
        messages = λ x. refl;
        opened = refl;
        raw = refl;
        offers = λ a. two-offers setup (FirstUpAtA o p) o p refl refl (offer-of setup (AwaitsLink o p) A p a refl) (offer-of setup (AwaitsLink o p) B o a refl);
      }

  -- and at B
  up-at-b : (s : ℕ) (o p : Offer) → StandsAt setup (FirstUpAtA o p) s older → act_in B (entry-of actor (Deliver 1 A) (Landed c.at) []) older ≡ Some (record { link = the_link; message = answer qp; step = Live false true })
      → MovesSocket setup (entry-of actor (Deliver 1 A) (Landed c.at) []) older s (FirstUpAtA o p) (FirstUp o p)
  up-at-b s o p at acts =
      let i : IsOffer setup B true o = offer-of setup (FirstUpAtA o p) B o at.offers refl in
      record {
        up = by-side (λ x. (is_some (comes_up x s (entry-of actor (Deliver 1 A) (Landed c.at) []) older) || up_at (FirstUpAtA o p) x) ≡ up_at (FirstUp o p) x)
            refl
            (ap (λ (a : Option Act). is_some (option_and_then (λ act. confirmed_by (offered B s older) act.link act.step) a) || false) acts
            ∙ ap (λ (q : Option LinkId). is_some q || false) (brings-up o i.first_is (offered B s older) (at.offer B) false));
        early = by-side (λ x. after_event x s (Deliver 1 A) (Landed c.at) (early_at (FirstUpAtA o p) x) ≡ early_at (FirstUp o p) x) refl refl;
        offer = by-side (λ x. offered_at (FirstUpAtA o p) x ≡ offered_at (FirstUp o p) x) refl refl;
        messages = λ x. refl;
        opened = refl;
        raw = refl;
        offers = λ a. two-offers setup (FirstUp o p) o p refl refl (offer-of setup (FirstUpAtA o p) A p a refl) (offer-of setup (FirstUpAtA o p) B o a refl);
      }

  -- the world after CONFIRM LINK has landed
  pub world-at-a : (n : ℕ) → IsWorld setup (Asking t qp) older → head (unlanded the_link B older) ≡ Some c → c.post ≡ Llc B the_link request → filter_map llc_in (drop 1 (unlanded the_link B older)) ≡ []
      → IsWorld setup (LiveAtA t n) (entry-of actor (Deliver 1 B) (Landed c.at) (Llc A the_link (answer n) ∷ []) ∷ older)
  world-at-a n w first is gone =
      world-moves setup (entry-of actor (Deliver 1 B) (Landed c.at) (Llc A the_link (answer n) ∷ [])) older (Asking t qp) (LiveAtA t n) w (link-at-a n w.link first is gone) (by-side (λ x. ((peer x (fabric_at (Asking t qp))).group ≡ 0) ⊎ ((peer x (fabric_at (Asking t qp))).group ≡ (peer x (fabric_at (LiveAtA t n))).group)) (inr refl) (inr refl))
      (λ s k at suit. by_test s k at suit (s == t) refl)
      (by-side (λ x. has_not_lent x (LiveAtA t n) ≡ true → (has_not_lent x (Asking t qp) ≡ true) × (filter_map (lends x) (Llc A the_link (answer n) ∷ []) ≡ [])) (λ h. cc) (λ h. cc))
    where
      acts : act_in A (entry-of actor (Deliver 1 B) (Landed c.at) (Llc A the_link (answer n) ∷ [])) older ≡ Some (record { link = the_link; message = request; step = Live true true })
      acts = ap (λ o. act_of A o older) (first-waiting-in the_link B older c first) ∙ act-a w.link is

      moved : (s : ℕ) (k : Socket) → StandsAt setup k s older → (s == t) ≡ true → (o : Offer) × ((p : Offer) × (k ≡ AwaitsLink o p)) → (j : Socket) × MovesSocket setup (entry-of actor (Deliver 1 B) (Landed c.at) (Llc A the_link (answer n) ∷ [])) older s k j × (suits (LiveAtA t n) s j ≡ true)
      moved s k at e (o, (p, is_k)) =
          (FirstUpAtA o p, subst (λ (q : Socket). MovesSocket setup (entry-of actor (Deliver 1 B) (Landed c.at) (Llc A the_link (answer n) ∷ [])) older s q (FirstUpAtA o p)) (sym is_k) (up-at-a n s o p (subst (λ (q : Socket). StandsAt setup q s older) is_k at) acts), to-then (s == t) true false true e refl)

      by_test : (s : ℕ) (k : Socket) → StandsAt setup k s older → suits (Asking t qp) s k ≡ true → (b : Bool) → (s == t) ≡ b → (j : Socket) × MovesSocket setup (entry-of actor (Deliver 1 B) (Landed c.at) (Llc A the_link (answer n) ∷ [])) older s k j × (suits (LiveAtA t n) s j ≡ true)
      by_test s k at suit true e = moved s k at e (first-of-three k (then-of (s == t) (first_step k == 3) (is_unoffered k) true e suit))
      by_test s k at suit false e =
          let un : is_unoffered k ≡ true = else-of (s == t) (first_step k == 3) (is_unoffered k) true e suit in
          (k, unoffered-lands setup actor B c.at (Llc A the_link (answer n) ∷ []) older s k at un (llc-is-apart s A the_link (answer n)), to-else (s == t) (first_step k == 4) (is_unoffered k) true e un)

  -- an unoffered socket suits a link that is live at both sides
  no-step : (k : Socket) → is_unoffered k ≡ true → (first_step k == 0) ≡ true
  no-step Unopened e = refl
  no-step Fallen e = refl
  no-step Proposed e = refl
  no-step (Refused r) e = refl
  no-step _ e = cc

  -- the world after the reply has landed
  pub world-at-b : IsWorld setup (LiveAtA t qp) older → head (unlanded the_link A older) ≡ Some c → c.post ≡ Llc A the_link (answer qp) → filter_map llc_in (drop 1 (unlanded the_link A older)) ≡ []
      → IsWorld setup (LiveAtBoth t) (entry-of actor (Deliver 1 A) (Landed c.at) [] ∷ older)
  world-at-b w first is gone =
      world-moves setup (entry-of actor (Deliver 1 A) (Landed c.at) []) older (LiveAtA t qp) (LiveAtBoth t) w (link-at-b w.link first is gone) (by-side (λ x. ((peer x (fabric_at (LiveAtA t qp))).group ≡ 0) ⊎ ((peer x (fabric_at (LiveAtA t qp))).group ≡ (peer x (fabric_at (LiveAtBoth t))).group)) (inr refl) (inr refl))
      (λ s k at suit. by_test s k at suit (s == t) refl)
      (by-side (λ x. has_not_lent x (LiveAtBoth t) ≡ true → (has_not_lent x (LiveAtA t qp) ≡ true) × ([] ≡ [])) (λ h. cc) (λ h. cc))
    where
      acts : act_in B (entry-of actor (Deliver 1 A) (Landed c.at) []) older ≡ Some (record { link = the_link; message = answer qp; step = Live false true })
      acts = ap (λ o. act_of B o older) (first-waiting-in the_link A older c first) ∙ act-b w.link is

      moved : (s : ℕ) (k : Socket) → StandsAt setup k s older → (s == t) ≡ true → (o : Offer) × ((p : Offer) × (k ≡ FirstUpAtA o p)) → (j : Socket) × MovesSocket setup (entry-of actor (Deliver 1 A) (Landed c.at) []) older s k j × (suits (LiveAtBoth t) s j ≡ true)
      moved s k at e (o, (p, is_k)) =
          (FirstUp o p, subst (λ (q : Socket). MovesSocket setup (entry-of actor (Deliver 1 A) (Landed c.at) []) older s q (FirstUp o p)) (sym is_k) (up-at-b s o p (subst (λ (q : Socket). StandsAt setup q s older) is_k at) acts), to-then (s == t) true false true e refl)

      by_test : (s : ℕ) (k : Socket) → StandsAt setup k s older → suits (LiveAtA t qp) s k ≡ true → (b : Bool) → (s == t) ≡ b → (j : Socket) × MovesSocket setup (entry-of actor (Deliver 1 A) (Landed c.at) []) older s k j × (suits (LiveAtBoth t) s j ≡ true)
      by_test s k at suit true e = moved s k at e (first-of-four k (then-of (s == t) (first_step k == 4) (is_unoffered k) true e suit))
      by_test s k at suit false e =
          let un : is_unoffered k ≡ true = else-of (s == t) (first_step k == 4) (is_unoffered k) true e suit in
          (k, unoffered-lands setup actor A c.at [] older s k at un (none-apart s), to-else (s == t) (first_step k == 5) (first_step k == 0) true e (no-step k un))
