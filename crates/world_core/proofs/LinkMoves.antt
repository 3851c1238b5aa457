-- Which answers to a CLC message leave the link as it is, and which move it on: B begins the group, A makes the link, B asks to confirm it.
use Rattle.std.proofs.Common.{◌≡◌, ap, cond, refl, ◌∙◌}
use Rattle.pipe_model.specs.Keys.{by_post as keys_by_post, Keys, book_act, book_clc, by_act, if_group}
use Rattle.pipe_model.specs.declared.event.Event.TheVariants.{Clc as ClcEvent}
use Rattle.pipe_model.specs.declared.reply.SentKind.TheVariants.{Accept as AcceptSent, Confirm as ConfirmSent, ConfirmLink as LinkSent}
use Rattle.pipe_model.specs.declared.reply.Reply.TheVariants.{Established, FellBack, Sent, Declined}
use Rattle.pipe_model.specs.declared.post.Post.TheVariants.{Llc, Clc}
use Rattle.clc_wire.specs.declared.message.ClcMessage.TheVariants.{Accept as AcceptMessage, Confirm as ConfirmMessage, Decline as DeclineMessage}
use Rattle.world_core.proofs.ClcMoves.{AreStill}
use Rattle.clc_wire.specs.declared.message.ClcMessage.{ClcMessage}
use Rattle.smc_num.specs.declared.Side.{Side}
use Rattle.smc_num.specs.Places.{rmb_at}
use Rattle.pipe_model.specs.declared.post.Post.{Post}
use Rattle.pipe_model.specs.declared.setup.Setup.{Setup}
use Rattle.pipe_model.specs.History.{next_number, offered}
use Rattle.clc_wire.specs.declared.refusal.Refusal.{Refusal}
use Rattle.clc_wire.specs.declared.offer.Offer.{Offer}
use Rattle.world_core.proofs.Moves.{MovesLink}
use Rattle.smc_num.specs.Keys.{Key}
use Rattle.pipe_model.specs.declared.entry.Entry.{Entry}
use Rattle.smc_num.specs.Links.{Known}
use Rattle.pipe_model.specs.Messages.{confirm_link}
use Rattle.smc_num.specs.Names.{same_link, same_side}
use Rattle.llc_wire.specs.declared.LlcMessage.{LlcMessage}
use Rattle.smc_num.specs.declared.Side.TheVariants.{A, B}
use Rattle.world_core.specs.Sockets.{IsOffer, on_link}
use Rattle.smc_num.specs.declared.LinkId.{LinkId}
use Rattle.pipe_model.specs.Wires.{if_latest, leaves, unlanded}
use Rattle.pipe_model.specs.declared.reply.Lack.{Lack}
use Rattle.world_core.proofs.QuietEvents.{by-side, entry-of, none-leaves}
use Rattle.std.specs.Prelude.{Bool, List, None, Option, Some, [], drop, false, filter_map, fold, if◌then◌else◌, true, ℕ, ◌&&◌, ◌++◌, ◌==◌, ◌∷◌}
use Rattle.world_core.specs.OneLink.{Asking, Begun, IsAtStage, Made, NoLink, book_at, fabric_at, keys_at, llc_in, llc_waiting, posted_llc, the_link, waiting_at}
use Rattle.pipe_model.specs.Fabric.{Fabric, act_in, is_latest, peer}

-- a CLC message is on no wire
pub clc-waits-not : (link : LinkId) (x : Side) (n : ℕ) (from : Side) (s : ℕ) (l : Option LinkId) (m : ClcMessage) → posted_llc link x n 1 (Clc from s l m ∷ []) ≡ []
clc-waits-not link x n from s l m = by_test (same_side x from)
  where
    by_test : (b : Bool) → filter_map llc_in (cond (b && false) (record { at = record { entry = n; post = 1 }; post = Clc from s l m } ∷ []) []) ≡ []
    by_test true = refl
    by_test false = refl

module _ (t : ℕ) (older : List Entry) (f : Fabric) where
  pub still-refusal-b : (lack : Lack) (r : Refusal) → AreStill t A (Declined lack) older f (Clc B t None (DeclineMessage r) ∷ [])
  still-refusal-b lack r = record {
    groups = refl;
    fabric_is = refl;
    keys = by-side (λ x. (table : List Known) (ks : Keys) → fold (keys_by_post x table) ks (Clc B t None (DeclineMessage r) ∷ []) ≡ ks) (λ table ks. refl) (λ table ks. refl);
    book = by-side (λ x. (b : List Key) → book_clc x (ClcEvent t A) (Declined lack) older b ≡ b) (λ b. refl) (λ b. refl);
    waiting = λ link x n. clc-waits-not link x n B t None (DeclineMessage r);
  }

  pub still-refusal-a : (lack : Lack) (r : Refusal) → AreStill t B (Declined lack) older f (Clc A t None (DeclineMessage r) ∷ [])
  still-refusal-a lack r = record {
    groups = refl;
    fabric_is = refl;
    keys = by-side (λ x. (table : List Known) (ks : Keys) → fold (keys_by_post x table) ks (Clc A t None (DeclineMessage r) ∷ []) ≡ ks) (λ table ks. refl) (λ table ks. refl);
    book = by-side (λ x. (b : List Key) → book_clc x (ClcEvent t B) (Declined lack) older b ≡ b) (λ b. refl) (λ b. refl);
    waiting = λ link x n. clc-waits-not link x n A t None (DeclineMessage r);
  }

  pub still-fall : (dir : Side) → AreStill t dir FellBack older f []
  still-fall dir = record {
    groups = refl;
    fabric_is = refl;
    keys = λ x table ks. refl;
    book = λ x b. by-side (λ d. by-book d x b) (by-side (λ y. by-book A y b) refl refl x) (by-side (λ y. by-book B y b) refl refl x) dir;
    waiting = λ link x n. refl;
  }
    where
      by-book : Side → Side → List Key → Type 0
      by-book d x b = book_clc x (ClcEvent t d) FellBack older b ≡ b

  pub still-up : AreStill t A Established older f []
  still-up = record {
    groups = refl;
    fabric_is = refl;
    keys = λ x table ks. refl;
    book = by-side (λ x. (b : List Key) → book_clc x (ClcEvent t A) Established older b ≡ b) (λ b. refl) (λ b. refl);
    waiting = λ link x n. refl;
  }

  pub still-accept : (o : Offer) → o.first ≡ false → AreStill t A (Sent AcceptSent) older f (Clc B t (Some the_link) (AcceptMessage o) ∷ [])
  still-accept o first = record {
    groups = rw first refl;
    fabric_is = rw first refl;
    keys = by-side (λ x. (table : List Known) (ks : Keys) → fold (keys_by_post x table) ks (Clc B t (Some the_link) (AcceptMessage o) ∷ []) ≡ ks) (λ table ks. refl) (λ table ks. rw first refl);
    book = by-side (λ x. (b : List Key) → book_clc x (ClcEvent t A) (Sent AcceptSent) older b ≡ b) (λ b. refl) (λ b. refl);
    waiting = λ link x n. clc-waits-not link x n B t (Some the_link) (AcceptMessage o);
  }

  pub still-confirm : (p : Offer) → p.first ≡ false → AreStill t B Established older f (Clc A t (Some the_link) (ConfirmMessage p) ∷ [])
  still-confirm p first = record {
    groups = refl;
    fabric_is = refl;
    keys = by-side (λ x. (table : List Known) (ks : Keys) → fold (keys_by_post x table) ks (Clc A t (Some the_link) (ConfirmMessage p) ∷ []) ≡ ks) (λ table ks. rw first refl) (λ table ks. refl);
    book = by-side (λ x. (b : List Key) → book_clc x (ClcEvent t B) Established older b ≡ b) (λ b. refl) (λ b. refl);
    waiting = λ link x n. clc-waits-not link x n A t (Some the_link) (ConfirmMessage p);
  }

-- what waited goes on waiting, and what is posted waits behind it
pub waits-on : (link : LinkId) (x : Side) (older : List Entry) (ps qs rs : List Post) → llc_waiting link x older ≡ ps → qs ≡ rs
    → filter_map llc_in (drop (if_latest link older 0) (unlanded link x older)) ++ qs ≡ ps ++ rs
waits-on link x older ps qs rs e f =
    ap (λ (us : List Post). us ++ qs) (none-leaves (is_latest link older) (unlanded link x older) ∙ e) ∙ ap (λ (us : List Post). ps ++ us) f

module _ (setup : Setup) (actor t : ℕ) (older : List Entry) where
  -- B begins its group
  pub begins-link : (o : Offer) → IsAtStage setup NoLink older → IsOffer setup B true o
      → MovesLink setup (entry-of actor (ClcEvent t A) (Sent AcceptSent) (Clc B t (Some the_link) (AcceptMessage o) ∷ [])) older NoLink (Begun t)
  begins-link o at i =
      let first : o.first ≡ true = i.first_is in
      let rmb : rmb_at o.address ≡ 1 = i.rmb in
      record {
        path = refl;
        cuts_none = refl;
        groups = rw first refl;
        fabric_is = rw first refl;
        keys = by-side (λ x. if_group (peer x (fabric_at (Begun t))).group (fold (keys_by_post x (peer x (fabric_at (Begun t))).table) (by_act x (peer x (fabric_at NoLink)).flow (peer x (fabric_at (Begun t))).table (act_in x (entry-of actor (ClcEvent t A) (Sent AcceptSent) (Clc B t (Some the_link) (AcceptMessage o) ∷ [])) older) (keys_at x NoLink)) (Clc B t (Some the_link) (AcceptMessage o) ∷ [])) ≡ keys_at x (Begun t))
            refl (rw (first, rmb) refl);
        book = by-side (λ x. (if (peer x (fabric_at (Begun t))).group == 0 then [] else book_clc x (ClcEvent t A) (Sent AcceptSent) older (book_act (peer x (fabric_at NoLink)).table (act_in x (entry-of actor (ClcEvent t A) (Sent AcceptSent) (Clc B t (Some the_link) (AcceptMessage o) ∷ [])) older) (book_at x NoLink))) ≡ book_at x (Begun t))
            refl refl;
        waiting = by-side (λ x. filter_map llc_in (drop (if_latest the_link older (leaves x 1 (ClcEvent t A) (Sent AcceptSent))) (unlanded the_link x older)) ++ posted_llc the_link x (next_number older) 1 (Clc B t (Some the_link) (AcceptMessage o) ∷ []) ≡ waiting_at setup x (Begun t))
            (waits-on the_link A older [] _ [] (at.waiting A) (clc-waits-not the_link A (next_number older) B t (Some the_link) (AcceptMessage o)))
            (waits-on the_link B older [] _ [] (at.waiting B) (clc-waits-not the_link B (next_number older) B t (Some the_link) (AcceptMessage o)));
        elsewhere = λ link x apart. waits-on link x older [] _ [] (at.elsewhere link x apart) (clc-waits-not link x (next_number older) B t (Some the_link) (AcceptMessage o));
      }

  -- A begins its group, and the link is made
  pub makes-link : (o p : Offer) → IsAtStage setup (Begun t) older → offered B t older ≡ on_link o → IsOffer setup B true o → IsOffer setup A true p
      → MovesLink setup (entry-of actor (ClcEvent t B) (Sent ConfirmSent) (Clc A t (Some the_link) (ConfirmMessage p) ∷ [])) older (Begun t) (Made t)
  makes-link o p at offer_is j i =
      let first : p.first ≡ true = i.first_is in
      let rmb : rmb_at p.address ≡ 1 = i.rmb in
      let key_b : o.key ≡ 513 = j.key in
      let rmb_b : rmb_at o.address ≡ 1 = j.rmb in
      record {
        path = refl;
        cuts_none = refl;
        groups = refl;
        fabric_is = rw first refl;
        keys = by-side (λ x. if_group (peer x (fabric_at (Made t))).group (fold (keys_by_post x (peer x (fabric_at (Made t))).table) (by_act x (peer x (fabric_at (Begun t))).flow (peer x (fabric_at (Made t))).table (act_in x (entry-of actor (ClcEvent t B) (Sent ConfirmSent) (Clc A t (Some the_link) (ConfirmMessage p) ∷ [])) older) (keys_at x (Begun t))) (Clc A t (Some the_link) (ConfirmMessage p) ∷ [])) ≡ keys_at x (Made t))
            (rw (first, rmb) refl) refl;
        book = by-side (λ x. (if (peer x (fabric_at (Made t))).group == 0 then [] else book_clc x (ClcEvent t B) (Sent ConfirmSent) older (book_act (peer x (fabric_at (Begun t))).table (act_in x (entry-of actor (ClcEvent t B) (Sent ConfirmSent) (Clc A t (Some the_link) (ConfirmMessage p) ∷ [])) older) (book_at x (Begun t)))) ≡ book_at x (Made t))
            (rw (offer_is, key_b, rmb_b) refl) refl;
        waiting = by-side (λ x. filter_map llc_in (drop (if_latest the_link older (leaves x 1 (ClcEvent t B) (Sent ConfirmSent))) (unlanded the_link x older)) ++ posted_llc the_link x (next_number older) 1 (Clc A t (Some the_link) (ConfirmMessage p) ∷ []) ≡ waiting_at setup x (Made t))
            (waits-on the_link A older [] _ [] (at.waiting A) (clc-waits-not the_link A (next_number older) A t (Some the_link) (ConfirmMessage p)))
            (waits-on the_link B older [] _ [] (at.waiting B) (clc-waits-not the_link B (next_number older) A t (Some the_link) (ConfirmMessage p)));
        elsewhere = λ link x apart. waits-on link x older [] _ [] (at.elsewhere link x apart) (clc-waits-not link x (next_number older) A t (Some the_link) (ConfirmMessage p));
      }

  -- an LLC message on the link is on no other wire
  pub not-elsewhere : (link : LinkId) (x : Side) (n : ℕ) (from : Side) (m : LlcMessage) → same_link link the_link ≡ false → posted_llc link x n 1 (Llc from the_link m ∷ []) ≡ []
  not-elsewhere link x n from m e = ap (λ b. filter_map llc_in (cond (same_side x from && b) (record { at = record { entry = n; post = 1 }; post = Llc from the_link m } ∷ []) [])) e ∙ by_test (same_side x from)
    where
      by_test : (b : Bool) → filter_map llc_in (cond (b && false) (record { at = record { entry = n; post = 1 }; post = Llc from the_link m } ∷ []) []) ≡ []
      by_test true = refl
      by_test false = refl

  -- B asks A to confirm it
  pub asks-to-confirm : (p : Offer) (qp : ℕ) → IsAtStage setup (Made t) older → offered A t older ≡ on_link p → IsOffer setup A true p
      → MovesLink setup (entry-of actor (ClcEvent t A) (Sent LinkSent) (Llc B the_link (confirm_link setup B false the_link qp) ∷ [])) older (Made t) (Asking t qp)
  asks-to-confirm p qp at offer_is i =
      let key_a : p.key ≡ 257 = i.key in
      let rmb_a : rmb_at p.address ≡ 1 = i.rmb in
      record {
        path = refl;
        cuts_none = refl;
        groups = refl;
        fabric_is = refl;
        keys = by-side (λ x. if_group (peer x (fabric_at (Asking t qp))).group (fold (keys_by_post x (peer x (fabric_at (Asking t qp))).table) (by_act x (peer x (fabric_at (Made t))).flow (peer x (fabric_at (Asking t qp))).table (act_in x (entry-of actor (ClcEvent t A) (Sent LinkSent) (Llc B the_link (confirm_link setup B false the_link qp) ∷ [])) older) (keys_at x (Made t))) (Llc B the_link (confirm_link setup B false the_link qp) ∷ [])) ≡ keys_at x (Asking t qp))
            refl refl;
        book = by-side (λ x. (if (peer x (fabric_at (Asking t qp))).group == 0 then [] else book_clc x (ClcEvent t A) (Sent LinkSent) older (book_act (peer x (fabric_at (Made t))).table (act_in x (entry-of actor (ClcEvent t A) (Sent LinkSent) (Llc B the_link (confirm_link setup B false the_link qp) ∷ [])) older) (book_at x (Made t)))) ≡ book_at x (Asking t qp))
            refl (rw (offer_is, key_a, rmb_a) refl);
        waiting = by-side (λ x. filter_map llc_in (drop (if_latest the_link older (leaves x 1 (ClcEvent t A) (Sent LinkSent))) (unlanded the_link x older)) ++ posted_llc the_link x (next_number older) 1 (Llc B the_link (confirm_link setup B false the_link qp) ∷ []) ≡ waiting_at setup x (Asking t qp))
            (waits-on the_link A older [] _ [] (at.waiting A) refl)
            (waits-on the_link B older [] _ (Llc B the_link (confirm_link setup B false the_link qp) ∷ []) (at.waiting B) refl);
        elsewhere = λ link x apart. waits-on link x older [] _ [] (at.elsewhere link x apart) (not-elsewhere link x (next_number older) B (confirm_link setup B false the_link qp) apart);
      }
