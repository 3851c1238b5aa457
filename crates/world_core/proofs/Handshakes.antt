-- Each answer to a CLC message in a world of one link, and where it leads the link and the socket.
use Rattle.std.proofs.Common.{◌≡◌, refl, subst, sym, ◌∙◌}
use Rattle.pipe_model.specs.declared.event.Event.TheVariants.{Clc as ClcEvent}
use Rattle.pipe_model.specs.declared.reply.SentKind.TheVariants.{Accept as AcceptSent, Confirm as ConfirmSent, ConfirmLink as LinkSent}
use Rattle.pipe_model.specs.declared.reply.Reply.TheVariants.{Established, FellBack, Sent, Declined}
use Rattle.pipe_model.specs.declared.post.Post.TheVariants.{Llc, Clc}
use Rattle.clc_wire.specs.declared.message.ClcMessage.TheVariants.{Accept as AcceptMessage, Confirm as ConfirmMessage, Decline as DeclineMessage}
use Rattle.pipe_model.specs.Connections.{after_event, comes_up}
use Rattle.smc_num.specs.declared.Side.TheVariants.{A, B}
use Rattle.pipe_model.specs.Messages.{offer}
use Rattle.pipe_model.specs.Fallback.{clc_in, takes_clc}
use Rattle.pipe_model.specs.declared.setup.Setup.{Setup}
use Rattle.pipe_model.specs.declared.reply.Lack.{Lack}
use Rattle.llc_wire.specs.declared.LlcMessage.{LlcMessage}
use Rattle.clc_wire.specs.declared.offer.Offer.{Offer}
use Rattle.world_core.specs.OneLink.{the_link}
use Rattle.std.specs.Option.{option_or}
use Rattle.world_core.proofs.QuietEvents.{by-side, entry-of}
use Rattle.pipe_model.specs.declared.entry.Entry.{Entry}
use Rattle.world_core.proofs.Moves.{MovesSocket}
use Rattle.smc_num.specs.Names.{head}
use Rattle.pipe_model.specs.History.{Offered, offer_in, offered}
use Rattle.clc_wire.specs.declared.refusal.Refusal.{Refusal}
use Rattle.world_core.specs.Sockets.{AcceptFallen, AcceptRefused, Accepted, AreOffers, AwaitsLink, Confirmed, Fallen, FirstAccepted, FirstConfirmed, IsOffer, Proposed, Refused, Socket, early_at, is_first, offered_at, on_link, untaken_at, up_at, Up}
use Rattle.std.specs.Prelude.{List, None, Some, [], drop, false, filter_map, if◌then◌else◌, is_some, true, ℕ, ◌++◌, ◌==◌, ◌||◌, ◌∷◌}
use Rattle.smc_num.specs.declared.Side.{Side}
use Rattle.world_core.proofs.Plain.{some-is}

-- the offers of a socket
pub no-offers : (setup : Setup) (k : Socket) → offered_at k A ≡ None → offered_at k B ≡ None → AreOffers setup k
no-offers setup k a b A o h = cc
no-offers setup k a b B o h = cc

pub one-offer : (setup : Setup) (k : Socket) (o : Offer) → offered_at k A ≡ None → offered_at k B ≡ on_link o → IsOffer setup B (is_first k) o → AreOffers setup k
one-offer setup k o a b i A q h = cc
one-offer setup k o a b i B q h = subst (λ (r : Offered). IsOffer setup B (is_first k) r.offer) (some-is (record { link = the_link; offer = o }) q (sym b ∙ h)) i

pub two-offers : (setup : Setup) (k : Socket) (o p : Offer) → offered_at k A ≡ on_link p → offered_at k B ≡ on_link o → IsOffer setup A (is_first k) p → IsOffer setup B (is_first k) o → AreOffers setup k
two-offers setup k o p a b j i A q h = subst (λ (r : Offered). IsOffer setup A (is_first k) r.offer) (some-is (record { link = the_link; offer = p }) q (sym a ∙ h)) j
two-offers setup k o p a b j i B q h = subst (λ (r : Offered). IsOffer setup B (is_first k) r.offer) (some-is (record { link = the_link; offer = o }) q (sym b ∙ h)) i

pub offer-of : (setup : Setup) (k : Socket) (x : Side) (o : Offer) → AreOffers setup k → offered_at k x ≡ on_link o → IsOffer setup x (is_first k) o
offer-of setup k x o are e = are x (record { link = the_link; offer = o }) e

module _ (setup : Setup) (actor t : ℕ) (older : List Entry) (e : (t == t) ≡ true) where
  -- B declines a Proposal
  pub refuses-proposal : (lack : Lack) (r : Refusal) → MovesSocket setup (entry-of actor (ClcEvent t A) (Declined lack) (Clc B t None (DeclineMessage r) ∷ [])) older t Proposed (Refused r)
  refuses-proposal lack r = record {
    up = by-side (λ x. (is_some (comes_up x t (entry-of actor (ClcEvent t A) (Declined lack) (Clc B t None (DeclineMessage r) ∷ [])) older) || up_at Proposed x) ≡ up_at (Refused r) x) refl refl;
    early = by-side (λ x. after_event x t (ClcEvent t A) (Declined lack) (early_at Proposed x) ≡ early_at (Refused r) x) refl (rw e refl);
    offer = by-side (λ x. option_or (head (filter_map (offer_in x t) (Clc B t None (DeclineMessage r) ∷ []))) (offered_at Proposed x) ≡ offered_at (Refused r) x) refl refl;
    messages = by-side (λ x. drop (if takes_clc x t (ClcEvent t A) (Declined lack) then 1 else 0) (untaken_at setup Proposed x) ++ filter_map (clc_in x t) (Clc B t None (DeclineMessage r) ∷ []) ≡ untaken_at setup (Refused r) x) (rw e refl) (rw e refl);
    opened = refl;
    raw = refl;
    offers = λ a. no-offers setup (Refused r) refl refl;
  }

  -- A takes a Decline
  pub falls-at-a : (r : Refusal) → MovesSocket setup (entry-of actor (ClcEvent t B) FellBack []) older t (Refused r) Fallen
  falls-at-a r = record {
    up = by-side (λ x. (is_some (comes_up x t (entry-of actor (ClcEvent t B) FellBack []) older) || up_at (Refused r) x) ≡ up_at Fallen x) refl refl;
    early = by-side (λ x. after_event x t (ClcEvent t B) FellBack (early_at (Refused r) x) ≡ early_at Fallen x) (rw e refl) refl;
    offer = by-side (λ x. offered_at (Refused r) x ≡ offered_at Fallen x) refl refl;
    messages = by-side (λ x. drop (if takes_clc x t (ClcEvent t B) FellBack then 1 else 0) (untaken_at setup (Refused r) x) ++ [] ≡ untaken_at setup Fallen x) (rw e refl) (rw e refl);
    opened = refl;
    raw = refl;
    offers = λ a. no-offers setup Fallen refl refl;
  }

  -- B offers in first contact
  pub accepts-first : (o : Offer) → IsOffer setup B true o → MovesSocket setup (entry-of actor (ClcEvent t A) (Sent AcceptSent) (Clc B t (Some the_link) (AcceptMessage o) ∷ [])) older t Proposed (FirstAccepted o)
  accepts-first o i = record {
    up = by-side (λ x. (is_some (comes_up x t (entry-of actor (ClcEvent t A) (Sent AcceptSent) (Clc B t (Some the_link) (AcceptMessage o) ∷ [])) older) || up_at Proposed x) ≡ up_at (FirstAccepted o) x) refl refl;
    early = by-side (λ x. after_event x t (ClcEvent t A) (Sent AcceptSent) (early_at Proposed x) ≡ early_at (FirstAccepted o) x) refl (rw e refl);
    offer = by-side (λ x. option_or (head (filter_map (offer_in x t) (Clc B t (Some the_link) (AcceptMessage o) ∷ []))) (offered_at Proposed x) ≡ offered_at (FirstAccepted o) x) refl (rw e refl);
    messages = by-side (λ x. drop (if takes_clc x t (ClcEvent t A) (Sent AcceptSent) then 1 else 0) (untaken_at setup Proposed x) ++ filter_map (clc_in x t) (Clc B t (Some the_link) (AcceptMessage o) ∷ []) ≡ untaken_at setup (FirstAccepted o) x) (rw e refl) (rw e refl);
    opened = refl;
    raw = refl;
    offers = λ a. one-offer setup (FirstAccepted o) o refl refl i;
  }

  -- B offers in later contact
  pub accepts-later : (o : Offer) → IsOffer setup B false o → MovesSocket setup (entry-of actor (ClcEvent t A) (Sent AcceptSent) (Clc B t (Some the_link) (AcceptMessage o) ∷ [])) older t Proposed (Accepted o)
  accepts-later o i = record {
    up = by-side (λ x. (is_some (comes_up x t (entry-of actor (ClcEvent t A) (Sent AcceptSent) (Clc B t (Some the_link) (AcceptMessage o) ∷ [])) older) || up_at Proposed x) ≡ up_at (Accepted o) x) refl refl;
    early = by-side (λ x. after_event x t (ClcEvent t A) (Sent AcceptSent) (early_at Proposed x) ≡ early_at (Accepted o) x) refl (rw e refl);
    offer = by-side (λ x. option_or (head (filter_map (offer_in x t) (Clc B t (Some the_link) (AcceptMessage o) ∷ []))) (offered_at Proposed x) ≡ offered_at (Accepted o) x) refl (rw e refl);
    messages = by-side (λ x. drop (if takes_clc x t (ClcEvent t A) (Sent AcceptSent) then 1 else 0) (untaken_at setup Proposed x) ++ filter_map (clc_in x t) (Clc B t (Some the_link) (AcceptMessage o) ∷ []) ≡ untaken_at setup (Accepted o) x) (rw e refl) (rw e refl);
    opened = refl;
    raw = refl;
    offers = λ a. one-offer setup (Accepted o) o refl refl i;
  }

  -- A offers in first contact
  pub confirms-first : (o p : Offer) → IsOffer setup A true p → MovesSocket setup (entry-of actor (ClcEvent t B) (Sent ConfirmSent) (Clc A t (Some the_link) (ConfirmMessage p) ∷ [])) older t (FirstAccepted o) (FirstConfirmed o p)
  confirms-first o p i = record {
    up = by-side (λ x. (is_some (comes_up x t (entry-of actor (ClcEvent t B) (Sent ConfirmSent) (Clc A t (Some the_link) (ConfirmMessage p) ∷ [])) older) || up_at (FirstAccepted o) x) ≡ up_at (FirstConfirmed o p) x) refl refl;
    early = by-side (λ x. after_event x t (ClcEvent t B) (Sent ConfirmSent) (early_at (FirstAccepted o) x) ≡ early_at (FirstConfirmed o p) x) (rw e refl) refl;
    offer = by-side (λ x. option_or (head (filter_map (offer_in x t) (Clc A t (Some the_link) (ConfirmMessage p) ∷ []))) (offered_at (FirstAccepted o) x) ≡ offered_at (FirstConfirmed o p) x) (rw e refl) refl;
    messages = by-side (λ x. drop (if takes_clc x t (ClcEvent t B) (Sent ConfirmSent) then 1 else 0) (untaken_at setup (FirstAccepted o) x) ++ filter_map (clc_in x t) (Clc A t (Some the_link) (ConfirmMessage p) ∷ []) ≡ untaken_at setup (FirstConfirmed o p) x) (rw e refl) (rw e refl);
    opened = refl;
    raw = refl;
    offers = λ a. two-offers setup (FirstConfirmed o p) o p refl refl i (offer-of setup (FirstAccepted o) B o a refl);
  }

  -- B asks A to confirm the link
  pub asks-link : (o p : Offer) (m : LlcMessage) → MovesSocket setup (entry-of actor (ClcEvent t A) (Sent LinkSent) (Llc B the_link m ∷ [])) older t (FirstConfirmed o p) (AwaitsLink o p)
  asks-link o p m = record {
    up = by-side (λ x. (is_some (comes_up x t (entry-of actor (ClcEvent t A) (Sent LinkSent) (Llc B the_link m ∷ [])) older) || up_at (FirstConfirmed o p) x) ≡ up_at (AwaitsLink o p) x) refl refl;
    early = by-side (λ x. after_event x t (ClcEvent t A) (Sent LinkSent) (early_at (FirstConfirmed o p) x) ≡ early_at (AwaitsLink o p) x) refl (rw e refl);
    offer = by-side (λ x. option_or (head (filter_map (offer_in x t) (Llc B the_link m ∷ []))) (offered_at (FirstConfirmed o p) x) ≡ offered_at (AwaitsLink o p) x) refl refl;
    messages = by-side (λ x. drop (if takes_clc x t (ClcEvent t A) (Sent LinkSent) then 1 else 0) (untaken_at setup (FirstConfirmed o p) x) ++ filter_map (clc_in x t) (Llc B the_link m ∷ []) ≡ untaken_at setup (AwaitsLink o p) x) (rw e refl) (rw e refl);
    opened = refl;
    raw = refl;
    offers = λ a. two-offers setup (AwaitsLink o p) o p refl refl (offer-of setup (FirstConfirmed o p) A p a refl) (offer-of setup (FirstConfirmed o p) B o a refl);
  }

  -- A declines an Accept
  pub refuses-accept : (o : Offer) (lack : Lack) (r : Refusal) → MovesSocket setup (entry-of actor (ClcEvent t B) (Declined lack) (Clc A t None (DeclineMessage r) ∷ [])) older t (Accepted o) (AcceptRefused o r)
  refuses-accept o lack r = record {
    up = by-side (λ x. (is_some (comes_up x t (entry-of actor (ClcEvent t B) (Declined lack) (Clc A t None (DeclineMessage r) ∷ [])) older) || up_at (Accepted o) x) ≡ up_at (AcceptRefused o r) x) refl refl;
    early = by-side (λ x. after_event x t (ClcEvent t B) (Declined lack) (early_at (Accepted o) x) ≡ early_at (AcceptRefused o r) x) (rw e refl) refl;
    offer = by-side (λ x. option_or (head (filter_map (offer_in x t) (Clc A t None (DeclineMessage r) ∷ []))) (offered_at (Accepted o) x) ≡ offered_at (AcceptRefused o r) x) refl refl;
    messages = by-side (λ x. drop (if takes_clc x t (ClcEvent t B) (Declined lack) then 1 else 0) (untaken_at setup (Accepted o) x) ++ filter_map (clc_in x t) (Clc A t None (DeclineMessage r) ∷ []) ≡ untaken_at setup (AcceptRefused o r) x) (rw e refl) (rw e refl);
    opened = refl;
    raw = refl;
    offers = λ a. one-offer setup (AcceptRefused o r) o refl refl (offer-of setup (Accepted o) B o a refl);
  }

  -- B takes a Decline
  pub falls-at-b : (o : Offer) (r : Refusal) → MovesSocket setup (entry-of actor (ClcEvent t A) FellBack []) older t (AcceptRefused o r) (AcceptFallen o)
  falls-at-b o r = record {
    up = by-side (λ x. (is_some (comes_up x t (entry-of actor (ClcEvent t A) FellBack []) older) || up_at (AcceptRefused o r) x) ≡ up_at (AcceptFallen o) x) refl refl;
    early = by-side (λ x. after_event x t (ClcEvent t A) FellBack (early_at (AcceptRefused o r) x) ≡ early_at (AcceptFallen o) x) refl (rw e refl);
    offer = by-side (λ x. offered_at (AcceptRefused o r) x ≡ offered_at (AcceptFallen o) x) refl refl;
    messages = by-side (λ x. drop (if takes_clc x t (ClcEvent t A) FellBack then 1 else 0) (untaken_at setup (AcceptRefused o r) x) ++ [] ≡ untaken_at setup (AcceptFallen o) x) (rw e refl) (rw e refl);
    opened = refl;
    raw = refl;
    offers = λ a. one-offer setup (AcceptFallen o) o refl refl (offer-of setup (AcceptRefused o r) B o a refl);
  }

  -- A offers in later contact, and its end is up
  pub confirms-later : (o p : Offer) → offered B t older ≡ on_link o → IsOffer setup A false p → MovesSocket setup (entry-of actor (ClcEvent t B) Established (Clc A t (Some the_link) (ConfirmMessage p) ∷ [])) older t (Accepted o) (Confirmed o p)
  confirms-later o p offer i = record {
    up = by-side (λ x. (is_some (comes_up x t (entry-of actor (ClcEvent t B) Established (Clc A t (Some the_link) (ConfirmMessage p) ∷ [])) older) || up_at (Accepted o) x) ≡ up_at (Confirmed o p) x) (rw (e, offer) refl) refl;
    early = by-side (λ x. after_event x t (ClcEvent t B) Established (early_at (Accepted o) x) ≡ early_at (Confirmed o p) x) (rw e refl) refl;
    offer = by-side (λ x. option_or (head (filter_map (offer_in x t) (Clc A t (Some the_link) (ConfirmMessage p) ∷ []))) (offered_at (Accepted o) x) ≡ offered_at (Confirmed o p) x) (rw e refl) refl;
    messages = by-side (λ x. drop (if takes_clc x t (ClcEvent t B) Established then 1 else 0) (untaken_at setup (Accepted o) x) ++ filter_map (clc_in x t) (Clc A t (Some the_link) (ConfirmMessage p) ∷ []) ≡ untaken_at setup (Confirmed o p) x) (rw e refl) (rw e refl);
    opened = refl;
    raw = refl;
    offers = λ a. two-offers setup (Confirmed o p) o p refl refl i (offer-of setup (Accepted o) B o a refl);
  }

  -- B takes the Confirm, and its end is up
  pub comes-up-later : (o p : Offer) → offered B t older ≡ on_link o → MovesSocket setup (entry-of actor (ClcEvent t A) Established []) older t (Confirmed o p) (Up o p)
  comes-up-later o p offer = record {
    up = by-side (λ x. (is_some (comes_up x t (entry-of actor (ClcEvent t A) Established []) older) || up_at (Confirmed o p) x) ≡ up_at (Up o p) x) refl (rw (e, offer) refl);
    early = by-side (λ x. after_event x t (ClcEvent t A) Established (early_at (Confirmed o p) x) ≡ early_at (Up o p) x) refl (rw e refl);
    offer = by-side (λ x. offered_at (Confirmed o p) x ≡ offered_at (Up o p) x) refl refl;
    messages = by-side (λ x. drop (if takes_clc x t (ClcEvent t A) Established then 1 else 0) (untaken_at setup (Confirmed o p) x) ++ [] ≡ untaken_at setup (Up o p) x) (rw e refl) (rw e refl);
    opened = refl;
    raw = refl;
    offers = λ a. two-offers setup (Up o p) o p refl refl (offer-of setup (Confirmed o p) A p a refl) (offer-of setup (Confirmed o p) B o a refl);
  }
