-- A CLC message that is taken: what happens on its socket, where it is not of first contact.
use Rattle.std.proofs.Common.{Bool, List, Some, [], ap, drop, false, inl, refl, subst, sym, true, true≢false, ℕ, ◌++◌, ◌∙◌, ◌∷◌, ◌≡◌, ◌≢◌, ◌⊎◌}
use Rattle.clc_wire.specs.declared.message.ClcMessage.TheVariants.{Accept as AcceptMessage, Confirm as ConfirmMessage, Decline as DeclineMessage, Proposal as ProposalMessage}
use Rattle.std.specs.Prelude.{Option, filter_map}
use Rattle.pipe_model.specs.declared.event.Event.TheVariants.{Clc}
use Rattle.std.specs.Option.{option_or}
use Rattle.history_laws.specs.Words.{A, B, ClcMessage, EndState, Entry, NoEnd, Offered, Post, Reply, Side, WaitsProposal, after_clc, after_loss, clc_in, early_state, end_state, group_on, head, is_raw, is_up, loses_group_with, offer_in, offered, other, takes_message, untaken}
use Rattle.history_laws.proofs.Basics.{none-is, some-is}
use Rattle.history_laws.specs.Offers.{is_own_state}
use Rattle.history_laws.proofs.Offers.{loss-own}
use Rattle.link_laws.specs.Offered.{AreNamed, AreOffered, IsFresh, HasProposal}
use Rattle.link_laws.specs.Contact.{IsJoinedFirst, IsOfferedFirst}
use Rattle.link_laws.specs.Linked.{Under}
use Rattle.link_laws.proofs.Contact.Same.{is_waiting_state, loss-back, loss-keeps, state-parts, waited}
use Rattle.link_laws.proofs.Contact.Changes.{AreLaterOnly, IsLaterOffer, IsMoved, IsStreamed}
use Rattle.link_laws.proofs.Contact.Messages.{each-side, early-sender, early-taker, stream-taken, stream-taker}
use Rattle.link_laws.proofs.Contact.Elsewhere.{append-none}
use Rattle.link_laws.proofs.Contact.Offers.{named-drop}

-- the message that is judged in the row of an offered first contact is its Accept, and that of a joined one its Confirm
pub offered-message : (past : List Entry) (s : ℕ) (o : Offered) (dir : Side) (m : ClcMessage) → AreOffered past → IsOfferedFirst s o past → (is_raw s past ≡ false → head (untaken dir s past) ≡ Some m) → (dir ≡ B) × (AcceptMessage o.offer ≡ m)
offered-message past s o A m offers row h = absurd (none-is m (sym (ap head row.untaken_a) ∙ h (offers.plain s row.opened)))
offered-message past s o B m offers row h = (refl, some-is (AcceptMessage o.offer) m (sym (ap head row.untaken_b) ∙ h (offers.plain s row.opened)))

pub joined-message : (past : List Entry) (under : Option Under) (s : ℕ) (o p : Offered) (dir : Side) (m : ClcMessage) → AreOffered past → IsJoinedFirst s o p past under → (is_raw s past ≡ false → head (untaken dir s past) ≡ Some m) → (dir ≡ A) × (ConfirmMessage p.offer ≡ m)
joined-message past under s o p B m offers row h = absurd (none-is m (sym (ap head row.untaken_b) ∙ h (offers.plain s row.opened)))
joined-message past under s o p A m offers row h = (refl, some-is (ConfirmMessage p.offer) m (sym (ap head row.untaken_a) ∙ h (offers.plain s row.opened)))

-- whether a message is of first contact
abbrev pub is_of_first : ClcMessage → Bool
is_of_first (AcceptMessage o) = o.first
is_of_first (ConfirmMessage o) = o.first
is_of_first m = false

pub not-offered : (past : List Entry) (s : ℕ) (o : Offered) (dir : Side) (m : ClcMessage) → is_of_first m ≡ false → AreOffered past → (is_raw s past ≡ false → head (untaken dir s past) ≡ Some m) → IsOfferedFirst s o past → ⊥
not-offered past s o dir m later offers h row = let it = offered-message past s o dir m offers row h in true≢false (sym row.first ∙ ap is_of_first it.1 ∙ later)

pub not-joined : (past : List Entry) (under : Option Under) (s : ℕ) (o p : Offered) (dir : Side) (m : ClcMessage) → is_of_first m ≡ false → AreOffered past → (is_raw s past ≡ false → head (untaken dir s past) ≡ Some m) → IsJoinedFirst s o p past under → ⊥
not-joined past under s o p dir m later offers h row = let it = joined-message past under s o p dir m offers row h in true≢false (sym row.first ∙ ap is_of_first it.1 ∙ later)

pub named-append : (named : Option Offered) (ms ns : List ClcMessage) → AreNamed named ms → AreNamed named ns → AreNamed named (ms ++ ns)
named-append named [] ns a b = b
named-append named (AcceptMessage o ∷ ms) ns a b = (a.0, named-append named ms ns a.1 b)
named-append named (ConfirmMessage o ∷ ms) ns a b = named-append named ms ns a b
named-append named (ProposalMessage o ∷ ms) ns a b = named-append named ms ns a b
named-append named (DeclineMessage o ∷ ms) ns a b = named-append named ms ns a b

module _ (past : List Entry) (under : Option Under) (actor s : ℕ) (dir : Side) (reply : Reply) (posts : List Post) (offers : AreOffered past) where
  abbrev e : Entry
  e = record { actor = actor; event = Clc s dir; reply = reply; posts = posts }

  -- a message that is taken, with what the taker says and offers
  pub moved : (m : ClcMessage) (state : EndState)
      → (is_raw s past ≡ false → head (untaken dir s past) ≡ Some m)
      → is_waiting_state state ≡ true → state ≢ NoEnd → end_state (other dir) s past ≡ state
      → takes_message reply ≡ true
      → is_own_state (other dir) (after_clc reply state) ≡ true
      → after_clc reply state ≢ WaitsProposal
      → (news : List ClcMessage) → filter_map (clc_in (other dir) s) posts ≡ news → AreLaterOnly news → filter_map (clc_in dir s) posts ≡ []
      → ((o : Offered) → offered (other dir) s (e ∷ past) ≡ Some o → (offered (other dir) s past ≡ Some o) ⊎ IsLaterOffer (other dir) o past)
      → filter_map (offer_in dir s) posts ≡ []
      → (dir ≡ A → is_raw s past ≡ false → AreNamed (offered B s (e ∷ past)) (untaken B s (e ∷ past)))
      → ((o : Offered) → IsOfferedFirst s o past → ⊥) → ((o p : Offered) → IsJoinedFirst s o p past under → ⊥)
      → IsMoved s past under e
  moved m state h w some is takes own left news says later quiet new none named not_offered not_joined = record {
    stream = each-side dir (λ x. IsStreamed x s past e) (record { count = 1; news = []; is = stream-taken past under actor s dir reply posts takes quiet ∙ sym (append-none (drop 1 (untaken dir s past))); later = tt })
        (record { count = 0; news = news; is = stream-taker past under actor s dir reply posts ∙ ap (λ ms. untaken (other dir) s past ++ ms) says; later = later });
    offers = each-side dir (λ x. (o : Offered) → offered x s (e ∷ past) ≡ Some o → (offered x s past ≡ Some o) ⊎ IsLaterOffer x o past) (λ o g. inl (sym same-offer ∙ g)) new;
    proposed = λ r v. absurd (not-proposed dir refl r v);
    plain = offers.plain s;
    known = λ o r. let f : IsFresh s past = offers.fresh s o r in some (sym early.1 ∙ f.early (other dir));
    sided = each-side dir (λ x. is_own_state x (early_state x s (e ∷ past)) ≡ true) (ap (is_own_state dir) (early-sender past under actor s dir reply posts) ∙ loss-own dir _ _ (early_state dir s past) (offers.sided dir s))
        (ap (is_own_state (other dir)) (early-taker past under actor s dir reply posts) ∙ loss-own (other dir) _ _ (after_clc reply (early_state (other dir) s past)) (ap (λ st. is_own_state (other dir) (after_clc reply st)) early.1 ∙ own));
    accepted = λ r. accepted dir refl r;
    lone = λ r. lone dir refl r;
    not_offered = not_offered;
    not_joined = not_joined;
  }
    where
      early : (is_up (other dir) s past ≡ false) × (early_state (other dir) s past ≡ state)
      early = state-parts (other dir) s past state w is

      same-offer : offered dir s (e ∷ past) ≡ offered dir s past
      same-offer = ap (λ (os : List Offered). option_or (head os) (offered dir s past)) none

      not-proposed : (d : Side) → dir ≡ d → is_raw s past ≡ false → end_state B s (e ∷ past) ≡ WaitsProposal → ⊥
      not-proposed A q r v =
          let now = state-parts B s (e ∷ past) WaitsProposal refl v in
          let taker : early_state B s (e ∷ past) ≡ after_loss (loses_group_with B (group_on s past) e past) (group_on s past) (after_clc reply (early_state B s past)) = subst (λ d. early_state (other d) s (e ∷ past) ≡ after_loss (loses_group_with (other d) (group_on s past) e past) (group_on s past) (after_clc reply (early_state (other d) s past))) q (early-taker past under actor s dir reply posts) in
          let was : early_state B s past ≡ state = subst (λ d. early_state (other d) s past ≡ state) q early.1 in
          left (ap (λ st. after_clc reply st) (sym was) ∙ sym (loss-back (loses_group_with B (group_on s past) e past) (group_on s past) (after_clc reply (early_state B s past)) (ap is_waiting_state (sym taker ∙ now.1))) ∙ sym taker ∙ now.1)
      not-proposed B q r v =
          let p : HasProposal s past = offers.proposed s r (waited B s e past WaitsProposal refl (subst (λ d. early_state d s (e ∷ past) ≡ after_loss (loses_group_with d (group_on s past) e past) (group_on s past) (early_state d s past)) q (early-sender past under actor s dir reply posts)) v) in
          none-is m (sym (ap head p.untaken_b) ∙ subst (λ d. head (untaken d s past) ≡ Some m) q (h r))

      accepted : (d : Side) → dir ≡ d → is_raw s past ≡ false → AreNamed (offered B s (e ∷ past)) (untaken B s (e ∷ past))
      accepted A q r = named q r
      accepted B q r = subst (λ o. AreNamed o (untaken B s (e ∷ past))) (sym (subst (λ d. offered d s (e ∷ past) ≡ offered d s past) q same-offer)) (subst (λ ms. AreNamed (offered B s past) ms) (sym (subst (λ d. untaken d s (e ∷ past) ≡ drop 1 (untaken d s past)) q (stream-taken past under actor s dir reply posts takes quiet))) (named-drop (offered B s past) (untaken B s past) (offers.accepted s r)))

      lone : (d : Side) → dir ≡ d → is_raw s past ≡ true → early_state A s (e ∷ past) ≡ NoEnd
      lone A q r = subst (λ d. early_state d s (e ∷ past) ≡ after_loss (loses_group_with d (group_on s past) e past) (group_on s past) (early_state d s past)) q (early-sender past under actor s dir reply posts) ∙ ap (λ st. after_loss (loses_group_with A (group_on s past) e past) (group_on s past) st) (offers.lone s r) ∙ loss-keeps (loses_group_with A (group_on s past) e past) (group_on s past) NoEnd refl
      lone B q r = absurd (some (sym (subst (λ d. early_state (other d) s past ≡ state) q early.1) ∙ offers.lone s r))
