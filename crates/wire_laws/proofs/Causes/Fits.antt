-- Between two managers the message at the front of a stream is one that its taker waits for, so that none is reset for a wrong one.
use Rattle.std.proofs.Common.{Bool, List, [], ap, false, if◌then◌else◌, inl, inr, refl, subst, sym, true, true≢false, ℕ, ◌==◌, ◌∙◌, ◌∷◌, ◌≡◌, ◌⊎◌}
use Rattle.clc_wire.specs.declared.message.ClcMessage.TheVariants.{Accept as AcceptMessage, Confirm as ConfirmMessage, Decline as DeclineMessage, Proposal as ProposalMessage}
use Rattle.pipe_model.specs.Handshake.{verdict}
use Rattle.pipe_model.specs.declared.reply.SentKind.{SentKind}
use Rattle.history_laws.specs.Words.{A, B, ClcMessage, EndState, Entry, HasFallen, IsUp, Lacks, Lost, NoEnd, Ready, Setup, Side, WaitsAnswer, WaitsConfirm, WaitsLink, WaitsProposal, WasReset, Whole, Wrong, clc_step, end_state, expects, front, is_raw, is_up, lacks, other, untaken}
use Rattle.history_laws.specs.Lists.{IsAmong}
use Rattle.history_laws.specs.Made.{IsMadeAll}
use Rattle.history_laws.specs.Offers.{HasStates, HasStream, IsProposed, NoProposal, is_early, is_own_state}
use Rattle.history_laws.proofs.Basics.{by-bool}
use Rattle.history_laws.proofs.Offers.{accept-step, front-in, proposal-step, state-early, state-up, states}
use Rattle.link_laws.specs.Joined.{HasContact}
use Rattle.link_laws.specs.Offered.{HasProposal}
use Rattle.link_laws.proofs.Joined.{has-contact}
use Rattle.wire_laws.proofs.Causes.Streams.{IsAnswer, answers-alone}

-- that an end in a state waits for a message
abbrev pub Waits : EndState → ClcMessage → Type 0
Waits WaitsProposal (ProposalMessage p) = Unit {0}
Waits WaitsAnswer (AcceptMessage o) = Unit {0}
Waits WaitsAnswer (DeclineMessage r) = Unit {0}
Waits WaitsConfirm (ConfirmMessage o) = Unit {0}
Waits WaitsConfirm (DeclineMessage r) = Unit {0}
Waits state m = ⊥

-- it has a rule for it
never-wrong : (state : EndState) (m : ClcMessage) (l : Lacks) (kind : SentKind) → Waits state m → verdict false state m l ≡ Wrong kind → ⊥
never-wrong WaitsProposal (ProposalMessage p) l kind w e = proposal-step (λ v. v ≡ Wrong kind → ⊥) (λ q. cc) (λ h q. cc) (λ a q. cc) (λ b q. cc) false p l e
never-wrong WaitsProposal (AcceptMessage o) l kind w e = w
never-wrong WaitsProposal (ConfirmMessage o) l kind w e = w
never-wrong WaitsProposal (DeclineMessage r) l kind w e = w
never-wrong WaitsAnswer (AcceptMessage o) l kind w e = accept-step (λ v. v ≡ Wrong kind → ⊥) (λ q. cc) (λ h q. cc) (λ a q. cc) (λ b q. cc) o l e
never-wrong WaitsAnswer (DeclineMessage r) l kind w e = cc
never-wrong WaitsAnswer (ProposalMessage p) l kind w e = w
never-wrong WaitsAnswer (ConfirmMessage o) l kind w e = w
never-wrong WaitsConfirm (ConfirmMessage o) l kind w e = by (o.psn == l.group) e
  where
    by : (b : Bool) → (if b then Ready else Lost) ≡ Wrong kind → ⊥
    by true q = cc
    by false q = cc
never-wrong WaitsConfirm (DeclineMessage r) l kind w e = cc
never-wrong WaitsConfirm (ProposalMessage p) l kind w e = w
never-wrong WaitsConfirm (AcceptMessage o) l kind w e = w
never-wrong NoEnd m l kind w e = w
never-wrong WaitsLink m l kind w e = w
never-wrong IsUp m l kind w e = w
never-wrong HasFallen m l kind w e = w
never-wrong (WasReset cause) m l kind w e = w

module _ (setup : Setup) (payload : List ℕ) (past : List Entry) (m : IsMadeAll setup payload past) (s : ℕ) (streams : HasStream s past) (plain : is_raw s past ≡ false) where
  st : HasStates s past
  st = states setup payload past m s

  -- A waits for what B says
  answered : (n : ClcMessage) → IsAnswer n → Waits WaitsAnswer n
  answered (AcceptMessage o) a = tt
  answered (DeclineMessage r) a = tt
  answered (ProposalMessage p) a = a
  answered (ConfirmMessage o) a = a

  -- B waits for the Proposal, which stands there alone
  proposed : (n : ClcMessage) → end_state B s past ≡ WaitsProposal → IsAmong n (untaken A s past) → Waits WaitsProposal n
  proposed n w i = by (let c : HasContact past = has-contact setup payload past m in let o = c.contacted.offers in o.proposed s plain w)
    where
      by : HasProposal s past → Waits WaitsProposal n
      by h = at (subst (λ ms. IsAmong n ms) h.untaken_a i)
        where
          at : IsAmong n (ProposalMessage h.proposal ∷ []) → Waits WaitsProposal n
          at (inl q) = subst (Waits WaitsProposal) (sym q) tt
          at (inr q) = absurd q

  -- B waits for a Confirm or a Decline, and A says nothing else any more
  confirmed : (n : ClcMessage) → end_state B s past ≡ WaitsConfirm → IsAmong n (untaken A s past) → Waits WaitsConfirm n
  confirmed (ConfirmMessage o) w i = tt
  confirmed (DeclineMessage r) w i = tt
  confirmed (AcceptMessage o) w i = streams.no_accept o i
  confirmed (ProposalMessage p) w i = by streams.shape
    where
      by : NoProposal (untaken A s past) ⊎ IsProposed s past → Waits WaitsConfirm (ProposalMessage p)
      by (inl none) = none p i
      by (inr q) = absurd (true≢false (sym q.early ∙ ap is_early w))

  low : (x : Side) → expects (end_state x s past) ≡ true → is_up x s past ≡ false
  low x w = by-bool (is_up x s past ≡ false) (is_up x s past) (λ u. absurd (true≢false (sym w ∙ ap expects (state-up x s past u)))) (λ u. u)

  own : (x : Side) (state : EndState) → end_state x s past ≡ state → expects state ≡ true → is_own_state x state ≡ true
  own x state e w = ap (is_own_state x) (sym e ∙ state-early x s past (low x (ap expects e ∙ w))) ∙ st.own x

  at-a : (n : ClcMessage) (len : ℕ) → front payload B s past ≡ Whole n len → (state : EndState) → end_state A s past ≡ state → expects state ≡ true → Waits state n
  at-a n len f WaitsAnswer e w = answered n (answers-alone setup payload past m s n (front-in payload B s past n len plain f))
  at-a n len f WaitsProposal e w = absurd (true≢false (sym (own A WaitsProposal e refl)))
  at-a n len f WaitsConfirm e w = absurd (true≢false (sym (own A WaitsConfirm e refl)))
  at-a n len f NoEnd e w = absurd (true≢false (sym w))
  at-a n len f WaitsLink e w = absurd (true≢false (sym w))
  at-a n len f IsUp e w = absurd (true≢false (sym w))
  at-a n len f HasFallen e w = absurd (true≢false (sym w))
  at-a n len f (WasReset cause) e w = absurd (true≢false (sym w))

  at-b : (n : ClcMessage) (len : ℕ) → front payload A s past ≡ Whole n len → (state : EndState) → end_state B s past ≡ state → expects state ≡ true → Waits state n
  at-b n len f WaitsProposal e w = proposed n e (front-in payload A s past n len plain f)
  at-b n len f WaitsConfirm e w = confirmed n e (front-in payload A s past n len plain f)
  at-b n len f WaitsAnswer e w = absurd (true≢false (sym (own B WaitsAnswer e refl)))
  at-b n len f NoEnd e w = absurd (true≢false (sym w))
  at-b n len f WaitsLink e w = absurd (true≢false (sym w))
  at-b n len f IsUp e w = absurd (true≢false (sym w))
  at-b n len f HasFallen e w = absurd (true≢false (sym w))
  at-b n len f (WasReset cause) e w = absurd (true≢false (sym w))

  -- so no verdict says that it is wrong
  pub none-wrong : (x : Side) (n : ClcMessage) (len : ℕ) (kind : SentKind) → expects (end_state x s past) ≡ true → front payload (other x) s past ≡ Whole n len → clc_step setup payload x s n past ≡ Wrong kind → ⊥
  none-wrong x n len kind w f e = never-wrong (end_state x s past) n (lacks setup payload x past) kind (for x w f) (ap (λ b. verdict b (end_state x s past) n (lacks setup payload x past)) (sym plain) ∙ e)
    where
      for : (y : Side) → expects (end_state y s past) ≡ true → front payload (other y) s past ≡ Whole n len → Waits (end_state y s past) n
      for A v g = at-a n len g (end_state A s past) refl v
      for B v g = at-b n len g (end_state B s past) refl v
