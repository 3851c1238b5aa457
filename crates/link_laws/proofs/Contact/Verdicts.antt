-- The verdicts on a CLC message, one by one, each with what it says of the side that judges.
use Rattle.std.proofs.Common.{Bool, false, if◌then◌else◌, not, refl, subst, sym, true, ◌&&◌, ◌==◌, ◌≡◌}
use Rattle.clc_wire.specs.declared.message.ClcMessage.TheVariants.{Accept as AcceptMessage, Confirm as ConfirmMessage, Decline as DeclineMessage, Proposal as ProposalMessage}
use Rattle.pipe_model.specs.Handshake.{kind_of, verdict}
use Rattle.pipe_model.specs.declared.reply.Hold.TheVariants.{AddLink as AddLinkHold, ConfirmRkey as ConfirmRkeyHold, DeleteRkey as DeleteRkeyHold, FirstContact as FirstContactHold}
use Rattle.pipe_model.specs.declared.reply.Lack.TheVariants.{Raw}
use Rattle.history_laws.specs.Words.{AskKey, ClcMessage, ClcStep, Decline, EndState, Fell, GroupLost, HasFallen, Hold, IsUp, Lack, Lacks, Lost, NoClientElement, NoEnd, NoServerElement, NoSlot, NoSubnet, Offer, OldGroup, Proposal, Ready, Refusal, SendAccept, SendConfirm, Wait, WaitsAnswer, WaitsConfirm, WaitsLink, WaitsProposal, WasReset, Wrong, first_contact_step, is_asked, is_deleting, key_step, on_accept, on_first_accept, on_later_accept, on_proposal}

-- whether an end that waits so has a rule for the message
abbrev pub is_awaited : Bool → EndState → ClcMessage → Bool
is_awaited raw WaitsProposal (ProposalMessage p) = true
is_awaited raw WaitsAnswer (AcceptMessage o) = true
is_awaited raw WaitsAnswer (DeclineMessage r) = true
is_awaited raw WaitsConfirm (DeclineMessage r) = true
is_awaited raw WaitsConfirm (ConfirmMessage o) = not raw
is_awaited raw state m = false

-- what holds of each verdict holds of the one that is given
module _ (l : Lacks) (P : Bool → EndState → ClcMessage → ClcStep → Type 0)
    (accepts-first : (p : Proposal) → (l.group == 0) ≡ true → (l.slots_up == 0) ≡ false → P false WaitsProposal (ProposalMessage p) (SendAccept true))
    (accepts-later : (raw : Bool) (p : Proposal) → l.first_contact ≡ false → (l.group == 0) ≡ false → P raw WaitsProposal (ProposalMessage p) (SendAccept false))
    (asks-b : (raw : Bool) (p : Proposal) → l.first_contact ≡ false → (l.group == 0) ≡ false → P raw WaitsProposal (ProposalMessage p) AskKey)
    (waits-b : (raw : Bool) (p : Proposal) (hold : Hold) → P raw WaitsProposal (ProposalMessage p) (Wait hold))
    (declines-b : (raw : Bool) (p : Proposal) (lack : Lack) → P raw WaitsProposal (ProposalMessage p) (Decline lack))
    (joins : (raw : Bool) (o : Offer) → o.first ≡ true → (l.group == 0) ≡ true → P raw WaitsAnswer (AcceptMessage o) (SendConfirm true))
    (follows : (raw : Bool) (o : Offer) → o.first ≡ false → (o.psn == l.group) ≡ true → P raw WaitsAnswer (AcceptMessage o) (SendConfirm false))
    (asks-a : (raw : Bool) (o : Offer) → o.first ≡ false → (o.psn == l.group) ≡ true → P raw WaitsAnswer (AcceptMessage o) AskKey)
    (waits-a : (raw : Bool) (o : Offer) (hold : Hold) → P raw WaitsAnswer (AcceptMessage o) (Wait hold))
    (declines-a : (raw : Bool) (o : Offer) (lack : Lack) → o.first ≡ false → P raw WaitsAnswer (AcceptMessage o) (Decline lack))
    (falls-a : (raw : Bool) (r : Refusal) → P raw WaitsAnswer (DeclineMessage r) Fell)
    (falls-b : (raw : Bool) (r : Refusal) → P raw WaitsConfirm (DeclineMessage r) Fell)
    (readies : (o : Offer) → (o.psn == l.group) ≡ true → P false WaitsConfirm (ConfirmMessage o) Ready)
    (loses : (o : Offer) → (o.psn == l.group) ≡ false → P false WaitsConfirm (ConfirmMessage o) Lost)
    (wrong : (raw : Bool) (state : EndState) (m : ClcMessage) → is_awaited raw state m ≡ false → P raw state m (Wrong (kind_of m)))
  where
    -- a key is asked for, or the message waits
    asking : (Q : ClcStep → Type 0) → Q AskKey → ((hold : Hold) → Q (Wait hold)) → Q (key_step l)
    asking Q ask wait = by (is_asked l.key_flow) l.adding
      where
        by : (a b : Bool) → Q (if a then Wait ConfirmRkeyHold else if b then Wait AddLinkHold else AskKey)
        by true b = wait ConfirmRkeyHold
        by false true = wait AddLinkHold
        by false false = ask

    proposed : (raw : Bool) (p : Proposal) → P raw WaitsProposal (ProposalMessage p) (on_proposal raw p l)
    proposed raw p = by (not ((p.subnet == l.subnet.0) && (p.prefix == l.subnet.1))) l.first_contact (is_deleting l.key_flow) (l.free == 0) (l.group == 0) (not l.rmb_ready) refl refl
      where
        Q : ClcStep → Type 0
        Q step = P raw WaitsProposal (ProposalMessage p) step

        first : (r b : Bool) → raw ≡ r → (l.group == 0) ≡ true → (l.slots_up == 0) ≡ b → Q (if r then Decline Raw else if b then Decline (NoSlot l.links) else SendAccept true)
        first true b e g h = declines-b raw p Raw
        first false true e g h = declines-b raw p (NoSlot l.links)
        first false false e g h = subst (λ r. P r WaitsProposal (ProposalMessage p) (SendAccept true)) (sym e) (accepts-first p g h)

        by : (a b c d g h : Bool) → l.first_contact ≡ b → (l.group == 0) ≡ g
            → Q (if a then Decline NoSubnet else if b then Wait FirstContactHold else if c then Wait DeleteRkeyHold else if d then Decline (NoServerElement l.elements) else if g then first_contact_step raw l else if h then key_step l else SendAccept false)
        by true b c d g h e f = declines-b raw p NoSubnet
        by false true c d g h e f = waits-b raw p FirstContactHold
        by false false true d g h e f = waits-b raw p DeleteRkeyHold
        by false false false true g h e f = declines-b raw p (NoServerElement l.elements)
        by false false false false true h e f = first raw (l.slots_up == 0) refl f refl
        by false false false false false true e f = asking Q (asks-b raw p e f) (waits-b raw p)
        by false false false false false false e f = accepts-later raw p e f

    accepted : (raw : Bool) (o : Offer) → P raw WaitsAnswer (AcceptMessage o) (on_accept o l)
    accepted raw o = by o.first refl
      where
        Q : ClcStep → Type 0
        Q step = P raw WaitsAnswer (AcceptMessage o) step

        first : (b : Bool) → (l.group == 0) ≡ b → o.first ≡ true → Q (if not b then Wait OldGroup else SendConfirm true)
        first true g e = joins raw o e g
        first false g e = waits-a raw o OldGroup

        later : (a b c d : Bool) → (o.psn == l.group) ≡ a → o.first ≡ false → Q (if not a then Decline (GroupLost o.psn l.group) else if b then Wait DeleteRkeyHold else if c then Decline (NoClientElement l.elements) else if d then key_step l else SendConfirm false)
        later false b c d g e = declines-a raw o (GroupLost o.psn l.group) e
        later true true c d g e = waits-a raw o DeleteRkeyHold
        later true false true d g e = declines-a raw o (NoClientElement l.elements) e
        later true false false true g e = asking Q (asks-a raw o e g) (waits-a raw o)
        later true false false false g e = follows raw o e g

        by : (b : Bool) → o.first ≡ b → Q (if b then on_first_accept l else on_later_accept o l)
        by true e = first (l.group == 0) refl e
        by false e = later (o.psn == l.group) (is_deleting l.key_flow) (l.free == 0) (not l.rmb_ready) refl e

    confirmed : (raw : Bool) (o : Offer) → P raw WaitsConfirm (ConfirmMessage o) (verdict raw WaitsConfirm (ConfirmMessage o) l)
    confirmed true o = wrong true WaitsConfirm (ConfirmMessage o) refl
    confirmed false o = by (o.psn == l.group) refl
      where
        by : (b : Bool) → (o.psn == l.group) ≡ b → P false WaitsConfirm (ConfirmMessage o) (if b then Ready else Lost)
        by true e = readies o e
        by false e = loses o e

    pub judged : (raw : Bool) (state : EndState) (m : ClcMessage) → P raw state m (verdict raw state m l)
    judged raw WaitsProposal (ProposalMessage p) = proposed raw p
    judged raw WaitsProposal (AcceptMessage o) = wrong raw WaitsProposal (AcceptMessage o) refl
    judged raw WaitsProposal (ConfirmMessage o) = wrong raw WaitsProposal (ConfirmMessage o) refl
    judged raw WaitsProposal (DeclineMessage r) = wrong raw WaitsProposal (DeclineMessage r) refl
    judged raw WaitsAnswer (AcceptMessage o) = accepted raw o
    judged raw WaitsAnswer (DeclineMessage r) = falls-a raw r
    judged raw WaitsAnswer (ProposalMessage p) = wrong raw WaitsAnswer (ProposalMessage p) refl
    judged raw WaitsAnswer (ConfirmMessage o) = wrong raw WaitsAnswer (ConfirmMessage o) refl
    judged raw WaitsConfirm (ConfirmMessage o) = confirmed raw o
    judged raw WaitsConfirm (DeclineMessage r) = falls-b raw r
    judged raw WaitsConfirm (ProposalMessage p) = wrong raw WaitsConfirm (ProposalMessage p) refl
    judged raw WaitsConfirm (AcceptMessage o) = wrong raw WaitsConfirm (AcceptMessage o) refl
    judged raw NoEnd m = wrong raw NoEnd m refl
    judged raw WaitsLink m = wrong raw WaitsLink m refl
    judged raw IsUp m = wrong raw IsUp m refl
    judged raw HasFallen m = wrong raw HasFallen m refl
    judged raw (WasReset cause) m = wrong raw (WasReset cause) m refl
