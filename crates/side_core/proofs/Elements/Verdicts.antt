-- What a verdict tells of the side that comes to it.
-- A reader learns here in which state an end is at each step of the handshake, and which facts of the side led to it.
use Rattle.std.proofs.Common.{◌≡◌, ◌==◌, ◌&&◌, not, Bool, true, false, if◌then◌else◌, refl, sym, true≢false}
use Rattle.std.proofs.lemmas.Bool.{eqb-true}
use Rattle.clc_wire.specs.declared.proposal.Proposal.{Proposal}
use Rattle.clc_wire.specs.declared.offer.Offer.{Offer}
use Rattle.clc_wire.specs.declared.message.ClcMessage.{ClcMessage}
use Rattle.clc_wire.specs.declared.message.ClcMessage.TheVariants.{Proposal as ProposalMessage, Accept as AcceptMessage, Confirm as ConfirmMessage, Decline as DeclineMessage}
use Rattle.pipe_model.specs.declared.reply.Hold.TheVariants.{AddLink as AddLinkHold, ConfirmRkey as ConfirmRkeyHold}
use Rattle.pipe_model.specs.declared.verdict.Lacks.{Lacks}
use Rattle.pipe_model.specs.declared.verdict.ClcStep.{ClcStep}
use Rattle.pipe_model.specs.declared.verdict.ClcStep.TheVariants.{SendAccept, SendConfirm, AskKey, Wait, Decline, Fell, Ready, Lost, Wrong}
use Rattle.pipe_model.specs.Flows.{is_asked, is_deleting}
use Rattle.pipe_model.specs.Connections.{EndState, WaitsProposal, WaitsAnswer, WaitsConfirm}
use Rattle.pipe_model.specs.Handshake.{verdict, on_proposal, on_accept, key_step}

-- the facts of a first contact that begins with an Accept
pub record BeginsAtServer (stage : EndState) (l : Lacks) : Type 0 where
  pub state : stage ≡ WaitsProposal
  pub group : l.group ≡ 0
  pub free : (l.free == 0) ≡ false

-- those of a later contact that is offered
pub record OffersLater (stage : EndState) (l : Lacks) : Type 0 where
  pub state : stage ≡ WaitsProposal
  pub group : (l.group == 0) ≡ false
  pub free : (l.free == 0) ≡ false
  pub first : l.first_contact ≡ false

-- those of a first contact that the client confirms
pub record BeginsAtClient (o : Offer) (stage : EndState) (l : Lacks) : Type 0 where
  pub state : stage ≡ WaitsAnswer
  pub group : l.group ≡ 0
  pub first : o.first ≡ true

-- those of a later contact that it confirms
pub record ConfirmsLater (o : Offer) (stage : EndState) (l : Lacks) : Type 0 where
  pub state : stage ≡ WaitsAnswer
  pub group : o.psn ≡ l.group
  pub free : (l.free == 0) ≡ false

-- that a key is missing at the server, and at the client
abbrev pub LacksKey : Lacks → Type 0
LacksKey l = ((l.free == 0) ≡ false) × (l.rmb_ready ≡ false)

-- what a step tells of the state of the end and of the facts of its side
abbrev pub Tells : ClcStep → EndState → ClcMessage → Lacks → Type 0
Tells (SendAccept true) state (ProposalMessage p) l = BeginsAtServer state l
Tells (SendAccept false) state (ProposalMessage p) l = OffersLater state l
Tells (SendConfirm true) state (AcceptMessage o) l = BeginsAtClient o state l
Tells (SendConfirm false) state (AcceptMessage o) l = ConfirmsLater o state l
Tells AskKey state (ProposalMessage p) l = LacksKey l × ((l.group == 0) ≡ false)
Tells AskKey state (AcceptMessage o) l = LacksKey l × (o.psn ≡ l.group)
Tells Ready state (ConfirmMessage o) l = state ≡ WaitsConfirm
Tells (Wait hold) state message l = Unit {0}
Tells (Decline lack) state message l = Unit {0}
Tells Fell state message l = Unit {0}
Tells Lost state message l = Unit {0}
Tells (Wrong kind) state message l = Unit {0}
Tells _ state message l = ⊥

-- what holds of either, holds of what a condition chooses
pub by_if : {X : Type 0} (P : X → Type 0) (b : Bool) (x y : X) → (b ≡ true → P x) → (b ≡ false → P y) → P (if b then x else y)
by_if P true x y f g = f refl
by_if P false x y f g = g refl

pub not_true : (b : Bool) → not b ≡ true → b ≡ false
not_true true e = absurd (true≢false (sym e))
not_true false e = refl

pub not_false : (b : Bool) → not b ≡ false → b ≡ true
not_false true e = refl
not_false false e = absurd (true≢false e)

told_key : (P : ClcStep → Type 0) (l : Lacks) → P (Wait ConfirmRkeyHold) → P (Wait AddLinkHold) → P AskKey → P (key_step l)
told_key P l a b c = by_if P (is_asked l.key_flow) _ _ (λ _. a) (λ _. by_if P l.adding _ _ (λ _. b) (λ _. c))

told_proposal : (raw : Bool) (p : Proposal) (l : Lacks) → Tells (on_proposal raw p l) WaitsProposal (ProposalMessage p) l
told_proposal raw p l =
    by_if (λ step. Tells step WaitsProposal (ProposalMessage p) l) (not ((p.subnet == l.subnet.0) && (p.prefix == l.subnet.1))) _ _ (λ _. tt) (λ _.
    by_if (λ step. Tells step WaitsProposal (ProposalMessage p) l) l.first_contact _ _ (λ _. tt) (λ later.
    by_if (λ step. Tells step WaitsProposal (ProposalMessage p) l) (is_deleting l.key_flow) _ _ (λ _. tt) (λ _.
    by_if (λ step. Tells step WaitsProposal (ProposalMessage p) l) (l.free == 0) _ _ (λ _. tt) (λ free.
    by_if (λ step. Tells step WaitsProposal (ProposalMessage p) l) (l.group == 0) _ _
    (λ none. by_if (λ step. Tells step WaitsProposal (ProposalMessage p) l) raw _ _ (λ _. tt) (λ _.
    by_if (λ step. Tells step WaitsProposal (ProposalMessage p) l) (l.slots_up == 0) _ _ (λ _. tt) (λ _.
    record { state = refl; group = eqb-true l.group 0 none; free = free })))
    (λ some. by_if (λ step. Tells step WaitsProposal (ProposalMessage p) l) (not l.rmb_ready) _ _
    (λ lacking. told_key (λ step. Tells step WaitsProposal (ProposalMessage p) l) l tt tt ((free, not_true l.rmb_ready lacking), some))
    (λ _. record { state = refl; group = some; free = free; first = later }))))))

told_accept : (o : Offer) (l : Lacks) → Tells (on_accept o l) WaitsAnswer (AcceptMessage o) l
told_accept o l =
    by_if (λ step. Tells step WaitsAnswer (AcceptMessage o) l) o.first _ _
    (λ first. by_if (λ step. Tells step WaitsAnswer (AcceptMessage o) l) (not (l.group == 0)) _ _ (λ _. tt) (λ none.
    record { state = refl; group = eqb-true l.group 0 (not_false (l.group == 0) none); first = first }))
    (λ later. by_if (λ step. Tells step WaitsAnswer (AcceptMessage o) l) (not (o.psn == l.group)) _ _ (λ _. tt) (λ same.
    by_if (λ step. Tells step WaitsAnswer (AcceptMessage o) l) (is_deleting l.key_flow) _ _ (λ _. tt) (λ _.
    by_if (λ step. Tells step WaitsAnswer (AcceptMessage o) l) (l.free == 0) _ _ (λ _. tt) (λ free.
    by_if (λ step. Tells step WaitsAnswer (AcceptMessage o) l) (not l.rmb_ready) _ _
    (λ lacking. told_key (λ step. Tells step WaitsAnswer (AcceptMessage o) l) l tt tt ((free, not_true l.rmb_ready lacking), eqb-true o.psn l.group (not_false (o.psn == l.group) same)))
    (λ _. record { state = refl; group = eqb-true o.psn l.group (not_false (o.psn == l.group) same); free = free })))))

told_confirm : (raw : Bool) (o : Offer) (l : Lacks) → Tells (verdict raw WaitsConfirm (ConfirmMessage o) l) WaitsConfirm (ConfirmMessage o) l
told_confirm true o l = tt
told_confirm false o l = by_if (λ step. Tells step WaitsConfirm (ConfirmMessage o) l) (o.psn == l.group) _ _ (λ _. refl) (λ _. tt)

-- what the verdict on a message tells
pub told : (raw : Bool) (state : EndState) (message : ClcMessage) (l : Lacks) → Tells (verdict raw state message l) state message l
told raw WaitsProposal (ProposalMessage p) l = told_proposal raw p l
told raw WaitsAnswer (AcceptMessage o) l = told_accept o l
told raw WaitsAnswer (DeclineMessage r) l = tt
told raw WaitsConfirm (DeclineMessage r) l = tt
told raw WaitsConfirm (ConfirmMessage o) l = told_confirm raw o l
told raw state m l = tt
