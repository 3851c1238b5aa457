-- What a verdict that asks for keys says of its side: no key flow and no link is under way, and the RMB of the lowest free element is not confirmed.
use Rattle.std.proofs.Common.{Bool, List, [], eq-eqb, false, if◌then◌else◌, length, not, refl, sym, true, true≢false, ℕ, ◌&&◌, ◌==◌, ◌∙◌, ◌∷◌, ◌≡◌}
use Rattle.pipe_model.specs.declared.reply.Hold.TheVariants.{AddLink as AddLinkHold, ConfirmRkey as ConfirmRkeyHold, DeleteRkey as DeleteRkeyHold, FirstContact as FirstContactHold}
use Rattle.pipe_model.specs.declared.reply.Lack.TheVariants.{Raw as RawLack}
use Rattle.pipe_model.specs.Handshake.{is_ready, verdict}
use Rattle.clc_wire.specs.declared.message.ClcMessage.TheVariants.{Accept as AcceptMessage, Confirm as ConfirmMessage, Decline as DeclineMessage, Proposal as ProposalMessage}
use Rattle.pipe_model.specs.Lending.{free_places}
use Rattle.std.specs.Prelude.{unwrap_or}
use Rattle.history_laws.specs.Words.{AskKey, ClcMessage, ClcStep, Decline, EndState, Entry, GroupLost, HasFallen, IsUp, Lacks, Lost, NoClientElement, NoEnd, NoServerElement, NoSlot, NoSubnet, Offer, OldGroup, Place, Proposal, Ready, SendAccept, SendConfirm, Setup, Side, Wait, WaitsAnswer, WaitsConfirm, WaitsLink, WaitsProposal, WasReset, end_state, first_contact_step, head, is_asked, is_deleting, is_raw, key_step, keys_of, lacks, next_free, on_accept, on_first_accept, on_later_accept, on_proposal}
use Rattle.history_laws.specs.Lists.{IsAmong}
use Rattle.link_laws.specs.Posted.{VerdictAsks}
use Rattle.link_laws.proofs.Keys.{any-of}
use Rattle.lending_laws.proofs.Lendings.{if-not}

-- what it says
pub record AskFacts (l : Lacks) : Type 0 where
  pub calm : is_asked l.key_flow ≡ false
  pub deleting : is_deleting l.key_flow ≡ false
  pub idle : l.adding ≡ false
  pub some : (l.free == 0) ≡ false
  pub unready : l.rmb_ready ≡ false

-- the last two rules
last-rules : (b : Bool) (l : Lacks) (s : ClcStep) → (s ≡ AskKey → ⊥) → (if not b then key_step l else s) ≡ AskKey → (b ≡ false) × ((is_asked l.key_flow ≡ false) × (l.adding ≡ false))
last-rules true l s n e = absurd (n e)
last-rules false l s n e =
    let a = if-not (is_asked l.key_flow) (Wait ConfirmRkeyHold) (if l.adding then Wait AddLinkHold else AskKey) AskKey (λ h. cc) e in
    let b = if-not l.adding (Wait AddLinkHold) AskKey AskKey (λ h. cc) a.1 in
    (refl, (a.0, b.0))

proposal-facts : (raw : Bool) (p : Proposal) (l : Lacks) → on_proposal raw p l ≡ AskKey → AskFacts l
proposal-facts raw p l e =
    let rest : ClcStep = if not l.rmb_ready then key_step l else SendAccept false in
    let grouped : ClcStep = if l.group == 0 then first_contact_step raw l else rest in
    let lacking : ClcStep = if l.free == 0 then Decline (NoServerElement l.elements) else grouped in
    let deleting : ClcStep = if is_deleting l.key_flow then Wait DeleteRkeyHold else lacking in
    let starting : ClcStep = if l.first_contact then Wait FirstContactHold else deleting in
    let a = if-not (not ((p.subnet == l.subnet.0) && (p.prefix == l.subnet.1))) (Decline NoSubnet) starting AskKey (λ h. cc) e in
    let b = if-not l.first_contact (Wait FirstContactHold) deleting AskKey (λ h. cc) a.1 in
    let c = if-not (is_deleting l.key_flow) (Wait DeleteRkeyHold) lacking AskKey (λ h. cc) b.1 in
    let d = if-not (l.free == 0) (Decline (NoServerElement l.elements)) grouped AskKey (λ h. cc) c.1 in
    let g = if-not (l.group == 0) (first_contact_step raw l) rest AskKey first d.1 in
    let h = last-rules l.rmb_ready l (SendAccept false) (λ h. cc) g.1 in
    record { calm = h.1.0; deleting = c.0; idle = h.1.1; some = d.0; unready = h.0 }
  where
    first : first_contact_step raw l ≡ AskKey → ⊥
    first e =
        let a = if-not raw (Decline RawLack) (if l.slots_up == 0 then Decline (NoSlot l.links) else SendAccept true) AskKey (λ h. cc) e in
        let b = if-not (l.slots_up == 0) (Decline (NoSlot l.links)) (SendAccept true) AskKey (λ h. cc) a.1 in (let w : SendAccept true ≡ AskKey = b.1 in cc)

accept-facts : (o : Offer) (l : Lacks) → on_accept o l ≡ AskKey → AskFacts l
accept-facts o l e = by o.first e
  where
    by : (b : Bool) → (if b then on_first_accept l else on_later_accept o l) ≡ AskKey → AskFacts l
    by true q = let a = if-not (not (l.group == 0)) (Wait OldGroup) (SendConfirm true) AskKey (λ w. cc) q in absurd (let w : SendConfirm true ≡ AskKey = a.1 in cc)
    by false q =
        let ready : ClcStep = if not l.rmb_ready then key_step l else SendConfirm false in
        let lacking : ClcStep = if l.free == 0 then Decline (NoClientElement l.elements) else ready in
        let deleting : ClcStep = if is_deleting l.key_flow then Wait DeleteRkeyHold else lacking in
        let a = if-not (not (o.psn == l.group)) (Decline (GroupLost o.psn l.group)) deleting AskKey (λ w. cc) q in
        let b = if-not (is_deleting l.key_flow) (Wait DeleteRkeyHold) lacking AskKey (λ w. cc) a.1 in
        let c = if-not (l.free == 0) (Decline (NoClientElement l.elements)) ready AskKey (λ w. cc) b.1 in
        let h = last-rules l.rmb_ready l (SendConfirm false) (λ h. cc) c.1 in
        record { calm = h.1.0; deleting = b.0; idle = h.1.1; some = c.0; unready = h.0 }

pub ask-facts : (raw : Bool) (state : EndState) (m : ClcMessage) (l : Lacks) → verdict raw state m l ≡ AskKey → AskFacts l
ask-facts raw WaitsProposal (ProposalMessage p) l e = proposal-facts raw p l e
ask-facts raw WaitsAnswer (AcceptMessage o) l e = accept-facts o l e
ask-facts raw WaitsProposal (AcceptMessage o) l e = cc
ask-facts raw WaitsProposal (ConfirmMessage o) l e = cc
ask-facts raw WaitsProposal (DeclineMessage r) l e = cc
ask-facts raw WaitsAnswer (ProposalMessage p) l e = cc
ask-facts raw WaitsAnswer (ConfirmMessage o) l e = cc
ask-facts raw WaitsAnswer (DeclineMessage r) l e = cc
ask-facts raw WaitsConfirm (ProposalMessage p) l e = cc
ask-facts raw WaitsConfirm (AcceptMessage o) l e = cc
ask-facts true WaitsConfirm (ConfirmMessage o) l e = cc
ask-facts false WaitsConfirm (ConfirmMessage o) l e = absurd (by (o.psn == l.group) e)
  where
    by : (b : Bool) → (if b then Ready else Lost) ≡ AskKey → ⊥
    by true e = cc
    by false e = cc
ask-facts raw WaitsConfirm (DeclineMessage r) l e = cc
ask-facts raw NoEnd m l e = cc
ask-facts raw WaitsLink m l e = cc
ask-facts raw IsUp m l e = cc
ask-facts raw HasFallen m l e = cc
ask-facts raw (WasReset cause) m l e = cc

-- of a verdict with an entry
pub asks-facts : (setup : Setup) (payload : List ℕ) (x : Side) (e : Entry) (past : List Entry) → VerdictAsks setup payload x e past → AskFacts (lacks setup payload x past)
asks-facts setup payload x e past va = ask-facts (is_raw va.s past) (end_state x va.s past) va.message (lacks setup payload x past) va.step_is

-- the lowest free element is of an RMB that is not confirmed
pub next-unconfirmed : (setup : Setup) (payload : List ℕ) (x : Side) (past : List Entry) → (length (free_places setup payload x past) == 0) ≡ false → is_ready (free_places setup payload x past) (keys_of x past).confirmed ≡ false → IsAmong (next_free setup payload x past).rmb (keys_of x past).confirmed → ⊥
next-unconfirmed setup payload x past some ready i = by (free_places setup payload x past) some ready i
  where
    by : (ps : List Place) → (length ps == 0) ≡ false → is_ready ps (keys_of x past).confirmed ≡ false → IsAmong (unwrap_or (head ps) (record { rmb = 0; index = 0 })).rmb (keys_of x past).confirmed → ⊥
    by [] some ready i = true≢false some
    by (p ∷ ps) some ready i = true≢false (sym (any-of (λ m. p.rmb == m) p.rmb (keys_of x past).confirmed i (eq-eqb p.rmb p.rmb refl)) ∙ ready)
