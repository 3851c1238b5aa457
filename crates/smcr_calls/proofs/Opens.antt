-- Where nothing lacks and nothing holds, a Proposal is answered by an Accept, and that by a Confirm.
use Rattle.std.proofs.Common.{◌≡◌, ◌∙◌, ap, refl}
use Rattle.std.specs.Prelude.{◌==◌, ◌&&◌, not, Bool, true, false, if◌then◌else◌}
use Rattle.clc_wire.specs.declared.proposal.Proposal.{Proposal}
use Rattle.clc_wire.specs.declared.offer.Offer.{Offer}
use Rattle.pipe_model.specs.declared.reply.Hold.TheVariants.{FirstContact, DeleteRkey, OldGroup}
use Rattle.pipe_model.specs.declared.reply.Lack.TheVariants.{NoSubnet, NoServerElement, NoClientElement, NoSlot, GroupLost}
use Rattle.pipe_model.specs.declared.verdict.Lacks.{Lacks}
use Rattle.pipe_model.specs.declared.verdict.ClcStep.{ClcStep}
use Rattle.pipe_model.specs.declared.verdict.ClcStep.TheVariants.{SendAccept, SendConfirm, Wait, Decline}
use Rattle.pipe_model.specs.Flows.{is_deleting}
use Rattle.pipe_model.specs.Handshake.{first_contact_step, key_step, on_proposal, on_accept, on_first_accept, on_later_accept}
use Rattle.smcr_calls.specs.Opens.{CanAccept, CanConfirm}

passed : (b : Bool) (x y : ClcStep) → b ≡ false → (if b then x else y) ≡ y
passed true x y e = cc
passed false x y e = refl

module _ (p : Proposal) (l : Lacks) (k : CanAccept p l) where
  by_group : (begins : Bool) → (l.group == 0) ≡ begins → (if begins then first_contact_step false l else if not l.rmb_ready then key_step l else SendAccept false) ≡ SendAccept begins
  by_group true e = passed (l.slots_up == 0) (Decline (NoSlot l.links)) (SendAccept true) (k.slot e)
  by_group false e = passed (not l.rmb_ready) (key_step l) (SendAccept false) (ap not (k.key e))

  pub accepts : on_proposal false p l ≡ SendAccept (l.group == 0)
  accepts =
      let last : ClcStep = if l.group == 0 then first_contact_step false l else if not l.rmb_ready then key_step l else SendAccept false in
      let at_elements : ClcStep = if l.free == 0 then Decline (NoServerElement l.elements) else last in
      let at_keys : ClcStep = if is_deleting l.key_flow then Wait DeleteRkey else at_elements in
      let at_contact : ClcStep = if l.first_contact then Wait FirstContact else at_keys in
      passed (not ((p.subnet == l.subnet.0) && (p.prefix == l.subnet.1))) (Decline NoSubnet) at_contact (ap not k.subnet)
      ∙ (passed l.first_contact (Wait FirstContact) at_keys k.contact
      ∙ (passed (is_deleting l.key_flow) (Wait DeleteRkey) at_elements k.deleting
      ∙ (passed (l.free == 0) (Decline (NoServerElement l.elements)) last k.element
      ∙ by_group (l.group == 0) refl)))

module _ (o : Offer) (l : Lacks) (k : CanConfirm o l) where
  by_first : (first : Bool) → o.first ≡ first → (if first then on_first_accept l else on_later_accept o l) ≡ SendConfirm first
  by_first true e = passed (not (l.group == 0)) (Wait OldGroup) (SendConfirm true) (ap not (k.fresh e))
  by_first false e =
      let last : ClcStep = if not l.rmb_ready then key_step l else SendConfirm false in
      let at_elements : ClcStep = if l.free == 0 then Decline (NoClientElement l.elements) else last in
      let at_keys : ClcStep = if is_deleting l.key_flow then Wait DeleteRkey else at_elements in
      passed (not (o.psn == l.group)) (Decline (GroupLost o.psn l.group)) at_keys (ap not (k.group e))
      ∙ (passed (is_deleting l.key_flow) (Wait DeleteRkey) at_elements (k.deleting e)
      ∙ (passed (l.free == 0) (Decline (NoClientElement l.elements)) last (k.element e)
      ∙ passed (not l.rmb_ready) (key_step l) (SendConfirm false) (ap not (k.key e))))

  pub confirms : on_accept o l ≡ SendConfirm o.first
  confirms = by_first o.first refl
