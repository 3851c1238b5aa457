-- What the handshake's rules say in a world of one link.
use Rattle.pipe_model.specs.declared.reply.Hold.{Hold}
use Rattle.std.proofs.Common.{◌≡◌, ap, refl, subst, sym, ◌∙◌}
use Rattle.pipe_model.specs.declared.verdict.ClcStep.TheVariants.{SendAccept, SendConfirm, Wait, Decline, Ready, Lost}
use Rattle.pipe_model.specs.declared.reply.Hold.TheVariants.{FirstContact as FirstContactHold, DeleteRkey as DeleteRkeyHold, OldGroup}
use Rattle.pipe_model.specs.declared.reply.Lack.TheVariants.{NoSubnet, NoServerElement, NoClientElement, NoSlot, GroupLost}
use Rattle.smc_num.specs.Places.{Place}
use Rattle.world_core.proofs.Offers.{IsFree, slots-up, has-free}
use Rattle.pipe_model.specs.declared.verdict.Lacks.{Lacks}
use Rattle.smc_num.specs.declared.Side.{Side}
use Rattle.pipe_model.specs.Keys.{Keys, keys_of}
use Rattle.pipe_model.specs.declared.reply.Lack.{Lack}
use Rattle.pipe_model.specs.declared.entry.Entry.{Entry}
use Rattle.clc_wire.specs.declared.offer.Offer.{Offer}
use Rattle.clc_wire.specs.declared.proposal.Proposal.{Proposal}
use Rattle.pipe_model.specs.declared.verdict.ClcStep.{ClcStep}
use Rattle.smc_num.specs.Names.{has}
use Rattle.pipe_model.specs.Fabric.{Fabric}
use Rattle.pipe_model.specs.declared.setup.Setup.{Setup}
use Rattle.smc_num.specs.declared.Side.TheVariants.{A, B}
use Rattle.world_core.specs.Played.{IsOneLink}
use Rattle.pipe_model.specs.Flows.{is_deleting, is_first_contact, lost}
use Rattle.pipe_model.specs.Words.{passes}
use Rattle.world_core.specs.OneLink.{Asking, Begun, IsAtStage, LiveAtA, LiveAtBoth, Made, NoLink, Stage, fabric_at, keys_at}
use Rattle.pipe_model.specs.Lending.{free_places}
use Rattle.pipe_model.specs.Handshake.{key_step, lacks, on_accept, on_confirm, on_first_accept, on_later_accept, on_proposal}
use Rattle.std.specs.Prelude.{Bool, List, [], false, if◌then◌else◌, length, not, true, ℕ, ◌&&◌, ◌==◌, ◌∷◌}

-- what B makes of a Proposal, where `none` says that no element is free
pub data OnProposal (stage : Stage) (none : Bool) (step : ClcStep) : Type 0 where
  refuses : (lack : Lack) → step ≡ Decline lack → OnProposal stage none step
  holds : (hold : Hold) → step ≡ Wait hold → OnProposal stage none step
  begins : stage ≡ NoLink → none ≡ false → step ≡ SendAccept true → OnProposal stage none step
  joins : (t : ℕ) → stage ≡ LiveAtBoth t → none ≡ false → step ≡ SendAccept false → OnProposal stage none step

-- what A makes of an Accept of later contact
pub data OnAccept (none : Bool) (step : ClcStep) : Type 0 where
  refuses : (lack : Lack) → step ≡ Decline lack → OnAccept none step
  joins : none ≡ false → step ≡ SendConfirm false → OnAccept none step

abbrev pub rows : Lacks → Bool → Bool → Bool → Bool → Bool → Bool → Bool → ClcStep
rows l far contact deleting none free no_slot unready =
    if far then Decline NoSubnet else
    if contact then Wait FirstContactHold else
    if deleting then Wait DeleteRkeyHold else
    if none then Decline (NoServerElement l.elements) else
    if free then (if no_slot then Decline (NoSlot l.links) else SendAccept true) else
    if unready then key_step l else SendAccept false

by-rows : (l : Lacks) (stage : Stage) (far contact deleting none free no_slot unready : Bool)
    → contact ≡ is_first_contact (fabric_at stage).b.flow.link → deleting ≡ false → free ≡ ((fabric_at stage).b.group == 0) → no_slot ≡ false
    → (none ≡ false → free ≡ false → unready ≡ false) → OnProposal stage none (rows l far contact deleting none free no_slot unready)
by-rows l stage true contact deleting none free no_slot unready c d f n r = refuses NoSubnet refl
by-rows l stage false true deleting none free no_slot unready c d f n r = holds FirstContactHold refl
by-rows l stage false false true none free no_slot unready c d f n r = cc
by-rows l stage false false false true free no_slot unready c d f n r = refuses (NoServerElement l.elements) refl
by-rows l stage false false false false true true unready c d f n r = cc
by-rows l NoLink false false false false true false unready c d f n r = begins refl refl refl
by-rows l NoLink false false false false false no_slot unready c d f n r = cc
by-rows l (LiveAtBoth t) false false false false true no_slot unready c d f n r = cc
by-rows l (LiveAtBoth t) false false false false false no_slot true c d f n r = let e : true ≡ false = r refl refl in cc
by-rows l (LiveAtBoth t) false false false false false no_slot false c d f n r = joins t refl refl refl
by-rows l (Begun t) false false false false free no_slot unready c d f n r = cc
by-rows l (Made t) false false false false free no_slot unready c d f n r = cc
by-rows l (Asking t qp) false false false false free no_slot unready c d f n r = cc
by-rows l (LiveAtA t qp) false false false false free no_slot unready c d f n r = cc

-- a key is confirmed where there is one
ready : (setup : Setup) (payload : List ℕ) (x : Side) (past : List Entry) (p : Place) → IsFree setup payload x past p → (keys_of x past).confirmed ≡ 1 ∷ [] → (lacks setup payload x past).rmb_ready ≡ true
ready setup payload x past p f e =
    ap (λ o. passes (λ p. has p.rmb (keys_of x past).confirmed) o) f.found
    ∙ (ap (λ ks. has p.rmb ks) e ∙ ap (λ n. has n (1 ∷ [])) f.rmb)

confirmed-b : (stage : Stage) → ((fabric_at stage).b.group == 0) ≡ false → (keys_at B stage).confirmed ≡ 1 ∷ []
confirmed-b NoLink e = cc
confirmed-b (Begun s) e = refl
confirmed-b (Made s) e = refl
confirmed-b (Asking s qp) e = refl
confirmed-b (LiveAtA s qp) e = refl
confirmed-b (LiveAtBoth s) e = refl

not-deleting : (stage : Stage) → is_deleting (fabric_at stage).b.flow.key ≡ false
not-deleting NoLink = refl
not-deleting (Begun s) = refl
not-deleting (Made s) = refl
not-deleting (Asking s qp) = refl
not-deleting (LiveAtA s qp) = refl
not-deleting (LiveAtBoth s) = refl

module _ (setup : Setup) (one : IsOneLink setup) (payload : List ℕ) (past : List Entry) (stage : Stage) (at : IsAtStage setup stage past) where
  pub on-proposal : (p : Proposal) → OnProposal stage (length (free_places setup payload B past) == 0) (on_proposal false p (lacks setup payload B past))
  on-proposal p =
      let l : Lacks = lacks setup payload B past in
      by-rows l stage (not ((p.subnet == l.subnet.0) && (p.prefix == l.subnet.1))) l.first_contact (is_deleting l.key_flow) (l.free == 0) (l.group == 0) (l.slots_up == 0) (not l.rmb_ready)
      (ap (λ (f : Fabric). is_first_contact f.b.flow.link) at.fabric_is)
      (ap (λ (f : Fabric). is_deleting f.b.flow.key) at.fabric_is ∙ not-deleting stage)
      (ap (λ (f : Fabric). f.b.group == 0) at.fabric_is)
      (ap (λ (slots : List ℕ). length slots == 0) (slots-up setup stage past one.links at))
      (λ none free.
      let f = has-free setup payload B past one.rmbs_b none in
      let group : ((fabric_at stage).b.group == 0) ≡ false = sym (ap (λ (g : Fabric). g.b.group == 0) at.fabric_is) ∙ free in
      ap (λ b. not b) (ready setup payload B past f.0 f.1 (ap (λ (ks : Keys). ks.confirmed) (at.keys B) ∙ confirmed-b stage group)))

-- A takes an Accept of first contact
pub on-first : (setup : Setup) (payload : List ℕ) (past : List Entry) (t : ℕ) (o : Offer) → IsAtStage setup (Begun t) past → o.first ≡ true → on_accept o (lacks setup payload A past) ≡ SendConfirm true
on-first setup payload past t o at first =
    ap (λ b. if b then on_first_accept (lacks setup payload A past) else on_later_accept o (lacks setup payload A past)) first
    ∙ ap (λ (f : Fabric). if not (f.a.group == 0) then Wait OldGroup else SendConfirm true) at.fabric_is

-- A takes an Accept of later contact
abbrev pub later-rows : Offer → Lacks → Bool → Bool → Bool → Bool → ClcStep
later-rows o l lost deleting none unready =
    if lost then Decline (GroupLost o.psn l.group) else
    if deleting then Wait DeleteRkeyHold else
    if none then Decline (NoClientElement l.elements) else
    if unready then key_step l else SendConfirm false

by-later : (o : Offer) (l : Lacks) (lost deleting none unready : Bool) → lost ≡ false → deleting ≡ false → (none ≡ false → unready ≡ false) → OnAccept none (later-rows o l lost deleting none unready)
by-later o l true deleting none unready a b r = cc
by-later o l false true none unready a b r = cc
by-later o l false false true unready a b r = refuses (NoClientElement l.elements) refl
by-later o l false false false true a b r = let e : true ≡ false = r refl in cc
by-later o l false false false false a b r = joins refl refl

pub on-later : (setup : Setup) (one : IsOneLink setup) (payload : List ℕ) (past : List Entry) (t : ℕ) (o : Offer) → IsAtStage setup (LiveAtBoth t) past → o.first ≡ false → o.psn ≡ 1
    → OnAccept (length (free_places setup payload A past) == 0) (on_accept o (lacks setup payload A past))
on-later setup one payload past t o at first psn =
    let l : Lacks = lacks setup payload A past in
    subst (λ (b : Bool). OnAccept (l.free == 0) (if b then on_first_accept l else on_later_accept o l)) (sym first)
    (by-later o l (not (o.psn == l.group)) (is_deleting l.key_flow) (l.free == 0) (not l.rmb_ready)
    (ap (λ n. not (n == l.group)) psn ∙ ap (λ (f : Fabric). not (1 == f.a.group)) at.fabric_is)
    (ap (λ (f : Fabric). is_deleting f.a.flow.key) at.fabric_is)
    (λ none. let f = has-free setup payload A past one.rmbs_a none in ap (λ b. not b) (ready setup payload A past f.0 f.1 (ap (λ (ks : Keys). ks.confirmed) (at.keys A)))))

-- B takes a Confirm
pub on-confirm : (setup : Setup) (payload : List ℕ) (past : List Entry) (stage : Stage) (o : Offer) → IsAtStage setup stage past → (fabric_at stage).b.group ≡ 1 → o.psn ≡ 1 → on_confirm o (lacks setup payload B past) ≡ Ready
on-confirm setup payload past stage o at group psn =
    ap (λ n. if n == (lacks setup payload B past).group then Ready else Lost) psn
    ∙ (ap (λ (f : Fabric). if 1 == f.b.group then Ready else Lost) at.fabric_is ∙ ap (λ n. if 1 == n then Ready else Lost) group)
