-- A side whose link a message confirms.
-- A reader learns here that the manager stands then for what the step makes of the plain one, and that all fits in it.
use Rattle.std.proofs.Common.{◌≡◌, ◌∙◌, ◌==◌, ℕ, true, false, List, Some, refl, sym, ap, subst}
use Rattle.std.specs.Prelude.{slice_index_or}
use Rattle.smc_num.specs.declared.LinkId.{LinkId}
use Rattle.smc_num.specs.Links.{link_at}
use Rattle.llc_wire.specs.declared.LlcMessage.{LlcMessage}
use Rattle.pipe_model.specs.declared.flow.LinkView.{LinkView}
use Rattle.pipe_model.specs.declared.flow.FlowStep.{FlowStep}
use Rattle.pipe_model.specs.declared.flow.FlowStep.TheVariants.{Live}
use Rattle.pipe_model.specs.Ends.{Half}
use Rattle.pipe_model.specs.Flows.{flow_step}
use Rattle.conn_end.specs.Kept.{Kept}
use Rattle.clc_handshake.specs.Stages.{Hand}
use Rattle.side_core.specs.Records.{conn_at}
use Rattle.side_core.specs.Desk.{Desk, confirmed_by, IsPendingFor}
use Rattle.side_core.specs.Manager.{Manager, Works, Represents, no_hand, hand_at}
use Rattle.side_core.specs.Acting.{IsSoundAt, MayConfirm, MayRise, IsWaitingFor, step_at, confirms_link, rises_first, hands_after}
use Rattle.side_core.specs.Fit.{IsOneSlot, IsManager, IsFit}
use Rattle.side_core.proofs.Managers.LinkConfirms.{confirms_fit}
use Rattle.side_core.proofs.Managers.Linking.{heard_by, heard_works, confirmed_stands}
use Rattle.side_core.proofs.Managers.Managing.{rises_here}

-- what may be confirmed at a manager may be at the plain one
waiting_plain : (x : FlowStep) (v : Manager Kept) (m : Manager Half) → Represents v m → IsWaitingFor x v → IsWaitingFor x m
waiting_plain (Live reply true) v m stands waits =
    ap (λ (hs : List Hand). (slice_index_or hs m.desk.first no_hand).state) (sym stands.hands)
    ∙ ap (λ (d : Desk). (slice_index_or v.hands d.first no_hand).state) (sym stands.works.desk) ∙ waits
waiting_plain (Live reply false) v m stands waits = tt
waiting_plain x v m stands waits = _

may_plain : (message : LlcMessage) (view : LinkView) (link : LinkId) (v : Manager Kept) (m : Manager Half) → Represents v m → MayConfirm message view link v → MayConfirm message view link m
may_plain message view link v m stands may = record {
  kind = may.kind;
  slot = may.slot;
  group = subst (λ (d : Desk). (d.group == 0) ≡ false) stands.works.desk may.group;
  latest = subst (λ (d : Desk). link_at link.slot d.links.known ≡ Some link) stands.works.desk may.latest;
  pending = subst (λ (d : Desk). IsPendingFor (flow_step d.side d.flow message view link.slot true) link.slot d.links.known) stands.works.desk may.pending;
  waits = subst (λ (x : FlowStep). IsWaitingFor x m) (ap (λ (d : Desk). flow_step d.side d.flow message view link.slot true) stands.works.desk) (waiting_plain (step_at message view link v) v m stands may.waits);
}

-- the side works on with the link live
pub confirming_works : (message : LlcMessage) (view : LinkView) (link : LinkId) (v : Manager Kept) (d : Desk) (m : Manager Half) (step : FlowStep) → IsManager v → MayConfirm message view link v → step ≡ step_at message view link v → d ≡ confirmed_by step link.slot v.desk → Represents v m → Works d v.records (heard_by step link m)
confirming_works message view link v d m step i may is after stands =
    subst (λ (e : Desk). Works e v.records (heard_by step link m)) (sym after)
    (heard_works step link v.desk v.records m may.slot (subst (λ (e : Desk). IsOneSlot e.links.known) (sym i.stands.works.desk) i.fit.slot) may.latest
    (subst (λ (x : FlowStep). IsPendingFor x link.slot v.desk.links.known) (sym is) may.pending) stands.works)

first_same : (step : FlowStep) (slot : ℕ) (d : Desk) → (confirmed_by step slot d).first ≡ d.first
first_same (Live reply first) slot d = refl
first_same step slot d = refl

-- for every plain manager
pub confirmed_all : (message : LlcMessage) (view : LinkView) (link : LinkId) (v w : Manager Kept) (step : FlowStep) → IsManager v → MayConfirm message view link v → step ≡ step_at message view link v → w.desk ≡ confirmed_by step link.slot v.desk
    → ((m : Manager Half) → Works w.desk v.records m → Works w.desk w.records (rises_first step m)) → w.hands ≡ hands_after step w.desk.first v.hands → w.regions ≡ v.regions → (m : Manager Half) → Represents v m → Represents w (confirms_link step link m)
confirmed_all message view link v w step i may is after works hands regions m stands =
    confirmed_stands step link v w m stands (works (heard_by step link m) (confirming_works message view link v w.desk m step i may is after stands))
    (hands ∙ ap (λ n. hands_after step n v.hands) (ap (λ (d : Desk). d.first) after ∙ first_same step link.slot v.desk)) regions

pub confirmed_kept : (message : LlcMessage) (view : LinkView) (link : LinkId) (v w : Manager Kept) (step : FlowStep) → IsManager v → MayConfirm message view link v → step ≡ step_at message view link v → w.desk ≡ confirmed_by step link.slot v.desk
    → ((m : Manager Half) → Works w.desk v.records m → Works w.desk w.records (rises_first step m)) → w.hands ≡ hands_after step w.desk.first v.hands → w.regions ≡ v.regions → IsManager w
confirmed_kept message view link v w step i may is after works hands regions = record {
  plain = confirms_link step link i.plain;
  stands = confirmed_all message view link v w step i may is after works hands regions i.plain i.stands;
  fit = subst (λ (x : FlowStep). IsFit (confirms_link x link i.plain)) (sym (is ∙ ap (λ (d : Desk). flow_step d.side d.flow message view link.slot true) i.stands.works.desk)) (confirms_fit message view link i.plain i.fit (may_plain message view link v i.plain i.stands may));
}

-- the end in first contact may be established
rise_by : (x : FlowStep) (v : Manager Kept) (d : Desk) → IsManager v → d.first ≡ v.desk.first → IsWaitingFor x v → IsSoundAt v.records.terms.size (conn_at v.desk.first v.records) → MayRise x d v.records (hand_at d.first v)
rise_by (Live reply true) v d i same waits sound = subst (λ n. Rattle.side_core.specs.Acting.IsRising n v.records (hand_at n v)) (sym same) (rises_here v.desk.first v (hand_at v.desk.first v) i waits waits sound)
rise_by (Live reply false) v d i same waits sound = tt
rise_by x v d i same waits sound = _

pub may_rise : (message : LlcMessage) (view : LinkView) (link : LinkId) (v : Manager Kept) (d : Desk) (step : FlowStep) → IsManager v → MayConfirm message view link v → step ≡ step_at message view link v → d ≡ confirmed_by step link.slot v.desk → IsSoundAt v.records.terms.size (conn_at v.desk.first v.records) → MayRise step d v.records (hand_at d.first v)
may_rise message view link v d step i may is after sound =
    rise_by step v d i (ap (λ (e : Desk). e.first) after ∙ first_same step link.slot v.desk) (subst (λ (x : FlowStep). IsWaitingFor x v) (sym is) may.waits) sound
