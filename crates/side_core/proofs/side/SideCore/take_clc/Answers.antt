use Rattle.std.proofs.Common.{◌≡◌, ◌∙◌, refl, sym, subst, ap, map, unwrap_or}
use Rattle.smc_num.specs.declared.LinkId.{LinkId}
use Rattle.smc_num.specs.Names.{no_link}
use Rattle.pipe_model.specs.declared.verdict.ClcStep.{ClcStep}
use Rattle.pipe_model.specs.declared.verdict.Lacks.{Lacks}
use Rattle.pipe_model.specs.Handshake.{verdict}
use Rattle.conn_end.specs.Kept.{Kept}
use Rattle.side_core.specs.Records.{conn_at}
use Rattle.side_core.specs.Acting.{IsSoundAt}
use Rattle.side_core.specs.Fit.{Allows, IsManager}
use Rattle.side_core.specs.Manager.{Manager, Represents, hand_of, hand_at, state_at}
use Rattle.side_core.specs.Taking.{MayTake, takes_message, verdict_at}
use Rattle.side_core.proofs.Managers.{judged, never_asks, same_verdict, taken_kept, taken_stands, working}
use Rattle.side_core.proofs.side.SideCore.take_clc.Goals as goal

pub carry_out-requires-clause-may : goal.carry_out-requires-clause-may
carry_out-requires-clause-may c =
    let x = c.self.inside in
    let v : Manager Kept = record { desk = x.desk; hands = map hand_of x.hands.items; records = x.connections; regions = x.regions.items } in
    let i : IsManager v = c.self.invariant in
    let step : ClcStep = c.judge-step.result in
    let is : step ≡ verdict_at c.args.s c.args.message.now c.args.paths.now v = c.judge-step.ensures.step ∙ ap (λ (l : Lacks). verdict (hand_at c.args.s v).raw (state_at c.args.s v) c.args.message.now l) c.lacks-lacks.ensures in
    let link : LinkId = unwrap_or c.args.link no_link in
    let may : MayTake c.args.s c.args.message.now link c.args.paths.now v = subst (λ (u : Manager Kept). MayTake c.args.s c.args.message.now link c.args.paths.now u) (sym c.self.view_is) c.requires.may in
    let sound : IsSoundAt v.records.terms.size (conn_at c.args.s v.records) = subst (λ (u : Manager Kept). IsSoundAt u.records.terms.size (conn_at c.args.s u.records)) (sym c.self.view_is) c.requires.sound in
    subst (λ (l : LinkId). Allows c.args.s step c.args.message.now l c.args.paths.now v.desk v.records) (sym c.unwrap_or-link.ensures) (judged c.args.s c.args.message.now link c.args.paths.now v step i may is sound)

pub invariant_of-self : goal.invariant_of-self
invariant_of-self c =
    let x = c.self.inside in
    let v : Manager Kept = record { desk = x.desk; hands = map hand_of x.hands.items; records = x.connections; regions = x.regions.items } in
    let w : Manager Kept = record { desk = c.carry_out.new.desk; hands = map hand_of c.judge-step.new.hands.items; records = c.carry_out.new.connections; regions = x.regions.items } in
    let i : IsManager v = c.self.invariant in
    let step : ClcStep = c.judge-step.result in
    let is : step ≡ verdict_at c.args.s c.args.message.now c.args.paths.now v = c.judge-step.ensures.step ∙ ap (λ (l : Lacks). verdict (hand_at c.args.s v).raw (state_at c.args.s v) c.args.message.now l) c.lacks-lacks.ensures in
    let link : LinkId = c.unwrap_or-link.result in
    let may : MayTake c.args.s c.args.message.now link c.args.paths.now v =
    subst (λ (l : LinkId). MayTake c.args.s c.args.message.now l c.args.paths.now v) (sym c.unwrap_or-link.ensures) (subst (λ (u : Manager Kept). MayTake c.args.s c.args.message.now (unwrap_or c.args.link no_link) c.args.paths.now u) (sym c.self.view_is) c.requires.may) in
    taken_kept c.args.s c.args.message.now link c.args.paths.now v w step i may is c.carry_out.ensures.works c.judge-step.ensures.hands refl

pub returns-clause-asks : goal.returns-clause-asks
returns-clause-asks c =
    let x = c.self.inside in
    let v : Manager Kept = record { desk = x.desk; hands = map hand_of x.hands.items; records = x.connections; regions = x.regions.items } in
    let i : IsManager v = c.self.invariant in
    let link : LinkId = unwrap_or c.args.link no_link in
    let may : MayTake c.args.s c.args.message.now link c.args.paths.now v = subst (λ (u : Manager Kept). MayTake c.args.s c.args.message.now link c.args.paths.now u) (sym c.self.view_is) c.requires.may in
    λ asks. never_asks c.args.s c.args.message.now link c.args.paths.now v i may (ap (λ (u : Manager Kept). verdict_at c.args.s c.args.message.now c.args.paths.now u) c.self.view_is ∙ asks)

pub returns-clause-side : goal.returns-clause-side
returns-clause-side c = λ m stands.
    let x = c.self.inside in
    let v : Manager Kept = record { desk = x.desk; hands = map hand_of x.hands.items; records = x.connections; regions = x.regions.items } in
    let w : Manager Kept = record { desk = c.carry_out.new.desk; hands = map hand_of c.judge-step.new.hands.items; records = c.carry_out.new.connections; regions = x.regions.items } in
    let step : ClcStep = c.judge-step.result in
    let is : step ≡ verdict_at c.args.s c.args.message.now c.args.paths.now v = c.judge-step.ensures.step ∙ ap (λ (l : Lacks). verdict (hand_at c.args.s v).raw (state_at c.args.s v) c.args.message.now l) c.lacks-lacks.ensures in
    let here : Represents v m = subst (λ (u : Manager Kept). Represents u m) (sym c.self.view_is) stands in
    subst (λ (l : LinkId). Represents w (takes_message c.args.s c.args.message.now l c.args.paths.now m)) c.unwrap_or-link.ensures
    (taken_stands c.args.s c.args.message.now c.unwrap_or-link.result c.args.paths.now v w m step here (is ∙ same_verdict c.args.s c.args.message.now c.args.paths.now v m here) (c.carry_out.ensures.works m here.works) c.judge-step.ensures.hands refl)

pub carry_out-requires-clause-working : goal.carry_out-requires-clause-working
carry_out-requires-clause-working c =
    let x = c.self.inside in
    let v : Manager Kept = record { desk = x.desk; hands = map hand_of x.hands.items; records = x.connections; regions = x.regions.items } in
    working v c.self.invariant
