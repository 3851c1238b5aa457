use Rattle.std.proofs.Common.{◌∙◌, ◌<◌, refl, sym, subst, ap, map, length, Some, List}
use Rattle.std.specs.Prelude.{slice_set}
use Rattle.conn_end.specs.Kept.{Kept}
use Rattle.clc_handshake.specs.Stages.{Hand, first_state}
use Rattle.smc_num.specs.declared.Side.{Side}
use Rattle.side_core.specs.Desk.{Desk}
use Rattle.side_core.specs.Fit.{IsManager, IsFit}
use Rattle.side_core.specs.Manager.{Manager, Represents, hand_of, state_at, with_hand}
use Rattle.side_core.proofs.Sockets.{opens_fit, handed, hand_kept}
use Rattle.side_core.proofs.Managers.{same_state}
use Rattle.side_core.proofs.side.SideCore.open.Goals as goal

pub invariant_of-self : goal.invariant_of-self
invariant_of-self c =
    let x = c.self.inside in
    let v : Manager Kept = record { desk = x.desk; hands = map hand_of x.hands.items; records = x.connections; regions = x.regions.items } in
    let i : IsManager v = c.self.invariant in
    hand_kept c.args.s c.new.result v x.hands.items refl i (subst (λ (h : Hand). IsFit (with_hand c.args.s h i.plain)) (sym (c.new.ensures ∙ ap (λ (y : Side). let h : Hand = record { raw = c.args.raw; state = first_state y } in h) (c.side-side.ensures ∙ ap (λ (d : Desk). d.side) (i.stands.works.desk))))
    (opens_fit c.args.s c.args.raw i.plain i.fit (subst (λ (hands : List Hand). c.args.s < length hands) (ap (λ (u : Manager Kept). u.hands) (sym c.self.view_is) ∙ i.stands.hands) c.requires.socket)
    (sym (same_state c.args.s v i.plain i.stands) ∙ ap (state_at c.args.s) c.self.view_is ∙ c.requires.none)))

pub returns-clause-side : goal.returns-clause-side
returns-clause-side c = λ m stands.
    let x = c.self.inside in
    let v : Manager Kept = record { desk = x.desk; hands = map hand_of x.hands.items; records = x.connections; regions = x.regions.items } in
    let here : Represents v m = subst (λ (u : Manager Kept). Represents u m) (sym c.self.view_is) stands in
    let new : Manager Kept = record v { hands = map hand_of (slice_set x.hands.items c.args.s (Some c.new.result)) } in
    subst (λ (h : Hand). Represents new (with_hand c.args.s h m)) (c.new.ensures ∙ ap (λ (y : Side). let h : Hand = record { raw = c.args.raw; state = first_state y } in h) (c.side-side.ensures ∙ ap (λ (d : Desk). d.side) (here.works.desk))) (handed c.args.s c.new.result v x.hands.items m refl here)
