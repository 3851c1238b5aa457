use Rattle.std.proofs.Common.{◌∙◌, ◌<◌, refl, sym, subst, ap, map, length, Some, List}
use Rattle.std.specs.Prelude.{slice_set}
use Rattle.conn_end.specs.Kept.{Kept}
use Rattle.clc_handshake.specs.Stages.{Hand}
use Rattle.side_core.specs.Fit.{IsManager, IsFit}
use Rattle.side_core.specs.Manager.{Manager, Represents, hand_of, state_at, with_hand}
use Rattle.side_core.proofs.Sockets.{falls_fit, handed, hand_kept}
use Rattle.side_core.proofs.Managers.{same_state}
use Rattle.side_core.proofs.side.SideCore.fall_back.Goals as goal

pub invariant_of-self : goal.invariant_of-self
invariant_of-self c =
    let x = c.self.inside in
    let v : Manager Kept = record { desk = x.desk; hands = map hand_of x.hands.items; records = x.connections; regions = x.regions.items } in
    let i : IsManager v = c.self.invariant in
    hand_kept c.args.s c.fallen.result v x.hands.items refl i (subst (λ (h : Hand). IsFit (with_hand c.args.s h i.plain)) (sym c.fallen.ensures)
    (falls_fit c.args.s i.plain i.fit (subst (λ (hands : List Hand). c.args.s < length hands) (ap (λ (u : Manager Kept). u.hands) (sym c.self.view_is) ∙ i.stands.hands) c.requires.socket)
    (sym (same_state c.args.s v i.plain i.stands) ∙ ap (state_at c.args.s) c.self.view_is ∙ c.requires.none)))

pub returns : goal.returns
returns c = λ m stands.
    let x = c.self.inside in
    let v : Manager Kept = record { desk = x.desk; hands = map hand_of x.hands.items; records = x.connections; regions = x.regions.items } in
    let new : Manager Kept = record v { hands = map hand_of (slice_set x.hands.items c.args.s (Some c.fallen.result)) } in
    subst (λ (h : Hand). Represents new (with_hand c.args.s h m)) c.fallen.ensures (handed c.args.s c.fallen.result v x.hands.items m refl (subst (λ (u : Manager Kept). Represents u m) (sym c.self.view_is) stands))
