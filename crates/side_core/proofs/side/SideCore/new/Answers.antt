use Rattle.std.proofs.Common.{◌∙◌, ℕ, ap, map}
use Rattle.conn_end.specs.Kept.{Kept}
use Rattle.pipe_model.specs.Words.{elements_of}
use Rattle.side_core.specs.Desk.{Desk}
use Rattle.side_core.specs.Manager.{Manager, hand_of}
use Rattle.side_core.proofs.Managers.{AreNew, newly, newly_kept, newly_stands}
use Rattle.side_core.proofs.side.SideCore.new.Goals as goal

pub invariant_of-result : goal.invariant_of-result
invariant_of-result c =
    let setup = c.args.setup.now in
    let v : Manager Kept = record { desk = c.in_ok-desk.desk; hands = map hand_of c.in_ok-hands.hands.items; records = c.in_ok-connections.connections; regions = c.in_ok-regions.regions.items } in
    let size : ℕ = c.size_of_code-size.result in
    let elements : ℕ = c.elements-elements.result in
    let new : AreNew c.args.side setup v.desk v.hands v.regions size elements = record {
      set = c.requires;
      desk_is = c.in_ok-desk.ensures;
      hands_are = c.in_ok-hands.ensures;
      regions_are = c.in_ok-regions.ensures;
      size_is = c.size_of_code-size.ensures;
      elements_are = c.elements-elements.ensures ∙ ap (λ (d : Desk). elements_of d.setup d.side) c.in_ok-desk.ensures;
    } in
    newly_kept c.args.side setup v size elements new c.in_ok-connections.ensures.plain

pub returns-clause-kept : goal.returns-clause-kept
returns-clause-kept c =
    let setup = c.args.setup.now in
    let v : Manager Kept = record { desk = c.in_ok-desk.desk; hands = map hand_of c.in_ok-hands.hands.items; records = c.in_ok-connections.connections; regions = c.in_ok-regions.regions.items } in
    let size : ℕ = c.size_of_code-size.result in
    let elements : ℕ = c.elements-elements.result in
    let new : AreNew c.args.side setup v.desk v.hands v.regions size elements = record {
      set = c.requires;
      desk_is = c.in_ok-desk.ensures;
      hands_are = c.in_ok-hands.ensures;
      regions_are = c.in_ok-regions.ensures;
      size_is = c.size_of_code-size.ensures;
      elements_are = c.elements-elements.ensures ∙ ap (λ (d : Desk). elements_of d.setup d.side) c.in_ok-desk.ensures;
    } in
    newly c.args.side setup v.desk v.hands v.records v.regions size elements new c.in_ok-connections.ensures.none

pub returns-clause-stands : goal.returns-clause-stands
returns-clause-stands c =
    let setup = c.args.setup.now in
    let v : Manager Kept = record { desk = c.in_ok-desk.desk; hands = map hand_of c.in_ok-hands.hands.items; records = c.in_ok-connections.connections; regions = c.in_ok-regions.regions.items } in
    let size : ℕ = c.size_of_code-size.result in
    let elements : ℕ = c.elements-elements.result in
    let new : AreNew c.args.side setup v.desk v.hands v.regions size elements = record {
      set = c.requires;
      desk_is = c.in_ok-desk.ensures;
      hands_are = c.in_ok-hands.ensures;
      regions_are = c.in_ok-regions.ensures;
      size_is = c.size_of_code-size.ensures;
      elements_are = c.elements-elements.ensures ∙ ap (λ (d : Desk). elements_of d.setup d.side) c.in_ok-desk.ensures;
    } in
    newly_stands c.args.side setup v size elements new c.in_ok-connections.ensures.plain
