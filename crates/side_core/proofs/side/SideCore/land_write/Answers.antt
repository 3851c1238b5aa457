use Rattle.std.proofs.Common.{sym, subst, map, List}
use Rattle.conn_end.specs.Kept.{Kept}
use Rattle.side_core.specs.Fit.{IsManager}
use Rattle.side_core.specs.Manager.{Manager, hand_of}
use Rattle.rmb_region.specs.Regions.{Buffer}
use Rattle.std.proofs.Common.{◌++◌}
use Rattle.side_core.proofs.Sockets.{bytes_kept}
use Rattle.side_core.proofs.side.SideCore.land_write.Goals as goal

pub invariant_of-self : goal.invariant_of-self
invariant_of-self c =
    let x = c.self.inside in
    let v : Manager Kept = record { desk = x.desk; hands = map hand_of x.hands.items; records = x.connections; regions = x.regions.items } in
    subst (λ (buffers : List Buffer). IsManager (record v { regions = buffers })) (sym c.land_in.ensures) (bytes_kept c.in-Some.rmb c.args.address (c.args.front.now ++ c.args.back.now) v c.self.invariant)
