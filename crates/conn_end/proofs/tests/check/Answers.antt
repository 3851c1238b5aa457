use Rattle.std.proofs.Common.{subst}
use Rattle.conn_end.specs.Kept.{Kept}
use Rattle.conn_end.specs.Arrivals.{MayLand}
use Rattle.conn_end.proofs.Owners.{may_take_check}
use Rattle.conn_end.proofs.tests.check.Goals as goal

pub take_cdc-requires : goal.take_cdc-requires
take_cdc-requires c =
    let x = c.end.inside in
    let k : Kept = record { size = x.size; first = x.first; token = x.token; owes = x.owes_check; ring = x.ring; accepted = x.accepted; course = x.course } in
    subst (λ (v : Kept). MayLand v c.spell_check-message.result c.peer-s.result) c.end.view_is (may_take_check k x.token c.spell_check-message.result c.peer-s.result c.end.invariant c.spell_check-message.ensures)
