use Rattle.std.proofs.Common.{◌≡◌, true, subst, sym, rules}
use Rattle.pipe_model.specs.Ends.{Half}
use Rattle.conn_end.specs.Kept.{Kept, Represents}
use Rattle.conn_end.specs.Arrivals.{IsTakable, MayLand}
use Rattle.conn_end.proofs.Owners.{takable_spelled}
use Rattle.conn_end.proofs.tests.land.Goals as goal

pub take_cdc-requires : goal.take_cdc-requires
take_cdc-requires g c =
    let x = c.end.inside in
    let k : Kept = record { size = x.size; first = x.first; token = x.token; owes = x.owes_check; ring = x.ring; accepted = x.accepted; course = x.course } in
    let passed : c.may_take.result ≡ true = search rules in
    subst (λ (v : Kept). MayLand v c.spell-message.result c.args.s) c.end.view_is (takable_spelled k x.token c.spell-message.result c.args.s c.end.invariant c.spell-message.ensures
    (λ h. subst (λ (v : Kept). Represents v h → IsTakable v.size c.args.s h) (sym c.end.view_is) (λ stands. c.may_take.ensures h stands passed)))
