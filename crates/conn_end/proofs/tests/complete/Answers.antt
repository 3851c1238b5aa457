use Rattle.std.proofs.Common.{◌∙◌, subst, sym}
use Rattle.conn_end.specs.Kept.{Kept}
use Rattle.conn_end.specs.Arrivals.{MayComplete}
use Rattle.conn_end.proofs.Owners.{may_complete_oldest}
use Rattle.conn_end.proofs.tests.complete.Goals as goal

pub completed-requires : goal.completed-requires
completed-requires c =
    let x = c.end.inside in
    let k : Kept = record { size = x.size; first = x.first; token = x.token; owes = x.owes_check; ring = x.ring; accepted = x.accepted; course = x.course } in
    subst (λ (v : Kept). MayComplete v c.spell-message.result c.in-Some.s) c.end.view_is (may_complete_oldest k x.token c.spell-message.result c.in-Some.s c.end.invariant c.spell-message.ensures (sym c.oldest.ensures ∙ c.in-Some.is))
