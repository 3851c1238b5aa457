use Rattle.std.proofs.Common.{◌≡◌, ◌%◌, ◌-◌, ◌≤◌, ap, subst, rules}
use Rattle.cdc_ring.specs.declared.Piece.{Piece}
use Rattle.pipe_model.specs.declared.snapshot.Snapshot.{Snapshot}
use Rattle.conn_end.specs.Kept.{Kept}
use Rattle.conn_end.specs.Batches.{IsKeptPiece}
use Rattle.conn_end.proofs.Owners.{keeps_first}
use Rattle.conn_end.proofs.tests.kept.Goals as goal

pub outgoing-requires : goal.outgoing-requires
outgoing-requires g c =
    let x = c.end.inside in
    let k : Kept = record { size = x.size; first = x.first; token = x.token; owes = x.owes_check; ring = x.ring; accepted = x.accepted; course = x.course } in
    let piece : Piece = record { place = c.fin-told.result.told % x.size; len = c.args.len } in
    let passed : c.args.len ≤ c.saturating_sub.result = search rules in
    subst (λ (v : Kept). IsKeptPiece v piece) c.end.view_is
    (keeps_first k piece c.end.invariant (ap (λ (s : Snapshot). s.told % x.size) c.fin-told.ensures)
    (subst (λ (s : Snapshot). c.args.len ≤ x.accepted - s.told) c.fin-told.ensures (subst (λ n. c.args.len ≤ n) c.saturating_sub.ensures passed)))
