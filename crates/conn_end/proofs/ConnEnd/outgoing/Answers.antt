use Rattle.std.proofs.Common.{◌++◌, sym, subst}
use Rattle.conn_end.specs.Kept.{Kept}
use Rattle.conn_end.specs.Batches.{HoldsPiece, IsKeptPiece}
use Rattle.conn_end.proofs.Posting.{piece_held, piece_is}
use Rattle.conn_end.proofs.ConnEnd.outgoing.Goals as goal

pub bytes_at-requires : goal.bytes_at-requires
bytes_at-requires c =
    let x = c.self.inside in
    let k : Kept = record { size = x.size; first = x.first; token = x.token; owes = x.owes_check; ring = x.ring; accepted = x.accepted; course = x.course } in
    piece_held k c.args.piece (subst (λ (v : Kept). IsKeptPiece v c.args.piece) (sym c.self.view_is) c.requires)

pub returns : goal.returns
returns c = λ h first holds.
    let x = c.self.inside in
    let k : Kept = record { size = x.size; first = x.first; token = x.token; owes = x.owes_check; ring = x.ring; accepted = x.accepted; course = x.course } in
    piece_is k c.args.piece h first (c.bytes_at.result.0.now ++ c.bytes_at.result.1.now) (subst (λ (v : Kept). HoldsPiece v c.args.piece h first) (sym c.self.view_is) holds) c.bytes_at.ensures
