use Rattle.std.proofs.Common.{◌∙◌, sym, subst}
use Rattle.cdc_ring.specs.Kept.{Kept, Represents}
use Rattle.cdc_ring.proofs.Standing.{offset_kept, held_within, held_bytes}
use Rattle.cdc_ring.proofs.SendRing.bytes_at.Goals as goal

pub part-requires : goal.part-requires
part-requires c =
    let r = c.self.inside in
    let k : Kept = record { size = r.size; completed = r.completed; bytes = r.bytes.items; marks = r.marks.items; acked = r.acked; unread = r.unread } in
    let q = c.requires in
    let stands : Represents k q.ring = subst (λ v. Represents v q.ring) (sym c.self.view_is) q.stands in
    let offset = offset_kept k c.args.piece.place c.args.piece.len c.distance-from.result c.distance-from.ensures.ahead c.distance-from.ensures.round q.ring q.from stands q.spelled q.low q.high in
    held_within k c.args.piece.len c.distance-from.result q.ring q.from stands q.low q.high offset

pub returns : goal.returns
returns c = λ ring from stands spelled low high.
    let r = c.self.inside in
    let k : Kept = record { size = r.size; completed = r.completed; bytes = r.bytes.items; marks = r.marks.items; acked = r.acked; unread = r.unread } in
    let stands' : Represents k ring = subst (λ v. Represents v ring) (sym c.self.view_is) stands in
    let offset = offset_kept k c.args.piece.place c.args.piece.len c.distance-from.result c.distance-from.ensures.ahead c.distance-from.ensures.round ring from stands' spelled low high in
    c.part.ensures ∙ held_bytes k c.args.piece.len c.distance-from.result ring from stands' offset
