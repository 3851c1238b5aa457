use Rattle.std.proofs.Common.{◌≡◌, ℕ, ◌+◌, ◌-◌, ◌*◌, length, min, sym, subst, arith, rules}
use Rattle.cdc_ring.specs.declared.Piece.{Piece}
use Rattle.cdc_ring.specs.Rings.{last_from, front_piece, back_piece}
use Rattle.cdc_ring.specs.Kept.{Kept, Represents}
use Rattle.smc_num.proofs.Rounds.{cursor_of-place}
use Rattle.cdc_ring.proofs.Rising.{last-below}
use Rattle.cdc_ring.proofs.Standing.{pieces_kept, cursor_inside}
use Rattle.cdc_ring.proofs.SendRing.pieces.Goals as goal

pub overflow_sub-unposted : goal.overflow_sub-unposted
overflow_sub-unposted c =
    let low : c.last_mark-posted.result ≡ last_from 0 c.self.inside.marks.items = search rules in
    let len : c.len.result ≡ length c.self.inside.bytes.items = search rules in
    omega (arith, low, len, last-below 0 c.self.inside.marks.items (length c.self.inside.bytes.items) c.self.invariant.1.marks)

pub forward-place-requires-clause-within : goal.forward-place-requires-clause-within
forward-place-requires-clause-within c =
    let low : c.last_mark-posted.result ≡ last_from 0 c.self.inside.marks.items = search rules in
    omega (arith, low, c.self.invariant.1.held, last-below 0 c.self.inside.marks.items (length c.self.inside.bytes.items) c.self.invariant.1.marks)

pub overflow_sub-size : goal.overflow_sub-size
overflow_sub-size c =
    let r = c.self.inside in
    let start = r.completed.wrap * r.size + r.completed.count in
    omega (arith, cursor_inside r.size c.forward-place.result (start + c.last_mark-posted.result) c.self.invariant.1.some (c.forward-place.ensures start (cursor_of-place r.size r.completed c.self.invariant.1.rounds c.self.invariant.1.inside)))

pub returns : goal.returns
returns c = λ ring stands.
    let r = c.self.inside in
    let k : Kept = record { size = r.size; completed = r.completed; bytes = r.bytes.items; marks = r.marks.items; acked = r.acked; unread = r.unread } in
    let low : c.last_mark-posted.result ≡ last_from 0 k.marks = search rules in
    let len : c.len.result ≡ length k.bytes = search rules in
    let front : c.min-front.result ≡ min (length k.bytes - c.last_mark-posted.result) (k.size - c.forward-place.result.count) = search rules in
    subst (λ (n : ℕ). ◌≡◌ {A = Piece × Piece} (record { place = c.forward-place.result.count; len = c.min-front.result }, record { place = 0; len = n - c.last_mark-posted.result - c.min-front.result }) (front_piece ring, back_piece ring)) (sym len)
    (pieces_kept k c.last_mark-posted.result c.min-front.result c.forward-place.result low c.forward-place.ensures front ring (subst (λ v. Represents v ring) (sym c.self.view_is) stands))
