use Rattle.std.proofs.Common.{◌∙◌, ap, sym, arith}
use Rattle.turn_cell.proofs.Joining.{is_joined}
use Rattle.turn_cell.proofs.turn.Turn.join.Goals as goal

pub overflow_add-pass : goal.overflow_add-pass
overflow_add-pass g c = let all = c.join_seats.ensures.holds.within in let seats = c.self.invariant.0 in let few = c.self.invariant.1 in let a = c.pass.invariant.2 in let b = c.other.invariant.2 in omega (arith, all, seats, few, a, b)

pub returns-then-pass-seen : goal.returns-then-pass-seen
returns-then-pass-seen g c =
    let joined = c.join_seats.ensures in
    is_joined c.pass.inside.seat.table_id c.other.inside.seat.table_id c.pass.inside.seat.me.0 c.other.inside.seat.me.0 c.args.self.now.seats c.self.inside.table.shared.key.seats c.join_seats.new.seat.table_id c.join_seats.new.seat.me.0 c.args.pass.now c.args.other
    c.pass.view_is c.other.view_is joined.table (ap (λ (x : _). x.0) joined.both) (sym c.self.invariant.0 ∙ ap (λ (t : _). t.seats) c.self.view_is) joined.holds

pub returns-else-pass-seen : goal.returns-else-pass-seen
returns-else-pass-seen g c =
    let joined = c.join_seats.ensures in
    is_joined c.pass.inside.seat.table_id c.other.inside.seat.table_id c.pass.inside.seat.me.0 c.other.inside.seat.me.0 c.args.self.now.seats c.self.inside.table.shared.key.seats c.join_seats.new.seat.table_id c.join_seats.new.seat.me.0 c.args.pass.now c.args.other
    c.pass.view_is c.other.view_is joined.table (ap (λ (x : _). x.0) joined.both) (sym c.self.invariant.0 ∙ ap (λ (t : _). t.seats) c.self.view_is) joined.holds
