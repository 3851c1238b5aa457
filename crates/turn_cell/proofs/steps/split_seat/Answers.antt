use Rattle.std.proofs.Common.{rules}
use Rattle.turn_cell.proofs.SeatSteps.{splits}
use Rattle.turn_cell.proofs.steps.split_seat.Goals as goal

pub split_seat-requires : goal.split_seat-requires
split_seat-requires g c = let start = c.args.table.now.key in (
  c.requires.table.same,
  search rules,
  splits g.M.Machine.list g.M.Machine.fixed (g.M.Machine.fixed start.machine.value) start.seats _ c.args.seat.now.me.0 c.requires.idle c.requires.enough,
)
