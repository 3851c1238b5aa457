use Rattle.turn_cell.proofs.Ends.{is_last, not_empty}
use Rattle.turn_cell.proofs.steps.close_table.Goals as goal

pub unreachable-requires : goal.unreachable-requires
unreachable-requires g c =
    let start = c.args.table.shared.key in
    not_empty g.M.Machine.list g.M.Machine.fixed (g.M.Machine.fixed start.machine.value) start.seats _ c.args.seat.me.0 c.requires.idle c.requires.all _ _ c.take-slot.result c.take-slot.ensures.value c.close_with-closed.ensures.values.2 c.in-None.is

pub returns : goal.returns
returns g c =
    let start = c.args.table.shared.key in
    is_last g.M.Machine.list g.M.Machine.fixed (g.M.Machine.fixed start.machine.value) start.seats _ c.args.seat.me.0 c.requires.idle c.requires.all _ _ c.take-slot.result c.take-slot.ensures.value c.close_with-closed.ensures.values.2 c.in-Some.machine c.in-Some.is
