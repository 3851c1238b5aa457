use mathlib.Core.Option.{none}
use Rattle.std.proofs.Common.{rules}
use Rattle.atomic_table.specs.Table.{step}
use Rattle.turn_cell.proofs.TakeStep.{takes_turn}
use Rattle.turn_cell.proofs.steps.take_turn.Goals as goal

pub fetch_or-requires : goal.fetch_or-requires
fetch_or-requires g c = let start = c.args.table.now.key in let idle = c.requires.idle in (
  c.requires.table.same,
  search rules,
  rw (c.requires.told.0, c.requires.told.1) (takes_turn g.M.Machine.list g.M.Machine.fixed (g.M.Machine.fixed start.machine.value) start.seats _ _ c.args.seat.now.me (step c.args.table.now.table_id.slots 1 1 0 none) idle.1 idle.0 idle.2),
)
