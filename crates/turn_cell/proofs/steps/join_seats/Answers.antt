use Rattle.std.proofs.Common.{rules, ◌∙◌, ap}
use mathlib.Core.Option.{none}
use Rattle.atomic_table.specs.Table.{step}
use Rattle.turn_cell.proofs.SeatSteps.{joins, looks}
use Rattle.turn_cell.proofs.steps.join_seats.Goals as goal

pub join_seat-requires : goal.join_seat-requires
join_seat-requires g c = let start = c.args.table.now.key in (
  c.requires.table.0.same,
  c.requires.table.1.same,
  c.requires.idle_other.1,
  search rules,
  joins g.M.Machine.list g.M.Machine.fixed (g.M.Machine.fixed start.machine.value) start.seats _ c.args.seat.now.me.0 _ c.args.other.me.0 c.requires.idle.0 c.requires.idle_other.0 c.requires.idle.1,
)

pub load-requires : goal.load-requires
load-requires g c = let start = c.args.table.now.key in let joined = c.join_seat.ensures in (
  joined.0 ∙ c.requires.table.0.same,
  search rules,
  rw c.requires.told.1 (looks g.M.Machine.list g.M.Machine.fixed (g.M.Machine.fixed start.machine.value) start.seats _ _ c.join_seat.new.seat.me (step c.args.table.now.table_id.slots 0 0 0 none) (ap (λ (x : _). x.0.has_turn) joined.2 ∙ c.requires.idle.0)),
)
