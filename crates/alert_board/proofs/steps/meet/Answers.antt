use Rattle.std.proofs.Common.{ap, ◌∙◌}
use mathlib.Core.Option.{none}
use Rattle.atomic_table.specs.Table.{step}
use Rattle.alert_board.proofs.Moves.{meets, compares}
use Rattle.alert_board.proofs.steps.meet.Goals as goal

pub join_seat-requires : goal.join_seat-requires
join_seat-requires c = (c.requires.table.0, c.requires.table.1, c.requires.idle, c.requires.table.2, meets _ _ _ _)

pub load-requires : goal.load-requires
load-requires c = (c.join_seat.ensures.0 ∙ c.requires.table.0, c.requires.table.2, compares _ _ c.join_seat.new.seat.me (step c.args.table.now.table_id.slots 0 0 0 none) (ap (λ x. x.0.pen) c.join_seat.ensures.2 ∙ c.requires.pen))
