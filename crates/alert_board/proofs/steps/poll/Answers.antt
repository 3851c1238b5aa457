use Rattle.std.proofs.Common.{refl}
use mathlib.Core.Option.{none}
use Rattle.atomic_table.specs.Table.{step}
use Rattle.alert_board.proofs.Moves.{polls}
use Rattle.alert_board.proofs.steps.poll.Goals as goal

pub load-found-requires : goal.load-found-requires
load-found-requires c = (c.requires.table.0, c.requires.table.1, polls _ _ c.args.place c.args.seat.now.me (step c.args.table.now.table_id.slots c.args.place 0 0 none) refl c.requires.look)
