use Rattle.std.proofs.Common.{arith, refl}
use mathlib.Core.Option.{none}
use Rattle.atomic_table.specs.Table.{step}
use Rattle.alert_board.specs.Word.{word_of}
use Rattle.alert_board.proofs.Moves.{publishes}
use Rattle.alert_board.proofs.steps.publish.Goals as goal

pub swap-requires : goal.swap-requires
swap-requires g c = (
  c.requires.table.0,
  c.requires.table.1,
  rw (c.requires.says.0, c.pack.ensures)
      (publishes _ _ c.args.place c.args.number c.args.flags c.args.seat.now.me (step c.args.table.now.table_id.slots c.args.place (word_of (record { number = c.args.number; flags = c.args.flags })) 0 none) refl c.requires.pen.0 c.requires.number c.requires.says.1
      (let places = c.requires.pen.1 in let there = c.requires.table.1 in omega (arith, places, there)) c.requires.kept),
)
