use Rattle.std.proofs.Common.{Some}
use Rattle.turn_cell.proofs.turn.Turn.try_call.Given as goal

-- what the table was told
abbrev pub ghosts-take_turn : goal.ghosts-take_turn
ghosts-take_turn g a = record { fixed = Some (g.M.Machine.fixed a.table.now.key.machine.value); seats = a.table.now.key.seats }
