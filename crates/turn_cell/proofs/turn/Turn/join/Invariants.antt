use Rattle.std.proofs.Common.{Some}
use Rattle.turn_cell.proofs.turn.Turn.join.Given as goal

-- what the table was told
abbrev pub ghosts-join_seats : goal.ghosts-join_seats
ghosts-join_seats g a = record { fixed = Some (g.M.Machine.fixed a.table.now.key.machine.value); seats = a.table.now.key.seats }
