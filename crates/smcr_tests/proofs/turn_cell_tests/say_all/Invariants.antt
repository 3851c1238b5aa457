use Rattle.std.proofs.Common.{◌≡◌}
use Rattle.smcr_tests.proofs.turn_cell_tests.say_all.Given as goal

abbrev pub invariant-loop-what : goal.invariant-loop-what
invariant-loop-what g l = l.pass.turn ≡ l.turn.id
