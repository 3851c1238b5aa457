use Rattle.std.proofs.Common.{◌≡◌, ◌≤◌, ◌*◌}
use Rattle.smcr_tests.proofs.turn_cell_tests.take_turns.Given as goal

abbrev pub invariant-loop-what : goal.invariant-loop-what
invariant-loop-what l = (l.one.turn ≡ l.turn.id) × (l.two.turn ≡ l.turn.id) × (l.made ≤ 2 * l.what)
