use Rattle.std.proofs.Common.{◌≡◌}
use Rattle.smcr_tests.proofs.alert_board_tests.poll_often.Given as goal

abbrev pub invariant-loop : goal.invariant-loop
invariant-loop l = l.look.board ≡ l.board
