use Rattle.std.proofs.Common.{◌≡◌, length}
use Rattle.alert_board.specs.Alerts.{Keeps, last_of, log_at, no_alert}
use Rattle.smcr_tests.proofs.wait_set_tests.publish_often.Given as goal

-- both places have the counter's number, and flags that any others may follow
abbrev pub invariant-loop : goal.invariant-loop
invariant-loop l = (l.pen.board ≡ l.board) × (length (log_at l.pen.logs 0) ≡ l.counter) × (length (log_at l.pen.logs 1) ≡ l.counter)
    × Keeps (last_of (log_at l.pen.logs 0)).flags no_alert × Keeps (last_of (log_at l.pen.logs 1)).flags no_alert
