use Rattle.std.proofs.Common.{◌≡◌, ◌<◌, ℕ, true}
use Rattle.field_cases.specs.Table.{has_row}
use Rattle.field_cases.proofs.table.first_gap.Given as goal

abbrev pub invariant-loop-state : goal.invariant-loop-state
invariant-loop-state l = (a b : ℕ) → a < l.state → b < l.messages → has_row l.rows a b ≡ true
