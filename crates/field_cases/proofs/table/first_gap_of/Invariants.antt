use Rattle.std.proofs.Common.{◌≡◌, ◌<◌, ℕ, true}
use Rattle.field_cases.specs.Table.{has_row}
use Rattle.field_cases.proofs.table.first_gap_of.Given as goal

abbrev pub invariant-loop-message : goal.invariant-loop-message
invariant-loop-message l = (k : ℕ) → k < l.message → has_row l.rows l.state k ≡ true
