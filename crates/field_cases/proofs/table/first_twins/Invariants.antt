use Rattle.std.proofs.Common.{◌≡◌, ◌<◌, ℕ, false}
use Rattle.field_cases.specs.Table.{same_at}
use Rattle.field_cases.proofs.table.first_twins.Given as goal

abbrev pub invariant-loop-first : goal.invariant-loop-first
invariant-loop-first l = (i j : ℕ) → i < l.first → i < j → same_at l.rows i j ≡ false
