use Rattle.std.proofs.Common.{◌≡◌, ◌<◌, ℕ, false, Some}
use Rattle.std.specs.Prelude.{slice_get}
use Rattle.field_cases.specs.Table.{same_at}
use Rattle.field_cases.proofs.table.next_twin.Given as goal

abbrev pub invariant-loop-second : goal.invariant-loop-second
invariant-loop-second l = (slice_get l.rows l.first ≡ Some l.row) × ((k : ℕ) → l.first < k → k < l.second → same_at l.rows l.first k ≡ false)
