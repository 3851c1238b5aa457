use Rattle.std.proofs.Common.{◌≡◌, ◌+◌, not, drop, filter, length}
use Rattle.element_ledger.specs.Lendings.{is_lent}
use Rattle.element_ledger.proofs.rows.count_free.Given as goal

-- what was counted, and what is left, make the whole
abbrev pub invariant-loop-row : goal.invariant-loop-row
invariant-loop-row l = l.free + length (filter (λ r. not (is_lent r)) (drop l.row-index l.rows)) ≡ length (filter (λ r. not (is_lent r)) l.rows)
