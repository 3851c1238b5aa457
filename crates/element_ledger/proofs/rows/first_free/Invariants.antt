use Rattle.std.proofs.Common.{◌≡◌, drop}
use Rattle.element_ledger.specs.Lendings.{first_free}
use Rattle.element_ledger.proofs.rows.first_free.Given as goal

-- what is left gives the same as all
abbrev pub invariant-loop-row : goal.invariant-loop-row
invariant-loop-row l = first_free (drop l.row-index l.rows) ≡ first_free l.rows
