use Rattle.std.proofs.Common.{◌≡◌, drop}
use Rattle.element_ledger.specs.Lendings.{is_idle}
use Rattle.element_ledger.proofs.rows.is_idle.Given as goal

-- what is left gives the same as all
abbrev pub invariant-loop-row : goal.invariant-loop-row
invariant-loop-row l = is_idle l.rmb (drop l.row-index l.rows) ≡ is_idle l.rmb l.rows
