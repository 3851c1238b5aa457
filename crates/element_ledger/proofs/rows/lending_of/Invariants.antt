use Rattle.std.proofs.Common.{◌≡◌, drop}
use Rattle.element_ledger.specs.Lendings.{lending_of}
use Rattle.element_ledger.proofs.rows.lending_of.Given as goal

-- what is left gives the same as all
abbrev pub invariant-loop-row : goal.invariant-loop-row
invariant-loop-row l = lending_of l.e (drop l.row-index l.rows) ≡ lending_of l.e l.rows
