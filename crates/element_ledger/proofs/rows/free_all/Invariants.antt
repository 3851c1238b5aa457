use Rattle.std.proofs.Common.{◌≡◌, ◌++◌, map, take, drop}
use Rattle.element_ledger.specs.Lendings.{freed}
use Rattle.element_ledger.proofs.rows.free_all.Given as goal

-- those so far are changed
abbrev pub invariant-loop-row : goal.invariant-loop-row
invariant-loop-row l = l.row-items ≡ map (freed) (take l.row-index l.fn.rows.items) ++ drop l.row-index l.fn.rows.items
