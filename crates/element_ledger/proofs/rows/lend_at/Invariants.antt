use Rattle.std.proofs.Common.{◌≡◌, ◌++◌, map, take, drop}
use Rattle.element_ledger.specs.Lendings.{changes_at, lends, place_of}
use Rattle.element_ledger.proofs.rows.lend_at.Given as goal

-- those so far are changed
abbrev pub invariant-loop-row : goal.invariant-loop-row
invariant-loop-row l = l.row-items ≡ map (changes_at (place_of l.e) (lends l.conn)) (take l.row-index l.fn.rows.items) ++ drop l.row-index l.fn.rows.items
