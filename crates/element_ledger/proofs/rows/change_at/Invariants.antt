use Rattle.std.proofs.Common.{◌≡◌, ◌++◌, map, take, drop}
use Rattle.element_ledger.specs.Lendings.{changed, changes_at, place_of}
use Rattle.element_ledger.proofs.rows.change_at.Given as goal

-- those so far are changed
abbrev pub invariant-loop-row : goal.invariant-loop-row
invariant-loop-row l = l.row-items ≡ map (changes_at (place_of l.e) (changed l.change)) (take l.row-index l.fn.rows.items) ++ drop l.row-index l.fn.rows.items
