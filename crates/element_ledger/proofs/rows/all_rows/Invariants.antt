use Rattle.std.proofs.Common.{◌≡◌, ◌*◌, ◌≤◌, map, vec_len, vec_capacity}
use Rattle.smc_num.specs.Places.{all_places}
use Rattle.element_ledger.specs.Lendings.{fresh}
use Rattle.element_ledger.proofs.rows.all_rows.Given as goal

abbrev pub invariant-loop-i : goal.invariant-loop-i
invariant-loop-i l = record {
  items : l.rows.items ≡ map fresh (all_places l.i l.elements);
  len : vec_len l.rows ≡ l.i * l.elements;
  capacity : l.rmbs * l.elements ≤ vec_capacity l.rows;
}
