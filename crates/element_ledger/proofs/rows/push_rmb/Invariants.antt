use Rattle.std.proofs.Common.{◌≡◌, ◌+◌, ◌≤◌, ◌++◌, map, vec_len, vec_capacity}
use Rattle.smc_num.specs.Places.{places_in}
use Rattle.element_ledger.specs.Lendings.{fresh}
use Rattle.element_ledger.proofs.rows.push_rmb.Given as goal

abbrev pub invariant-loop-i : goal.invariant-loop-i
invariant-loop-i l = record {
  items : l.rows.items ≡ l.fn.rows.items ++ map fresh (places_in l.i l.rmb);
  len : vec_len l.rows ≡ vec_len l.fn.rows + l.i;
  capacity : vec_capacity l.fn.rows ≤ vec_capacity l.rows;
}
