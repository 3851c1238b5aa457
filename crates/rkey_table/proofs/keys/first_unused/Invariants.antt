use Rattle.std.proofs.Common.{◌≡◌, ◌+◌, ◌-◌, not, find}
use Rattle.std.specs.List.{range_with_len}
use Rattle.smc_num.specs.Keys.{is_used}
use Rattle.rkey_table.proofs.keys.first_unused.Given as goal

-- what is left has the same first one as all
abbrev pub invariant-loop-i : goal.invariant-loop-i
invariant-loop-i l = find (λ n. not (is_used n l.keys)) (range_with_len (l.from + l.i) (l.count - l.i)) ≡ find (λ n. not (is_used n l.keys)) (range_with_len l.from l.count)
