use Rattle.std.proofs.Common.{◌≡◌, ◌+◌, drop}
use Rattle.failover.specs.Choices.{lowest_from}
use Rattle.failover.proofs.choices.lowest_live.Given as goal

-- what is left has the same lowest live slot as all
abbrev pub invariant-loop-i : goal.invariant-loop-i
invariant-loop-i l = lowest_from (l.i + 1) (drop l.i l.phases) ≡ lowest_from 1 l.phases
