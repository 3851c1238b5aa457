use Rattle.failover.specs.Choices.{IsBest}
use Rattle.failover.proofs.choices.fewest.Given as goal

abbrev pub invariant-loop-i : goal.invariant-loop-i
invariant-loop-i l = IsBest l.phases l.loads l.i l.best
