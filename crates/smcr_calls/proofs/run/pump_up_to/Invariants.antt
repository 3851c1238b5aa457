use Rattle.std.proofs.Common.{◌≡◌, ◌-◌}
use Rattle.smcr_calls.specs.Runs.{pumps, SameScene}
use Rattle.smcr_calls.proofs.run.pump_up_to.Given as goal

abbrev pub invariant-loop : goal.invariant-loop
invariant-loop l =
    record {
      left : pumps (l.count - l.counter) l.world ≡ pumps l.count l.fn.world;
      scene : SameScene l.fn.world l.world;
    }
