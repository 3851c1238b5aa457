use Rattle.std.proofs.Common.{◌≡◌, drop}
use Rattle.smcr_calls.specs.Runs.{runs, SameScene}
use Rattle.smcr_calls.proofs.run.run_lines.Given as goal

abbrev pub invariant-loop-line : goal.invariant-loop-line
invariant-loop-line l =
    record {
      left : runs (drop l.line-index l.lines) l.world ≡ runs l.lines l.fn.world;
      scene : SameScene l.fn.world l.world;
    }
