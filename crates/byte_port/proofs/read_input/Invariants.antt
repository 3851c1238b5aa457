use Rattle.std.proofs.Common.{◌≤◌, length}
use Rattle.byte_port.specs.Causes.{IsReading}
use Rattle.byte_port.proofs.read_input.Given as goal

abbrev pub invariant-loop : goal.invariant-loop
invariant-loop g l =
    record {
      reading : IsReading (g.S.Source.left l.fn.source) (g.S.Source.left l.source) l.input.items;
      grew : l.counter ≤ length l.input.items;
      within : length l.input.items ≤ l.limit;
      later : g.S.Source.faults l.fn.source ≤ g.S.Source.faults l.source;
    }
