use Rattle.std.proofs.Common.{◌≤◌, ◌-◌, [], length, drop}
use Rattle.byte_port.specs.Pages.{Went}
use Rattle.byte_port.proofs.page.send.Given as goal

abbrev pub invariant-loop-gone : goal.invariant-loop-gone
invariant-loop-gone g l =
    record {
      within : l.gone ≤ length l.bytes;
      kept : Went (g.K.Sink.held l.fn.sink) (drop l.fn.gone l.bytes) (g.K.Sink.held l.sink) (drop l.gone l.bytes) [];
      later : g.K.Sink.faults l.fn.sink ≤ g.K.Sink.faults l.sink;
    }

abbrev pub decreases-loop-gone : goal.decreases-loop-gone
decreases-loop-gone g l = length l.bytes - l.gone
