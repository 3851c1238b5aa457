use Rattle.std.proofs.Common.{◌≤◌, drop}
use Rattle.std.specs.List.{flat_map}
use Rattle.byte_port.proofs.Paging.{Going}
use Rattle.smcr_calls.specs.ShowLines.{reading_text}
use Rattle.smcr_calls.proofs.show.put_readings.Given as goal

-- the lines so far stand, and the rest is left
abbrev pub invariant-loop-reading : goal.invariant-loop-reading
invariant-loop-reading g l =
    record {
      going : Going (g.K.Sink.held l.fn.sink) l.fn.page (g.K.Sink.held l.sink) l.page (flat_map reading_text (drop l.reading-index l.readings)) (flat_map reading_text l.readings);
      later : g.K.Sink.faults l.fn.sink ≤ g.K.Sink.faults l.sink;
    }
