use Rattle.std.proofs.Common.{◌+◌, ◌≤◌, drop}
use Rattle.byte_port.proofs.Paging.{Going}
use Rattle.wire_trace.specs.Files.{frames_of, posts_from, posts_in}
use Rattle.wire_trace.proofs.writing.put_entries.Given as goal

abbrev pub invariant-loop-index : goal.invariant-loop-index
invariant-loop-index g l =
    record {
      going : Going (g.K.Sink.held l.fn.sink) l.fn.page (g.K.Sink.held l.sink) l.page (frames_of (posts_from (l.index + 1) (drop l.index l.entries))) (frames_of (posts_in l.entries));
      later : g.K.Sink.faults l.fn.sink ≤ g.K.Sink.faults l.sink;
    }
