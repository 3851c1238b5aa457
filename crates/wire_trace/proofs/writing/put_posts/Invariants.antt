use Rattle.std.proofs.Common.{◌+◌, ◌≤◌, drop}
use Rattle.byte_port.proofs.Paging.{Going}
use Rattle.pipe_model.specs.History.{numbered}
use Rattle.wire_trace.specs.Files.{frames_of}
use Rattle.wire_trace.proofs.writing.put_posts.Given as goal

abbrev pub invariant-loop-index : goal.invariant-loop-index
invariant-loop-index g l =
    record {
      going : Going (g.K.Sink.held l.fn.sink) l.fn.page (g.K.Sink.held l.sink) l.page (frames_of (numbered l.entry (l.index + 1) (drop l.index l.posts))) (frames_of (numbered l.entry 1 l.posts));
      later : g.K.Sink.faults l.fn.sink ≤ g.K.Sink.faults l.sink;
    }
