use Rattle.std.proofs.Common.{◌≤◌, drop}
use Rattle.std.specs.List.{flat_map}
use Rattle.byte_port.proofs.Paging.{Going}
use Rattle.smcr_calls.specs.Shares.{shared_socket_text}
use Rattle.smcr_calls.specs.Prints.{names_of}
use Rattle.smcr_calls.proofs.print.put_sockets.Given as goal

abbrev pub invariant-loop-s : goal.invariant-loop-s
invariant-loop-s g l =
    record {
      going : Going (g.K.Sink.held l.fn.sink) l.fn.page (g.K.Sink.held l.sink) l.page (flat_map (shared_socket_text (names_of l.names) l.shares) (drop l.s-index l.sockets)) (flat_map (shared_socket_text (names_of l.names) l.shares) l.sockets);
      later : g.K.Sink.faults l.fn.sink ≤ g.K.Sink.faults l.sink;
    }
