use Rattle.std.proofs.Common.{◌≤◌, drop}
use Rattle.std.specs.Fmt.{decimal}
use Rattle.byte_port.proofs.Paging.{Going}
use Rattle.scene_text.specs.Fields.{with_commas}
use Rattle.smcr_calls.proofs.print_posts.put_more_keys.Given as goal

abbrev pub invariant-loop-key : goal.invariant-loop-key
invariant-loop-key g l =
    record {
      going : Going (g.K.Sink.held l.fn.sink) l.fn.page (g.K.Sink.held l.sink) l.page (with_commas decimal (drop l.key-index l.keys)) (with_commas decimal l.keys);
      later : g.K.Sink.faults l.fn.sink ≤ g.K.Sink.faults l.sink;
    }
