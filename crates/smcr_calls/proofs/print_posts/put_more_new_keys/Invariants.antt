use Rattle.std.proofs.Common.{◌≤◌, drop}
use Rattle.byte_port.proofs.Paging.{Going}
use Rattle.scene_text.specs.Fields.{with_commas}
use Rattle.scene_text.specs.PostText.{new_key_text}
use Rattle.smcr_calls.proofs.print_posts.put_more_new_keys.Given as goal

abbrev pub invariant-loop-key : goal.invariant-loop-key
invariant-loop-key g l =
    record {
      going : Going (g.K.Sink.held l.fn.sink) l.fn.page (g.K.Sink.held l.sink) l.page (with_commas new_key_text (drop l.key-index l.keys)) (with_commas new_key_text l.keys);
      later : g.K.Sink.faults l.fn.sink ≤ g.K.Sink.faults l.sink;
    }
