use Rattle.std.proofs.Common.{◌≤◌, drop}
use Rattle.std.specs.List.{flat_map}
use Rattle.byte_port.proofs.Paging.{Going}
use Rattle.scene_text.specs.PostText.{post_line}
use Rattle.smcr_calls.specs.Prints.{names_of}
use Rattle.smcr_calls.proofs.print_posts.put_posts.Given as goal

abbrev pub invariant-loop-post : goal.invariant-loop-post
invariant-loop-post g l =
    record {
      going : Going (g.K.Sink.held l.fn.sink) l.fn.page (g.K.Sink.held l.sink) l.page (flat_map (post_line (names_of l.names)) (drop l.post-index l.posts)) (flat_map (post_line (names_of l.names)) l.posts);
      later : g.K.Sink.faults l.fn.sink ≤ g.K.Sink.faults l.sink;
    }
