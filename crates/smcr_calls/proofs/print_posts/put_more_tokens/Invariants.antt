use Rattle.std.proofs.Common.{◌≤◌, drop}
use Rattle.byte_port.proofs.Paging.{Going}
use Rattle.scene_text.specs.Fields.{with_commas}
use Rattle.scene_text.specs.PostText.{token_text}
use Rattle.smcr_calls.proofs.print_posts.put_more_tokens.Given as goal

abbrev pub invariant-loop-token : goal.invariant-loop-token
invariant-loop-token g l =
    record {
      going : Going (g.K.Sink.held l.fn.sink) l.fn.page (g.K.Sink.held l.sink) l.page (with_commas token_text (drop l.token-index l.tokens)) (with_commas token_text l.tokens);
      later : g.K.Sink.faults l.fn.sink ≤ g.K.Sink.faults l.sink;
    }
