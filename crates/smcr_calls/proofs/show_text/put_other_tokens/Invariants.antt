use Rattle.std.proofs.Common.{◌≤◌, drop}
use Rattle.std.specs.List.{flat_map}
use Rattle.byte_port.proofs.Paging.{Going}
use Rattle.smcr_calls.specs.ShowText.{token_text}
use Rattle.smcr_calls.proofs.show_text.put_other_tokens.Given as goal

-- the tokens so far stand, and the rest is left
abbrev pub invariant-loop-token : goal.invariant-loop-token
invariant-loop-token g l =
    record {
      going : Going (g.K.Sink.held l.fn.sink) l.fn.page (g.K.Sink.held l.sink) l.page (flat_map token_text (drop l.token-index l.tokens)) (flat_map token_text l.tokens);
      later : g.K.Sink.faults l.fn.sink ≤ g.K.Sink.faults l.sink;
    }
