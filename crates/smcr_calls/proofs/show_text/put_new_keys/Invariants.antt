use Rattle.std.proofs.Common.{◌≤◌, drop}
use Rattle.std.specs.List.{flat_map}
use Rattle.byte_port.proofs.Paging.{Going}
use Rattle.smcr_calls.specs.ShowText.{new_key_text}
use Rattle.smcr_calls.proofs.show_text.put_new_keys.Given as goal

-- the keys so far stand, and the rest is left
abbrev pub invariant-loop-key : goal.invariant-loop-key
invariant-loop-key g l =
    record {
      going : Going (g.K.Sink.held l.fn.sink) l.fn.page (g.K.Sink.held l.sink) l.page (flat_map new_key_text (drop l.key-index l.keys)) (flat_map new_key_text l.keys);
      later : g.K.Sink.faults l.fn.sink ≤ g.K.Sink.faults l.sink;
    }
