use Rattle.std.proofs.Common.{◌≤◌, drop}
use Rattle.std.specs.List.{flat_map}
use Rattle.byte_port.proofs.Paging.{Going}
use Rattle.std.specs.Prelude.{codes}
use Rattle.scene_text.specs.Fields.{number_field}
use Rattle.smcr_calls.proofs.show_text.put_keys.Given as goal

-- the keys so far stand, and the rest is left
abbrev pub invariant-loop-key : goal.invariant-loop-key
invariant-loop-key g l =
    record {
      going : Going (g.K.Sink.held l.fn.sink) l.fn.page (g.K.Sink.held l.sink) l.page (flat_map (number_field (codes " ")) (drop l.key-index l.keys)) (flat_map (number_field (codes " ")) l.keys);
      later : g.K.Sink.faults l.fn.sink ≤ g.K.Sink.faults l.sink;
    }
