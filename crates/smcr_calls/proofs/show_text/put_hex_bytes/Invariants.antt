use Rattle.std.proofs.Common.{◌≤◌, drop}
use Rattle.std.specs.List.{flat_map}
use Rattle.byte_port.proofs.Paging.{Going}
use Rattle.scene_text.specs.Spelling.{hex_byte}
use Rattle.smcr_calls.proofs.show_text.put_hex_bytes.Given as goal

-- the digits of the bytes so far stand, and those of the rest are left
abbrev pub invariant-loop-byte : goal.invariant-loop-byte
invariant-loop-byte g l =
    record {
      going : Going (g.K.Sink.held l.fn.sink) l.fn.page (g.K.Sink.held l.sink) l.page (flat_map hex_byte (drop l.byte-index l.bytes)) (flat_map hex_byte l.bytes);
      later : g.K.Sink.faults l.fn.sink ≤ g.K.Sink.faults l.sink;
    }
