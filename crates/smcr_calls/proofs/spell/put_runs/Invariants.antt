use Rattle.std.proofs.Common.{◌≤◌, ◌+◌, ◌∷◌, drop}
use Rattle.byte_port.proofs.Paging.{Going}
use Rattle.scene_text.specs.Spelling.{runs, bytes_text}
use Rattle.smcr_calls.proofs.RunsOfBytes.{add_run, joined}
use Rattle.smcr_calls.proofs.spell.put_runs.Given as goal

abbrev pub invariant-loop-byte : goal.invariant-loop-byte
invariant-loop-byte g l =
    record {
      going : Going (g.K.Sink.held l.fn.sink) l.fn.page (g.K.Sink.held l.sink) l.page (joined (add_run l.current l.count (runs (drop l.byte-index l.rest)))) (bytes_text (l.fn.first ∷ l.rest));
      few : l.count ≤ l.byte-index + 1;
      later : g.K.Sink.faults l.fn.sink ≤ g.K.Sink.faults l.sink;
    }
