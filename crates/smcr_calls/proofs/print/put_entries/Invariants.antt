use Rattle.std.proofs.Common.{◌+◌, ◌≤◌, drop}
use Rattle.byte_port.proofs.Paging.{Going}
use Rattle.scene_text.specs.HistoryText.{entries_text}
use Rattle.smcr_calls.specs.Prints.{printed}
use Rattle.smcr_calls.proofs.print.put_entries.Given as goal

abbrev pub invariant-loop-index : goal.invariant-loop-index
invariant-loop-index g l =
    record {
      going : Going (g.K.Sink.held l.fn.sink) l.fn.page (g.K.Sink.held l.sink) l.page (entries_text (printed l.texts) (l.index + 1) (drop l.index l.history)) (entries_text (printed l.texts) 1 l.history);
      later : g.K.Sink.faults l.fn.sink ≤ g.K.Sink.faults l.sink;
    }
