use Rattle.std.proofs.Common.{◌≡◌, [], drop}
use Rattle.scene_text.specs.HistoryText.{sockets_after}
use Rattle.smcr_calls.proofs.print.list_sockets.Given as goal

abbrev pub invariant-loop-entry : goal.invariant-loop-entry
invariant-loop-entry l = sockets_after l.sockets.items (drop l.entry-index l.history) ≡ sockets_after [] l.history
