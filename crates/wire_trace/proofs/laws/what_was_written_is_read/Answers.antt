use Rattle.wire_trace.proofs.ReadAgain.{file_back}
use Rattle.wire_trace.proofs.laws.what_was_written_is_read.Goals as goal

pub returns : goal.returns
returns c = file_back
