use Rattle.wire_trace.proofs.ReadAgain.{history_back, history_writable}
use Rattle.wire_trace.proofs.laws.a_history_is_read_of_its_trace.Goals as goal

pub returns-clause-written : goal.returns-clause-written
returns-clause-written c = history_writable

pub returns-clause-read : goal.returns-clause-read
returns-clause-read c = history_back
