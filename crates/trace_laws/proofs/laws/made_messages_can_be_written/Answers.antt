use Rattle.trace_laws.proofs.Written.{made-written}
use Rattle.trace_laws.proofs.laws.made_messages_can_be_written.Goals as goal

pub returns : goal.returns
returns c = made-written
