use Rattle.trace_laws.proofs.Written.{lawful-written}
use Rattle.trace_laws.proofs.laws.lawful_histories_can_be_written.Goals as goal

pub returns : goal.returns
returns c = lawful-written
