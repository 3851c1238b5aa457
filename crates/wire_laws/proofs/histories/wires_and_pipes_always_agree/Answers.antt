use Rattle.wire_laws.proofs.Whole.{agrees}
use Rattle.wire_laws.proofs.histories.wires_and_pipes_always_agree.Goals as goal

pub returns : goal.returns
returns c = agrees
