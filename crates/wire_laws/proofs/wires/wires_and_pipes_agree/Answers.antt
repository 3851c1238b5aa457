use Rattle.wire_laws.proofs.Agreement.{agrees-plain}
use Rattle.wire_laws.proofs.wires.wires_and_pipes_agree.Goals as goal

pub returns : goal.returns
returns c = agrees-plain
