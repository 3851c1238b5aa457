use Rattle.world_core.proofs.Agreement.{agrees}
use Rattle.world_core.proofs.Handshaken.{shaken}
use Rattle.world_core.proofs.one_link_laws.wires_and_pipes_agree.Goals as goal

pub returns : goal.returns
returns c = λ setup one payload past n p. agrees setup payload past n p (shaken setup one payload past n p)
