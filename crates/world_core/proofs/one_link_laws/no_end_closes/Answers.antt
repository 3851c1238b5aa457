use Rattle.world_core.proofs.Pipes.{has-pipe}
use Rattle.world_core.proofs.Handshaken.{shaken}
use Rattle.world_core.proofs.one_link_laws.no_end_closes.Goals as goal

pub returns : goal.returns
returns c = λ setup one payload s past n p. has-pipe setup payload s past n p (shaken setup one payload past n p)
