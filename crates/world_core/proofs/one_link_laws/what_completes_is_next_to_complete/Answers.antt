use Rattle.world_core.proofs.Heads.{completes-spelled}
use Rattle.world_core.proofs.Handshaken.{shaken}
use Rattle.world_core.proofs.one_link_laws.what_completes_is_next_to_complete.Goals as goal

pub returns : goal.returns
returns c = λ setup one payload x past n p. completes-spelled setup payload x past n p (shaken setup one payload past n p)
