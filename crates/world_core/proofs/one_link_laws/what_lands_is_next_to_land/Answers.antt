use Rattle.world_core.proofs.Heads.{lands-spelled}
use Rattle.world_core.proofs.Handshaken.{shaken}
use Rattle.world_core.proofs.one_link_laws.what_lands_is_next_to_land.Goals as goal

pub returns : goal.returns
returns c = λ setup one payload x past n p. lands-spelled setup payload x past n p (shaken setup one payload past n p)
