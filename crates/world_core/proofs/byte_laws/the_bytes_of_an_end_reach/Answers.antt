use Rattle.world_core.proofs.TokensOnWay.{bytes-reach}
use Rattle.world_core.proofs.byte_laws.the_bytes_of_an_end_reach.Goals as goal

pub returns : goal.returns
returns c = bytes-reach
