use Rattle.world_core.proofs.TokensOnWay.{told-stand-on}
use Rattle.world_core.proofs.byte_laws.told_bytes_stand_in_the_element.Goals as goal

pub returns : goal.returns
returns c = told-stand-on
