use Rattle.world_core.proofs.TokensOnWay.{is-rmb}
use Rattle.world_core.proofs.byte_laws.a_buffer_is_the_rmb.Goals as goal

pub returns : goal.returns
returns c = is-rmb
