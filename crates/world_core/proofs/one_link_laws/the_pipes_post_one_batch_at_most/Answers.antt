use Rattle.world_core.proofs.Handshaken.{one-batch}
use Rattle.world_core.proofs.one_link_laws.the_pipes_post_one_batch_at_most.Goals as goal

pub returns : goal.returns
returns c = one-batch
