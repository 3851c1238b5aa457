use Rattle.pipe_model.proofs.Pipes.{next-within}
use Rattle.pipe_model.proofs.pipe_laws.the_next_snapshot_is_within_the_distances.Goals as goal

pub returns : goal.returns
returns c = next-within
