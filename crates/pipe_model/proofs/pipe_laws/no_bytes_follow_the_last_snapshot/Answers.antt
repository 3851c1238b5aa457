use Rattle.pipe_model.proofs.Pipes.{ends-with-last}
use Rattle.pipe_model.proofs.pipe_laws.no_bytes_follow_the_last_snapshot.Goals as goal

pub returns : goal.returns
returns c = ends-with-last
