use Rattle.pipe_model.proofs.Pipes.{next-joins}
use Rattle.pipe_model.proofs.pipe_laws.the_next_bytes_go_on.Goals as goal

pub returns : goal.returns
returns c = next-joins
