use Rattle.pipe_model.proofs.Pipes.{ends-shut}
use Rattle.pipe_model.proofs.pipe_laws.an_end_that_is_over_is_shut.Goals as goal

pub returns : goal.returns
returns c = ends-shut
