use Rattle.pipe_model.proofs.Pipes.{nothing-due}
use Rattle.pipe_model.proofs.pipe_laws.nothing_is_due.Goals as goal

pub returns : goal.returns
returns c = nothing-due
