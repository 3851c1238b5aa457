use Rattle.pipe_model.proofs.Pipes.{is-counted}
use Rattle.pipe_model.proofs.pipe_laws.counts_fit.Goals as goal

pub returns : goal.returns
returns c = is-counted
