use Rattle.pipe_model.proofs.Pipes.{is-marked}
use Rattle.pipe_model.proofs.pipe_laws.marks_fit.Goals as goal

pub returns : goal.returns
returns c = is-marked
