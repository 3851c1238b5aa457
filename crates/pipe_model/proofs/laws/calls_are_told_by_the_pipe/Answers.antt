use Rattle.pipe_model.proofs.Lawful.{told-by-pipe}
use Rattle.pipe_model.proofs.laws.calls_are_told_by_the_pipe.Goals as goal

pub returns : goal.returns
returns c = told-by-pipe
