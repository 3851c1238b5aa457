use Rattle.pipe_model.proofs.Pipes.{over-has-told}
use Rattle.pipe_model.proofs.pipe_laws.ends_that_are_over_have_told_their_last.Goals as goal

pub returns : goal.returns
returns c = over-has-told
