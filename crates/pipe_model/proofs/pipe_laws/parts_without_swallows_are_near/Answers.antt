use Rattle.pipe_model.proofs.Pipes.{unswallowed-near}
use Rattle.pipe_model.proofs.pipe_laws.parts_without_swallows_are_near.Goals as goal

pub returns : goal.returns
returns c = unswallowed-near
