use Rattle.pipe_model.proofs.Pipes.{few-near}
use Rattle.pipe_model.proofs.pipe_laws.parts_of_few_snapshots_are_near.Goals as goal

pub returns : goal.returns
returns c = few-near
