use Rattle.pipe_model.proofs.Pipes.{completes-well}
use Rattle.pipe_model.proofs.pipe_laws.the_oldest_snapshot_completes.Goals as goal

pub returns : goal.returns
returns c = completes-well
