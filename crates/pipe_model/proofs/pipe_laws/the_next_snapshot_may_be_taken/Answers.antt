use Rattle.pipe_model.proofs.Pipes.{lands-well}
use Rattle.pipe_model.proofs.pipe_laws.the_next_snapshot_may_be_taken.Goals as goal

pub returns : goal.returns
returns c = lands-well
