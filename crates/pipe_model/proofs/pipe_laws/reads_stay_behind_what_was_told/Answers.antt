use Rattle.pipe_model.proofs.Pipes.{reads-told}
use Rattle.pipe_model.proofs.pipe_laws.reads_stay_behind_what_was_told.Goals as goal

pub returns : goal.returns
returns c = reads-told
