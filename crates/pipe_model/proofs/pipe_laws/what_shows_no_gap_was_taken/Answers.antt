use Rattle.pipe_model.proofs.Pipes.{no-gap}
use Rattle.pipe_model.proofs.pipe_laws.what_shows_no_gap_was_taken.Goals as goal

pub returns : goal.returns
returns c = no-gap
