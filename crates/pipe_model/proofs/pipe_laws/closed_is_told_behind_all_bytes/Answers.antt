use Rattle.pipe_model.proofs.Pipes.{closes-behind-all}
use Rattle.pipe_model.proofs.pipe_laws.closed_is_told_behind_all_bytes.Goals as goal

pub returns : goal.returns
returns c = closes-behind-all
