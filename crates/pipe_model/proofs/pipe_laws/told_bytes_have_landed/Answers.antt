use Rattle.pipe_model.proofs.Pipes.{told-landed}
use Rattle.pipe_model.proofs.pipe_laws.told_bytes_have_landed.Goals as goal

pub returns : goal.returns
returns c = told-landed
