use Rattle.pipe_model.proofs.Pipes.{carries-few}
use Rattle.pipe_model.proofs.pipe_laws.messages_carry_few_bytes.Goals as goal

pub returns : goal.returns
returns c = carries-few
