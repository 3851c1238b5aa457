use Rattle.world_core.proofs.TakenMessages.{end-is}
use Rattle.world_core.proofs.laws.ends_are_at_the_step_of_their_socket.Goals as goal

pub returns : goal.returns
returns c = λ setup k s past x at. end-is setup k s past at x
