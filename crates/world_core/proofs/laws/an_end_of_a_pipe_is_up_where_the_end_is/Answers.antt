use Rattle.world_core.proofs.UpEnds.{pipe-is-up}
use Rattle.world_core.proofs.laws.an_end_of_a_pipe_is_up_where_the_end_is.Goals as goal

pub returns : goal.returns
returns c = pipe-is-up
