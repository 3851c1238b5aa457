use Rattle.history_laws.proofs.Items.{pipe-is-up}
use Rattle.history_laws.proofs.ends.an_end_is_up_in_its_pipe_as_in_the_history.Goals as goal

pub returns : goal.returns
returns c = pipe-is-up
