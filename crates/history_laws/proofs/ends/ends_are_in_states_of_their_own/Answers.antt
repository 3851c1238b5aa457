use Rattle.history_laws.proofs.Offers.{states}
use Rattle.history_laws.proofs.ends.ends_are_in_states_of_their_own.Goals as goal

pub returns : goal.returns
returns c = states
