use Rattle.smc_num.proofs.Rounds.{cursor_of-apart}
use Rattle.smc_num.proofs.laws.cursors_tell_places_apart.Goals as goal

pub returns : goal.returns
returns c = cursor_of-apart
