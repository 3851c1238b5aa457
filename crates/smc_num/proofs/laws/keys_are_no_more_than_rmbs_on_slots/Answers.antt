use Rattle.smc_num.proofs.KeyPlaces.{at_most}
use Rattle.smc_num.proofs.laws.keys_are_no_more_than_rmbs_on_slots.Goals as goal

pub returns : goal.returns
returns c = at_most
