use Rattle.smc_num.proofs.KeyPlaces.{in_range-binds, in_range-filter}
use Rattle.smc_num.proofs.laws.keys_stay_in_range.Goals as goal

pub returns-clause-bound : goal.returns-clause-bound
returns-clause-bound c = in_range-binds

pub returns-clause-gone : goal.returns-clause-gone
returns-clause-gone c = in_range-filter
