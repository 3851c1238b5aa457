use Rattle.smc_num.proofs.KeyLemmas.{lowest_unused_is}
use Rattle.smc_num.proofs.laws.a_number_is_always_unused.Goals as goal

pub returns : goal.returns
returns c = lowest_unused_is
