use Rattle.smc_num.proofs.KeyLemmas.{bound-binds_other}
use Rattle.smc_num.proofs.laws.other_keys_stay_bound.Goals as goal

pub returns : goal.returns
returns c = bound-binds_other
