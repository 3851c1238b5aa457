use Rattle.smc_num.proofs.KeyLemmas.{bound-binds}
use Rattle.smc_num.proofs.laws.a_key_is_bound.Goals as goal

pub returns : goal.returns
returns c = bound-binds
