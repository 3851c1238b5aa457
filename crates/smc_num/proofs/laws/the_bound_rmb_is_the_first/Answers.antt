use Rattle.smc_num.specs.Keys.{is_named}
use Rattle.smc_num.proofs.ListLemmas.{head-map-filter}
use Rattle.smc_num.proofs.laws.the_bound_rmb_is_the_first.Goals as goal

pub returns : goal.returns
returns c = λ key link keys. head-map-filter (λ k. k.rmb) (is_named key link) keys
