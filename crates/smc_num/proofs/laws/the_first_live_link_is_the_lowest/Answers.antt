use Rattle.smc_num.specs.Links.{is_live}
use Rattle.smc_num.proofs.ListLemmas.{head-map-filter}
use Rattle.smc_num.proofs.laws.the_first_live_link_is_the_lowest.Goals as goal

pub returns : goal.returns
returns c = λ table. head-map-filter (λ known. known.link) (λ known. is_live known.phase) table
