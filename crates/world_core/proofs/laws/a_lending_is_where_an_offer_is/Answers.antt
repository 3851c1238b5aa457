use Rattle.world_core.proofs.LendingFacts.{found-lending}
use Rattle.world_core.proofs.laws.a_lending_is_where_an_offer_is.Goals as goal

pub returns : goal.returns
returns c = found-lending
