use Rattle.world_core.proofs.Records.{all-offers}
use Rattle.world_core.proofs.laws.offers_are_on_the_one_link.Goals as goal

pub returns : goal.returns
returns c = λ setup stage past x s o w. all-offers setup stage past w x s o
