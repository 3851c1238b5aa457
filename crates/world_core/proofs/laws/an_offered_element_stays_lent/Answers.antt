use Rattle.world_core.proofs.StandingLendings.{stays-lent}
use Rattle.world_core.proofs.laws.an_offered_element_stays_lent.Goals as goal

pub returns : goal.returns
returns c = λ setup payload past n x s o one p. stays-lent setup one payload past n p x s o
