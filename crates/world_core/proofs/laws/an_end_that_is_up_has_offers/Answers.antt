use Rattle.world_core.proofs.PlayedWorlds.{played}
use Rattle.world_core.proofs.LinkFacts.{up-has-offers}
use Rattle.world_core.proofs.laws.an_end_that_is_up_has_offers.Goals as goal

pub returns : goal.returns
returns c = λ setup payload past n x y s one p up. let g = played setup one payload past n p in up-has-offers setup g.stage past g.world x s up y
