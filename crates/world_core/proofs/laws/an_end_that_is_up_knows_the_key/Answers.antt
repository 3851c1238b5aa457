use Rattle.world_core.proofs.PlayedWorlds.{played}
use Rattle.world_core.proofs.LinkFacts.{up-knows-key}
use Rattle.world_core.proofs.laws.an_end_that_is_up_knows_the_key.Goals as goal

pub returns : goal.returns
returns c = λ setup payload past n x s one p up. let g = played setup one payload past n p in up-knows-key setup g.stage past g.world x s up
