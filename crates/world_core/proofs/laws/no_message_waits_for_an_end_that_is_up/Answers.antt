use Rattle.world_core.proofs.PlayedWorlds.{played}
use Rattle.world_core.proofs.LinkFacts.{none-waits-for-up}
use Rattle.world_core.proofs.laws.no_message_waits_for_an_end_that_is_up.Goals as goal

pub returns : goal.returns
returns c = λ setup payload past n x s one p up. let g = played setup one payload past n p in none-waits-for-up setup g.stage past g.world x s up
