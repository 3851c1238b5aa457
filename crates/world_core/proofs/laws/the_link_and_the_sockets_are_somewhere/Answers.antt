use Rattle.world_core.proofs.PlayedWorlds.{played}
use Rattle.world_core.proofs.laws.the_link_and_the_sockets_are_somewhere.Goals as goal

pub returns : goal.returns
returns c = λ setup payload past n one p. played setup one payload past n p
