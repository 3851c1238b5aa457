use Rattle.world_core.proofs.Landings.{not-dead}
use Rattle.world_core.proofs.laws.the_link_is_not_dead.Goals as goal

pub returns : goal.returns
returns c = not-dead
