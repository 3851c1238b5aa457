use Rattle.world_core.proofs.Places.{unlanded-stand, uncompleted-stand}
use Rattle.world_core.proofs.one_link_laws.posts_on_a_wire_stand_in_the_history.Goals as goal

pub returns : goal.returns
returns c = record { landing = unlanded-stand; completing = uncompleted-stand }
