use Rattle.world_core.proofs.LinkRoom.{has-room}
use Rattle.world_core.proofs.one_link_laws.the_link_has_room.Goals as goal

pub returns : goal.returns
returns c = has-room
