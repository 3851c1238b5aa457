use Rattle.world_core.proofs.StreamsAfter.{own-flows, room-for-clc}
use Rattle.world_core.proofs.stream_laws.own_streams_stand_with_the_posts.Goals as goal

pub returns : goal.returns
returns c = record { room = room-for-clc; stand = own-flows }
