use Rattle.world_core.proofs.StreamsAfter.{own-written}
use Rattle.world_core.proofs.stream_laws.a_write_goes_into_the_own_stream.Goals as goal

pub returns : goal.returns
returns c = own-written
