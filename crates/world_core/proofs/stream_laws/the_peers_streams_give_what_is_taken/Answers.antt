use Rattle.world_core.proofs.StreamsAfter.{their-flows, their-taken, their-read}
use Rattle.world_core.proofs.stream_laws.the_peers_streams_give_what_is_taken.Goals as goal

pub returns : goal.returns
returns c = record { stay = their-flows; message = their-taken; read = their-read }
