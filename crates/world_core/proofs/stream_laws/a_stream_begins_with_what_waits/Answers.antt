use Rattle.world_core.proofs.StreamFronts.{fallen-heard-all, few-untaken, fallen-stays, front-is-untaken, stream-parts, stream-fits}
use Rattle.world_core.proofs.stream_laws.a_stream_begins_with_what_waits.Goals as goal

pub returns : goal.returns
returns c = record { alone = front-is-untaken; front = stream-parts; fits = stream-fits; heard = fallen-heard-all; few = few-untaken; stays = fallen-stays }
