use Rattle.wire_laws.proofs.Memory.{landed-stand}
use Rattle.wire_laws.proofs.bytes.landed_bytes_stand_at_their_places.Goals as goal

pub returns : goal.returns
returns c = λ setup payload past elements m known y s o f i. landed-stand setup payload past elements m known y s o f i
