use Rattle.wire_laws.proofs.Memory.{told-stand}
use Rattle.wire_laws.proofs.bytes.told_bytes_stand_at_their_places.Goals as goal

pub returns : goal.returns
returns c = λ setup payload past elements m known y s o f i near apart. told-stand setup payload past elements m known y s o f i near apart
