use Rattle.wire_laws.proofs.Memory.{read-stand}
use Rattle.wire_laws.proofs.bytes.reads_hand_out_what_stands.Goals as goal

pub returns : goal.returns
returns c = λ setup payload past elements m known y s o f i near n bytes e. read-stand setup payload past elements m known y s o f i near n bytes e
