use Rattle.wire_laws.proofs.Whole.{no-bytes-come}
use Rattle.wire_laws.proofs.histories.no_bytes_ever_come_after_a_lending.Goals as goal

pub returns : goal.returns
returns c = no-bytes-come
