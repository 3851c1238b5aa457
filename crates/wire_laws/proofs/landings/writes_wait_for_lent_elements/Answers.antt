use Rattle.wire_laws.proofs.Writes.{goes-to-lent}
use Rattle.wire_laws.proofs.landings.writes_wait_for_lent_elements.Goals as goal

pub returns : goal.returns
returns c = goes-to-lent
