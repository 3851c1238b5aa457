use Rattle.wire_laws.proofs.Writes.{goes-under-bound}
use Rattle.wire_laws.proofs.landings.writes_wait_under_bound_keys.Goals as goal

pub returns : goal.returns
returns c = goes-under-bound
