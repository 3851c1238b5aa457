use Rattle.cdc_ring.proofs.Flying.{a_snapshot_without_bytes_is_no_posting}
use Rattle.cdc_ring.proofs.laws.a_snapshot_without_bytes_is_no_posting.Goals as goal

pub returns : goal.returns
returns c = a_snapshot_without_bytes_is_no_posting
