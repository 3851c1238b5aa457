use Rattle.cdc_ring.proofs.Flying.{the_last_snapshot_tells_the_last_posted_byte}
use Rattle.cdc_ring.proofs.laws.the_last_snapshot_tells_the_last_posted_byte.Goals as goal

pub returns : goal.returns
returns c = the_last_snapshot_tells_the_last_posted_byte
