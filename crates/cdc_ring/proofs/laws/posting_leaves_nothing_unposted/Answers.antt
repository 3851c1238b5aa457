use Rattle.cdc_ring.proofs.Flying.{posting_leaves_nothing_unposted}
use Rattle.cdc_ring.proofs.laws.posting_leaves_nothing_unposted.Goals as goal

pub returns : goal.returns
returns c = posting_leaves_nothing_unposted
