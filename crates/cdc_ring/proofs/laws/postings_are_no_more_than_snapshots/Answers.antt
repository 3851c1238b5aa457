use Rattle.cdc_ring.proofs.Flying.{postings_are_no_more_than_snapshots}
use Rattle.cdc_ring.proofs.laws.postings_are_no_more_than_snapshots.Goals as goal

pub returns : goal.returns
returns c = postings_are_no_more_than_snapshots
