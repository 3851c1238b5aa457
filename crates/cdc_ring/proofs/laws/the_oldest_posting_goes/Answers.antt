use Rattle.cdc_ring.proofs.Flying.{the_oldest_posting_goes}
use Rattle.cdc_ring.proofs.laws.the_oldest_posting_goes.Goals as goal

pub returns : goal.returns
returns c = the_oldest_posting_goes
