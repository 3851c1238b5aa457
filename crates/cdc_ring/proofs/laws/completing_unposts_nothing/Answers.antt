use Rattle.cdc_ring.proofs.Flying.{completing_unposts_nothing}
use Rattle.cdc_ring.proofs.laws.completing_unposts_nothing.Goals as goal

pub returns : goal.returns
returns c = completing_unposts_nothing
