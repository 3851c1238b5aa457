use Rattle.history_laws.proofs.Items.{over-stays}
use Rattle.history_laws.proofs.ends.an_end_that_is_over_stays_over.Goals as goal

pub returns : goal.returns
returns c = over-stays
