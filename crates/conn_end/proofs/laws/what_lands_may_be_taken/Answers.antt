use Rattle.conn_end.proofs.Owners.{takable}
use Rattle.conn_end.proofs.laws.what_lands_may_be_taken.Goals as goal

pub returns : goal.returns
returns c = takable
