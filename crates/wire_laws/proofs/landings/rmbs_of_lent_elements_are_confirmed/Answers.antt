use Rattle.wire_laws.proofs.Writes.{lent-confirmed}
use Rattle.wire_laws.proofs.landings.rmbs_of_lent_elements_are_confirmed.Goals as goal

pub returns : goal.returns
returns c = lent-confirmed
