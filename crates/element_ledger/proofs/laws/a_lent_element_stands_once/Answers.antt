use Rattle.element_ledger.proofs.Once.{has_lending}
use Rattle.element_ledger.proofs.laws.a_lent_element_stands_once.Goals as goal

pub returns : goal.returns
returns c = has_lending
