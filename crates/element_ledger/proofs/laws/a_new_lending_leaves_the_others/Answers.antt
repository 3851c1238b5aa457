use Rattle.element_ledger.proofs.Once.{lent_stays}
use Rattle.element_ledger.proofs.laws.a_new_lending_leaves_the_others.Goals as goal

pub returns : goal.returns
returns c = lent_stays
