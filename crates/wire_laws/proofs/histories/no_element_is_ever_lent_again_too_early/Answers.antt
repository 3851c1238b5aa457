use Rattle.wire_laws.proofs.Whole.{lent-holds}
use Rattle.wire_laws.proofs.histories.no_element_is_ever_lent_again_too_early.Goals as goal

pub returns : goal.returns
returns c = lent-holds
