use Rattle.smc_num.proofs.LinkLemmas.{at_slot-set_phase}
use Rattle.smc_num.proofs.laws.a_phase_is_set_on_one_slot.Goals as goal

pub returns : goal.returns
returns c = at_slot-set_phase
