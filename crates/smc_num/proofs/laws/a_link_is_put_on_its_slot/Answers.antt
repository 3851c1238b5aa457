use Rattle.smc_num.proofs.LinkLemmas.{at_slot-put}
use Rattle.smc_num.proofs.laws.a_link_is_put_on_its_slot.Goals as goal

pub returns : goal.returns
returns c = at_slot-put
