use Rattle.std.proofs.Common.{subst}
use Rattle.smc_num.specs.declared.Side.TheVariants.{A}
use Rattle.side_core.specs.Manager.{Represents, new_manager}
use Rattle.side_core.specs.FirstRow.{first_setup}
use Rattle.smcr_tests.proofs.side_core_tests.client.Goals as goal

pub returns : goal.returns
returns c = c.open.ensures.side (new_manager A first_setup) (subst (λ s. Represents c.in_ok-a.a (new_manager A s)) c.setup.ensures c.in_ok-a.ensures.stands)
