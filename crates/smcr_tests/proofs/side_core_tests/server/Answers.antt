use Rattle.std.proofs.Common.{subst}
use Rattle.smc_num.specs.declared.Side.TheVariants.{B}
use Rattle.side_core.specs.Manager.{Represents, new_manager}
use Rattle.side_core.specs.FirstRow.{first_setup}
use Rattle.smcr_tests.proofs.side_core_tests.server.Goals as goal

pub returns : goal.returns
returns c = c.open.ensures.side (new_manager B first_setup) (subst (λ s. Represents c.in_ok-b.b (new_manager B s)) c.setup.ensures c.in_ok-b.ensures.stands)
