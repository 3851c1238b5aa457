use Rattle.side_core.specs.FirstRow.{b_open}
use Rattle.smcr_tests.proofs.side_core_tests.accept.Goals as goal

pub returns : goal.returns
returns c = c.take_clc-reply.ensures.side b_open c.requires
