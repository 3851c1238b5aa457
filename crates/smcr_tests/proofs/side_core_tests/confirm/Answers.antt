use Rattle.side_core.specs.FirstRow.{a_open}
use Rattle.side_core.proofs.FirstConnection.{may_confirm}
use Rattle.smcr_tests.proofs.side_core_tests.confirm.Goals as goal

pub take_clc-reply-requires-clause-may : goal.take_clc-reply-requires-clause-may
take_clc-reply-requires-clause-may c = may_confirm c.args.a.now c.requires

pub returns : goal.returns
returns c = c.take_clc-reply.ensures.side a_open c.requires
