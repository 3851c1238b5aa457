use Rattle.side_core.specs.FirstRow.{a_sent, a_heard}
use Rattle.side_core.proofs.FirstConnection.{may_complete_written, completes_written}
use Rattle.smcr_tests.proofs.side_core_tests.complete_written.Goals as goal

pub complete-requires-clause-may : goal.complete-requires-clause-may
complete-requires-clause-may c = may_complete_written c.args.a.now c.requires

pub returns : goal.returns
returns c = c.complete.ensures.side a_heard 0 a_sent c.requires (completes_written c.args.a.now c.requires)
