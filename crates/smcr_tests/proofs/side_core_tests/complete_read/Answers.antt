use Rattle.side_core.specs.FirstRow.{b_sent, b_read}
use Rattle.side_core.proofs.FirstConnection.{may_complete_read, completes_read}
use Rattle.smcr_tests.proofs.side_core_tests.complete_read.Goals as goal

pub complete-requires-clause-may : goal.complete-requires-clause-may
complete-requires-clause-may c = may_complete_read c.args.b.now c.requires

pub returns : goal.returns
returns c = c.complete.ensures.side b_read 0 b_sent c.requires (completes_read c.args.b.now c.requires)
