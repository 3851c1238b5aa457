use Rattle.side_core.specs.FirstRow.{b_sent, a_wrote}
use Rattle.side_core.proofs.FirstConnection.{may_hear_read, hears_read}
use Rattle.smcr_tests.proofs.side_core_tests.hear_read.Goals as goal

pub land_cdc-dropped-requires-clause-may : goal.land_cdc-dropped-requires-clause-may
land_cdc-dropped-requires-clause-may c = may_hear_read c.args.a.now c.requires

pub returns : goal.returns
returns c = c.land_cdc-dropped.ensures.side a_wrote 0 b_sent c.requires (hears_read c.args.a.now c.requires)
