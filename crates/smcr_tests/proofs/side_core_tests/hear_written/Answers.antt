use Rattle.side_core.specs.FirstRow.{a_sent, b_landed}
use Rattle.side_core.proofs.FirstConnection.{may_hear_written, hears_written}
use Rattle.smcr_tests.proofs.side_core_tests.hear_written.Goals as goal

pub land_cdc-dropped-requires-clause-may : goal.land_cdc-dropped-requires-clause-may
land_cdc-dropped-requires-clause-may c = may_hear_written c.args.b.now c.requires

pub returns : goal.returns
returns c = c.land_cdc-dropped.ensures.side b_landed 0 a_sent c.requires (hears_written c.args.b.now c.requires)
