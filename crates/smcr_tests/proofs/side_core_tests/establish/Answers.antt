use Rattle.side_core.specs.FirstRow.{b_ready}
use Rattle.side_core.proofs.FirstConnection.{may_establish, sound_establish, establishes}
use Rattle.smcr_tests.proofs.side_core_tests.establish.Goals as goal

pub land_llc-step-requires-clause-may : goal.land_llc-step-requires-clause-may
land_llc-step-requires-clause-may c = may_establish c.args.b.now c.requires

pub land_llc-step-requires-clause-sound : goal.land_llc-step-requires-clause-sound
land_llc-step-requires-clause-sound c = sound_establish c.args.b.now c.requires

pub returns : goal.returns
returns c = establishes c.args.b.now c.land_llc-step.new.self c.land_llc-step.result c.requires c.land_llc-step.ensures.step (c.land_llc-step.ensures.side b_ready c.requires)
