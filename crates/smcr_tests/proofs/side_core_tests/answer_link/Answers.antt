use Rattle.side_core.specs.FirstRow.{a_confirmed}
use Rattle.side_core.proofs.FirstConnection.{may_answer, sound_answer, answers}
use Rattle.smcr_tests.proofs.side_core_tests.answer_link.Goals as goal

pub land_llc-step-requires-clause-may : goal.land_llc-step-requires-clause-may
land_llc-step-requires-clause-may c = may_answer c.args.a.now c.requires

pub land_llc-step-requires-clause-sound : goal.land_llc-step-requires-clause-sound
land_llc-step-requires-clause-sound c = sound_answer c.args.a.now c.requires

pub returns : goal.returns
returns c = answers c.args.a.now c.land_llc-step.new.self c.land_llc-step.result c.requires c.land_llc-step.ensures.step (c.land_llc-step.ensures.side a_confirmed c.requires)
