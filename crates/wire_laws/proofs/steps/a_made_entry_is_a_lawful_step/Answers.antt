use Rattle.wire_laws.proofs.Lawful.{lawful-step}
use Rattle.wire_laws.proofs.steps.a_made_entry_is_a_lawful_step.Goals as goal

pub returns : goal.returns
returns c = lawful-step
