use Rattle.wire_laws.proofs.Lawful.{lawful-made}
use Rattle.wire_laws.proofs.steps.a_lawful_history_is_made.Goals as goal

pub returns : goal.returns
returns c = lawful-made
