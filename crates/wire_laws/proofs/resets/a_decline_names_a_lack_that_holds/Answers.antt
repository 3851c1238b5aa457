use Rattle.wire_laws.proofs.Causes.{declined-lacking}
use Rattle.wire_laws.proofs.resets.a_decline_names_a_lack_that_holds.Goals as goal

pub returns : goal.returns
returns c = declined-lacking
