use Rattle.wire_laws.proofs.Causes.{causes-shown}
use Rattle.wire_laws.proofs.resets.resets_have_causes.Goals as goal

pub returns : goal.returns
returns c = causes-shown
