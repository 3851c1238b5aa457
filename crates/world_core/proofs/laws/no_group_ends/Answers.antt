use Rattle.world_core.proofs.LinkFacts.{no-group-ends}
use Rattle.world_core.proofs.laws.no_group_ends.Goals as goal

pub returns : goal.returns
returns c = λ setup payload past n x g one p. no-group-ends setup one payload past n p x g
