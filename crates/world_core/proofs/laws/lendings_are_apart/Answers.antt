use Rattle.world_core.proofs.LendingFacts.{played-lendings}
use Rattle.world_core.proofs.laws.lendings_are_apart.Goals as goal

pub returns : goal.returns
returns c = λ setup payload past n x one p. played-lendings setup one payload past n p x
