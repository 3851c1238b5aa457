use Rattle.wire_laws.proofs.Whole.{lendings-hold}
use Rattle.wire_laws.proofs.histories.lendings_are_always_done_with.Goals as goal

pub returns : goal.returns
returns c = lendings-hold
