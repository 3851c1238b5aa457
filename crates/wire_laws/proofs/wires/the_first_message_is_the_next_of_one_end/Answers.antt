use Rattle.wire_laws.proofs.Agreement.{first-is-next}
use Rattle.wire_laws.proofs.wires.the_first_message_is_the_next_of_one_end.Goals as goal

pub returns : goal.returns
returns c = first-is-next
