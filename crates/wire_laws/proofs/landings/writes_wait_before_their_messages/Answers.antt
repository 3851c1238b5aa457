use Rattle.wire_laws.proofs.Writes.{has-message}
use Rattle.wire_laws.proofs.landings.writes_wait_before_their_messages.Goals as goal

pub returns : goal.returns
returns c = has-message
