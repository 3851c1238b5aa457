use Rattle.wire_laws.proofs.Causes.{comes-late}
use Rattle.wire_laws.proofs.drops.dropped_messages_come_late.Goals as goal

pub returns : goal.returns
returns c = comes-late
