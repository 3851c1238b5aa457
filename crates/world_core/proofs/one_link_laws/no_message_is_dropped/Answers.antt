use Rattle.world_core.proofs.NeverOver.{names-record}
use Rattle.world_core.proofs.one_link_laws.no_message_is_dropped.Goals as goal

pub returns : goal.returns
returns c = names-record
