use Rattle.world_core.proofs.Handshaken.{gives-items}
use Rattle.world_core.proofs.one_link_laws.an_entry_gives_deeds_and_fates.Goals as goal

pub returns : goal.returns
returns c = gives-items
