use Rattle.world_core.proofs.ClcFits.{untaken-fits, untaken-is-message}
use Rattle.world_core.proofs.stream_laws.untaken_messages_can_be_written.Goals as goal

pub returns : goal.returns
returns c = record { fits = untaken-fits; widths = untaken-is-message }
