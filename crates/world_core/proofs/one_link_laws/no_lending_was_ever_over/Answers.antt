use Rattle.world_core.proofs.NeverOver.{was-never-over}
use Rattle.world_core.proofs.one_link_laws.no_lending_was_ever_over.Goals as goal

pub returns : goal.returns
returns c = was-never-over
