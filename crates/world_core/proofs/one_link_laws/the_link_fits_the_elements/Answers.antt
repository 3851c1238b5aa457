use Rattle.world_core.proofs.FewUps.{fits-elements}
use Rattle.world_core.proofs.one_link_laws.the_link_fits_the_elements.Goals as goal

pub returns : goal.returns
returns c = fits-elements
