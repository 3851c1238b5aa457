use Rattle.world_core.proofs.Handshaken.{has-offers}
use Rattle.world_core.proofs.one_link_laws.offers_differ_in_their_tokens.Goals as goal

pub returns : goal.returns
returns c = has-offers
