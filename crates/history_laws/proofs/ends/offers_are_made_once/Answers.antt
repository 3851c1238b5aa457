use Rattle.history_laws.proofs.Offers.{all-offers}
use Rattle.history_laws.proofs.ends.offers_are_made_once.Goals as goal

pub returns : goal.returns
returns c = all-offers
