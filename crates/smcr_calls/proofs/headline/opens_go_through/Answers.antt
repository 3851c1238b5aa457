use Rattle.smcr_calls.proofs.Opens.{accepts, confirms}
use Rattle.smcr_calls.proofs.headline.opens_go_through.Goals as goal

pub returns : goal.returns
returns c = record { accepted = accepts; confirmed = confirms }
