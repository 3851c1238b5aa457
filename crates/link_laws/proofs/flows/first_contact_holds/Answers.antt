use Rattle.link_laws.proofs.Joined.{has-contact}
use Rattle.link_laws.proofs.flows.first_contact_holds.Goals as goal

pub returns : goal.returns
returns c = has-contact
