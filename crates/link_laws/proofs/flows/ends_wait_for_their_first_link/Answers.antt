use Rattle.link_laws.proofs.Waiting.{with-of}
use Rattle.link_laws.proofs.flows.ends_wait_for_their_first_link.Goals as goal

pub returns : goal.returns
returns c = with-of
