use Rattle.llc_flows.proofs.Held.{server_asks, client_asks}
use Rattle.llc_flows.proofs.laws.a_key_that_is_asked_for_is_not_held.Goals as goal

pub returns-clause-server : goal.returns-clause-server
returns-clause-server c = server_asks

pub returns-clause-client : goal.returns-clause-client
returns-clause-client c = client_asks
