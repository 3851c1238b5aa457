use Rattle.link_laws.proofs.Joined.{all-flows}
use Rattle.link_laws.proofs.flows.all_flows_hold.Goals as goal

pub returns : goal.returns
returns c = all-flows
