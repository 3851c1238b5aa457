use Rattle.link_laws.proofs.Joined.{lawful-flows}
use Rattle.link_laws.proofs.flows.lawful_histories_flow.Goals as goal

pub returns : goal.returns
returns c = lawful-flows
