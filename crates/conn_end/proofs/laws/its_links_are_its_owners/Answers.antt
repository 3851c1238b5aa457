use Rattle.conn_end.proofs.Owners.{fate_is_its_owners}
use Rattle.conn_end.proofs.laws.its_links_are_its_owners.Goals as goal

pub returns-clause-up : goal.returns-clause-up
returns-clause-up c = λ k h link stands. stands

pub returns-clause-fate : goal.returns-clause-fate
returns-clause-fate c = fate_is_its_owners

pub returns-clause-landing : goal.returns-clause-landing
returns-clause-landing c = λ k h stands. stands
