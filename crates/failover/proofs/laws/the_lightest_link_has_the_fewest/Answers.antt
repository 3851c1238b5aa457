use Rattle.failover.proofs.Lightest.{found_fewest, found_there}
use Rattle.failover.proofs.laws.the_lightest_link_has_the_fewest.Goals as goal

pub returns-clause-fewest : goal.returns-clause-fewest
returns-clause-fewest c = λ weight slots known loads first others rising told all. found_fewest weight slots known loads rising told first others all

pub returns-clause-there : goal.returns-clause-there
returns-clause-there c = λ weight slots known loads first others rising told all. found_there weight slots known loads rising told first others all
