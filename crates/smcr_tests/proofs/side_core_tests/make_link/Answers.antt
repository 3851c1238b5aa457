use Rattle.side_core.specs.FirstRow.{b_accepted}
use Rattle.smcr_tests.proofs.side_core_tests.make_link.Goals as goal

pub returns : goal.returns
returns c = c.link_made.ensures b_accepted c.requires
