use Rattle.rc_link.proofs.Placed.{swallows, unlanded-swallowed}
use Rattle.rc_link.proofs.laws.the_first_post_is_swallowed.Goals as goal

pub returns-clause-post : goal.returns-clause-post
returns-clause-post c = swallows

pub returns-clause-left : goal.returns-clause-left
returns-clause-left c = unlanded-swallowed
