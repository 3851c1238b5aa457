use Rattle.rc_link.proofs.Placed.{completes, uncompleted-completed}
use Rattle.rc_link.proofs.laws.the_first_landed_post_completes.Goals as goal

pub returns-clause-post : goal.returns-clause-post
returns-clause-post c = completes

pub returns-clause-left : goal.returns-clause-left
returns-clause-left c = uncompleted-completed
