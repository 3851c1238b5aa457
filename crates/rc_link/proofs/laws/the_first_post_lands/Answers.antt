use Rattle.rc_link.proofs.Placed.{lands, unlanded-landed, uncompleted-landed}
use Rattle.rc_link.proofs.laws.the_first_post_lands.Goals as goal

pub returns-clause-post : goal.returns-clause-post
returns-clause-post c = lands

pub returns-clause-left : goal.returns-clause-left
returns-clause-left c = unlanded-landed

pub returns-clause-landed : goal.returns-clause-landed
returns-clause-landed c = uncompleted-landed
