use Rattle.world_core.proofs.UpEnds.{posts-where-up}
use Rattle.world_core.proofs.laws.an_end_that_is_not_up_posts_nothing.Goals as goal

pub returns : goal.returns
returns c = posts-where-up
