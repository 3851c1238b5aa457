use Rattle.world_core.proofs.Handshaken.{posts-what-is-due}
use Rattle.world_core.proofs.one_link_laws.the_pipes_post_what_is_due.Goals as goal

pub returns : goal.returns
returns c = posts-what-is-due
