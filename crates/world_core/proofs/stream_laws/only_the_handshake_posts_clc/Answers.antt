use Rattle.world_core.proofs.ClcPosts.{no-clc-posts, none-in}
use Rattle.world_core.proofs.stream_laws.only_the_handshake_posts_clc.Goals as goal

pub returns : goal.returns
returns c = λ setup one payload e past n p none x s. none-in x s e.posts (no-clc-posts setup one payload e past n p none)
