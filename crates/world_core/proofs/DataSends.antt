-- Posts with no CLC message among them may be sent where the token of each CDC message names an end.
use Rattle.std.proofs.Common.{ℕ, List, [], ◌∷◌}
use Rattle.smc_num.specs.declared.Side.{Side}
use Rattle.pipe_model.specs.declared.post.Post.{Post}
use Rattle.pipe_model.specs.declared.post.Post.TheVariants.{Write, Cdc, Llc, Clc}
use Rattle.conn_end.specs.Kept.{Kept}
use Rattle.side_core.specs.Manager.{Manager}
use Rattle.world_core.specs.WireSteps.{EachPost}
use Rattle.world_core.specs.Sending.{MaySendAll}
use Rattle.world_core.proofs.ClcPosts.{NoClc}
use Rattle.world_core.proofs.OwnWires.{IsAimed, one-slot}
use Rattle.world_core.proofs.PostsFrom.{IsSentBy}

pub data-may-go : (sockets : ℕ) (v : Manager Kept) (posts : List Post) → EachPost (IsAimed v) posts → EachPost NoClc posts → (x : Side) → EachPost (IsSentBy sockets x) posts → MaySendAll sockets v posts
data-may-go sockets v [] aimed none x sent = tt
data-may-go sockets v (Write from link key address len ∷ posts) aimed none x sent = (one-slot link sent.0.1, data-may-go sockets v posts aimed.1 none.1 x sent.1)
data-may-go sockets v (Cdc from link m ∷ posts) aimed none x sent = ((one-slot link sent.0.1, aimed.0), data-may-go sockets v posts aimed.1 none.1 x sent.1)
data-may-go sockets v (Llc from link m ∷ posts) aimed none x sent = (one-slot link sent.0.1, data-may-go sockets v posts aimed.1 none.1 x sent.1)
data-may-go sockets v (Clc from s link m ∷ posts) aimed none x sent = absurd none.0
