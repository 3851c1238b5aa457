use Rattle.world_core.proofs.ClcLengths.{first-measured}
use Rattle.world_core.proofs.stream_laws.untaken_messages_are_as_long_as_told.Goals as goal

pub returns : goal.returns
returns c = λ setup one payload past n p x s m is. let k = first-measured setup one payload past n p x s m is in k.length_is
