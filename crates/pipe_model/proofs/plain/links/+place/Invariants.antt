use Rattle.std.proofs.Common.{length}
use Rattle.pipe_model.proofs.plain.links.+place.Given as goal

abbrev pub decreases-place : goal.decreases-place
decreases-place l = length l.live.now
