use Rattle.world_core.proofs.ToldByPipes.{told-by-pipes}
use Rattle.world_core.proofs.world_laws.calls_were_told_by_their_pipes.Goals as goal

pub returns : goal.returns
returns c = λ setup one payload past n p heard f s. told-by-pipes setup one payload past n p heard f s
