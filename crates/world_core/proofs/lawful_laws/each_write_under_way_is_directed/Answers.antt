use Rattle.world_core.proofs.SentBatches.{under-way}
use Rattle.world_core.proofs.lawful_laws.each_write_under_way_is_directed.Goals as goal

pub returns : goal.returns
returns c = λ setup one payload x past n p. under-way setup one payload past n p x
