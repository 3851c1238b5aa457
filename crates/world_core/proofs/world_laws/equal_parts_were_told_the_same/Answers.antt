use Rattle.world_core.proofs.ToldByPipes.{told-alike}
use Rattle.world_core.proofs.world_laws.equal_parts_were_told_the_same.Goals as goal

pub returns : goal.returns
returns c = λ t u one two p q past past2 n m f g s r terms parts. told-alike t u one two p q past past2 n m f g s r terms parts
