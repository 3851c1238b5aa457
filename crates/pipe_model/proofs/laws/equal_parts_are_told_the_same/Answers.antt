use Rattle.pipe_model.proofs.Lawful.{told-by-part}
use Rattle.pipe_model.proofs.laws.equal_parts_are_told_the_same.Goals as goal

pub returns : goal.returns
returns c = told-by-part
