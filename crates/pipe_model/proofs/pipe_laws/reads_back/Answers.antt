use Rattle.pipe_model.proofs.Pipes.{counts-back, number-back, read-back}
use Rattle.pipe_model.proofs.pipe_laws.reads_back.Goals as goal

pub returns-clause-counts : goal.returns-clause-counts
returns-clause-counts c = counts-back

pub returns-clause-number : goal.returns-clause-number
returns-clause-number c = number-back

pub returns-clause-whole : goal.returns-clause-whole
returns-clause-whole c = read-back
