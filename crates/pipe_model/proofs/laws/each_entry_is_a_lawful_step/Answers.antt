use Rattle.pipe_model.proofs.Lawful.{step-of-lawful}
use Rattle.pipe_model.proofs.laws.each_entry_is_a_lawful_step.Goals as goal

pub returns : goal.returns
returns c = step-of-lawful
