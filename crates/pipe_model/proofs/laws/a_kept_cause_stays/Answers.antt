use Rattle.pipe_model.proofs.Lawful.{pipe-keeps, cause-stays}
use Rattle.pipe_model.proofs.laws.a_kept_cause_stays.Goals as goal

pub returns-clause-pipe : goal.returns-clause-pipe
returns-clause-pipe c = λ t x item items cause k. pipe-keeps cause t x item items k

pub returns-clause-kept : goal.returns-clause-kept
returns-clause-kept c = λ setup payload x s e past n cause stay told k. cause-stays setup payload x s e past n cause stay told k
