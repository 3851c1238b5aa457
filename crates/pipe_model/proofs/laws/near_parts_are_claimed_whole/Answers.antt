use Rattle.pipe_model.proofs.Lawful.{near-whole}
use Rattle.pipe_model.proofs.laws.near_parts_are_claimed_whole.Goals as goal

pub returns : goal.returns
returns c = near-whole
