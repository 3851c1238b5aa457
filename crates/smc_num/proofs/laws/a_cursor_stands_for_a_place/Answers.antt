use Rattle.smc_num.proofs.Rounds.{cursor_of-place}
use Rattle.smc_num.proofs.laws.a_cursor_stands_for_a_place.Goals as goal

pub returns : goal.returns
returns c = cursor_of-place
