use Rattle.std.proofs.Common.{arith}
use Rattle.smc_num.proofs.Rounds.{moved_on}
use Rattle.smcr_tests.proofs.smc_num_tests.there_and_back.Goals as goal

pub ahead_of-requires : goal.ahead_of-requires
ahead_of-requires c = moved_on 16_384 c.args.n c.args.cursor c.forward-moved.result (omega arith) c.requires.inside c.requires.within c.forward-moved.ensures
