use Rattle.scene_text.proofs.Subnets.{of_fewer, of_more}
use Rattle.scene_text.proofs.words.subnet_in.Goals as goal

pub returns-in_default : goal.returns-in_default
returns-in_default c = of_fewer c.args.halves.now c.in_default.len_below

pub returns-in_default-2 : goal.returns-in_default-2
returns-in_default-2 c = of_more c.args.halves.now c.in_default.len_at_least
