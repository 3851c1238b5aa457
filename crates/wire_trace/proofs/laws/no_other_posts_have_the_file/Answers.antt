use Rattle.wire_trace.proofs.ReadAgain.{one_file}
use Rattle.wire_trace.proofs.laws.no_other_posts_have_the_file.Goals as goal

pub returns : goal.returns
returns c = one_file
