use Rattle.rmb_region.proofs.Bytes.{a_landing_leaves_all_else}
use Rattle.rmb_region.proofs.laws.a_landing_leaves_all_else.Goals as goal

pub returns : goal.returns
returns c = a_landing_leaves_all_else
