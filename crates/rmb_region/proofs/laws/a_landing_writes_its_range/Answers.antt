use Rattle.rmb_region.proofs.Bytes.{a_landing_writes_its_range}
use Rattle.rmb_region.proofs.laws.a_landing_writes_its_range.Goals as goal

pub returns : goal.returns
returns c = a_landing_writes_its_range
