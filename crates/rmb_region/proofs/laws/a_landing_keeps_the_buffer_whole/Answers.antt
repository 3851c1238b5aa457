use Rattle.rmb_region.proofs.Bytes.{a_landing_keeps_the_buffer_whole}
use Rattle.rmb_region.proofs.laws.a_landing_keeps_the_buffer_whole.Goals as goal

pub returns : goal.returns
returns c = a_landing_keeps_the_buffer_whole
