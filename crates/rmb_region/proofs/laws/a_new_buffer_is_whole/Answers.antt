use Rattle.rmb_region.proofs.Bytes.{a_new_buffer_is_whole}
use Rattle.rmb_region.proofs.laws.a_new_buffer_is_whole.Goals as goal

pub returns : goal.returns
returns c = a_new_buffer_is_whole
