use Rattle.cdc_ring.proofs.Flying.{a_ring_is_sound}
use Rattle.cdc_ring.proofs.laws.a_ring_is_sound.Goals as goal

pub returns : goal.returns
returns c = a_ring_is_sound
