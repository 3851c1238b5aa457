use Rattle.smcr_calls.proofs.Showing.{next_byte}
use Rattle.smcr_calls.proofs.show.bytes_of.Goals as goal

pub loop-rest-preserved : goal.loop-rest-preserved
loop-rest-preserved c = next_byte c.loop-rest.bytes.items c.push.new.self.items c.loop-rest.rest.now c.in_ok-byte.byte _ c.in-len2-up.len_at_least c.in_ok-byte.ensures c.in_ok-push.ensures.items c.loop-rest.invariant
