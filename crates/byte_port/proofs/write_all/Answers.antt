use Rattle.std.proofs.Common.{arith}
use Rattle.byte_port.proofs.Growing.{grew-more, rest-is}
use Rattle.byte_port.proofs.write_all.Goals as goal

pub loop-done-preserved : goal.loop-done-preserved
loop-done-preserved g c =
    record {
      within = grind arith;
      grew = grew-more _ _ _ _ c.args.text.now _ c.loop-done.done c.in_ok-count.count c.loop-done.invariant.grew (rest-is c.args.text.now c.loop-done.done) c.in_ok-count.ensures.bytes;
      later = omega (arith, c.loop-done.invariant.later, c.in_ok-count.ensures.cause.later);
    }
