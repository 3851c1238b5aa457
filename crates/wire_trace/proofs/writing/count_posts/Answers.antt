use Rattle.std.proofs.Common.{arith}
use Rattle.wire_trace.proofs.FrameByFrame.{next_count}
use Rattle.wire_trace.proofs.writing.count_posts.Goals as goal

pub loop-entry-preserved : goal.loop-entry-preserved
loop-entry-preserved c =
    let next = next_count c.args.entries.now c.loop-entry.entry-index c.entry-item.result c.as_slice.result.now c.entry-item.is c.as_slice.ensures.posts c.loop-entry-test.true in
    record {
      all = omega (arith, next, c.loop-entry.invariant.all);
      few = omega (arith, c.loop-entry.invariant.few, c.as_slice.ensures.few);
    }
