use Rattle.std.proofs.Common.{arith}
use Rattle.byte_port.proofs.Paging.{one_more}
use Rattle.wire_trace.proofs.FrameByFrame.{broke_off, next_frames}
use Rattle.wire_trace.proofs.writing.put_entries.Goals as goal

pub returns-in_err-put_posts-clause-wrote : goal.returns-in_err-put_posts-clause-wrote
returns-in_err-put_posts-clause-wrote g c =
    broke_off _ _ _ _ _ _ _ _ _ _ _ c.from_residual.ensures.0 c.loop-index.invariant.going
    (next_frames c.args.entries.now c.loop-index.index c.index-entries-index.result c.as_slice.result.now c.index-entries-index.is c.as_slice.ensures.posts c.loop-index-test.true) c.in_err-put_posts.ensures.wrote

pub loop-index-preserved : goal.loop-index-preserved
loop-index-preserved g c =
    record {
      going = one_more _ _ _ _ _ _ c.loop-index.invariant.going _ _ _ _
          (next_frames c.args.entries.now c.loop-index.index c.index-entries-index.result c.as_slice.result.now c.index-entries-index.is c.as_slice.ensures.posts c.loop-index-test.true) c.in_ok-put_posts.ensures.wrote;
      later = omega (arith, c.loop-index.invariant.later, c.in_ok-put_posts.ensures.cause.later);
    }
