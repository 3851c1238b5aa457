use Rattle.std.proofs.Common.{arith}
use Rattle.byte_port.proofs.Paging.{one_more}
use Rattle.wire_trace.proofs.FrameByFrame.{broke_off, next_frame}
use Rattle.wire_trace.proofs.writing.put_posts.Goals as goal

pub returns-in_err-put_post-clause-wrote : goal.returns-in_err-put_post-clause-wrote
returns-in_err-put_post-clause-wrote g c =
    broke_off _ _ _ _ _ _ _ _ _ _ _ c.from_residual.ensures.0 c.loop-index.invariant.going (next_frame c.args.entry c.args.posts.now c.loop-index.index _ c.loop-index-test.true) c.in_err-put_post.ensures.wrote

pub loop-index-preserved : goal.loop-index-preserved
loop-index-preserved g c =
    record {
      going = one_more _ _ _ _ _ _ c.loop-index.invariant.going _ _ _ _ (next_frame c.args.entry c.args.posts.now c.loop-index.index _ c.loop-index-test.true) c.in_ok-put_post.ensures.wrote;
      later = omega (arith, c.loop-index.invariant.later, c.in_ok-put_post.ensures.cause.later);
    }
