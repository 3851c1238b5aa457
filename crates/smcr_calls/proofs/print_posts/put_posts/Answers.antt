use Rattle.std.proofs.Common.{arith}
use Rattle.scene_text.specs.PostText.{post_line}
use Rattle.smcr_calls.specs.Prints.{names_of}
use Rattle.smcr_calls.proofs.Listing.{next_put, next_cut}
use Rattle.smcr_calls.proofs.print_posts.put_posts.Goals as goal

pub returns-in_err-put_post_line-clause-wrote : goal.returns-in_err-put_post_line-clause-wrote
returns-in_err-put_post_line-clause-wrote g c =
    next_cut (post_line (names_of c.args.names.now)) _ _ _ c.loop-post-test.true _ _ _ _ _ _ c.loop-post.invariant.going _ c.from_residual.ensures.0 c.in_err-put_post_line.ensures.wrote

pub loop-post-preserved : goal.loop-post-preserved
loop-post-preserved g c =
    record {
      going = next_put (post_line (names_of c.args.names.now)) _ _ _ c.loop-post-test.true _ _ _ _ _ _ c.loop-post.invariant.going c.in_ok-put_post_line.ensures.wrote;
      later = omega (arith, c.loop-post.invariant.later, c.in_ok-put_post_line.ensures.cause.later);
    }
