use Rattle.std.proofs.Common.{arith, ◌++◌, codes}
use Rattle.scene_text.specs.PostText.{token_text}
use Rattle.smcr_calls.proofs.Listing.{next_put, next_cut}
use Rattle.smcr_calls.proofs.print_posts.put_more_tokens.Goals as goal

pub returns-in_err-put_later_token-clause-wrote : goal.returns-in_err-put_later_token-clause-wrote
returns-in_err-put_later_token-clause-wrote g c =
    next_cut (λ x. codes "," ++ token_text x) _ _ _ c.loop-token-test.true _ _ _ _ _ _ c.loop-token.invariant.going _ c.from_residual.ensures.0 c.in_err-put_later_token.ensures.wrote

pub loop-token-preserved : goal.loop-token-preserved
loop-token-preserved g c =
    record {
      going = next_put (λ x. codes "," ++ token_text x) _ _ _ c.loop-token-test.true _ _ _ _ _ _ c.loop-token.invariant.going c.in_ok-put_later_token.ensures.wrote;
      later = omega (arith, c.loop-token.invariant.later, c.in_ok-put_later_token.ensures.cause.later);
    }
