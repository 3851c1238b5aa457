use Rattle.std.proofs.Common.{arith, ◌++◌, codes}
use Rattle.scene_text.specs.PostText.{new_key_text}
use Rattle.smcr_calls.proofs.Listing.{next_put, next_cut}
use Rattle.smcr_calls.proofs.print_posts.put_more_new_keys.Goals as goal

pub returns-in_err-put_later_new_key-clause-wrote : goal.returns-in_err-put_later_new_key-clause-wrote
returns-in_err-put_later_new_key-clause-wrote g c =
    next_cut (λ x. codes "," ++ new_key_text x) _ _ _ c.loop-key-test.true _ _ _ _ _ _ c.loop-key.invariant.going _ c.from_residual.ensures.0 c.in_err-put_later_new_key.ensures.wrote

pub loop-key-preserved : goal.loop-key-preserved
loop-key-preserved g c =
    record {
      going = next_put (λ x. codes "," ++ new_key_text x) _ _ _ c.loop-key-test.true _ _ _ _ _ _ c.loop-key.invariant.going c.in_ok-put_later_new_key.ensures.wrote;
      later = omega (arith, c.loop-key.invariant.later, c.in_ok-put_later_new_key.ensures.cause.later);
    }
