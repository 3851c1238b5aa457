use Rattle.std.proofs.Common.{arith, ◌++◌, codes}
use Rattle.std.specs.Fmt.{decimal}
use Rattle.smcr_calls.proofs.Listing.{next_put, next_cut}
use Rattle.smcr_calls.proofs.print_posts.put_more_keys.Goals as goal

pub returns-in_err-put_number_field-clause-wrote : goal.returns-in_err-put_number_field-clause-wrote
returns-in_err-put_number_field-clause-wrote g c =
    next_cut (λ x. codes "," ++ decimal x) _ _ 0 c.loop-key-test.true _ _ _ _ _ _ c.loop-key.invariant.going _ c.from_residual.ensures.0 c.in_err-put_number_field.ensures.wrote

pub loop-key-preserved : goal.loop-key-preserved
loop-key-preserved g c =
    record {
      going = next_put (λ x. codes "," ++ decimal x) _ _ 0 c.loop-key-test.true _ _ _ _ _ _ c.loop-key.invariant.going c.in_ok-put_number_field.ensures.wrote;
      later = omega (arith, c.loop-key.invariant.later, c.in_ok-put_number_field.ensures.cause.later);
    }
