use Rattle.std.proofs.Common.{arith}
use Rattle.smcr_calls.specs.ShowLines.{reading_text}
use Rattle.smcr_calls.proofs.Listing.{next_put, next_cut}
use Rattle.smcr_calls.proofs.show.put_readings.Goals as goal

pub returns-in_err-put_reading-clause-wrote : goal.returns-in_err-put_reading-clause-wrote
returns-in_err-put_reading-clause-wrote g c =
    next_cut reading_text _ _ _ c.loop-reading-test.true _ _ _ _ _ _ c.loop-reading.invariant.going _ c.from_residual.ensures.0 c.in_err-put_reading.ensures.wrote

pub loop-reading-preserved : goal.loop-reading-preserved
loop-reading-preserved g c =
    record {
      going = next_put reading_text _ _ _ c.loop-reading-test.true _ _ _ _ _ _ c.loop-reading.invariant.going c.in_ok-put_reading.ensures.wrote;
      later = omega (arith, c.loop-reading.invariant.later, c.in_ok-put_reading.ensures.cause.later);
    }
