use Rattle.std.proofs.Common.{arith}
use Rattle.scene_text.specs.Spelling.{hex_byte}
use Rattle.smcr_calls.proofs.Listing.{next_put, next_cut}
use Rattle.smcr_calls.proofs.show_text.put_hex_bytes.Goals as goal

pub returns-in_err-put_hex-clause-wrote : goal.returns-in_err-put_hex-clause-wrote
returns-in_err-put_hex-clause-wrote g c =
    next_cut hex_byte _ _ 0 c.loop-byte-test.true _ _ _ _ _ _ c.loop-byte.invariant.going _ c.from_residual.ensures.0 c.in_err-put_hex.ensures.wrote

pub loop-byte-preserved : goal.loop-byte-preserved
loop-byte-preserved g c =
    record {
      going = next_put hex_byte _ _ 0 c.loop-byte-test.true _ _ _ _ _ _ c.loop-byte.invariant.going c.in_ok-put_hex.ensures.wrote;
      later = omega (arith, c.loop-byte.invariant.later, c.in_ok-put_hex.ensures.cause.later);
    }
