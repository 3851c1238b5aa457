use Rattle.std.proofs.Common.{◌≡◌, length}
use Rattle.smcr_calls.specs.ShowLines.{bytes_of}
use Rattle.smcr_calls.proofs.Showing.{with_front}
use Rattle.smcr_calls.proofs.show.bytes_of.Given as goal

-- the bytes so far and those of the rest are those of the digits
abbrev pub invariant-loop-rest : goal.invariant-loop-rest
invariant-loop-rest l = with_front l.bytes.items (bytes_of l.rest) ≡ bytes_of l.fn.digits

abbrev pub decreases-loop-rest : goal.decreases-loop-rest
decreases-loop-rest l = length l.rest
