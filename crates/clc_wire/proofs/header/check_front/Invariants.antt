use Rattle.std.proofs.Common.{◌≡◌, drop}
use Rattle.clc_wire.specs.Header.{eye_at}
use Rattle.clc_wire.proofs.header.check_front.Given as goal

abbrev pub invariant-loop-place : goal.invariant-loop-place
invariant-loop-place l = eye_at 0 l.wanted l.bytes ≡ eye_at l.place (drop l.place l.wanted) l.bytes
