use Rattle.std.proofs.Common.{◌≡◌, ◌≤◌, None, replicate, vec_capacity}
use Rattle.side_core.proofs.side.no_hands.Given as goal

-- so many sockets have no end, and the list has room for all
abbrev pub invariant-loop-socket : goal.invariant-loop-socket
invariant-loop-socket l = record {
  none : l.hands.items ≡ replicate l._socket None;
  room : l.sockets ≤ vec_capacity l.hands;
}
