use Rattle.std.proofs.Common.{◌≡◌, ◌≤◌, replicate, vec_capacity}
use Rattle.world_core.specs.Sending.{still}
use Rattle.world_core.proofs.host.add_flows.Given as goal

-- so many sockets are still, and the list has room for all
abbrev pub invariant-loop-socket : goal.invariant-loop-socket
invariant-loop-socket l = record {
  still : l.flows.items ≡ replicate l._socket still;
  room : l.sockets ≤ vec_capacity l.flows;
}
