use Rattle.std.proofs.Common.{◌≡◌, ◌≤◌, false, replicate, vec_capacity}
use Rattle.rc_link.specs.Wire.{empty}
use Rattle.world_core.proofs.wires.add_wires.Given as goal

-- so many wires are empty, and the list has room for all
abbrev pub invariant-loop-slot : goal.invariant-loop-slot
invariant-loop-slot l = record {
  empty : l.wires.items ≡ replicate l._slot (empty l.places false);
  room : l.slots ≤ vec_capacity l.wires;
}
