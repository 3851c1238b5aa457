use Rattle.std.proofs.Common.{◌≡◌, All, length, vec_capacity}
use Rattle.side_core.specs.Inside.{IsMade, made_with}
use Rattle.side_core.proofs.connections.idle_ends.Given as goal

-- so many ends were made, and the list has its room
abbrev pub invariant-loop-made : goal.invariant-loop-made
invariant-loop-made l = record {
  count : length l.ends.items ≡ l._made;
  made : All (IsMade (made_with l.size l.depth l.number)) l.ends.items;
  room : vec_capacity l.ends ≡ l.room;
}
