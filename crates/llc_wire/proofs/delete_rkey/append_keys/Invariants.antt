use Rattle.std.proofs.Common.{◌≡◌, ◌+◌, ◌*◌, ◌++◌, length, take}
use Rattle.llc_wire.specs.DeleteRkey.{keys_bytes}
use Rattle.llc_wire.proofs.delete_rkey.append_keys.Given as goal

abbrev pub invariant-loop-key : goal.invariant-loop-key
invariant-loop-key l = record {
  appended : l.out.items ≡ l.initial.out.items ++ keys_bytes (take l.key-index l.keys);
  room : length l.out.items ≡ length l.initial.out.items + 4 * l.key-index;
}
