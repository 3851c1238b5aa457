-- The settings of a scene that sets nothing.
-- A reader learns here which peers meet where a scene says no more.
use Rattle.std.specs.Prelude.{true, [], ◌∷◌}
use Rattle.pipe_model.specs.declared.setup.Setup.{Setup}
use Rattle.pipe_model.specs.declared.setup.Room.{Room}

-- both sides capable in subnet 10.0.0.0/24, two slots, two RMBs a side of four elements of 16,384 bytes, one socket
-- ours: what a scene gets that sets nothing
abbrev pub default_setup : Setup
default_setup = record {
  capable = true ∷ true ∷ [];
  subnet = (167772160, 24) ∷ (167772160, 24) ∷ [];
  links = 2;
  size_code = 0;
  rmbs = 2 ∷ 2 ∷ [];
  elements = 4 ∷ 4 ∷ [];
  depth = 1;
  number = 1;
  sockets = 1;
}

-- 65,536 entries, and 1 MiB handed out in all
-- ours: what a scene gets that sets nothing
abbrev pub default_room : Room
default_room = record { entries = 65536; bytes = 1048576 }
