-- One direction of a TCP connection, as its two ends see it. A reader learns here what a stream holds, and how much.
use Rattle.std.specs.Prelude.{ℕ, ◌-◌, Bool, false, List, [], length}

-- the bytes that are there, oldest first, whether more will come, and whether the other end gave up
pub record Direction : Type 0 where
  pub held : List ℕ
  pub ended : Bool
  pub reset : Bool

-- the bytes that a stream has places for
abbrev pub room : ℕ
room = 65_536

-- the places that are free
abbrev pub free : Direction → ℕ
free d = room - length d.held

-- a stream into which nothing was put
abbrev pub fresh : Direction
fresh = record { held = []; ended = false; reset = false }
