-- How a ring is kept: two places as cursors, and all else as distances from them, so that nothing grows with the bytes that
-- went through it. A reader learns here which plain counts a kept ring stands for.
use Rattle.std.specs.Prelude.{◌≡◌, ℕ, ◌+◌, ◌%◌, ◌<◌, ◌≤◌, List, length, map}
use Rattle.smc_num.specs.declared.Cursor.{Cursor}
use Rattle.smc_num.specs.Numbers.{cursor_of}
use Rattle.cdc_ring.specs.declared.Piece.{Piece}
use Rattle.cdc_ring.specs.Rings.{Ring, Rises, accepted}

-- a kept ring: where the completed bytes end, the accepted bytes behind those, how many of these were posted at each
-- posting, where the bytes end that the peer has read, and how many accepted bytes are behind those
pub record Kept : Type 0 where
  pub size : ℕ
  pub completed : Cursor
  pub bytes : List ℕ
  pub marks : List ℕ
  pub acked : Cursor
  pub unread : ℕ

-- it is within the element
pub record IsKept (kept : Kept) : Type 0 where
  pub some : 0 < kept.size
  pub rounds : kept.completed.wrap < 65_536
  pub inside : kept.completed.count < kept.size
  pub held : length kept.bytes ≤ kept.size
  pub unread : kept.unread ≤ kept.size
  pub marks : Rises 0 kept.marks (length kept.bytes)

-- a kept ring stands for a ring in plain counts
pub record Represents (kept : Kept) (ring : Ring) : Type 0 where
  pub whole : IsKept kept
  pub size : kept.size ≡ ring.size
  pub completed : kept.completed ≡ cursor_of ring.size ring.completed
  pub bytes : kept.bytes ≡ ring.bytes
  pub posted : ring.posted ≡ map (λ mark. ring.completed + mark) kept.marks
  pub acked : kept.acked ≡ cursor_of ring.size ring.acked
  pub unread : ring.acked + kept.unread ≡ accepted ring

-- a cursor stands for a place of the ring, from a given one up to the accepted end
pub record IsPlaceFrom (start : Ring → ℕ) (kept : Kept) (cursor : Cursor) : Type 0 where
  pub ring : Ring
  pub stands : Represents kept ring
  pub place : ℕ
  pub spelled : cursor ≡ cursor_of ring.size place
  pub from : start ring ≤ place
  pub to : place ≤ accepted ring

-- a piece of accepted bytes none of which has completed
pub record IsHeld (piece : Piece) (kept : Kept) : Type 0 where
  pub ring : Ring
  pub stands : Represents kept ring
  pub from : ℕ
  pub spelled : piece.place ≡ from % ring.size
  pub low : ring.completed ≤ from
  pub high : from + piece.len ≤ accepted ring
