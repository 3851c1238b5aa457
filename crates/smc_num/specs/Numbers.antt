-- What 16-bit numbers and cursors stand for. A 16-bit number stands for a plain number modulo 65,536. A cursor stands
-- for a place in a stream of bytes that goes round and round an element of `size` bytes.
use Rattle.std.specs.Prelude.{◌≡◌, ℕ, ◌+◌, ◌-◌, ◌/◌, ◌%◌, ◌≤◌, ◌&&◌, nat_lt, Bool}
use Rattle.smc_num.specs.declared.Seq16.{Seq16}
use Rattle.smc_num.specs.declared.Cursor.{Cursor}

-- the 16 bits of a plain number that a message carries
-- RFC 7609, A.4: sequence numbers and wrap counts have 16 bits
abbrev pub wire_number : ℕ → ℕ
wire_number n = n % 65_536

-- the 16-bit number that stands for a plain number
-- RFC 7609, A.4: sequence numbers and wrap counts have 16 bits
abbrev pub seq_of : ℕ → Seq16
seq_of n = record { 0 = wire_number n }

-- the cursor that stands for a place: how often the stream went round the element, and where in the element it is
-- RFC 7609, A.4
abbrev pub cursor_of : ℕ → ℕ → Cursor
cursor_of size place = record { wrap = wire_number (place / size); count = place % size }

-- how far a number is past another, on the circle of 65,536 numbers
-- ours: the RFC does not say how numbers compare that went round
abbrev pub past_by : ℕ → ℕ → ℕ
past_by n m = (wire_number n + (65_536 - wire_number m)) % 65_536

-- whether a number is past another by less than half of the circle
-- ours: the RFC does not say how numbers compare that went round
abbrev pub is_past : ℕ → ℕ → Bool
is_past n m = nat_lt 0 (past_by n m) && nat_lt (past_by n m) 32_768

-- a cursor is an earlier one moved on by at most one element
-- ours: the distance within which two cursors tell how far
pub record IsMovedOn (size : ℕ) (old new : Cursor) : Type 0 where
  pub from : ℕ
  pub to : ℕ
  pub starts : old ≡ cursor_of size from
  pub ends : new ≡ cursor_of size to
  pub forward : from ≤ to
  pub near : to ≤ from + size
