-- The fixed fields of messages, by their places. All numbers are big-endian.
use Rattle.std.specs.Prelude.{ℕ, zero, suc, ◌+◌, List, [], ◌∷◌, drop, slice_range}
use Rattle.byteorder.specs.Endian.{big_number}

-- so many bytes that are 0, as reserved bytes are written
abbrev pub zeros : ℕ → List ℕ
zeros zero = []
zeros (suc n) = 0 ∷ zeros n

-- the number in the `width` bytes at a place
abbrev pub number_at : ℕ → ℕ → List ℕ → ℕ
number_at width place bytes = big_number width (drop place bytes)

-- the `count` bytes at a place
abbrev pub bytes_at : ℕ → ℕ → List ℕ → List ℕ
bytes_at count place bytes = slice_range bytes place (place + count)
