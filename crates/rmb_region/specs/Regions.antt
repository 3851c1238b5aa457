-- The buffer of an RMB: which ranges of addresses lie in it, what a landing writes, and what a reader finds in an element.
use Rattle.std.specs.Prelude.{◌≡◌, ℕ, ◌+◌, ◌-◌, ◌*◌, ◌%◌, ◌<◌, ◌≤◌, List, ◌++◌, length, take, drop, replicate, slice_index_or}
use Rattle.smc_num.specs.Places.{Place, rmb_address}

-- the buffer of an RMB: so many elements of `size` bytes each, and what they hold, one behind the other
pub record Buffer : Type 0 where
  pub rmb : ℕ
  pub elements : ℕ
  pub size : ℕ
  pub bytes : List ℕ

-- it has all its bytes
pub record IsWhole (b : Buffer) : Type 0 where
  pub some : 0 < b.size
  pub all : length b.bytes ≡ b.elements * b.size

-- a buffer in which nothing has landed
abbrev pub fresh : ℕ → ℕ → ℕ → Buffer
fresh rmb elements size = record { rmb = rmb; elements = elements; size = size; bytes = replicate (elements * size) 0 }

-- where in the buffer an address lies
abbrev pub offset : ℕ → Buffer → ℕ
offset address b = address - rmb_address b.rmb

-- so many bytes from an address on lie in the buffer
pub record IsInside (address len : ℕ) (b : Buffer) : Type 0 where
  pub begins : rmb_address b.rmb ≤ address
  pub ends : address + len ≤ rmb_address b.rmb + b.elements * b.size

-- the bytes stand from an address on, and all others are as they were
abbrev pub lands : ℕ → List ℕ → Buffer → Buffer
lands address bytes b = record b { bytes = take (offset address b) b.bytes ++ (bytes ++ drop (offset address b + length bytes) b.bytes) }

-- an element of the buffer, from 1
abbrev pub place : Buffer → ℕ → Place
place b index = record { rmb = b.rmb; index = index }

-- the bytes of an element
abbrev pub element : ℕ → Buffer → List ℕ
element index b = take b.size (drop ((index - 1) * b.size) b.bytes)

-- a list from a place on, and round its end up to that place
abbrev pub round_from : ℕ → List ℕ → List ℕ
round_from from bytes = drop from bytes ++ take from bytes

-- so many bytes of an element from a place on, which goes round and round the element
abbrev pub read_round : ℕ → ℕ → ℕ → Buffer → List ℕ
read_round index from len b = take len (round_from (from % b.size) (element index b))

-- the byte at an address
abbrev pub byte_at : ℕ → Buffer → ℕ
byte_at address b = slice_index_or b.bytes (offset address b) 0
