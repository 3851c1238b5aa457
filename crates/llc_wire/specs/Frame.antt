-- What all LLC messages share: a type, the length 44, a byte that is mostly reserved, a byte of flags, and the fields.
use Rattle.std.specs.Prelude.{ℕ, ◌/◌, ◌%◌, ◌==◌, Bool, List, ◌∷◌, if◌then◌else◌}

-- whether a bit of a byte of flags is set
-- ours: a bit helper
abbrev pub is_set : ℕ → ℕ → Bool
is_set bit flags = flags / bit % 2 == 1

-- a bit of a byte of flags, where it is to be set
-- ours: a bit helper
abbrev pub flag : Bool → ℕ → ℕ
flag on bit = if on then bit else 0

-- the bytes of a message
-- after RFC 7609, A.3
abbrev pub frame : ℕ → ℕ → ℕ → List ℕ → List ℕ
frame kind second flags fields = kind ∷ 44 ∷ second ∷ flags ∷ fields
