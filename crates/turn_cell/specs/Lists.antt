-- Lists that only gain entries at their end.
use Rattle.std.specs.Prelude.{◌≡◌, ◌⊎◌, List, [], ◌∷◌, ◌++◌, length, if◌then◌else◌, nat_lt, Option, slice_get}

module _ {E : Type 0} where
  -- the list begins with these entries
  abbrev pub StartsWith : List E → List E → Type 0
  StartsWith list xs = (rest : List E) × (list ≡ xs ++ rest)

  -- the list stays, or has one more entry at its end
  abbrev pub Grows : List E → List E → Type 0
  Grows old new = (new ≡ old) ⊎ ((entry : E) × (new ≡ old ++ entry ∷ []))

  -- the entry that the new list has right behind the old ones
  abbrev pub added : List E → List E → Option E
  added old new = slice_get new (length old)

  -- the longer of two lists, the first where they are as long
  abbrev pub longer : List E → List E → List E
  longer xs ys = if nat_lt (length xs) (length ys) then ys else xs

  -- the other of the two
  abbrev pub shorter : List E → List E → List E
  shorter xs ys = if nat_lt (length xs) (length ys) then xs else ys
