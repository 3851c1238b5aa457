-- What stands in a list.
use Rattle.std.specs.Prelude.{List, [], ◌∷◌, ◌≡◌, ◌⊎◌}

-- a thing is one of these
abbrev pub IsAmong : {X : Type 0} → X → List X → Type 0
IsAmong k [] = ⊥
IsAmong k (j ∷ js) = (k ≡ j) ⊎ IsAmong k js
