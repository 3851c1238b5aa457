-- What items of a connection pass a test.
use Rattle.std.specs.Prelude.{Bool, List, [], true, ◌∷◌, ◌≡◌}
use Rattle.history_laws.specs.Words.{Item}

-- that each item passes a test
abbrev pub EachItem : (Item → Bool) → List Item → Type 0
EachItem test [] = Unit {0}
EachItem test (item ∷ items) = (test item ≡ true) × EachItem test items
