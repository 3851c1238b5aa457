-- Lists with at most one element a slot.
-- A reader learns here why eight places are enough for the tests and the deletions of a side.
use Rattle.std.specs.Prelude.{◌≡◌, ℕ, ◌≤◌, ◌==◌, false, List, [], ◌∷◌}
use Rattle.std.specs.List.{list_any}

-- each element is for a slot from 1 to 8, and no two are for one slot
abbrev pub AreApart : {X : Type 0} → (X → ℕ) → List X → Type 0
AreApart slot [] = Unit {0}
AreApart slot (x ∷ xs) = ((1 ≤ slot x) × (slot x ≤ 8) × (list_any (λ y. slot x == slot y) xs ≡ false)) × AreApart slot xs
