-- Which postings a ring keeps for the snapshots under way, each of which tells how many bytes were posted. A snapshot may
-- tell what the one before it told.
use Rattle.std.specs.Prelude.{ℕ, ◌≤◌, nat_lt, if◌then◌else◌, List, [], ◌∷◌}

-- counts that do not fall, from a first one on
abbrev pub Climbs : ℕ → List ℕ → Type 0
Climbs from [] = Unit {0}
Climbs from (told ∷ tolds) = (from ≤ told) × Climbs told tolds

-- those of the counts that are above all before them
abbrev pub rising : ℕ → List ℕ → List ℕ
rising from [] = []
rising from (told ∷ tolds) = if nat_lt from told then told ∷ rising told tolds else rising from tolds
