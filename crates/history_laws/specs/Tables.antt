-- Tables of links whose slots rise.
use Rattle.std.specs.Prelude.{List, [], ℕ, ◌+◌, ◌∷◌, ◌≤◌}
use Rattle.history_laws.specs.Words.{Known}

-- slots rise from this one on
abbrev pub Rises : ℕ → List Known → Type 0
Rises low [] = Unit {0}
Rises low (k ∷ ks) = (low ≤ k.link.slot) × Rises (k.link.slot + 1) ks
