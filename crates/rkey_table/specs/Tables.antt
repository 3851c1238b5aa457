-- A side's table of keys: which numbers it has, which keys are bound now, and what is true of these.
use Rattle.std.specs.Prelude.{◌≡◌, ℕ, ◌+◌, ◌<◌, ◌≤◌, false, List, [], ◌∷◌}
use Rattle.smc_num.specs.Keys.{Key, is_used, lowest_unused, AreBoundApart}

-- the numbers are those from base + 1 to base + places; the keys are in the order in which they were bound
pub record Table : Type 0 where
  pub base : ℕ
  pub places : ℕ
  pub keys : List Key

-- each number stands once, so each key is bound to one RMB
abbrev pub AreApart : List Key → Type 0
AreApart [] = Unit {0}
AreApart (k ∷ keys) = (is_used k.key keys ≡ false) × AreApart keys

-- each number is one of the table's
abbrev pub AreWithin : ℕ → ℕ → List Key → Type 0
AreWithin base places [] = Unit {0}
AreWithin base places (k ∷ keys) = (base < k.key) × (k.key ≤ base + places) × AreWithin base places keys

-- what is true of the keys of every table
pub record IsTable (t : Table) : Type 0 where
  pub apart : AreApart t.keys
  pub bound_apart : AreBoundApart t.keys
  pub within : AreWithin t.base t.places t.keys

-- all numbers of the table are in use: the lowest unused one lies behind them
abbrev pub AllUsed : Table → Type 0
AllUsed t = t.base + t.places < lowest_unused t.base t.keys
