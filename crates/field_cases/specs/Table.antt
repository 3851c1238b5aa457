-- Decision tables: which rows stand for a case, and what is wrong with a table.
use Rattle.std.specs.Prelude.{◌≡◌, ◌<◌, ◌≤◌, ◌==◌, ◌&&◌, ◌⊎◌, ℕ, zero, suc, Bool, true, false, not, List, [], ◌∷◌, slice_get, Some, position, is_some, find}
use Rattle.std.specs.List.{list_any}
use Rattle.std.specs.Option.{option_map_or}
use Rattle.field_cases.specs.declared.table.Row.{Row}
use Rattle.field_cases.specs.declared.table.RowFault.{RowFault}
use Rattle.field_cases.specs.declared.table.RowFault.TheVariants.{Twice, Missing}

-- whether the row is of this case
abbrev pub is_case : ℕ → ℕ → Row → Bool
is_case state message row = row.state == state && row.message == message

-- whether the two rows are of one case
abbrev pub same_case : Row → Row → Bool
same_case a b = a.state == b.state && a.message == b.message

-- whether rows stand at both places and are of one case
abbrev pub same_at : List Row → ℕ → ℕ → Bool
same_at rows i j = option_map_or (λ a. option_map_or (same_case a) (slice_get rows j) false) (slice_get rows i) false

-- no two rows are of one case
abbrev pub HasNoTwin : List Row → Type 0
HasNoTwin rows = (i j : ℕ) → i < j → same_at rows i j ≡ false

-- behind row i the first row of its case is row j
abbrev pub IsNextTwin : List Row → ℕ → ℕ → Type 0
IsNextTwin rows i j = (i < j) × (same_at rows i j ≡ true) × ((k : ℕ) → i < k → k < j → same_at rows i k ≡ false)

-- of the pairs of rows of one case, (i, j) has the least first place, and of those the least second
abbrev pub IsFirstTwin : List Row → ℕ → ℕ → Type 0
IsFirstTwin rows i j = (i < j) × (same_at rows i j ≡ true) × ((a b : ℕ) → a < b → same_at rows a b ≡ true → (i < a) ⊎ ((i ≡ a) × (j ≤ b)))

-- whether the case has a row
abbrev pub has_row : List Row → ℕ → ℕ → Bool
has_row rows state message = is_some (position (is_case state message) rows)

-- each case has a row
abbrev pub IsWhole : List Row → ℕ → ℕ → Type 0
IsWhole rows states messages = (s m : ℕ) → s < states → m < messages → has_row rows s m ≡ true

-- of the messages without a row in this state, m is the least
abbrev pub IsFirstGapOf : List Row → ℕ → ℕ → ℕ → Type 0
IsFirstGapOf rows state messages m = (m < messages) × (has_row rows state m ≡ false) × ((k : ℕ) → k < m → has_row rows state k ≡ true)

-- of the cases without a row, (s, m) has the least state, and of those the least message
abbrev pub IsFirstGap : List Row → ℕ → ℕ → ℕ → ℕ → Type 0
IsFirstGap rows states messages s m = (s < states) × (m < messages) × (has_row rows s m ≡ false)
    × ((a b : ℕ) → a < states → b < messages → has_row rows a b ≡ false → (s < a) ⊎ ((s ≡ a) × (m ≤ b)))

-- each case has exactly one row
abbrev pub IsSound : List Row → ℕ → ℕ → Type 0
IsSound rows states messages = HasNoTwin rows × IsWhole rows states messages

-- what is wrong with a table: its first twins, or where there are none its first gap
abbrev pub IsFault : List Row → ℕ → ℕ → RowFault → Type 0
IsFault rows states messages (Twice i j) = IsFirstTwin rows i j
IsFault rows states messages (Missing s m) = HasNoTwin rows × IsFirstGap rows states messages s m

-- some row gives this case this action
abbrev pub IsRow : List Row → ℕ → ℕ → ℕ → Type 0
IsRow rows s m action = (i : ℕ) × (slice_get rows i ≡ Some (record { state = s; message = m; action = action }))

-- the action of the first row of the case, which computes on a table that is written out
abbrev pub action_of : List Row → ℕ → ℕ → ℕ
action_of rows s m = option_map_or (λ row. row.action) (find (is_case s m) rows) 0

-- no row behind a row is of its case
abbrev pub has_no_twin : List Row → Bool
has_no_twin [] = true
has_no_twin (row ∷ rows) = not (list_any (same_case row) rows) && has_no_twin rows

-- whether a test passes at each number below n
abbrev pub all_below : ℕ → (ℕ → Bool) → Bool
all_below zero test = true
all_below (suc n) test = test n && all_below n test

-- whether each case has exactly one row, as a test that computes on a table that is written out
abbrev pub is_sound : List Row → ℕ → ℕ → Bool
is_sound rows states messages = has_no_twin rows && all_below states (λ s. all_below messages (λ m. has_row rows s m))
