-- A set as the list of its members by rising place.
use Rattle.std.specs.Prelude.{◌==◌, ℕ, ◌<◌, List, length, Option, find, slice_index_or, false}
use Rattle.alert_board.specs.Alerts.{no_alert}
use Rattle.wait_set.specs.declared.member.Waiting.{Waiting}

-- the members, each with the number at which it was last picked, and how many there may be
pub record Shown : Type 0 where
  pub members : List Waiting
  pub most : ℕ

-- the member with this place
abbrev pub waiting_at : List Waiting → ℕ → Option Waiting
waiting_at members place = find (λ w. w.member.place == place) members

-- what is read past the end
abbrev pub nobody : Waiting
nobody = record { member = record { place = 0; mask = no_alert; edge = false }; picked = 0 }

-- the place of the i-th member
abbrev pub place_of : List Waiting → ℕ → ℕ
place_of members i = let w = slice_index_or members i nobody in w.member.place

-- the places rise, so no place is there twice
abbrev pub IsRising : List Waiting → Type 0
IsRising members = (i j : ℕ) → i < j → j < length members → place_of members i < place_of members j
