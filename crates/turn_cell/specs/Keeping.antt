-- The rule that every step of the table keeps.
use Rattle.std.specs.Prelude.{◌≡◌, ◌<◌, ◌≤◌, ◌+◌, ◌*◌, ◌^◌, ◌⊎◌, ℕ, true, false, List, [], ◌∷◌, length, Option, Some, nat_lt}
use mathlib.Core.Option.{some, none}
use lib.ListN.{get_elem?}
use Rattle.atomic_table.specs.Table.{State}
use Rattle.atomic_table.specs.Seated.{TableId}
use Rattle.turn_cell.specs.declared.rule.SeatView.{SeatView}
use Rattle.turn_cell.specs.Lists.{StartsWith}
use Rattle.turn_cell.specs.Places.{one_if, times, Below, Rising}

-- the seat is one of the table's, which has two words and one slot
pub record IsSeatOf (seat table : TableId) : Type 0 where
  pub same : seat ≡ table
  pub words : table.words ≡ 2
  pub slots : table.slots ≡ 1

-- the number is at most k, or is the last of all, k + 1, which comes again
abbrev pub AtMost : ℕ → ℕ → Type 0
AtMost k n = (n ≤ k) ⊎ ((k + 1 ≡ 2 ^ 63) × (n ≡ 2 ^ 63))

-- 1 for each place below n, 0 for each other
abbrev pub once_below : ℕ → ℕ → ℕ
once_below p n = one_if (nat_lt p n)

module _ {E : Type 0} where
  -- the sum over all seats
  abbrev pub total_of : (SeatView E → ℕ) → List (SeatView E) → ℕ
  total_of f [] = 0
  total_of f (v ∷ vs) = f v + total_of f vs

  -- the places of a seat's own calls lie in what it has seen, rising; one that has no seat left has none
  pub record Owns (seen : List E) (mine : List ℕ) (seats : ℕ) : Type 0 where
    pub rising : Rising mine
    pub below : Below (length seen) mine
    pub spent : seats ≡ 0 → mine ≡ []

  -- a seat while the turn is free, after k turns
  pub record AtHome (k : ℕ) (log : List E) (v : SeatView E) : Type 0 where
    pub idle : v.has_turn ≡ false
    pub begins : StartsWith log v.seen
    pub begins_beside : StartsWith log v.beside
    pub last : AtMost k v.last
    pub met : AtMost k v.met
    pub owns : Owns v.seen v.mine v.seats

  -- the seat that has turn k + 1 has seen the whole list
  pub record HasTurn (k : ℕ) (log : List E) (holder id : ℕ) (v : SeatView E) : Type 0 where
    pub is_holder : id ≡ holder
    pub number : v.last ≡ k + 1
    pub seen : v.seen ≡ log
    pub not_spent : 0 < v.seats

  -- a seat while `holder` has turn k + 1
  pub record AtWork (k : ℕ) (log : List E) (holder id : ℕ) (v : SeatView E) : Type 0 where
    pub working : v.has_turn ≡ true → HasTurn k log holder id v
    pub begins : StartsWith log v.seen
    pub begins_beside : StartsWith log v.beside
    pub last : v.has_turn ≡ false → AtMost k v.last
    pub met : AtMost (k + 1) v.met
    pub owns : Owns v.seen v.mine v.seats

  -- what holds of each seat by its number; the seats add up, and each place below n is in just one seat's
  pub record Standing (P : ℕ → SeatView E → Type 0) (seats n : ℕ) (views : List (SeatView E)) : Type 0 where
    pub each : (id : ℕ) (v : SeatView E) → get_elem? views id ≡ some v → P id v
    pub sum : total_of (λ v. v.seats) views ≡ seats
    pub once : (p : ℕ) → total_of (λ v. times p v.mine) views ≡ once_below p n

  module _ {M F : Type 0} (list : M → List E) (fixed_of : M → F) (fixed : F) (seats : ℕ) (s : State (Option M) (SeatView E)) where
    -- the turn is free after k turns, and the machine is in its slot
    pub record Home : Type 0 where
      pub k : ℕ
      pub log : List E
      pub machine : M
      pub words : s.words ≡ length log ∷ (2 * k) ∷ []
      pub homes : s.homes ≡ some (Some machine) ∷ []
      pub list_is : list machine ≡ log
      pub fixed_is : fixed_of machine ≡ fixed
      pub few : k < 2 ^ 63
      pub short : length log < 2 ^ 32
      pub views : Standing (λ _ v. AtHome k log v) seats (length log) s.views

    -- turn k + 1 is out with a seat, and so is the slot
    pub record Work : Type 0 where
      pub k : ℕ
      pub log : List E
      pub holder : ℕ
      pub words : s.words ≡ length log ∷ (2 * k + 1) ∷ []
      pub homes : s.homes ≡ none ∷ []
      pub few : k < 2 ^ 63
      pub short : length log < 2 ^ 32
      pub views : Standing (AtWork k log holder) seats (length log) s.views
      pub worker : SeatView E
      pub worker_is : get_elem? s.views holder ≡ some worker
      pub working : worker.has_turn ≡ true

  abbrev pub Kept : {M F : Type 0} → (M → List E) → (M → F) → F → ℕ → State (Option M) (SeatView E) → Type 0
  Kept list fixed_of fixed seats s = Home list fixed_of fixed seats s ⊎ Work list fixed_of fixed seats s
