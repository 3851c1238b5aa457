-- What each step tells the seat that makes it.
use Rattle.std.specs.Prelude.{◌≡◌, ◌<◌, ◌≤◌, ◌+◌, ◌/◌, ◌%◌, ◌^◌, ℕ, true, false, List, [], ◌∷◌, ◌++◌, length, Option, Some, MatchOption}
use Rattle.atomic_table.specs.Table.{Me, Step}
use Rattle.turn_cell.specs.declared.rule.SeatView.{SeatView}
use Rattle.turn_cell.specs.Lists.{StartsWith}
use Rattle.turn_cell.specs.Places.{EachOnce}
use Rattle.turn_cell.specs.Calls.{IsLater}
use Rattle.turn_cell.specs.Keeping.{Owns}

-- the turn was free: now the seat has it, and the machine, whose list it has seen
pub record TookTurn {E M F : Type 0} (list : M → List E) (fixed_of : M → F) (fixed : Option F) (seats turn : ℕ) (old new : Me (Option M) (SeatView E)) : Type 0 where
  pub machine : M
  pub slot : new.1 ≡ (0, Some machine) ∷ []
  pub view : new.0 ≡ record old.0 { seen = list machine; tries = old.0.tries + 1; last = turn; has_turn = true }
  pub fixed_is : Some (fixed_of machine) ≡ fixed
  pub begins : StartsWith (list machine) old.0.seen
  pub alone : old.0.seats ≡ seats → list machine ≡ old.0.seen
  pub later : IsLater old.0.last turn
  pub number : turn ≤ 2 ^ 63

module _ {E S : Type 0} where
  -- the turn was out
  pub record FoundOut (seats turn : ℕ) (old new : Me S (SeatView E)) : Type 0 where
    pub slots : new.1 ≡ old.1
    pub view : new.0 ≡ record old.0 { tries = old.0.tries + 1; met = turn }
    pub later : IsLater old.0.last turn
    pub shared : old.0.seats < seats

  -- the count was raised for the entry, whose place is the seat's own
  abbrev pub Raises : Option E → Step S → Me S (SeatView E) → ℕ → Me S (SeatView E) → Type 0
  Raises entry s old found new = MatchOption entry (Unit {0}) (λ e. new.0 ≡ record old.0 { seen = old.0.seen ++ e ∷ []; mine = old.0.mine ++ length old.0.seen ∷ [] }) × (new.1 ≡ old.1)

  -- the turn was given back, and the slot with it
  abbrev pub GivesBack : Step S → Me S (SeatView E) → ℕ → Me S (SeatView E) → Type 0
  GivesBack s old found new = (new.0 ≡ record old.0 { has_turn = false }) × (new.1 ≡ [])

-- one of the two, by the turn word that was found
abbrev pub Takes : {E M F : Type 0} → (M → List E) → (M → F) → Option F → ℕ → Step (Option M) → Me (Option M) (SeatView E) → ℕ → Me (Option M) (SeatView E) → Type 0
Takes list fixed_of fixed seats s old found new = (found % 2 ≡ 0 → TookTurn list fixed_of fixed seats (found / 2 + 1) old new) × (found % 2 ≡ 1 → FoundOut seats (found / 2 + 1) old new)

-- what a seat that took in another knows by its next look
pub record Holds {E : Type 0} (seats : ℕ) (v : SeatView E) : Type 0 where
  pub owns : Owns v.seen v.mine v.seats
  pub within : v.seats ≤ seats
  pub begins : length v.beside ≤ length v.seen → StartsWith v.seen v.beside
  pub whole : v.seats ≡ seats → EachOnce (length v.seen) v.mine

abbrev pub Looks : {E S : Type 0} → ℕ → Step S → Me S (SeatView E) → ℕ → Me S (SeatView E) → Type 0
Looks seats s old found new = (new ≡ old) × Holds seats old.0

-- the machine that is left where one seat has all seats
pub record IsLast {E M F : Type 0} (list : M → List E) (fixed_of : M → F) (fixed : F) (seats : ℕ) (v : SeatView E) (machine : M) : Type 0 where
  pub all : v.seats ≡ seats
  pub list_is : list machine ≡ v.seen
  pub fixed_is : fixed_of machine ≡ fixed
  pub once : EachOnce (length (list machine)) v.mine
