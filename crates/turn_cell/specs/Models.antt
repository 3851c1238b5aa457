-- What contracts see of a turn and of its passes.
use Rattle.std.specs.Prelude.{ℕ, List}
use Rattle.atomic_table.specs.Seated.{TableId}

-- which turn it is
abbrev pub TurnId : Type 0
TurnId = TableId

-- a turn: its number of seats, and the fixed part of its machine
pub record TurnModel (F : Type 0) : Type 0 where
  pub id : TurnId
  pub seats : ℕ
  pub fixed : F

-- a pass of the turn `turn`: the entries that it has seen, the places in them of its own calls, its seats, how often it has tried to take the turn, the number of the last turn that it has taken, and of the turn that it last found out; 0 where there is none
pub record PassModel (E : Type 0) : Type 0 where
  pub turn : TurnId
  pub seen : List E
  pub mine : List ℕ
  pub seats : ℕ
  pub tries : ℕ
  pub last : ℕ
  pub met : ℕ
