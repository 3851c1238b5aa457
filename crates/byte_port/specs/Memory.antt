-- What is seen of a source and of a sink in memory.
-- A reader learns here what the two tell of themselves: all.
use Rattle.std.specs.Prelude.{ℕ, ◌+◌, ◌-◌, ◌^◌, min, List}

-- a source in memory: the bytes that are left, its calls so far, which calls fail, how many did
pub record Supply : Type 0 where
  pub left : List ℕ
  pub calls : ℕ
  pub fail : List ℕ
  pub faults : ℕ

-- a sink in memory: the bytes that it holds, how many it may, its calls so far, which fail, how many did
pub record Store : Type 0 where
  pub held : List ℕ
  pub room : ℕ
  pub calls : ℕ
  pub fail : List ℕ
  pub faults : ℕ

-- the number of the next call, which stays at the greatest u32
abbrev pub later_call : ℕ → ℕ
later_call calls = min (calls + 1) (2 ^ 32 - 1)
