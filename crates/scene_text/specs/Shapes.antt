-- What stands behind the first word of a line.
-- A reader learns here which words follow in each shape, and what they are read as. A word names its shape in Commands.
use Rattle.std.specs.Prelude.{ℕ, List, [], ◌∷◌, Option, Some, None, Result, Ok, Err, option_map}
use Rattle.smc_num.specs.declared.Side.{Side}
use Rattle.smc_num.specs.declared.Side.TheVariants as side
use Rattle.scene_text.specs.declared.faults.LineKind.{LineKind}
use Rattle.scene_text.specs.declared.faults.LineKind.TheVariants as kinds
use Rattle.scene_text.specs.declared.limits.TheConstants.{MOST_PUMP_STEPS, MOST_READ_BYTES}
use Rattle.scene_text.specs.declared.shapes.Shape.{Shape}
use Rattle.scene_text.specs.declared.shapes.Shape.TheVariants.{Name, Count, EndBytes, EndNumber, NameSide, SlotSide}
use Rattle.scene_text.specs.declared.shapes.Values.{Values as LentValues}
use Rattle.scene_text.specs.Words.{◌>>=◌, number_in, name_of, side_in, end_of, runs_of, bytes_in}

-- the values of a line: the socket that it names, and a side, a number, a slot and bytes; what its shape lacks is as in `no_values`
pub record Values : Type 0 where
  pub name : Option (List ℕ)
  pub side : Side
  pub number : ℕ
  pub slot : ℕ
  pub bytes : List ℕ

abbrev pub no_values : Values
no_values = record { name = None; side = side.A; number = 0; slot = 0; bytes = [] }

-- the same of values that lie in a line
abbrev pub plain_values : LentValues → Values
plain_values values = record { name = option_map (λ name. name.now) values.name; side = values.side; number = values.number; slot = values.slot; bytes = bytes_in values.runs.items }

-- `NAME`, `N`, `END BYTES`, `END N`, `NAME SIDE` and `N SIDE`; a slot is one of those that are set
abbrev pub read_values : Shape → ℕ → List (List ℕ) → Result Values LineKind
read_values Name links (name ∷ []) = do
  name ← name_of name
  Ok (record no_values { name = Some name })
read_values Count links (count ∷ []) = do
  count ← number_in 1 MOST_PUMP_STEPS count
  Ok (record no_values { number = count })
read_values EndBytes links (end ∷ bytes ∷ []) = do
  end ← end_of end
  runs ← runs_of bytes
  Ok (record no_values { name = Some end.name; side = end.side; bytes = bytes_in runs })
read_values EndNumber links (end ∷ len ∷ []) = do
  end ← end_of end
  len ← number_in 0 MOST_READ_BYTES len
  Ok (record no_values { name = Some end.name; side = end.side; number = len })
read_values NameSide links (name ∷ dir ∷ []) = do
  name ← name_of name
  dir ← side_in dir
  Ok (record no_values { name = Some name; side = dir })
read_values SlotSide links (slot ∷ dir ∷ []) = do
  slot ← number_in 1 links slot
  dir ← side_in dir
  Ok (record no_values { side = dir; slot = slot })
read_values _ links _ = Err kinds.Count
