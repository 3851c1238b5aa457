-- Small words on truth values, options and lists, for which the standard library has none, and the sizes of a setup.
-- A reader learns here nothing of SMC-R; each word is read as it is written.
use Rattle.std.specs.Prelude.{ℕ, ◌+◌, ◌^◌, not, Bool, true, false, List, [], ◌∷◌, Option, Some, None, slice_index_or}
use Rattle.smc_num.specs.declared.Side.{Side}
use Rattle.smc_num.specs.Names.{at_side}
use Rattle.pipe_model.specs.declared.setup.Setup.{Setup}

-- whether two truth values are the same
-- ours: a test of equality
abbrev pub same_bool : Bool → Bool → Bool
same_bool true b = b
same_bool false b = not b

-- whether there is a value, and it passes
-- ours: a helper for options and lists
abbrev pub passes : {X : Type 0} → (X → Bool) → Option X → Bool
passes f None = false
passes f (Some x) = f x

-- whether a list is empty
-- ours: a helper for options and lists
abbrev pub is_nil : {X : Type 0} → List X → Bool
is_nil [] = true
is_nil (x ∷ xs) = false

-- the subnet of a side, and its prefix length
-- ours: a setting
abbrev pub subnet_of : Setup → Side → ℕ × ℕ
subnet_of setup x = at_side x (slice_index_or setup.subnet 0 (0, 0)) (slice_index_or setup.subnet 1 (0, 0))

-- whether a side is capable of SMC-R
-- ours: a setting
abbrev pub is_capable : Setup → Side → Bool
is_capable setup x = at_side x (slice_index_or setup.capable 0 false) (slice_index_or setup.capable 1 false)

-- the bytes of one element
-- RFC 7609, A.2.3: the size code of an offer
abbrev pub element_size : Setup → ℕ
element_size setup = 2 ^ (setup.size_code + 14)

-- how many RMBs a side has
-- ours: a setting
abbrev pub rmbs_of : Setup → Side → ℕ
rmbs_of setup x = at_side x (slice_index_or setup.rmbs 0 0) (slice_index_or setup.rmbs 1 0)

-- how many elements each RMB of a side has
-- ours: a setting
abbrev pub elements_of : Setup → Side → ℕ
elements_of setup x = at_side x (slice_index_or setup.elements 0 0) (slice_index_or setup.elements 1 0)
