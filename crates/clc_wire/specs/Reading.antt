-- Fields that are read one after another, where the first fault ends the reading.
use Rattle.std.specs.Prelude.{ℕ, Bool, nat_lt, List, length, Result, Ok, Err, if◌then◌else◌}
use Rattle.clc_wire.specs.declared.fault.ClcFault.{ClcFault}
use Rattle.clc_wire.specs.declared.fault.ClcFault.TheVariants.{Short}

-- reading goes on with the value, or ends with the fault
-- ours: a helper for reading
infixl 10 ◌>>=◌
abbrev pub ◌>>=◌ : {A B : Type 0} → Result A ClcFault → (A → Result B ClcFault) → Result B ClcFault
(Ok value) >>= next = next value
(Err fault) >>= next = Err fault

-- the value of a field, whose last byte stands before this place: the bytes have to reach as far,
-- and the test has to pass
-- ours: a helper for reading
abbrev pub field : {A : Type 0} → List ℕ → ℕ → Bool → ClcFault → A → Result A ClcFault
field bytes place passes fault value = if nat_lt (length bytes) place then Err Short else if passes then Ok value else Err fault
