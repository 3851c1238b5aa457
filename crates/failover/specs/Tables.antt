-- The links of a side by slot, and how many were made on each.
use Rattle.std.specs.Prelude.{◌≡◌, ℕ, ◌+◌, ◌≤◌, if◌then◌else◌, List, [], ◌∷◌}
use Rattle.smc_num.specs.declared.LinkId.{LinkId}
use Rattle.smc_num.specs.declared.LinkPhase.{LinkPhase}
use Rattle.smc_num.specs.declared.LinkPhase.TheVariants.{Unused}
use Rattle.smc_num.specs.Links.{Known, same_phase}

-- the known links, the lowest slot first, and how many were made on each slot, from slot 1 on
pub record Links : Type 0 where
  pub slots : ℕ
  pub known : List Known
  pub made : List ℕ

-- what is known where each slot has a phase and the link that was made last: all but the unused slots
abbrev pub known_in : List LinkPhase → List LinkId → List Known
known_in [] links = []
known_in (phase ∷ phases) [] = []
known_in (phase ∷ phases) (link ∷ links) = if same_phase phase Unused then known_in phases links else record { link = link; phase = phase } ∷ known_in phases links

-- the slots of the links follow one another
abbrev pub AreInOrder : ℕ → List LinkId → Type 0
AreInOrder slot [] = Unit {0}
AreInOrder slot (link ∷ links) = (link.slot ≡ slot) × AreInOrder (slot + 1) links

-- the slots of the known links rise, and all are among these
abbrev pub AreRising : ℕ → ℕ → List Known → Type 0
AreRising from to [] = Unit {0}
AreRising from to (known ∷ table) = (from ≤ known.link.slot) × (known.link.slot ≤ to) × AreRising (known.link.slot + 1) to table
