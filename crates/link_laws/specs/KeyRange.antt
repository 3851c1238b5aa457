-- The numbers of keys of a side with so many RMBs and links: within base + 1 .. base + rmbs * links; and what is owed for it.
use Rattle.std.specs.Prelude.{List, [], ℕ, ◌*◌, ◌+◌, ◌∷◌, ◌≤◌}
use Rattle.history_laws.specs.Words.{Entry, Key, LinkId, Side}
use Rattle.history_laws.specs.Lists.{IsAmong}
use Rattle.link_laws.specs.KeyChanges.{Registers}

-- an RMB and a slot of a side
pub record IsInRange (rmbs links rmb slot : ℕ) : Type 0 where
  pub rmb_from : 1 ≤ rmb
  pub rmb_to : rmb ≤ rmbs
  pub slot_from : 1 ≤ slot
  pub slot_to : slot ≤ links

-- keys of these, with numbers in the range
abbrev pub AreIn : ℕ → ℕ → ℕ → List Key → Type 0
AreIn base rmbs links ks = (k : Key) → IsAmong k ks → IsInRange rmbs links k.rmb k.link.slot × (k.key ≤ base + rmbs * links)

-- what is registered with an entry is an RMB of the side, for a link on one of its slots
abbrev pub OwedByRange : ℕ → ℕ → Side → Entry → List Entry → Type 0
OwedByRange rmbs links x e past = (rmb : ℕ) (link : LinkId) → Registers x e past rmb link → IsInRange rmbs links rmb link.slot

-- with each entry of a history
abbrev pub AllOwedByRange : ℕ → ℕ → Side → List Entry → Type 0
AllOwedByRange rmbs links x [] = Unit {0}
AllOwedByRange rmbs links x (e ∷ past) = OwedByRange rmbs links x e past × AllOwedByRange rmbs links x past
