-- The keys of a side and what it has learnt are for links of its group; and what is owed for it.
use Rattle.std.specs.Prelude.{List, [], ℕ, ◌∷◌, ◌≡◌}
use Rattle.history_laws.specs.Words.{Entry, Key, LinkId, Side, group_of, keys_of}
use Rattle.history_laws.specs.Lists.{IsAmong}
use Rattle.link_laws.specs.Learnt.{Regroups}
use Rattle.link_laws.specs.KeyChanges.{Learns, Registers}

-- each key is for a link of the side's group
abbrev pub AreOfGroup : Side → List Entry → Type 0
AreOfGroup x past = (k : Key) → IsAmong k (keys_of x past).keys → k.link.group ≡ group_of x past

-- what is owed: how the group changes, and that what is registered and learnt is of the group of afterwards
pub record OwedByGroups (x : Side) (e : Entry) (past : List Entry) : Type 0 where
  -- Clc begins a group, Report and Deliver end one
  pub groups : Regroups x e past
  -- Clc, Deliver: a key is bound for a link of the group
  pub registered : (rmb : ℕ) (link : LinkId) → Registers x e past rmb link → link.group ≡ group_of x (e ∷ past)
  -- Clc, Deliver: a key is learnt in the group of its link
  pub learnt : (k : Key) → Learns x e past k → k.link.group ≡ group_of x (e ∷ past)

-- with each entry of a history
abbrev pub AllOwedByGroups : Side → List Entry → Type 0
AllOwedByGroups x [] = Unit {0}
AllOwedByGroups x (e ∷ past) = OwedByGroups x e past × AllOwedByGroups x past
