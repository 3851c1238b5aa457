-- What a side has learnt of its peer's keys, beside the keys that the peer has bound: the statements, and what is owed for them.
use Rattle.std.specs.Prelude.{List, Option, false, true, ℕ, ◌<◌, ◌∷◌, ◌≡◌, ◌≤◌, ◌⊎◌}
use Rattle.pipe_model.specs.declared.flow.FlowStep.TheVariants.{Confirmed}
use Rattle.pipe_model.specs.Keys.{deleted}
use Rattle.history_laws.specs.Words.{Entry, Key, LinkId, Offer, Side, Withdraw, book_of, fabric, flow_of, group_of, has, keys_of, made_on, named_rmbs, other, stands, table_of}
use Rattle.history_laws.specs.Lists.{IsAmong}
use Rattle.link_laws.specs.KeyChanges.{HasUse, Learns, NoTwo, same_use}
use Rattle.link_laws.specs.FabricChanges.{OffersFirst, Takes}
use Rattle.link_laws.specs.Linked.{AreLinked, Under}

-- a link stands at a side, or at its peer while both are in one group
abbrev pub IsNear : Side → LinkId → List Entry → Type 0
IsNear x l past = (stands l (table_of x past) ≡ true) ⊎ ((stands l (table_of (other x) past) ≡ true) × (group_of x past ≡ group_of (other x) past))

-- what a side has learnt: one key an RMB and slot, and each is for a link of its group
pub record IsBook (y : Side) (past : List Entry) : Type 0 where
  -- Clc and Deliver: a key that is learnt takes the place of the earlier one
  pub once : NoTwo same_use (book_of y past)
  -- Clc and Deliver: a key is learnt in the group of its link; Report ends the group
  pub group : (k : Key) → IsAmong k (book_of y past) → k.link.group ≡ group_of y past

-- what is learnt is learnt of links that were made
abbrev pub AreMade : Side → List Entry → Type 0
AreMade y past = (k : Key) → IsAmong k (book_of y past) → k.link.incarnation ≤ made_on k.link.slot (fabric past)

-- what the peer of x has learnt of a link that stands at x is bound at x to that RMB for that slot
abbrev pub AreKnown : Side → List Entry → Type 0
AreKnown x past = (k : Key) → IsAmong k (book_of (other x) past) → stands k.link (table_of x past) ≡ true → HasUse k (keys_of x past).keys

-- and where its RMB is confirmed at x, the link standing at x, or at the peer in the same group, it is the very key
abbrev pub AreExact : Side → List Entry → Type 0
AreExact x past = (k : Key) → IsAmong k (book_of (other x) past) → IsAmong k.rmb (keys_of x past).confirmed → IsNear x k.link past → IsAmong k (keys_of x past).keys

-- all of this of one side's keys
pub record AreTold (x : Side) (past : List Entry) : Type 0 where
  -- Clc and Deliver: a key is learnt for a link that was made
  pub made : AreMade (other x) past
  -- Deliver: the answer to DELETE RKEY withdraws keys
  pub known : AreKnown x past
  -- Deliver: the answer to CONFIRM RKEY confirms an RMB
  pub exact : AreExact x past

-- a side offers in first contact with an entry
pub record BeginsFirst (x : Side) (e : Entry) : Type 0 where
  pub link : LinkId
  pub offer : Offer
  pub offers : OffersFirst x e link offer

-- how the group of a side may change: not at all, it ends, or the side begins one with an offer of first contact
pub data Regroups (x : Side) (e : Entry) (past : List Entry) : Type 0 where
  SameGroup : group_of x (e ∷ past) ≡ group_of x past → Regroups x e past
  NoGroup : group_of x (e ∷ past) ≡ 0 → Regroups x e past
  NewGroup : BeginsFirst x e → group_of x past ≡ 0 → Regroups x e past

-- what links and groups owe with an entry
pub record OwedByLinks (e : Entry) (past : List Entry) : Type 0 where
  pub under : Option Under
  pub linked : AreLinked (fabric (e ∷ past)) under
  pub fresh : (z : Side) (l : LinkId) → stands l (table_of z (e ∷ past)) ≡ true → (stands l (table_of z past) ≡ true) ⊎ (made_on l.slot (fabric past) < l.incarnation)
  pub made : (j : ℕ) → made_on j (fabric past) ≤ made_on j (fabric (e ∷ past))
  pub groups : (z : Side) → Regroups z e past

-- what the messages of the key flows, of the adding of links and of first contact owe with an entry, for the keys of x
pub record OwedByMessages (x : Side) (e : Entry) (past : List Entry) : Type 0 where
  -- a learnt key is of a link of the group that was made
  pub latest : (k : Key) → Learns (other x) e past k → k.link.incarnation ≤ made_on k.link.slot (fabric (e ∷ past))
  -- it is bound at x so, where the link stands there
  pub told : (k : Key) → Learns (other x) e past k → stands k.link (table_of x (e ∷ past)) ≡ true → HasUse k (keys_of x past).keys
  -- it is the very key, where its RMB is confirmed already
  pub exact : (k : Key) → Learns (other x) e past k → IsAmong k.rmb (keys_of x past).confirmed → IsNear x k.link (e ∷ past) → IsAmong k (keys_of x past).keys
  -- as the answer to CONFIRM RKEY confirms an RMB, what the peer has learnt of it is bound
  pub answered : Takes x e past Confirmed → (k : Key) → IsAmong k (book_of (other x) past) → k.rmb ≡ (flow_of x past).rmb → IsNear x k.link (e ∷ past) → IsAmong k (keys_of x past).keys
  -- as keys are withdrawn, the peer knows none of them on a link that stands at x
  pub forgotten : (t : Takes x e past Withdraw) (k : Key) → IsAmong k (book_of (other x) past) → has k.rmb (named_rmbs (deleted t.act.message) (keys_of x past).keys) ≡ true → stands k.link (table_of x past) ≡ false
  -- as x begins a group, the peer knows nothing of its links
  pub first : BeginsFirst x e → (k : Key) → IsAmong k (book_of (other x) (e ∷ past)) → IsNear x k.link (e ∷ past) → ⊥
