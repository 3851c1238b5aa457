-- The kinds of entries, as first contact sees them: B begins a group, A joins one, B takes the Confirm of first contact, or none of these.
-- A reader learns here what each does to the streams of a socket and to the sides, and no event is named.
use Rattle.std.proofs.Common.{List, None, Some, [], drop, false, true, ℕ, ◌++◌, ◌+◌, ◌==◌, ◌∷◌, ◌≡◌, ◌≢◌, ◌≤◌, ◌⊎◌}
use Rattle.std.specs.Prelude.{Option, unwrap_or}
use Rattle.clc_wire.specs.declared.message.ClcMessage.TheVariants.{Accept as AcceptMessage, Confirm as ConfirmMessage}
use Rattle.smc_num.specs.declared.LinkPhase.TheVariants.{Live as LiveLink}
use Rattle.history_laws.specs.Words.{A, B, ClcMessage, Entry, FirstContact, LinkId, NoEnd, Offer, Offered, Pending, Side, WaitsConfirm, WaitsLink, WaitsProposal, after_loss, begins_group, early_state, end_state, fabric, flow_of, group_of, group_on, groups_begun, head, is_first_contact, is_opened, is_pending, is_raw, is_up, link_at, loses_group_with, made_on, makes, named_link, no_flow, no_link, offered, phase_at, table_of, untaken, with_peer}
use Rattle.history_laws.specs.Offers.{is_own_state}
use Rattle.link_laws.specs.Linked.{Under, under_in}
use Rattle.link_laws.specs.Offered.{AreNamed, HasProposal}
use Rattle.link_laws.specs.Contact.{IsConfirming, IsJoinedFirst, IsOfferedFirst}

-- B knows no link, or nothing of the link flow is under way: then no CONFIRM LINK of first contact lands
abbrev pub Calm : List Entry → Option Under → Type 0
Calm past under = (table_of B past ≡ []) ⊎ (under ≡ None)

-- a side is in first contact and nothing else, with no link or a pending one
pub record IsStarting (x : Side) (past : List Entry) : Type 0 where
  pub flow : flow_of x past ≡ record no_flow { link = FirstContact }
  pub table : (table_of x past ≡ []) ⊎ ((link : LinkId) × (table_of x past ≡ record { link = link; phase = Pending } ∷ []))

-- none of these messages is of first contact
abbrev pub AreLaterOnly : List ClcMessage → Type 0
AreLaterOnly [] = Unit {0}
AreLaterOnly (AcceptMessage o ∷ ms) = (o.first ≡ false) × AreLaterOnly ms
AreLaterOnly (ConfirmMessage o ∷ ms) = (o.first ≡ false) × AreLaterOnly ms
AreLaterOnly (m ∷ ms) = AreLaterOnly ms

-- nothing happens on a socket with an entry, but that an end may be established or lose its group
pub record IsSame (s : ℕ) (past : List Entry) (under : Option Under) (e : Entry) : Type 0 where
  pub stream : (x : Side) → untaken x s (e ∷ past) ≡ untaken x s past
  pub offers : (x : Side) → offered x s (e ∷ past) ≡ offered x s past
  pub opened : is_opened s (e ∷ past) ≡ is_opened s past
  pub raw : is_raw s (e ∷ past) ≡ is_raw s past
  pub early : (x : Side) → early_state x s (e ∷ past) ≡ after_loss (loses_group_with x (group_on s past) e past) (group_on s past) (early_state x s past)
  pub up : (x : Side) → (offered B s past ≡ None) ⊎ Calm past under → is_up x s (e ∷ past) ≡ is_up x s past

-- what a side says of its new offer in later contact: its group was begun; and B is beyond first contact in it, the link live there
pub record IsLaterOffer (x : Side) (o : Offered) (past : List Entry) : Type 0 where
  pub first : o.offer.first ≡ false
  pub begun : o.link.group ≤ groups_begun past
  pub psn : o.offer.psn ≡ o.link.group
  pub group : x ≡ B → group_of B past ≡ o.link.group
  pub some : x ≡ B → o.link.group ≢ 0
  pub beyond : x ≡ B → is_first_contact (flow_of B past).link ≡ false
  pub known : x ≡ B → link_at o.link.slot (table_of B past) ≡ Some o.link
  pub live : x ≡ B → phase_at o.link.slot (table_of B past) ≡ LiveLink

-- what comes into a stream with an entry, and what leaves it
pub record IsStreamed (x : Side) (s : ℕ) (past : List Entry) (e : Entry) : Type 0 where
  pub count : ℕ
  pub news : List ClcMessage
  pub is : untaken x s (e ∷ past) ≡ drop count (untaken x s past) ++ news
  pub later : AreLaterOnly news

-- something happens on a socket with an entry, but not of first contact
pub record IsMoved (s : ℕ) (past : List Entry) (under : Option Under) (e : Entry) : Type 0 where
  pub stream : (x : Side) → IsStreamed x s past e
  pub offers : (x : Side) (o : Offered) → offered x s (e ∷ past) ≡ Some o → (offered x s past ≡ Some o) ⊎ IsLaterOffer x o past
  pub proposed : is_raw s (e ∷ past) ≡ false → end_state B s (e ∷ past) ≡ WaitsProposal → HasProposal s (e ∷ past)
  pub plain : is_opened s (e ∷ past) ≡ true → is_raw s (e ∷ past) ≡ false
  pub known : is_opened s (e ∷ past) ≡ false → is_raw s (e ∷ past) ≡ false → ⊥
  pub sided : (x : Side) → is_own_state x (early_state x s (e ∷ past)) ≡ true
  pub accepted : is_raw s (e ∷ past) ≡ false → AreNamed (offered B s (e ∷ past)) (untaken B s (e ∷ past))
  pub lone : is_raw s (e ∷ past) ≡ true → early_state A s (e ∷ past) ≡ NoEnd
  pub not_offered : (o : Offered) → IsOfferedFirst s o past → ⊥
  pub not_joined : (o p : Offered) → IsJoinedFirst s o p past under → ⊥

-- what an entry does to the two sides, where no side comes into a group
pub record Moves (past : List Entry) (under : Option Under) (e : Entry) : Type 0 where
  pub group : (x : Side) → (group_of x (e ∷ past) ≡ group_of x past) ⊎ (group_of x (e ∷ past) ≡ 0)
  pub first : (x : Side) → is_first_contact (flow_of x (e ∷ past)).link ≡ true → (is_first_contact (flow_of x past).link ≡ true) × (group_of x (e ∷ past) ≡ group_of x past)
  pub pending : (x : Side) (l : LinkId) → l.incarnation ≤ made_on l.slot (fabric past) → link_at l.slot (table_of x (e ∷ past)) ≡ Some l → is_pending (phase_at l.slot (table_of x (e ∷ past))) ≡ true → (link_at l.slot (table_of x past) ≡ Some l) × (is_pending (phase_at l.slot (table_of x past)) ≡ true)
  pub made : (k : ℕ) → made_on k (fabric past) ≤ made_on k (fabric (e ∷ past))
  pub next : table_of B past ≡ [] → (k : ℕ) → made_on k (fabric (e ∷ past)) ≡ made_on k (fabric past)
  pub empty : table_of B past ≡ [] → group_of B (e ∷ past) ≡ group_of B past
  pub still : (x : Side) → Calm past under → IsStarting x past → group_of x (e ∷ past) ≡ group_of x past → (flow_of x (e ∷ past) ≡ flow_of x past) × (table_of x (e ∷ past) ≡ table_of x past)
  pub none : (link : LinkId) → under ≡ None → IsConfirming B link past → under_in e.posts ≡ None

-- an entry which is not one of the three
pub record IsPlain (past : List Entry) (under : Option Under) (e : Entry) : Type 0 where
  pub moves : Moves past under e
  pub count : groups_begun (e ∷ past) ≡ groups_begun past
  pub socket : (s : ℕ) → IsSame s past under e ⊎ IsMoved s past under e

-- what is the same on the socket of one of the three, too
pub record IsKept (s : ℕ) (past : List Entry) (under : Option Under) (e : Entry) : Type 0 where
  pub opened : is_opened s (e ∷ past) ≡ is_opened s past
  pub raw : is_raw s (e ∷ past) ≡ is_raw s past
  pub up : (x : Side) → is_up x s (e ∷ past) ≡ is_up x s past
  pub not_raw : is_raw s past ≡ false
  pub others : (t : ℕ) → (t == s) ≡ false → IsSame t past under e

-- B takes the Proposal and begins a group
pub record IsBeginning (s : ℕ) (o : Offered) (past : List Entry) (under : Option Under) (e : Entry) : Type 0 where
  pub kept : IsKept s past under e
  pub group : o.link.group ≡ groups_begun past + 1
  pub psn : o.offer.psn ≡ o.link.group
  pub first : o.offer.first ≡ true
  pub slot : 1 ≤ o.link.slot
  pub next : o.link.incarnation ≡ made_on o.link.slot (fabric past) + 1
  pub without : group_of B past ≡ 0
  pub waits : end_state B s past ≡ WaitsProposal
  pub changed : fabric (e ∷ past) ≡ with_peer B (begins_group o.link.group) (fabric past)
  pub count : groups_begun (e ∷ past) ≡ groups_begun past + 1
  pub named : offered B s (e ∷ past) ≡ Some o
  pub offered_a : offered A s (e ∷ past) ≡ offered A s past
  pub untaken_a : untaken A s (e ∷ past) ≡ drop 1 (untaken A s past)
  pub untaken_b : untaken B s (e ∷ past) ≡ untaken B s past ++ AcceptMessage o.offer ∷ []
  pub early_b : early_state B s (e ∷ past) ≡ WaitsConfirm
  pub early_a : early_state A s (e ∷ past) ≡ after_loss (loses_group_with A (group_on s past) e past) (group_on s past) (early_state A s past)

-- A takes the Accept and joins the group, and the first link is made
pub record IsJoining (s : ℕ) (m : Offer) (p : Offered) (past : List Entry) (under : Option Under) (e : Entry) : Type 0 where
  pub kept : IsKept s past under e
  pub accept : head (untaken B s past) ≡ Some (AcceptMessage m)
  pub accept_first : m.first ≡ true
  pub without : group_of A past ≡ 0
  pub link : p.link ≡ unwrap_or (named_link s past) no_link
  pub psn : p.offer.psn ≡ p.link.group
  pub first : p.offer.first ≡ true
  pub changed : fabric (e ∷ past) ≡ makes p.link (with_peer A (begins_group p.link.group) (fabric past))
  pub count : groups_begun (e ∷ past) ≡ groups_begun past
  pub answered : offered A s (e ∷ past) ≡ Some p
  pub offered_b : offered B s (e ∷ past) ≡ offered B s past
  pub untaken_a : untaken A s (e ∷ past) ≡ untaken A s past ++ ConfirmMessage p.offer ∷ []
  pub untaken_b : untaken B s (e ∷ past) ≡ drop 1 (untaken B s past)
  pub own_a : is_own_state A (early_state A s (e ∷ past)) ≡ true
  pub linked_a : early_state A s (e ∷ past) ≡ after_loss (loses_group_with A (group_on s past) e past) (group_on s past) WaitsLink
  pub early_b : early_state B s (e ∷ past) ≡ after_loss (loses_group_with B (group_on s past) e past) (group_on s past) (early_state B s past)
  pub none : under_in e.posts ≡ None

-- B takes the Confirm of first contact
pub record IsReady (s : ℕ) (m : Offer) (past : List Entry) (under : Option Under) (e : Entry) : Type 0 where
  pub kept : IsKept s past under e
  pub confirm : head (untaken A s past) ≡ Some (ConfirmMessage m)
  pub confirm_first : m.first ≡ true
  pub psn : m.psn ≡ group_of B past
  pub changed : fabric (e ∷ past) ≡ fabric past
  pub count : groups_begun (e ∷ past) ≡ groups_begun past
  pub offers : (x : Side) → offered x s (e ∷ past) ≡ offered x s past
  pub untaken_a : untaken A s (e ∷ past) ≡ drop 1 (untaken A s past)
  pub untaken_b : untaken B s (e ∷ past) ≡ untaken B s past
  pub early_a : early_state A s (e ∷ past) ≡ after_loss (loses_group_with A (group_on s past) e past) (group_on s past) (early_state A s past)
  pub own_b : is_own_state B (early_state B s (e ∷ past)) ≡ true
  pub linked_b : early_state B s (e ∷ past) ≡ after_loss (loses_group_with B (group_on s past) e past) (group_on s past) WaitsLink
  pub early_b : early_state B s (e ∷ past) ≢ WaitsProposal

-- what an entry is
pub data Kind (past : List Entry) (under : Option Under) (e : Entry) : Type 0 where
  Plain : IsPlain past under e → Kind past under e
  Begins : (s : ℕ) (o : Offered) → IsBeginning s o past under e → Kind past under e
  Joins : (s : ℕ) (m : Offer) (p : Offered) → IsJoining s m p past under e → Kind past under e
  Readies : (s : ℕ) (m : Offer) → IsReady s m past under e → Kind past under e
