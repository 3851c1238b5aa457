-- First contact, from B's Accept until both ends of its socket wait for the link: what the two sides and the streams are meanwhile.
-- A reader learns here what the proofs about links ask of the handshake, and nothing more.
use Rattle.std.specs.Prelude.{List, None, Option, Some, [], false, true, ℕ, ◌+◌, ◌==◌, ◌∷◌, ◌≡◌, ◌≢◌, ◌≤◌, ◌⊎◌}
use Rattle.clc_wire.specs.declared.message.ClcMessage.TheVariants.{Accept as AcceptMessage, Confirm as ConfirmMessage}
use Rattle.history_laws.specs.Words.{A, B, ClcMessage, Entry, FirstContact, LinkId, Offered, Pending, Side, WaitsAnswer, WaitsConfirm, end_state, fabric, flow_of, group_of, groups_begun, has_ended, is_first_contact, is_opened, is_pending, link_at, made_on, no_flow, offered, phase_at, table_of, untaken}
use Rattle.link_laws.specs.Linked.{Under}

-- these messages are not of first contact, but for a Confirm whose group has ended at B meanwhile
abbrev pub AreLaterIn : List Entry → List ClcMessage → Type 0
AreLaterIn past [] = Unit {0}
AreLaterIn past (AcceptMessage o ∷ ms) = (o.first ≡ false) × AreLaterIn past ms
AreLaterIn past (ConfirmMessage o ∷ ms) = ((o.first ≡ false) ⊎ (has_ended B o.psn past ≡ true)) × AreLaterIn past ms
AreLaterIn past (m ∷ ms) = AreLaterIn past ms

-- the streams of a socket hold nothing of first contact that counts
pub record AreLater (s : ℕ) (past : List Entry) : Type 0 where
  -- Clc: the group of a Confirm may end at B before B takes it
  pub from_a : AreLaterIn past (untaken A s past)
  -- Clc: B offers in later contact
  pub from_b : AreLaterIn past (untaken B s past)

-- a side is in first contact with that link
pub record IsConfirming (x : Side) (link : LinkId) (past : List Entry) : Type 0 where
  pub group : group_of x past ≡ link.group
  pub flow : flow_of x past ≡ record no_flow { link = FirstContact }
  pub table : table_of x past ≡ record { link = link; phase = Pending } ∷ []

-- B has offered in first contact, and A has not taken the Accept
pub record IsOfferedFirst (s : ℕ) (o : Offered) (past : List Entry) : Type 0 where
  pub named : offered B s past ≡ Some o
  pub opened : is_opened s past ≡ true
  pub first : o.offer.first ≡ true
  -- Clc takes it away: A joins, or falls back
  pub untaken_b : untaken B s past ≡ AcceptMessage o.offer ∷ []
  pub untaken_a : untaken A s past ≡ []
  pub waits_a : end_state A s past ≡ WaitsAnswer
  pub waits_b : end_state B s past ≡ WaitsConfirm
  pub group : group_of B past ≡ o.link.group
  pub some : o.link.group ≢ 0
  pub flow : flow_of B past ≡ record no_flow { link = FirstContact }
  pub table : table_of B past ≡ []
  pub slot : 1 ≤ o.link.slot
  -- no link is made until A joins
  pub next : o.link.incarnation ≡ made_on o.link.slot (fabric past) + 1
  -- A begins a group as it joins alone
  pub not_at_a : group_of A past ≢ o.link.group
  -- a group ends at A only after A has joined it
  pub not_ended : has_ended A o.link.group past ≡ false

-- A has joined, and B, whose group stands, has not taken the Confirm
pub record IsJoinedFirst (s : ℕ) (o p : Offered) (past : List Entry) (under : Option Under) : Type 0 where
  pub named : offered B s past ≡ Some o
  pub answered : offered A s past ≡ Some p
  pub opened : is_opened s past ≡ true
  pub link : p.link ≡ o.link
  pub first : p.offer.first ≡ true
  -- Clc takes it away: B asks to confirm the link
  pub untaken_a : untaken A s past ≡ ConfirmMessage p.offer ∷ []
  pub untaken_b : untaken B s past ≡ []
  pub waits_b : end_state B s past ≡ WaitsConfirm
  -- Report at B ends the group, and so the row
  pub at_b : IsConfirming B o.link past
  -- Report at A may end its group meanwhile
  pub at_a : IsConfirming A o.link past ⊎ (has_ended A o.link.group past ≡ true)
  -- nothing is asked before B takes the Confirm
  pub none : under ≡ None

-- there is no first contact under way in the streams; or one of these two on one socket
pub data Contact (past : List Entry) (under : Option Under) : Type 0 where
  NoContact : ((s : ℕ) → AreLater s past) → Contact past under
  OfferedFirst : (s : ℕ) (o : Offered) → IsOfferedFirst s o past → ((t : ℕ) → (t == s) ≡ false → AreLater t past) → Contact past under
  JoinedFirst : (s : ℕ) (o p : Offered) → IsJoinedFirst s o p past under → ((t : ℕ) → (t == s) ≡ false → AreLater t past) → Contact past under

-- groups are counted
pub record AreCounted (past : List Entry) : Type 0 where
  -- Clc: B begins a group with the next number, A joins one of those
  pub at_most : (x : Side) → group_of x past ≤ groups_begun past
  -- Clc begins the last one; Report and Deliver may end it
  pub last : group_of B past ≢ 0 → group_of B past ≡ groups_begun past

-- once B has offered in later contact, each side that is in that group is beyond first contact, and the named link is not pending there
pub record IsBeyond (past : List Entry) : Type 0 where
  -- Clc: B offers in later contact; Deliver: the reply to CONFIRM LINK takes B beyond first contact
  pub first : (x : Side) (s : ℕ) (o : Offered) → offered B s past ≡ Some o → o.offer.first ≡ false → group_of x past ≡ o.link.group → is_first_contact (flow_of x past).link ≡ false
  -- Clc: the named link is live at B; Deliver: a link goes live at A first
  pub pending : (x : Side) (s : ℕ) (o : Offered) → offered B s past ≡ Some o → o.offer.first ≡ false → link_at o.link.slot (table_of x past) ≡ Some o.link → is_pending (phase_at o.link.slot (table_of x past)) ≡ false
