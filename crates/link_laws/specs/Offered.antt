-- What the step of first contact wants beside `Contact`: offers and groups are counted, and an end that waits for the Proposal has it.
use Rattle.std.specs.Prelude.{List, None, Option, Some, [], false, true, ℕ, ◌∷◌, ◌≡◌, ◌≢◌, ◌≤◌}
use Rattle.clc_wire.specs.declared.message.ClcMessage.TheVariants.{Accept as AcceptMessage, Proposal as ProposalMessage}
use Rattle.history_laws.specs.Words.{A, B, ClcMessage, Entry, NoEnd, Offered, Proposal, Side, WaitsAnswer, WaitsProposal, early_state, end_state, fabric, group_of, groups_begun, has_ended, is_opened, is_raw, is_up, made_on, offered, untaken}
use Rattle.history_laws.specs.Offers.{is_own_state}

-- B's end has the Proposal before it
pub record HasProposal (s : ℕ) (past : List Entry) : Type 0 where
  pub proposal : Proposal
  pub untaken_a : untaken A s past ≡ ProposalMessage proposal ∷ []
  pub untaken_b : untaken B s past ≡ []
  pub waits_a : end_state A s past ≡ WaitsAnswer
  pub none : (x : Side) → offered x s past ≡ None

-- nothing has happened on a socket
pub record IsFresh (s : ℕ) (past : List Entry) : Type 0 where
  pub untaken : (x : Side) → untaken x s past ≡ []
  pub none : (x : Side) → offered x s past ≡ None
  pub early : (x : Side) → early_state x s past ≡ NoEnd
  pub up : (x : Side) → is_up x s past ≡ false

-- each Accept among these messages is the one that was offered
abbrev pub AreNamed : Option Offered → List ClcMessage → Type 0
AreNamed named [] = Unit {0}
AreNamed named (AcceptMessage o ∷ ms) = ((q : Offered) × ((named ≡ Some q) × (q.offer ≡ o))) × AreNamed named ms
AreNamed named (m ∷ ms) = AreNamed named ms

-- offers and groups, as the step of first contact wants them
pub record AreOffered (past : List Entry) : Type 0 where
  -- Clc: B's Accept of first contact counts the group that it names
  pub begun : (x : Side) (s : ℕ) (o : Offered) → offered x s past ≡ Some o → o.link.group ≤ groups_begun past
  -- Clc: no group has the number 0
  pub some : (s : ℕ) (o : Offered) → offered B s past ≡ Some o → o.link.group ≢ 0
  -- Clc: an offer names its group
  pub psn : (x : Side) (s : ℕ) (o : Offered) → offered x s past ≡ Some o → o.offer.psn ≡ o.link.group
  -- Clc: in later contact B names a live link
  pub made : (s : ℕ) (o : Offered) → offered B s past ≡ Some o → o.offer.first ≡ false → o.link.incarnation ≤ made_on o.link.slot (fabric past)
  -- Clc: a group that has ended is not begun again
  pub stands : (x : Side) → group_of x past ≢ 0 → has_ended x (group_of x past) past ≡ false
  -- Report and Deliver end a group that was begun
  pub ended : (x : Side) (g : ℕ) → has_ended x g past ≡ true → g ≤ groups_begun past
  -- Open posts the Proposal; Clc takes it
  pub proposed : (s : ℕ) → is_raw s past ≡ false → end_state B s past ≡ WaitsProposal → HasProposal s past
  -- Open and Raw under one name
  pub plain : (s : ℕ) → is_opened s past ≡ true → is_raw s past ≡ false
  -- Open and Raw begin a socket
  pub fresh : (s : ℕ) → is_opened s past ≡ false → is_raw s past ≡ false → IsFresh s past
  -- Clc: what an end becomes is one of its side
  pub sided : (x : Side) (s : ℕ) → is_own_state x (early_state x s past) ≡ true
  -- Clc: what stands in the stream is B's own Accept
  pub accepted : (s : ℕ) → is_raw s past ≡ false → AreNamed (offered B s past) (untaken B s past)
  -- Raw begins no end of A
  pub lone : (s : ℕ) → is_raw s past ≡ true → early_state A s past ≡ NoEnd
