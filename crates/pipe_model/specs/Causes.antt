-- Why a connection is reset, and why one is declined.
-- A reader learns here each cause that an end may keep, each lack that may be named, and what the history shows for it.
use Rattle.std.specs.Prelude.{◌≡◌, ◌≢◌, ◌⊎◌, ℕ, ◌*◌, ◌%◌, ◌==◌, ◌&&◌, nat_lt, Bool, true, false, List, [], ◌∷◌, Option, Some, None, IsTrue}
use Rattle.smc_num.specs.declared.Side.{Side}
use Rattle.smc_num.specs.declared.Side.TheVariants.{A, B}
use Rattle.smc_num.specs.Names.{other, same_side}
use Rattle.smc_num.specs.Numbers.{wire_number}
use Rattle.clc_wire.specs.declared.proposal.Proposal.{Proposal}
use Rattle.clc_wire.specs.declared.offer.Offer.{Offer}
use Rattle.clc_wire.specs.declared.message.ClcMessage.{ClcMessage}
use Rattle.clc_wire.specs.declared.message.ClcMessage.TheVariants.{Proposal as ProposalMessage, Accept as AcceptMessage}
use Rattle.cdc_wire.specs.declared.CdcMessage.{CdcMessage}
use Rattle.pipe_model.specs.declared.reply.ResetCause.{ResetCause}
use Rattle.pipe_model.specs.declared.reply.ResetCause.TheVariants.{OwnAbort, PeerAbort, NoLiveLink, Gap, BadClc, BadStep}
use Rattle.pipe_model.specs.declared.reply.Lack.{Lack}
use Rattle.pipe_model.specs.declared.reply.Lack.TheVariants.{NotCapable, NoSubnet, NoServerElement, NoClientElement, NoSlot, GroupLost, Raw}
use Rattle.pipe_model.specs.declared.event.Event.{Event}
use Rattle.pipe_model.specs.declared.event.Event.TheVariants.{Open, Clc, Abort, Deliver}
use Rattle.pipe_model.specs.declared.reply.Reply.{Reply}
use Rattle.pipe_model.specs.declared.reply.Reply.TheVariants.{Done, Landed, Declined}
use Rattle.pipe_model.specs.declared.post.Post.{Post}
use Rattle.pipe_model.specs.declared.post.Post.TheVariants.{Cdc}
use Rattle.pipe_model.specs.declared.setup.Setup.{Setup}
use Rattle.pipe_model.specs.declared.entry.Entry.{Entry}
use Rattle.pipe_model.specs.Words.{passes, subnet_of, is_capable, rmbs_of, elements_of}
use Rattle.pipe_model.specs.Snapshot.{is_validation, shows_gap}
use Rattle.pipe_model.specs.Pipe.{half}
use Rattle.pipe_model.specs.Closing.{cause_of}
use Rattle.pipe_model.specs.History.{post_at}
use Rattle.pipe_model.specs.Fabric.{has_ended, group_of}
use Rattle.pipe_model.specs.Connections.{EndState, WasReset, IsUp, HasFallen, end_state, group_on, token_of}
use Rattle.pipe_model.specs.Lending.{pipe_of, free_places}
use Rattle.pipe_model.specs.Handshake.{kind_of, slots_up}
use Rattle.pipe_model.specs.Fallback.{Front, Faulty, Whole, front, is_raw, is_fallen, fallen_phase}

-- that something held at an entry, over what was before it
-- ours: a word on histories
abbrev pub HasHappened : (Entry → List Entry → Type 0) → List Entry → Type 0
HasHappened P [] = ⊥
HasHappened P (e ∷ older) = P e older ⊎ HasHappened P older

-- the end called abort, and it counted
-- RFC 7609, 4.8
abbrev pub IsAbort : Side → ℕ → Event → Reply → Type 0
IsAbort x s (Abort end) Done = IsTrue (same_side x end.side && (s == end.s))
IsAbort x s _ _ = ⊥

-- it has called abort so
-- RFC 7609, 4.8
abbrev pub HasAborted : Side → ℕ → List Entry → Type 0
HasAborted x s past = HasHappened (λ e older. IsAbort x s e.event e.reply) past

-- whether a CDC message tells aborted
-- RFC 7609, A.4
abbrev pub is_abort : CdcMessage → Bool
is_abort m = nat_lt 0x1f (m.state % 0x40)

-- a CDC message of the peer that passes landed at the end
-- RFC 7609, 3.4: the alert token names the receiver's connection
abbrev pub is_message : (CdcMessage → Bool) → Side → ℕ → Post → Bool
is_message f x token (Cdc from link m) = (same_side (other x) from && (token == m.token)) && f m
is_message f x token _ = false

-- such a message landed with an entry
-- RFC 7609, 3.4: the alert token names the receiver's connection
abbrev pub LandsMessage : (CdcMessage → Bool) → Side → ℕ → Event → Reply → List Entry → Type 0
LandsMessage f x token (Deliver slot dir) (Landed at) past = IsTrue (passes (is_message f x token) (post_at at past))
LandsMessage f x token _ _ past = ⊥

-- the peer's aborted snapshot has landed
-- RFC 7609, 4.8
abbrev pub HasMetAbort : Side → ℕ → List Entry → Type 0
HasMetAbort x s past = HasHappened (λ e older. LandsMessage is_abort x (token_of x s past) e.event e.reply older) past

-- whether a CDC message is a validation of that number
-- RFC 7609, 4.6
abbrev pub tells_number : ℕ → CdcMessage → Bool
tells_number told m = is_validation m && (m.number == told)

-- with an entry a validation of number `told` landed where `taken` was the number last taken, and it showed a gap
-- RFC 7609, 4.6
abbrev pub IsGap : Setup → List ℕ → Side → ℕ → ℕ → ℕ → ℕ → Entry → List Entry → Type 0
IsGap setup payload x s group told taken e older =
    LandsMessage (tells_number told) x (token_of x s older) e.event e.reply older ×
    (wire_number (half x (pipe_of setup payload group s older)).taken.number ≡ taken) × IsTrue (shows_gap told taken)

-- a gap of these numbers was found
-- RFC 7609, 4.6
abbrev pub HasMetGap : Setup → List ℕ → Side → ℕ → ℕ → ℕ → List Entry → Type 0
HasMetGap setup payload x s told taken past = HasHappened (IsGap setup payload x s (group_on s past) told taken) past

-- what stood at the front of a raw client's stream
-- ours: a word on histories
abbrev pub HasStood : List ℕ → ℕ → (Front → Type 0) → List Entry → Type 0
HasStood payload s P past = HasHappened (λ e older. P (front payload A s older)) past

-- what the history shows for a cause at an end
-- ours: what a history has to show for each cause
abbrev pub IsShown : Setup → List ℕ → Side → ℕ → List Entry → ResetCause → Type 0
IsShown setup payload x s past OwnAbort = HasAborted x s past
IsShown setup payload x s past PeerAbort = HasMetAbort x s past ⊎ (HasAborted (other x) s past × (IsTrue (is_fallen x s past) × IsTrue (is_fallen (other x) s past)))
IsShown setup payload x s past (NoLiveLink group) = (group ≡ group_on s past) × IsTrue (has_ended x group past)
IsShown setup payload x s past (Gap told taken) = HasMetGap setup payload x s told taken past
IsShown setup payload x s past (BadClc fault) = IsTrue (is_raw s past) × HasStood payload s (λ f. f ≡ Faulty fault) past
IsShown setup payload x s past (BadStep kind) = IsTrue (is_raw s past) × HasStood payload s (λ f. (m : ClcMessage) × ((len : ℕ) × ((f ≡ Whole m len) × (kind_of m ≡ kind)))) past

-- the cause that an end keeps, in each state
-- ours: a case for each state
abbrev pub kept_in : Setup → List ℕ → Side → ℕ → List Entry → EndState → Option ResetCause
kept_in setup payload x s past IsUp = cause_of (half x (pipe_of setup payload (group_on s past) s past)).phase
kept_in setup payload x s past HasFallen = cause_of (fallen_phase x s past)
kept_in setup payload x s past (WasReset cause) = Some cause
kept_in setup payload x s past _ = None

-- the cause that an end keeps, None where it is not reset
-- ours: a case for each state
abbrev pub kept_cause : Setup → List ℕ → Side → ℕ → List Entry → Option ResetCause
kept_cause setup payload x s past = kept_in setup payload x s past (end_state x s past)

-- an end is reset only for a cause that the history shows
-- ours: nothing is reset without a cause
abbrev pub CausesAreShown : Setup → List ℕ → List Entry → Type 0
CausesAreShown setup payload past = (x : Side) (s : ℕ) (cause : ResetCause) → kept_cause setup payload x s past ≡ Some cause → IsShown setup payload x s past cause

-- the subnet of the Proposal that stands at the front of a socket's stream is not that of B
-- RFC 7609, 3.5: the peers have to be in one subnet
pub record IsElsewhere (setup : Setup) (payload : List ℕ) (s : ℕ) (past : List Entry) : Type 0 where
  pub proposal : Proposal
  pub len : ℕ
  pub stands : front payload A s past ≡ Whole (ProposalMessage proposal) len
  pub elsewhere : (proposal.subnet, proposal.prefix) ≢ subnet_of setup B

-- the group that the Accept of later contact at the front of a socket's stream names is not the one that A has, 0 for none
-- RFC 7609, 3.5; ours: `psn` carries the number of the group
pub record IsOfOtherGroup (payload : List ℕ) (s named has : ℕ) (past : List Entry) : Type 0 where
  pub offer : Offer
  pub len : ℕ
  pub stands : front payload B s past ≡ Whole (AcceptMessage offer) len
  pub later : offer.first ≡ false
  pub named_is : named ≡ offer.psn
  pub has_is : has ≡ group_of A past
  pub others : named ≢ has

-- what a lack says that is named in answer to an event. To an open: not both sides are capable. By B as it takes a message of A: the
-- Proposal's subnet is another, or none of so many elements is free; or B has no group, and then none of so many slots has its path up, or
-- the client is raw. By A as it takes a message of B: none of its elements is free, or the Accept's group is not A's. No other is named
-- RFC 7609, 3.5; of raw clients ours, and what is said of each lack
abbrev pub IsLacking : Setup → List ℕ → Event → List Entry → Lack → Type 0
IsLacking setup payload (Open s) past (NotCapable a b) = (a ≡ is_capable setup A) × ((b ≡ is_capable setup B) × ((a && b) ≡ false))
IsLacking setup payload (Clc s A) past NoSubnet = IsElsewhere setup payload s past
IsLacking setup payload (Clc s A) past (NoServerElement n) = (free_places setup payload B past ≡ []) × (n ≡ rmbs_of setup B * elements_of setup B)
IsLacking setup payload (Clc s A) past (NoSlot n) = (group_of B past ≡ 0) × ((slots_up setup past ≡ []) × (n ≡ setup.links))
IsLacking setup payload (Clc s A) past Raw = (group_of B past ≡ 0) × IsTrue (is_raw s past)
IsLacking setup payload (Clc s B) past (NoClientElement n) = (free_places setup payload A past ≡ []) × (n ≡ rmbs_of setup A * elements_of setup A)
IsLacking setup payload (Clc s B) past (GroupLost named stands) = IsOfOtherGroup payload s named stands past
IsLacking setup payload event past lack = ⊥

-- what is declined is declined for a lack that holds before the entry
-- ours: nothing is declined without a lack
abbrev pub DeclinesForLack : Setup → List ℕ → Event → Reply → List Entry → Type 0
DeclinesForLack setup payload event (Declined lack) past = IsLacking setup payload event past lack
DeclinesForLack setup payload event _ past = Unit {0}

-- whether nothing more becomes of an end: it is up, has fallen back or was reset
-- ours: a case for each state
abbrev pub is_settled : EndState → Bool
is_settled IsUp = true
is_settled HasFallen = true
is_settled (WasReset cause) = true
is_settled _ = false

-- with an entry nothing more becomes of the ends of a socket that are up, have fallen back or were reset, and their group stays
-- ours: where a kept cause stays
pub record StaySettled (s : ℕ) (e : Entry) (past : List Entry) : Type 0 where
  pub ends : (x : Side) → is_settled (end_state x s past) ≡ true → end_state x s (e ∷ past) ≡ end_state x s past
  pub group : (x : Side) → end_state x s past ≡ IsUp → group_on s (e ∷ past) ≡ group_on s past
