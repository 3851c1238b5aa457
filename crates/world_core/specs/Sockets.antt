-- How far the socket of a connection has come in a world of one link.
-- A reader learns here the steps of its handshake, and what its two ends, their offers and the messages under way are at each.
use Rattle.std.specs.Prelude.{◌≡◌, ℕ, ◌==◌, ◌≤◌, Bool, true, false, if◌then◌else◌, List, [], ◌∷◌, Option, Some, None}
use Rattle.smc_num.specs.declared.Side.{Side}
use Rattle.smc_num.specs.declared.Side.TheVariants.{A, B}
use Rattle.smc_num.specs.Places.{rmb_address, rmb_at}
use Rattle.clc_wire.specs.declared.offer.Offer.{Offer}
use Rattle.clc_wire.specs.declared.refusal.Refusal.{Refusal}
use Rattle.clc_wire.specs.declared.message.ClcMessage.{ClcMessage}
use Rattle.clc_wire.specs.declared.message.ClcMessage.TheVariants.{Proposal as ProposalMessage, Accept as AcceptMessage, Confirm as ConfirmMessage, Decline as DeclineMessage}
use Rattle.pipe_model.specs.declared.setup.Setup.{Setup}
use Rattle.pipe_model.specs.declared.entry.Entry.{Entry}
use Rattle.pipe_model.specs.Words.{elements_of}
use Rattle.pipe_model.specs.History.{Offered, offered}
use Rattle.pipe_model.specs.Connections.{EndState, NoEnd, WaitsProposal, WaitsAnswer, WaitsConfirm, WaitsLink, IsUp, HasFallen, is_up, early_state}
use Rattle.pipe_model.specs.Lending.{lendings}
use Rattle.pipe_model.specs.Fallback.{is_raw, is_opened, untaken}
use Rattle.pipe_model.specs.Messages.{proposal}
use Rattle.world_core.specs.OneLink.{the_link, the_key, Stage, NoLink, Begun, Made, Asking, LiveAtA, LiveAtBoth, IsAtStage}

-- how far a socket has come, with the offers of B and of A: not opened; fallen back with no offer; proposed; refused by B. In first
-- contact: offered by B; by A too; both ends wait for the link; A's end is up; both are. In later contact: offered by B; refused by
-- A; fallen back; offered by A, whose end is up; both ends are up.
pub data Socket : Type 0 where
  Unopened : Socket
  Fallen : Socket
  Proposed : Socket
  Refused : Refusal → Socket
  FirstAccepted : Offer → Socket
  FirstConfirmed : Offer → Offer → Socket
  AwaitsLink : Offer → Offer → Socket
  FirstUpAtA : Offer → Offer → Socket
  FirstUp : Offer → Offer → Socket
  Accepted : Offer → Socket
  AcceptRefused : Offer → Refusal → Socket
  AcceptFallen : Offer → Socket
  Confirmed : Offer → Offer → Socket
  Up : Offer → Offer → Socket

-- whether an end is up
abbrev pub up_at : Socket → Side → Bool
up_at (FirstUpAtA o p) A = true
up_at (FirstUp o p) x = true
up_at (Confirmed o p) A = true
up_at (Up o p) x = true
up_at _ x = false

-- what an end is, or was before it came up
abbrev pub early_at : Socket → Side → EndState
early_at Unopened x = NoEnd
early_at Fallen x = HasFallen
early_at Proposed A = WaitsAnswer
early_at Proposed B = WaitsProposal
early_at (Refused r) A = WaitsAnswer
early_at (Refused r) B = HasFallen
early_at (FirstAccepted o) A = WaitsAnswer
early_at (FirstAccepted o) B = WaitsConfirm
early_at (FirstConfirmed o p) A = WaitsLink
early_at (FirstConfirmed o p) B = WaitsConfirm
early_at (AwaitsLink o p) x = WaitsLink
early_at (FirstUpAtA o p) x = WaitsLink
early_at (FirstUp o p) x = WaitsLink
early_at (AcceptRefused o r) A = HasFallen
early_at (AcceptRefused o r) B = WaitsConfirm
early_at (AcceptFallen o) x = HasFallen
early_at _ A = WaitsAnswer
early_at _ B = WaitsConfirm

-- what an end is
abbrev pub end_at : Socket → Side → EndState
end_at k x = if up_at k x then IsUp else early_at k x

-- an offer on the link
abbrev pub on_link : Offer → Option Offered
on_link o = Some (record { link = the_link; offer = o })

-- the offer of a side
abbrev pub offered_at : Socket → Side → Option Offered
offered_at (FirstAccepted o) B = on_link o
offered_at (FirstConfirmed o p) A = on_link p
offered_at (FirstConfirmed o p) B = on_link o
offered_at (AwaitsLink o p) A = on_link p
offered_at (AwaitsLink o p) B = on_link o
offered_at (FirstUpAtA o p) A = on_link p
offered_at (FirstUpAtA o p) B = on_link o
offered_at (FirstUp o p) A = on_link p
offered_at (FirstUp o p) B = on_link o
offered_at (Accepted o) B = on_link o
offered_at (AcceptRefused o r) B = on_link o
offered_at (AcceptFallen o) B = on_link o
offered_at (Confirmed o p) A = on_link p
offered_at (Confirmed o p) B = on_link o
offered_at (Up o p) A = on_link p
offered_at (Up o p) B = on_link o
offered_at _ x = None

-- the CLC messages of a side that its peer has not taken
abbrev pub untaken_at : Setup → Socket → Side → List ClcMessage
untaken_at setup Proposed A = ProposalMessage (proposal setup) ∷ []
untaken_at setup (Refused r) B = DeclineMessage r ∷ []
untaken_at setup (FirstAccepted o) B = AcceptMessage o ∷ []
untaken_at setup (FirstConfirmed o p) A = ConfirmMessage p ∷ []
untaken_at setup (Accepted o) B = AcceptMessage o ∷ []
untaken_at setup (AcceptRefused o r) A = DeclineMessage r ∷ []
untaken_at setup (Confirmed o p) A = ConfirmMessage p ∷ []
untaken_at setup _ x = []

-- whether it was opened
abbrev pub opened_at : Socket → Bool
opened_at Unopened = false
opened_at _ = true

-- whether its connection is that of first contact
abbrev pub is_first : Socket → Bool
is_first (FirstAccepted o) = true
is_first (FirstConfirmed o p) = true
is_first (AwaitsLink o p) = true
is_first (FirstUpAtA o p) = true
is_first (FirstUp o p) = true
is_first _ = false

-- whether nothing was offered on it
abbrev pub is_unoffered : Socket → Bool
is_unoffered Unopened = true
is_unoffered Fallen = true
is_unoffered Proposed = true
is_unoffered (Refused r) = true
is_unoffered _ = false

-- which of the steps of first contact a socket has come to, 0 for none
abbrev pub first_step : Socket → ℕ
first_step (FirstAccepted o) = 1
first_step (FirstConfirmed o p) = 2
first_step (AwaitsLink o p) = 3
first_step (FirstUpAtA o p) = 4
first_step (FirstUp o p) = 5
first_step _ = 0

-- a socket is in step with the link: that of first contact goes with it, and the others have offers only once it is live at both sides
abbrev pub suits : Stage → ℕ → Socket → Bool
suits NoLink s k = is_unoffered k
suits (Begun t) s k = if s == t then first_step k == 1 else is_unoffered k
suits (Made t) s k = if s == t then first_step k == 2 else is_unoffered k
suits (Asking t qp) s k = if s == t then first_step k == 3 else is_unoffered k
suits (LiveAtA t qp) s k = if s == t then first_step k == 4 else is_unoffered k
suits (LiveAtBoth t) s k = if s == t then first_step k == 5 else first_step k == 0

-- an offer of a side: of an element of its one RMB, under its one key, for the link
pub record IsOffer (setup : Setup) (x : Side) (first : Bool) (o : Offer) : Type 0 where
  pub first_is : o.first ≡ first
  pub key : o.key ≡ (the_key x).key
  pub address : o.address ≡ rmb_address 1
  pub rmb : rmb_at o.address ≡ 1
  pub low : 1 ≤ o.index
  pub high : o.index ≤ elements_of setup x
  pub size : o.size ≡ setup.size_code
  pub mtu : o.mtu ≡ 5
  pub psn : o.psn ≡ 1

-- each offer of a socket is one
abbrev pub AreOffers : Setup → Socket → Type 0
AreOffers setup k = (x : Side) (o : Offered) → offered_at k x ≡ Some o → IsOffer setup x (is_first k) o.offer

-- a socket has come so far after a history
pub record StandsAt (setup : Setup) (k : Socket) (s : ℕ) (past : List Entry) : Type 0 where
  pub up : (x : Side) → is_up x s past ≡ up_at k x
  pub early : (x : Side) → early_state x s past ≡ early_at k x
  pub offer : (x : Side) → offered x s past ≡ offered_at k x
  pub messages : (x : Side) → untaken x s past ≡ untaken_at setup k x
  pub opened : is_opened s past ≡ opened_at k
  pub raw : is_raw s past ≡ false
  pub offers : AreOffers setup k

-- the socket is somewhere, in step with the link
pub record HasSocket (setup : Setup) (stage : Stage) (s : ℕ) (past : List Entry) : Type 0 where
  pub at : Socket
  pub stands : StandsAt setup at s past
  pub suits_is : suits stage s at ≡ true

-- the first steps of the link, at which a side has not lent
abbrev pub has_not_lent : Side → Stage → Bool
has_not_lent x NoLink = true
has_not_lent A (Begun s) = true
has_not_lent x _ = false

-- what holds of the link and of all sockets after a history
pub record IsWorld (setup : Setup) (stage : Stage) (past : List Entry) : Type 0 where
  pub link : IsAtStage setup stage past
  pub sockets : (s : ℕ) → HasSocket setup stage s past
  pub unlent : (x : Side) → has_not_lent x stage ≡ true → lendings x past ≡ []

-- after a history the link and all sockets are somewhere
pub record HasWorld (setup : Setup) (past : List Entry) : Type 0 where
  pub stage : Stage
  pub world : IsWorld setup stage past
