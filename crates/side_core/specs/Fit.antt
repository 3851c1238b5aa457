-- What fits together in a manager.
-- A reader learns here that an end has a connection exactly in the states in which an element is lent to it, and that each
-- connection's element is its own.
use Rattle.std.specs.Prelude.{◌≡◌, ◌≤◌, ◌<◌, ℕ, ◌==◌, not, true, false, List, [], ◌∷◌, length, map, filter, All, Option, Some, None, IsSome, IfSome, Bool, ◌+◌}
use Rattle.smc_num.specs.Links.{Known, first_live}
use Rattle.smc_num.specs.Places.{all_places, rmb_at}
use Rattle.clc_wire.specs.declared.offer.Offer.{Offer}
use Rattle.element_ledger.specs.declared.Element.{Element}
use Rattle.element_ledger.specs.Lendings.{is_lent, lending_of, IsLent}
use Rattle.rmb_region.specs.Regions.{Buffer}
use Rattle.smc_num.specs.declared.LinkId.{LinkId}
use Rattle.clc_wire.specs.declared.message.ClcMessage.{ClcMessage}
use Rattle.clc_wire.specs.declared.message.ClcMessage.TheVariants.{Accept, Confirm}
use Rattle.pipe_model.specs.declared.verdict.ClcStep.{ClcStep}
use Rattle.pipe_model.specs.declared.verdict.ClcStep.TheVariants.{SendAccept, SendConfirm, Decline, Fell, Ready, Lost, Wrong}
use Rattle.pipe_model.specs.Words.{element_size, elements_of}
use Rattle.pipe_model.specs.Lending.{terms_of}
use Rattle.pipe_model.specs.Flows.{is_first_contact}
use Rattle.pipe_model.specs.Ends.{Half}
use Rattle.pipe_model.specs.Connections.{EndState, NoEnd, WaitsProposal, WaitsAnswer, WaitsConfirm, WaitsLink, IsUp, HasFallen, WasReset}
use Rattle.conn_end.specs.Kept.{Kept}
use Rattle.side_core.specs.declared.route.Route.{Route}
use Rattle.side_core.specs.Records.{route_at, Records, conn_at}
use Rattle.side_core.specs.Setups.{IsSet, CanStart, CanBegin}
use Rattle.side_core.specs.Desk.{Desk, made_on}
use Rattle.side_core.specs.Manager.{Manager, Represents, state_at}
use Rattle.side_core.specs.Acting.{IsSoundAt}
use Rattle.side_core.specs.Taking.{IsOffer}

-- a connection that suits the state of its end: the server's that waits for a Confirm knows no offer yet, one that waits for its
-- link does, and so does one that is up
abbrev pub Suits : EndState → Option Route → Type 0
Suits WaitsConfirm (Some r) = (r.up ≡ false) × (r.peer ≡ None)
Suits WaitsLink (Some r) = (r.up ≡ false) × IsSome r.peer
Suits IsUp (Some r) = (r.up ≡ true) × IsSome r.peer
Suits NoEnd None = Unit {0}
Suits WaitsProposal None = Unit {0}
Suits WaitsAnswer None = Unit {0}
Suits HasFallen None = Unit {0}
Suits (WasReset cause) None = Unit {0}
Suits _ _ = ⊥

-- an element is lent to a socket, and lies in the side's one RMB
pub record IsLentTo (s : ℕ) (e : Element) (d : Desk) : Type 0 where
  pub lending : lending_of e d.rows ≡ Some (record { conn = s; own = false; peer = false })
  pub rmb : e.rmb ≡ 1
  pub low : 1 ≤ e.index
  pub high : e.index ≤ elements_of d.setup d.side

-- that of what may be no connection; the peer's offer is of an element of its one RMB
abbrev pub HasElement : ℕ → Desk → Option Route → Type 0
HasElement s d None = Unit {0}
HasElement s d (Some r) = IsLentTo s r.element d × IfSome r.peer (λ (o : Offer). (rmb_at o.address ≡ 1) × (1 ≤ o.index))

-- a table of links of one slot
abbrev pub IsOneSlot : List Known → Type 0
IsOneSlot [] = Unit {0}
IsOneSlot (known ∷ []) = known.link.slot ≡ 1
IsOneSlot _ = ⊥

-- the buffer of a side's one RMB
abbrev pub IsOneBuffer : Desk → List Buffer → Type 0
IsOneBuffer d (b ∷ []) = (b.rmb ≡ 1) × (b.elements ≡ elements_of d.setup d.side) × (b.size ≡ element_size d.setup)
IsOneBuffer d _ = ⊥

-- what fits together in every manager
pub record IsFit (m : Manager Half) : Type 0 where
  pub set : IsSet m.desk.setup m.desk.side
  pub terms : m.records.terms ≡ terms_of m.desk.setup
  pub sockets : length m.hands ≡ m.desk.setup.sockets
  pub records : length m.records.by_socket ≡ m.desk.setup.sockets
  pub buffer : IsOneBuffer m.desk m.regions
  pub slot : IsOneSlot m.desk.links.known
  pub places : map (λ r. r.place) m.desk.rows ≡ all_places 1 (elements_of m.desk.setup m.desk.side)
  pub spare : m.records.spare ≡ length (filter (λ r. not (is_lent r)) m.desk.rows)
  pub epochs : All (λ r. r.epoch ≤ m.records.tokens) m.desk.rows
  pub tokens : m.records.tokens ≤ length m.records.by_socket
  pub quiet : (m.desk.group == 0) ≡ true → m.desk.links.known ≡ []
  pub room : (m.desk.group == 0) ≡ true → 0 < m.records.spare
  pub unconfirmed : (m.desk.group == 0) ≡ true → m.desk.confirmed ≡ []
  pub confirmed : (m.desk.group == 0) ≡ false → m.desk.confirmed ≡ 1 ∷ []
  pub live : (m.desk.group == 0) ≡ false → is_first_contact m.desk.flow.link ≡ false → IsSome (first_live m.desk.links.known)
  pub suits : (s : ℕ) → Suits (state_at s m) (route_at s m.records)
  pub elements : (s : ℕ) → HasElement s m.desk (route_at s m.records)

-- what is true of a manager: it stands for a plain one in which all fits together
pub record IsManager (v : Manager Kept) : Type 0 where
  pub plain : Manager Half
  pub stands : Represents v plain
  pub fit : IsFit plain

-- a desk and records as those of a manager
abbrev pub beside : {E : Type 0} → Desk → Records E → Manager E
beside d r = record { desk = d; hands = []; records = r; regions = [] }

-- what a connection must be that takes the Confirm on its link
abbrev pub IsAwaiting : LinkId → Option Route → Type 0
IsAwaiting link None = ⊥
IsAwaiting link (Some r) = (r.link ≡ link) × (r.peer ≡ None)

-- a connection whose element is lent may give it back
abbrev pub MayQuit : Desk → Option Route → Type 0
MayQuit d None = Unit {0}
MayQuit d (Some r) = IsLent r.element d.rows

-- what a step of the handshake needs
abbrev pub Allows : ℕ → ClcStep → ClcMessage → LinkId → List Bool → Desk → Records Kept → Type 0
Allows s (SendAccept true) message link paths d r = CanStart s d r × CanBegin d × (length paths ≡ 1)
Allows s (SendAccept false) message link paths d r = CanStart s d r × ((d.group == 0) ≡ false) × IsSome (first_live d.links.known) × IsOneSlot d.links.known
Allows s (SendConfirm true) (Accept o) link paths d r = CanStart s d r × CanBegin d × IsOffer o link (beside d r) × (link.incarnation ≡ made_on link.slot d + 1)
Allows s (SendConfirm false) (Accept o) link paths d r = CanStart s d r × ((d.group == 0) ≡ false) × IsOffer o link (beside d r)
Allows s Ready (Confirm o) link paths d r = IsAwaiting link (route_at s r) × IsOffer o link (beside d r) × IsSoundAt r.terms.size (conn_at s r)
Allows s (Decline lack) message link paths d r = MayQuit d (route_at s r)
Allows s Fell message link paths d r = MayQuit d (route_at s r)
Allows s Lost message link paths d r = MayQuit d (route_at s r)
Allows s (Wrong kind) message link paths d r = MayQuit d (route_at s r)
Allows s _ message link paths d r = Unit {0}
