-- The manager of one side: what it keeps of its group, the handshakes of its sockets, its connections and its buffers.
-- A reader learns here for which plain manager, whose ends are those of the private pipes, a manager stands.
use Rattle.std.specs.Prelude.{◌≡◌, ℕ, false, List, length, map, replicate, slice_index_or, slice_set, Option, Some, None, ◌<◌, ◌^◌}
use Rattle.smc_num.specs.declared.Side.{Side}
use Rattle.smc_num.specs.Names.{up_to}
use Rattle.smc_num.specs.Links.{Known, live_links}
use Rattle.rmb_region.specs.Regions.{Buffer, fresh}
use Rattle.pipe_model.specs.declared.setup.Setup.{Setup}
use Rattle.pipe_model.specs.Words.{element_size, rmbs_of, elements_of}
use Rattle.pipe_model.specs.Lending.{terms_of}
use Rattle.pipe_model.specs.Ends.{Half}
use Rattle.pipe_model.specs.Connections.{EndState, NoEnd}
use Rattle.clc_handshake.specs.Stages.{Hand}
use Rattle.conn_end.specs.Kept.{Kept}
use Rattle.side_core.specs.Desk.{Desk, new_desk}
use Rattle.side_core.specs.Records.{Connection, Records, AllStand, conn_at, no_records}

-- a manager: what it keeps of its group, its handshakes by socket, its connections, and the buffers of its RMBs
pub record Manager (E : Type 0) : Type 0 where
  pub desk : Desk
  pub hands : List Hand
  pub records : Records E
  pub regions : List Buffer

-- the handshake of a socket that has no end
abbrev pub no_hand : Hand
no_hand = record { raw = false; state = NoEnd }

-- the handshake of a socket that may have an end
abbrev pub hand_of : Option Hand → Hand
hand_of None = no_hand
hand_of (Some hand) = hand

-- the handshake of a socket, among those that a side keeps
abbrev pub hand_in : ℕ → List (Option Hand) → Hand
hand_in s hands = slice_index_or (map hand_of hands) s no_hand

-- the handshake of a socket
abbrev pub hand_at : {E : Type 0} → ℕ → Manager E → Hand
hand_at s m = slice_index_or m.hands s no_hand

-- what the end of a socket waits for, or what has become of it
abbrev pub state_at : {E : Type 0} → ℕ → Manager E → EndState
state_at s m = (hand_at s m).state

-- the handshake of a socket becomes another one
abbrev pub with_hand : {E : Type 0} → ℕ → Hand → Manager E → Manager E
with_hand s hand m = record m { hands = slice_set m.hands s hand }

-- the state of a socket becomes another one
abbrev pub with_state : {E : Type 0} → ℕ → EndState → Manager E → Manager E
with_state s state m = with_hand s (record (hand_at s m) { state = state }) m

-- the manager of a side that nothing concerned
abbrev pub new_manager : {E : Type 0} → Side → Setup → Manager E
new_manager x setup = record {
  desk = new_desk x setup;
  hands = replicate setup.sockets no_hand;
  records = no_records (terms_of setup) setup.sockets (length (new_desk x setup).rows);
  regions = map (λ rmb. fresh rmb (elements_of setup x) (element_size setup)) (up_to (rmbs_of setup x));
}

-- a plain end is tied to the links of its side: it knows the live ones
pub record IsTied (known : List Known) (c : Connection Half) : Type 0 where
  pub live : c.end.live ≡ live_links known

-- that of what may be no connection
abbrev pub IsTiedAt : List Known → Option (Connection Half) → Type 0
IsTiedAt known None = Unit {0}
IsTiedAt known (Some c) = IsTied known c

-- a desk and records stand for those of a plain manager, whose ends are tied to its links
pub record Works (d : Desk) (r : Records Kept) (m : Manager Half) : Type 0 where
  pub desk : d ≡ m.desk
  pub records : AllStand r m.records
  pub tied : (s : ℕ) → IsTiedAt m.desk.links.known (conn_at s m.records)

-- a manager stands for a plain one
pub record Represents (v : Manager Kept) (m : Manager Half) : Type 0 where
  pub works : Works v.desk v.records m
  pub hands : v.hands ≡ m.hands
  pub regions : v.regions ≡ m.regions

-- that there is such a plain manager, of whose ends the first numbers are small
pub record IsWorking (d : Desk) (r : Records Kept) : Type 0 where
  pub plain : Manager Half
  pub works : Works d r plain
  pub number : r.terms.number < 2 ^ 63
