-- What ties the parts of a side's table of connections.
-- A reader learns here what each record says of the tables of tokens, and what every end was made with.
use Rattle.std.specs.Prelude.{◌≡◌, ◌<◌, ◌≤◌, ℕ, ◌-◌, ◌==◌, if◌then◌else◌, false, All, List, length, slice_get, Option, Some, None}
use Rattle.smc_num.specs.Places.{rmb_at}
use Rattle.clc_wire.specs.declared.offer.Offer.{Offer}
use Rattle.pipe_model.specs.Pipe.{Terms}
use Rattle.conn_end.specs.Kept.{Kept, IsKept}
use Rattle.side_core.specs.Records.{Connection, Records}
use Rattle.side_core.specs.Slots.{Slots, slot_at}

-- what all connections are made with
abbrev pub made_with : ℕ → ℕ → ℕ → Terms
made_with size depth number = record { size = size; depth = depth; number = number }

-- what a table shows: the records by socket, how many tokens were given, and how many ends are in no record
abbrev pub records_of : Terms → Slots → List ℕ → List Kept → Records Kept
records_of terms shelf by_token idle = record { terms = terms; by_socket = shelf.slots; tokens = length by_token; spare = length idle }

-- that an end is made with these terms
pub record IsMade (terms : Terms) (k : Kept) : Type 0 where
  pub size : k.size ≡ terms.size
  pub depth : k.course.depth ≡ terms.depth
  pub first : k.first ≡ terms.number

-- that an offer names an element, and the messages of an end carry its token
pub record IsOffered (label : ℕ) (o : Offer) : Type 0 where
  pub token : label ≡ o.token
  pub rmb : rmb_at o.address < 256
  pub index : 1 ≤ o.index

-- that of what may be no offer
abbrev pub IsAimed : ℕ → Option Offer → Type 0
IsAimed label None = Unit {0}
IsAimed label (Some o) = IsOffered label o

-- the socket that a list of sockets by tokens has for a token; tokens begin at 1
abbrev pub socket_named : ℕ → List ℕ → Option ℕ
socket_named token sockets = if token == 0 then None else slice_get sockets (token - 1)

-- that the token of what may be no offer names the socket
abbrev pub IsPeerNamed : List ℕ → ℕ → Option Offer → Type 0
IsPeerNamed by_peer s None = Unit {0}
IsPeerNamed by_peer s (Some o) = socket_named o.token by_peer ≡ Some s

-- what holds of every connection alone: its end owes no validation, and its messages go to its peer
pub record IsSet (c : Connection Kept) : Type 0 where
  pub kept : IsKept c.end
  pub owes : c.end.owes ≡ false
  pub aimed : IsAimed c.end.token c.route.peer

-- what holds of the connection of a socket: its end is made with the terms, and the tokens of both sides name the socket
pub record IsFiled (terms : Terms) (by_token by_peer : List ℕ) (s : ℕ) (c : Connection Kept) : Type 0 where
  pub made : IsMade terms c.end
  pub set : IsSet c
  pub own : socket_named c.route.token by_token ≡ Some s
  pub peer : IsPeerNamed by_peer s c.route.peer

-- that of what may be no connection
abbrev pub IsFiledAt : Terms → List ℕ → List ℕ → ℕ → Option (Connection Kept) → Type 0
IsFiledAt terms by_token by_peer s None = Unit {0}
IsFiledAt terms by_token by_peer s (Some c) = IsFiled terms by_token by_peer s c

-- what holds of every table; its lists have this room
pub record IsTable (terms : Terms) (shelf : Slots) (by_token by_peer : List ℕ) (idle : List Kept) (room_of_tokens room_of_idle : ℕ) : Type 0 where
  pub some : 1 ≤ terms.size
  pub each : (s : ℕ) → IsFiledAt terms by_token by_peer s (slot_at s shelf)
  pub made : All (IsMade terms) idle
  pub spare : length idle ≤ shelf.room
  pub peers : length by_peer ≡ length shelf.slots
  pub token_room : length shelf.slots ≤ room_of_tokens
  pub most : shelf.room ≤ shelf.capacity
  pub idle_room : shelf.capacity ≤ room_of_idle
