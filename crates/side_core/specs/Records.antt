-- The connections of a side, one record a socket at most, and what becomes of them.
-- A reader learns here what a record says of its connection, how a token names one, and for which plain ends the records stand.
use Rattle.std.specs.Prelude.{◌≡◌, ◌<◌, ◌^◌, ℕ, ◌+◌, ◌-◌, ◌==◌, Bool, true, false, List, length, replicate, slice_index_or, slice_set, Option, Some, None, option_map, unwrap_or}
use Rattle.std.specs.List.{position}
use Rattle.smc_num.specs.declared.LinkId.{LinkId}
use Rattle.smc_num.specs.Names.{no_link}
use Rattle.clc_wire.specs.declared.offer.Offer.{Offer}
use Rattle.element_ledger.specs.declared.Element.{Element}
use Rattle.pipe_model.specs.Words.{passes}
use Rattle.pipe_model.specs.Ends.{Half, fresh, comes_up, settle}
use Rattle.pipe_model.specs.Pipe.{Terms}
use Rattle.conn_end.specs.Kept.{Kept, Represents}
use Rattle.side_core.specs.declared.route.Route.{Route}

-- a connection at one side: its route and its end
pub record Connection (E : Type 0) : Type 0 where
  pub route : Route
  pub end : E

-- the connections of a side, by socket, none where no element is lent to the socket; what all are made with; how many tokens
-- the side has given; and how many connections more it has room for
pub record Records (E : Type 0) : Type 0 where
  pub terms : Terms
  pub by_socket : List (Option (Connection E))
  pub tokens : ℕ
  pub spare : ℕ

-- no connections: of so many sockets, with room for so many
abbrev pub no_records : {E : Type 0} → Terms → ℕ → ℕ → Records E
no_records terms sockets most = record { terms = terms; by_socket = replicate sockets None; tokens = 0; spare = most }

-- the connection of a socket
abbrev pub conn_at : {E : Type 0} → ℕ → Records E → Option (Connection E)
conn_at s r = slice_index_or r.by_socket s None

-- the plain end of a socket, a fresh one where there is none
abbrev pub half_at : ℕ → Records Half → Half
half_at s r = unwrap_or (option_map (λ c. c.end) (conn_at s r)) (fresh r.terms.number)

-- the route of a socket's connection
abbrev pub route_at : {E : Type 0} → ℕ → Records E → Option Route
route_at s r = option_map (λ c. c.route) (conn_at s r)

-- the link of a socket's connection
abbrev pub link_at : {E : Type 0} → ℕ → Records E → LinkId
link_at s r = unwrap_or (option_map (λ c. c.route.link) (conn_at s r)) no_link

-- whether the side gave the connection this token
abbrev pub has_token : {E : Type 0} → ℕ → Option (Connection E) → Bool
has_token token c = passes (λ c. c.route.token == token) c

-- whether the peer gave it this token
abbrev pub is_aimed_at : {E : Type 0} → ℕ → Option (Connection E) → Bool
is_aimed_at token c = passes (λ c. passes (λ (o : Offer). o.token == token) c.route.peer) c

-- the socket whose connection a token of the side names
abbrev pub holder : {E : Type 0} → ℕ → Records E → Option ℕ
holder token r = position (has_token token) r.by_socket

-- the socket whose messages carry a token of the peer
abbrev pub aimer : {E : Type 0} → ℕ → Records E → Option ℕ
aimer token r = position (is_aimed_at token) r.by_socket

-- the connections with that of one socket changed
abbrev pub changes : {E : Type 0} → ℕ → (Connection E → Connection E) → Records E → Records E
changes s f r = record r { by_socket = slice_set r.by_socket s (option_map f (conn_at s r)) }

-- an end with something done to it, and what is due then posted
abbrev pub settles : ℕ → (Half → Half) → Records Half → Records Half
settles s act r = changes s (λ c. record c { end = settle r.terms.depth (act c.end) }) r

-- the route of a new connection on a link, in an element
abbrev pub new_route : LinkId → Element → ℕ → Route
new_route link element token = record { link = link; up = false; element = element; token = token; peer = None }

-- a connection begins, with the next token, where these links of its group are live
abbrev pub begins : ℕ → LinkId → Element → List LinkId → Records Half → Records Half
begins s link element live r = record r {
  by_socket = slice_set r.by_socket s (Some (record { route = new_route link element (r.tokens + 1); end = record (fresh r.terms.number) { live = live } }));
  tokens = r.tokens + 1;
  spare = r.spare - 1;
}

-- it learns what the peer offers
abbrev pub aims : {E : Type 0} → ℕ → Offer → Records E → Records E
aims s offer r = changes s (λ c. record c { route = record c.route { peer = Some offer } }) r

-- it is established on the link of its route
abbrev pub rises : ℕ → Records Half → Records Half
rises s r = changes s (λ c. record c { route = record c.route { up = true }; end = settle r.terms.depth (comes_up c.route.link c.end) }) r

-- it gives its element back
abbrev pub leaves : {E : Type 0} → ℕ → Records E → Records E
leaves s r = record r { by_socket = slice_set r.by_socket s None; spare = r.spare + 1 }

-- a record stands for a plain one: the route is the same, an end that is established is on the route's link, and what is kept
-- of the end stands for the plain end
pub record Stands (k : Connection Kept) (c : Connection Half) : Type 0 where
  pub route : k.route ≡ c.route
  pub up : c.end.up ≡ c.route.up
  pub link : c.route.up ≡ true → c.end.link ≡ c.route.link
  pub end : Represents k.end c.end

-- that of what may be no connection
abbrev pub StandsAt : Option (Connection Kept) → Option (Connection Half) → Type 0
StandsAt None None = Unit {0}
StandsAt (Some k) (Some c) = Stands k c
StandsAt _ _ = ⊥

-- the end of what may be no connection is made for elements of this size
abbrev pub IsSized : ℕ → Option (Connection Kept) → Type 0
IsSized size None = Unit {0}
IsSized size (Some k) = k.end.size ≡ size

-- the records of a side stand for plain ones, socket by socket; each end is made for elements of the one size
pub record AllStand (v : Records Kept) (r : Records Half) : Type 0 where
  pub terms : v.terms ≡ r.terms
  pub tokens : v.tokens ≡ r.tokens
  pub spare : v.spare ≡ r.spare
  pub sockets : length v.by_socket ≡ length r.by_socket
  pub each : (s : ℕ) → StandsAt (conn_at s v) (conn_at s r)
  pub sizes : (s : ℕ) → IsSized v.terms.size (conn_at s v)

-- the counts of an end are far from the end of a u64
abbrev pub IsSmall : Option (Connection Kept) → Type 0
IsSmall None = Unit {0}
IsSmall (Some k) = (k.end.accepted < 2 ^ 63) × (k.end.course.number < 2 ^ 63)
