-- What the manager of a side keeps after a history, as a record of functions of the past.
-- A reader learns here for which plain manager each side's manager stands: its desk, its handshakes and its connections.
use Rattle.std.specs.Prelude.{◌≡◌, ℕ, ◌==◌, Bool, true, false, if◌then◌else◌, List, [], ◌∷◌, length, map, filter, filter_map, Option, Some, None, option_map, unwrap_or}
use Rattle.std.specs.List.{find, range_with_len}
use Rattle.smc_num.specs.declared.Side.{Side}
use Rattle.smc_num.specs.declared.Side.TheVariants.{A, B}
use Rattle.smc_num.specs.Names.{at_side, other, head, no_link, up_to}
use Rattle.smc_num.specs.Places.{Place, same_place, all_places}
use Rattle.clc_wire.specs.declared.offer.Offer.{Offer}
use Rattle.clc_wire.specs.declared.message.ClcMessage.TheVariants.{Accept, Confirm}
use Rattle.element_ledger.specs.declared.Element.{Element}
use Rattle.element_ledger.specs.Lendings.{Row, fresh, lends}
use Rattle.rmb_region.specs.Regions.{Buffer}
use Rattle.pipe_model.specs.declared.post.Post.{Post}
use Rattle.pipe_model.specs.declared.post.Post.TheVariants.{Clc}
use Rattle.pipe_model.specs.declared.setup.Setup.{Setup}
use Rattle.pipe_model.specs.declared.entry.Entry.{Entry}
use Rattle.pipe_model.specs.Words.{rmbs_of, elements_of}
use Rattle.pipe_model.specs.History.{offered}
use Rattle.pipe_model.specs.Fabric.{fabric, group_of, table_of, flow_of, made_on}
use Rattle.pipe_model.specs.Ends.{Half}
use Rattle.pipe_model.specs.Pipe.{half}
use Rattle.pipe_model.specs.Connections.{EndState, WaitsConfirm, WaitsLink, IsUp, named_link, group_on, is_up, end_state}
use Rattle.pipe_model.specs.Lending.{Lending, lends_by, lendings, lent, free_places, epoch, terms_of, pipe_of}
use Rattle.pipe_model.specs.Fallback.{is_raw}
use Rattle.pipe_model.specs.Keys.{keys_of, book_of}
use Rattle.pipe_model.specs.Messages.{serial, pair_on}
use Rattle.pipe_model.specs.Posts.{groups_begun}
use Rattle.clc_handshake.specs.Stages.{Hand}
use Rattle.side_core.specs.declared.route.Route.{Route}
use Rattle.side_core.specs.Records.{Connection, Records, changes}
use Rattle.side_core.specs.Desk.{Desk, most_slots}
use Rattle.side_core.specs.Manager.{Manager}

-- what there is for each socket, the lowest first
abbrev pub each_socket : {X : Type 0} → (ℕ → X) → ℕ → List X
each_socket f sockets = map f (range_with_len 0 sockets)

-- the socket of the offer with which a side begins a group
abbrev pub begins_on : Side → Post → Option ℕ
begins_on B (Clc B s (Some link) (Accept o)) = if o.first then Some s else None
begins_on A (Clc A s (Some link) (Confirm o)) = if o.first then Some s else None
begins_on _ _ = None

-- the socket on which a side began its latest group, 0 where it began none
abbrev pub first_on : Side → List Entry → ℕ
first_on x [] = 0
first_on x (e ∷ older) = unwrap_or (head (filter_map (begins_on x) e.posts)) (first_on x older)

-- the lending of a place among these
abbrev pub lending_at : Place → List Lending → Option Lending
lending_at place lent_now = find (λ l. same_place place l.place) lent_now

-- the lending to a socket among these
abbrev pub lending_on : ℕ → List Lending → Option Lending
lending_on s lent_now = find (λ l. l.s == s) lent_now

-- how often a place is among these lendings
abbrev pub epoch_in : Place → List Lending → ℕ
epoch_in place all = length (filter (λ l. same_place place l.place) all)

-- an element that may be lent to a socket
abbrev pub lent_to : Option ℕ → Row → Row
lent_to None r = r
lent_to (Some s) r = record (lends s r) { epoch = r.epoch }

-- an element, how often it was lent, and to which socket it is lent
abbrev pub row_of : List Lending → List Lending → Place → Row
row_of all lent_now place = lent_to (option_map (λ l. l.s) (lending_at place lent_now)) (record (fresh place) { epoch = epoch_in place all })

-- all elements of a side
abbrev pub rows_of : Setup → List ℕ → Side → List Entry → List Row
rows_of setup payload x past = map (row_of (lendings x past) (lent setup payload x past)) (all_places (rmbs_of setup x) (elements_of setup x))

-- what a side keeps of its group
abbrev pub desk_of : Setup → List ℕ → Side → List Entry → Desk
desk_of setup payload x past = record {
  side = x;
  setup = setup;
  group = group_of x past;
  begun = at_side x 0 (groups_begun past);
  links = record { slots = setup.links; known = table_of x past; made = map (λ k. made_on k (fabric past)) (up_to setup.links) };
  flow = flow_of x past;
  pairs = map (λ k. pair_on x k past) (up_to most_slots);
  serial = serial x past;
  keys = (keys_of x past).keys;
  confirmed = (keys_of x past).confirmed;
  book = book_of x past;
  rows = rows_of setup payload x past;
  first = first_on x past;
}

-- the handshake of a socket
abbrev pub hand_of : Side → List Entry → ℕ → Hand
hand_of x past s = record { raw = is_raw s past; state = end_state x s past }

-- whether an end waits for a Confirm
abbrev pub awaits_confirm : EndState → Bool
awaits_confirm WaitsConfirm = true
awaits_confirm _ = false

-- what the peer offered on a socket, once its offer was taken
abbrev pub heard_on : Side → ℕ → List Entry → Option Offer
heard_on x s past = if awaits_confirm (end_state x s past) then None else option_map (λ o. o.offer) (offered (other x) s past)

-- a lent element in its present lending
abbrev pub element_of : Side → Lending → List Entry → Element
element_of x l past = record { rmb = l.place.rmb; index = l.place.index; epoch = epoch x l.place past }

-- the end of a socket's connection
abbrev pub end_of : Setup → List ℕ → Side → ℕ → List Entry → Half
end_of setup payload x s past = half x (pipe_of setup payload (group_on s past) s past)

-- the route of a socket's connection in a lending
abbrev pub route_of : Side → ℕ → List Entry → Lending → Route
route_of x s past l = record {
  link = unwrap_or (named_link s past) no_link;
  up = is_up x s past;
  element = element_of x l past;
  token = l.token;
  peer = heard_on x s past;
}

-- the connection of a socket, where an element is lent to it
abbrev pub conn_of : Setup → List ℕ → Side → List Entry → ℕ → Option (Connection Half)
conn_of setup payload x past s =
    option_map (λ l. let c : Connection Half = record { route = route_of x s past l; end = end_of setup payload x s past } in c) (lending_on s (lent setup payload x past))

-- the connections of a side
abbrev pub records_of : Setup → List ℕ → Side → List Entry → Records Half
records_of setup payload x past = record {
  terms = terms_of setup;
  by_socket = each_socket (conn_of setup payload x past) setup.sockets;
  tokens = length (lendings x past);
  spare = length (free_places setup payload x past);
}

-- the manager of a side, with these buffers
abbrev pub manager_of : Setup → List ℕ → List Buffer → Side → List Entry → Manager Half
manager_of setup payload regions x past = record {
  desk = desk_of setup payload x past;
  hands = each_socket (hand_of x past) setup.sockets;
  records = records_of setup payload x past;
  regions = regions;
}

-- a manager with the end of a socket changed, where nothing is posted
abbrev pub changes_end : ℕ → (Half → Half) → Manager Half → Manager Half
changes_end s act m = record m { records = changes s (λ (c : Connection Half). let k : Connection Half = record c { end = act c.end } in k) m.records }

-- whether an element is lent to an end in that state, once it was offered
abbrev pub keeps_element : EndState → Bool
keeps_element WaitsConfirm = true
keeps_element WaitsLink = true
keeps_element IsUp = true
keeps_element _ = false

-- the lending that a socket has by its state and its side's offer
abbrev pub lending_due : Side → ℕ → List Entry → Option Lending
lending_due x s past = if keeps_element (end_state x s past) then option_map (λ o. lends_by s o.link o.offer) (offered x s past) else None

-- that each socket has just that one
pub record HasLendings (setup : Setup) (payload : List ℕ) (past : List Entry) : Type 0 where
  pub each : (x : Side) (s : ℕ) → lending_on s (lent setup payload x past) ≡ lending_due x s past
