-- How the posts of an entry leave a host: CLC messages into the streams of their sockets, all others on the wire of the link.
-- A reader learns here what a host keeps of them, and what leaves a wire or a stream with an event.
use Rattle.std.specs.Prelude.{◌≡◌, ◌<◌, ℕ, ◌+◌, ◌-◌, Bool, true, false, if◌then◌else◌, List, [], ◌∷◌, ◌++◌, take, drop, slice_index_or, slice_set, Option, Some, None, IsSome, option_map, unwrap_or}
use Rattle.smc_num.specs.declared.Side.{Side}
use Rattle.smc_num.specs.declared.Side.TheVariants.{A}
use Rattle.smc_num.specs.Names.{same_side, other}
use Rattle.smc_num.specs.declared.LinkId.{LinkId}
use Rattle.clc_wire.specs.declared.message.ClcMessage.{ClcMessage}
use Rattle.clc_wire.specs.Clc.{Fits, clc_bytes, clc_length}
use Rattle.pipe_model.specs.declared.snapshot.Snapshot.{Snapshot}
use Rattle.pipe_model.specs.declared.event.Event.{Event}
use Rattle.pipe_model.specs.declared.event.Event.TheVariants.{Write as WriteEvent, Read, Clc as ClcEvent, Deliver, Complete}
use Rattle.pipe_model.specs.declared.post.Post.{Post}
use Rattle.pipe_model.specs.declared.post.Post.TheVariants.{Write, Cdc, Llc, Clc}
use Rattle.pipe_model.specs.declared.post.PostRef.{PostRef}
use Rattle.pipe_model.specs.Ends.{Half}
use Rattle.tcp_pipe.specs.Streams.{free}
use Rattle.rc_link.specs.declared.InFlight.{InFlight}
use Rattle.rc_link.specs.Wire.{Queues, empty, with_post, landing, completing, with_landed, with_completed}
use Rattle.conn_end.specs.Kept.{Kept}
use Rattle.side_core.specs.Records.{aimer, half_at}
use Rattle.side_core.specs.Manager.{Manager}
use Rattle.world_core.specs.declared.host.Outflow.{Outflow}

-- the wire of a slot, from 1 on, among those of a host: one that carries nothing where there is none
abbrev pub wire_in : ℕ → List Queues → Queues
wire_in slot wires = slice_index_or wires (slot - 1) (empty 0 false)

-- a snapshot that tells nothing
abbrev pub no_snapshot : Snapshot
no_snapshot = record { number = 0; told = 0; read = 0; done = false; closed = false; aborted = false }

-- the plain snapshot beside a post: that which the end posted last whose messages carry its token
abbrev pub plain_of : Manager Half → Post → Snapshot
plain_of m (Cdc from link message) = unwrap_or (option_map (λ s. (half_at s m.records).last) (aimer message.token m.records)) no_snapshot
plain_of m _ = no_snapshot

-- whether a post goes on the wire
abbrev pub goes_on_wire : Post → Bool
goes_on_wire (Clc from s link message) = false
goes_on_wire _ = true

-- the posts of an entry that go on the wire, the first of them all having this number
abbrev pub carried_from : Manager Half → ℕ → ℕ → List Post → List InFlight
carried_from m entry first [] = []
carried_from m entry first (post ∷ posts) =
    if goes_on_wire post then record { at = record { entry = entry; post = first }; post = post; plain = plain_of m post } ∷ carried_from m entry (first + 1) posts
    else carried_from m entry (first + 1) posts

-- the wire of a host after it has sent one post of the history
abbrev pub posts_one : Manager Half → PostRef → Post → Queues → Queues
posts_one m at post w = if goes_on_wire post then with_post (record { at = at; post = post; plain = plain_of m post }) w else w

-- a socket on which nothing has flowed
abbrev pub still : Outflow
still = record { bytes = record { held = []; ended = false; reset = false }; next = None }

-- what flows out on a socket
abbrev pub outflow_at : ℕ → List Outflow → Outflow
outflow_at s flows = slice_index_or flows s still

-- a CLC message goes into a stream, and waits to be taken
abbrev pub puts : Option LinkId → ClcMessage → Outflow → Outflow
puts link message f = record { bytes = record f.bytes { held = f.bytes.held ++ take (free f.bytes) (clc_bytes message) }; next = Some (record { message = message; link = link }) }

-- the posts of an entry go into the streams
abbrev pub puts_one : Post → List Outflow → List Outflow
puts_one (Clc from s link message) flows = slice_set flows s (puts link message (outflow_at s flows))
puts_one _ flows = flows

abbrev pub puts_all : List Post → List Outflow → List Outflow
puts_all [] flows = flows
puts_all (post ∷ posts) flows = puts_all posts (puts_one post flows)

-- the message at the front of a stream is taken
abbrev pub takes_next : ClcMessage → Outflow → Outflow
takes_next message f = record { bytes = record f.bytes { held = drop (clc_length message) f.bytes.held }; next = None }

-- what an event takes off the wire of a side: the next post lands, or the oldest landed one completes
abbrev pub moved : Side → Event → Queues → Queues
moved x (Deliver slot dir) w = if same_side x dir then with_landed (landing w) w else w
moved x (Complete slot dir) w = if same_side x dir then with_completed (completing w) w else w
moved x _ w = w

-- the side that posts with an event: that which calls, which takes a message, to which a post completes, or which opens
abbrev pub acting_side : Event → Side
acting_side (WriteEvent end at len) = end.side
acting_side (Read end len) = end.side
acting_side (ClcEvent s dir) = other dir
acting_side (Deliver slot dir) = other dir
acting_side (Complete slot dir) = dir
acting_side _ = A

-- that a post may be sent: it goes on the one slot; the token of a CDC message names an end; and a CLC message is for a socket
-- that there is, and fits
abbrev pub MaySend : ℕ → Manager Kept → Post → Type 0
MaySend sockets v (Write from link key address len) = link.slot ≡ 1
MaySend sockets v (Cdc from link message) = (link.slot ≡ 1) × IsSome (aimer message.token v.records)
MaySend sockets v (Llc from link message) = link.slot ≡ 1
MaySend sockets v (Clc from s link message) = (s < sockets) × Fits message

-- that each of them may
abbrev pub MaySendAll : ℕ → Manager Kept → List Post → Type 0
MaySendAll sockets v [] = Unit {0}
MaySendAll sockets v (post ∷ posts) = MaySend sockets v post × MaySendAll sockets v posts
