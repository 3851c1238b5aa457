-- The two hosts of a world of one link, and what is true of them after a history.
-- A reader learns here, subject by subject, for what of the history a manager, its wire and its streams stand, and what an event does to both hosts.
use Rattle.std.specs.Prelude.{◌≡◌, ◌≤◌, ◌<◌, ℕ, ◌+◌, ◌*◌, ◌^◌, false, List, [], ◌∷◌, ◌++◌, length, map, filter_map, reverse, Option, Some, IfSome, option_map, Bool}
use Rattle.smc_num.specs.declared.Side.{Side}
use Rattle.smc_num.specs.declared.Side.TheVariants.{A}
use Rattle.smc_num.specs.Names.{other, head, up_to}
use Rattle.pipe_model.specs.Fabric.{path_up}
use Rattle.pipe_model.specs.declared.snapshot.Snapshot.{Snapshot}
use Rattle.pipe_model.specs.declared.sent.Sent.{Sent}
use Rattle.pipe_model.specs.declared.setup.Setup.{Setup}
use Rattle.pipe_model.specs.declared.entry.Entry.{Entry}
use Rattle.pipe_model.specs.Words.{rmbs_of, elements_of}
use Rattle.pipe_model.specs.History.{Offered, offered}
use Rattle.pipe_model.specs.Wires.{unlanded, uncompleted}
use Rattle.pipe_model.specs.Ends.{Half, to_land}
use Rattle.pipe_model.specs.Pipe.{half}
use Rattle.pipe_model.specs.Lending.{pipe_of}
use Rattle.pipe_model.specs.Fallback.{stream, untaken}
use Rattle.rc_link.specs.declared.InFlight.{InFlight}
use Rattle.rc_link.specs.Wire.{Queues, unlanded as waiting_on, uncompleted as landed_on}
use Rattle.side_core.specs.Setups.{IsSet}
use Rattle.side_core.specs.Manager.{Represents}
use Rattle.world_core.specs.OneLink.{the_link}
use Rattle.world_core.specs.Played.{IsOneLink, IsPlayed, handed}
use Rattle.world_core.specs.Heard.{all_bytes}
use Rattle.world_core.specs.Landed.{buffer_of}
use Rattle.world_core.specs.Managers.{manager_of}
use Rattle.world_core.specs.Steps.{Seen, entry_of, opening_order, past}
use Rattle.world_core.specs.Sending.{outflow_at, wire_in}
use Rattle.world_core.specs.declared.host.Untaken.{Untaken}
use Rattle.world_core.specs.declared.host.Outflow.{Outflow}
use Rattle.world_core.specs.declared.host.Host.{Host}
use Rattle.world_core.specs.declared.moment.Moment.{Moment}
use Rattle.pipe_model.specs.declared.event.Event.{Event}
use Rattle.pipe_model.specs.declared.reply.Reply.{Reply}
use Rattle.pipe_model.specs.declared.post.Post.{Post}
use Rattle.pipe_model.specs.Calls.{Told}
use Rattle.pipe_model.specs.Replies.{told}
use Rattle.pipe_model.specs.Lawful.{reply_of, posted}
use Rattle.world_core.specs.Wired.{cdc_under, returning}

-- the settings of now, and how much a payload may be
pub record IsWorldSet (setup : Setup) (payload : List ℕ) : Type 0 where
  pub one : IsOneLink setup
  pub set : (x : Side) → IsSet setup x
  pub payload_few : length payload < 2 ^ 32

-- the end of a side on a socket, as its pipe in the one group has it
abbrev pub half_of : Setup → List ℕ → Side → ℕ → List Entry → Half
half_of setup payload x s past = half x (pipe_of setup payload 1 s past)

-- the plain snapshot beside a CDC message of a side under a token
abbrev pub plain_under : Side → ℕ → InFlight → Option Snapshot
plain_under x token c = option_map (λ m. c.plain) (cdc_under x token c.post)

-- the plain snapshots beside those among carried posts
abbrev pub plains : Side → ℕ → List InFlight → List Snapshot
plains x token carried = filter_map (plain_under x token) carried

-- the snapshots of messages
abbrev pub shots : List Sent → List Snapshot
shots sent = map (λ m. m.snapshot) sent

-- that under a token the plain snapshots on a wire are those that an end has under way
pub record TellsPlainly (x : Side) (token : ℕ) (w : Queues) (h : Half) : Type 0 where
  pub landing : plains x token w.waiting ≡ shots (to_land h)
  pub completing : plains x token w.landed ≡ shots (returning h)

-- how many posts of a side a link has places for: for each of its elements as many snapshots of three posts as may be under way,
-- with a validation message, and beside them 32 LLC messages
abbrev pub places_of : Setup → Side → ℕ
places_of setup x = rmbs_of setup x * elements_of setup x * (3 * setup.depth + 1) + 32

-- the wire of a slot
abbrev pub wire_at : ℕ → Host → Queues
wire_at slot h = wire_in slot h.wires.items

-- a wire carries what the history has under way on the link, with the plain snapshots
pub record IsWireAfter (setup : Setup) (payload : List ℕ) (x : Side) (past : List Entry) (w : Queues) : Type 0 where
  pub places : w.places ≡ places_of setup x
  pub waiting : waiting_on w ≡ unlanded the_link x past
  pub landed : landed_on w ≡ uncompleted the_link x past
  pub uncut : w.cut ≡ false
  pub unreported_a : w.by_a ≡ false
  pub unreported_b : w.by_b ≡ false
  pub plain : (s : ℕ) (o : Offered) → offered (other x) s past ≡ Some o → TellsPlainly x o.offer.token w (half_of setup payload x s past)

-- a wire after more posts
abbrev pub with_posts : List InFlight → Queues → Queues
with_posts carried w = record w { waiting = w.waiting ++ carried }

-- an untaken message is the next one of the history, and is about the link of its side's offer, where there is one
pub record IsNext (x : Side) (s : ℕ) (past : List Entry) (next : Option Untaken) : Type 0 where
  pub message : option_map (λ u. u.message) next ≡ head (untaken x s past)
  pub link : IfSome next (λ u. u.link ≡ option_map (λ o. o.link) (offered x s past))

-- what flows from a side on a socket after a history
pub record IsStreamAfter (payload : List ℕ) (x : Side) (s : ℕ) (past : List Entry) (f : Outflow) : Type 0 where
  pub held : f.bytes ≡ record { held = stream payload x s past; ended = false; reset = false }
  pub next : IsNext x s past f.next

-- a host of a side stands for what a history makes of it: its manager, with the bytes that have landed in its RMB, its wire and
-- its streams
pub record IsHostAfter (setup : Setup) (payload : List ℕ) (x : Side) (past : List Entry) (h : Host) : Type 0 where
  pub side : Represents h.core (manager_of setup payload (buffer_of setup payload x 1 past ∷ []) x past)
  pub wire : IsWireAfter setup payload x past (wire_at 1 h)
  pub sockets : length h.flows.items ≡ setup.sockets
  pub flows : (s : ℕ) → s < setup.sockets → IsStreamAfter payload x s past (outflow_at s h.flows.items)

-- the two hosts, that of a side and that of its peer, stand for a played history
pub record AreHostsAfter (setup : Setup) (payload : List ℕ) (past : List Entry) (heard : ℕ) (x : Side) (mine peers : Host) : Type 0 where
  pub set : IsWorldSet setup payload
  pub few : length past ≤ 2 ^ 18
  pub played : IsPlayed setup payload past heard
  pub own : IsHostAfter setup payload x past mine
  pub theirs : IsHostAfter setup payload (other x) past peers

-- which paths are up, by slot
abbrev pub paths_after : Setup → List Entry → List Bool
paths_after setup past = map (λ k. path_up k past) (up_to setup.links)

-- the two hosts stand for some history in which a socket is a known one
pub record KnowSocket (s : ℕ) (x : Side) (mine peers : Host) : Type 0 where
  pub setup : Setup
  pub payload : List ℕ
  pub past : List Entry
  pub heard : ℕ
  pub hosts : AreHostsAfter setup payload past heard x mine peers
  pub known : s < setup.sockets

-- the entries that an event finds, the newest first
abbrev pub past_of : Moment → List Entry
past_of at = reverse at.history.now

-- the hosts before an event
abbrev pub AreHosts : Moment → Side → Host → Host → Type 0
AreHosts at x own theirs = AreHostsAfter at.setup.now at.payload.now (past_of at) at.heard x own theirs

-- what an event is told at a moment
abbrev pub told_at : Moment → Event → Told
told_at at event = told at.setup.now at.payload.now (past_of at) event

-- an event is played: reply and posts are what the definitions give, and the hosts stand for the history with its entry, whoever
-- the actor was
pub record IsPlayedBy (at : Moment) (event : Event) (reply : Reply) (posts : List Post) (x : Side) (own theirs : Host) : Type 0 where
  pub reply_is : reply ≡ reply_of at.heard (told_at at event)
  pub posts_are : posts ≡ posted at.setup.now at.payload.now (past_of at) at.heard event
  pub after : (actor : ℕ) → AreHostsAfter at.setup.now at.payload.now (entry_of at.setup.now at.payload.now (past_of at) at.heard actor event ∷ past_of at)
      (at.heard + handed (told_at at event)) x own theirs

-- the world and its hosts stand for its history, which fits its room
pub record IsWorldAfter (w : Seen) (a b : Host) (opened : List ℕ) (paths : List Bool) (history_room heard_room opened_room : ℕ) : Type 0 where
  pub hosts : AreHostsAfter w.setup w.payload (past w) (length w.heard) A a b
  pub heard_is : w.heard ≡ all_bytes w.setup w.payload (past w)
  pub order : opened ≡ opening_order (past w)
  pub paths_are : paths ≡ paths_after w.setup (past w)
  pub entries : length w.history ≤ w.room.entries
  pub bytes : length w.heard ≤ w.room.bytes
  pub most_entries : w.room.entries ≤ 2 ^ 18
  pub most_bytes : w.room.bytes ≤ 2 ^ 26
  pub entries_fit : w.room.entries ≤ history_room
  pub bytes_fit : w.room.bytes ≤ heard_room
  pub opened_fit : w.room.entries ≤ opened_room
