-- The text of a history.
-- A reader learns here what the program prints: a line an entry and below it one for each of its
-- posts, a line a socket, and how it ended.
use Rattle.std.specs.Prelude.{ℕ, zero, suc, ◌+◌, ◌==◌, ◌&&◌, Bool, true, false, List, [], ◌∷◌, ◌++◌, codes, slice_index_or, length, Option, Some, None, if◌then◌else◌}
use Rattle.std.specs.List.{flat_map, sum_by, list_any}
use Rattle.std.specs.Fmt.{decimal}
use Rattle.smc_num.specs.declared.Side.{Side}
use Rattle.smc_num.specs.declared.Side.TheVariants.{A, B}
use Rattle.pipe_model.specs.declared.entry.Entry.{Entry}
use Rattle.pipe_model.specs.declared.event.Event.{Event}
use Rattle.pipe_model.specs.declared.event.Event.TheVariants.{Open, Raw, Write, Read, Finish, Close, Abort, Await, Clc, Deliver, Complete, Swallow, Cut, Heal, Report, Move, Grow, Test, Trim}
use Rattle.pipe_model.specs.declared.reply.Reply.{Reply}
use Rattle.pipe_model.specs.declared.reply.Reply.TheVariants.{Opened, Wrote, Bytes, Declined}
use Rattle.pipe_model.specs.declared.entry.StepFault.{StepFault}
use Rattle.pipe_model.specs.declared.entry.StepFault.TheVariants.{Spent, BytesSpent}
use Rattle.scene_text.specs.Spelling.{name_text, event_text}
use Rattle.scene_text.specs.ReplyText.{reply_text}
use Rattle.scene_text.specs.PostText.{post_line}

-- the name of an actor: actor 0 is the scene's own
abbrev pub actor_text : List (List ℕ) → ℕ → List ℕ
actor_text actors zero = codes "main"
actor_text actors (suc k) = slice_index_or actors k []

-- what the text of a history needs besides its entries
pub record Printed : Type 0 where
  pub names : List (List ℕ)
  pub actors : List (List ℕ)
  pub payload : List ℕ
  pub heard : List ℕ

-- who made the n-th entry, and what happened
abbrev pub who_text : List (List ℕ) → ℕ → ℕ → List ℕ
who_text actors n actor = decimal n ++ (codes " " ++ (actor_text actors actor ++ codes " "))

abbrev pub what_text : Printed → Entry → List ℕ
what_text p e = event_text p.names p.payload e.event ++ (codes ": " ++ (reply_text p.heard e.reply ++ codes "\n"))

-- the n-th entry: its number, the actor, the event and the reply, and then its posts
abbrev pub entry_text : Printed → ℕ → Entry → List ℕ
entry_text p n e = who_text p.actors n e.actor ++ (what_text p e ++ flat_map (post_line p.names) e.posts)

-- entries, of which the first has number n
abbrev pub entries_text : Printed → ℕ → List Entry → List ℕ
entries_text p n [] = []
entries_text p n (e ∷ es) = entry_text p n e ++ entries_text p (n + 1) es

-- the socket that an event names, if it names one
abbrev pub socket_of : Event → Option ℕ
socket_of (Open s) = Some s
socket_of (Raw s at len) = Some s
socket_of (Write end at len) = Some end.s
socket_of (Read end len) = Some end.s
socket_of (Finish end) = Some end.s
socket_of (Close end) = Some end.s
socket_of (Abort end) = Some end.s
socket_of (Await end) = Some end.s
socket_of (Clc s dir) = Some s
socket_of (Deliver slot dir) = None
socket_of (Complete slot dir) = None
socket_of (Swallow slot dir) = None
socket_of (Cut slot) = None
socket_of (Heal slot) = None
socket_of (Report side slot) = None
socket_of (Move end) = Some end.s
socket_of Grow = None
socket_of (Test side slot) = None
socket_of (Trim side) = None

-- whether an event is bytes of a raw client that were taken
abbrev pub is_raw_write : Event → Reply → Bool
is_raw_write (Raw s at len) (Wrote n) = true
is_raw_write _ _ = false

-- whether a socket comes into being, or is declined, where its event is told this
abbrev pub begins_socket : Event → Reply → Bool
begins_socket event Opened = true
begins_socket event (Declined lack) = true
begins_socket event reply = is_raw_write event reply

-- one socket more, unless it is listed
abbrev pub listed_with : List ℕ → Option ℕ → List ℕ
listed_with sockets None = sockets
listed_with sockets (Some s) = if list_any (λ t. t == s) sockets then sockets else sockets ++ s ∷ []

abbrev pub listed_after : List ℕ → Entry → List ℕ
listed_after sockets e = if begins_socket e.event e.reply then listed_with sockets (socket_of e.event) else sockets

-- the sockets in the order in which they came into being, behind those that are listed already
abbrev pub sockets_after : List ℕ → List Entry → List ℕ
sockets_after sockets [] = sockets
sockets_after sockets (e ∷ es) = sockets_after (listed_after sockets e) es

abbrev pub same_side : Side → Side → Bool
same_side A A = true
same_side A B = false
same_side B A = false
same_side B B = true

-- whether an event is a call on that end; the bytes of a raw client count as A's
abbrev pub is_call_on : Side → ℕ → Event → Bool
is_call_on x s (Raw t at len) = same_side x A && (t == s)
is_call_on x s (Write end at len) = same_side x end.side && (end.s == s)
is_call_on x s (Read end len) = same_side x end.side && (end.s == s)
is_call_on x s _ = false

-- how many bytes a reply says were taken, and handed out
abbrev pub taken_by : Reply → ℕ
taken_by (Wrote n) = n
taken_by _ = 0

abbrev pub handed_by : Reply → ℕ
handed_by (Bytes from len) = len
handed_by _ = 0

-- the bytes that an entry takes from the application at an end, and hands to it
abbrev pub wrote_at : Side → ℕ → Entry → ℕ
wrote_at x s e = if is_call_on x s e.event then taken_by e.reply else 0

abbrev pub read_at : Side → ℕ → Entry → ℕ
read_at x s e = if is_call_on x s e.event then handed_by e.reply else 0

-- what an end wrote and read in all
abbrev pub sums_text : List Entry → Side → ℕ → List ℕ
sums_text history x s = codes " wrote " ++ (decimal (sum_by (wrote_at x s) history) ++ (codes " read " ++ decimal (sum_by (read_at x s) history)))

-- a socket with the sums of its two ends
abbrev pub socket_text : List (List ℕ) → List Entry → ℕ → List ℕ
socket_text names history s = codes "socket " ++ (name_text names s ++ (codes " A" ++ (sums_text history A s ++ (codes " B" ++ (sums_text history B s ++ codes "\n")))))

-- how a run ended: with so many entries, or with a step that was refused
abbrev pub end_line : ℕ → Option StepFault → List ℕ
end_line entries None = codes "ok " ++ (decimal entries ++ codes "\n")
end_line entries (Some (Spent limit)) = codes "spent entries " ++ (decimal limit ++ codes "\n")
end_line entries (Some (BytesSpent bytes)) = codes "spent bytes " ++ (decimal bytes ++ codes "\n")

-- the whole text: the entries, the sockets, the end
abbrev pub history_text : Printed → List Entry → Option StepFault → List ℕ
history_text p history stop = entries_text p 1 history ++ (flat_map (socket_text p.names history) (sockets_after [] history) ++ end_line (length history) stop)
