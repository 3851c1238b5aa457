-- What the end of a socket is to take next from its peer's stream.
-- A reader learns here when a CLC message comes to an end, and what is left at its sender then.
use Rattle.std.specs.Prelude.{ℕ, Bool, true, false, not, List, Option, Some, None, slice_set}
use Rattle.clc_wire.specs.declared.message.ClcMessage.{ClcMessage}
use Rattle.pipe_model.specs.declared.reply.Reply.{Reply}
use Rattle.pipe_model.specs.declared.reply.Reply.TheVariants.{Sent}
use Rattle.pipe_model.specs.declared.reply.SentKind.TheVariants.{Confirm as ConfirmSent}
use Rattle.pipe_model.specs.Connections.{EndState, NoEnd}
use Rattle.clc_handshake.specs.declared.stage.EndState.{EndState as Seen}
use Rattle.clc_handshake.specs.declared.stage.EndState.TheVariants.{Clc as SeenClc}
use Rattle.clc_handshake.specs.Stages.{seen_state}
use Rattle.smc_num.specs.declared.LinkId.{LinkId}
use Rattle.side_core.specs.Manager.{Manager, state_at}
use Rattle.side_core.specs.Landing.{CanMake, is_wait}
use Rattle.side_core.specs.Taking.{verdict_at}
use Rattle.conn_end.specs.Kept.{Kept}
use Rattle.side_core.specs.Desk.{Desk, makes_link}
use Rattle.world_core.specs.declared.host.Untaken.{Untaken}
use Rattle.world_core.specs.declared.host.Outflow.{Outflow}
use Rattle.world_core.specs.Sending.{outflow_at, takes_next}

-- whether there is an end
abbrev pub has_end : EndState → Bool
has_end NoEnd = false
has_end _ = true

-- the message that an end takes next: none where it waits for none
abbrev pub due_of : Seen → Outflow → Option Untaken
due_of SeenClc f = f.next
due_of _ f = None

-- the message that the end of a socket takes next
abbrev pub due_on : ℕ → Manager Kept → List Outflow → Option Untaken
due_on s v flows = due_of (seen_state (state_at s v)) (outflow_at s flows)

-- whether a message would be taken by the end of a socket where these paths are up, if there is one: it would not be held
abbrev pub is_taken_by : ℕ → List Bool → Manager Kept → Option Untaken → Bool
is_taken_by s paths v None = false
is_taken_by s paths v (Some next) = not (is_wait (verdict_at s next.message paths v))

-- whether the end of a socket would take the next one of its peer
abbrev pub is_taken_on : ℕ → List Bool → Manager Kept → List Outflow → Bool
is_taken_on s paths v flows = is_taken_by s paths v (due_on s v flows)

-- a message leaves the stream of a socket
abbrev pub hands_over : ℕ → ClcMessage → List Outflow → List Outflow
hands_over s message flows = slice_set flows s (takes_next message (outflow_at s flows))

-- the link that is made at the server too, as the client has confirmed in first contact
abbrev pub link_made_by : Reply → Option LinkId → Option LinkId
link_made_by (Sent ConfirmSent) link = link
link_made_by _ link = None

-- what that makes of the server's desk
abbrev pub makes_at : Option LinkId → Desk → Desk
makes_at None d = d
makes_at (Some link) d = makes_link link d

-- that it can be made there
abbrev pub MayMake : Option LinkId → Desk → Type 0
MayMake None d = Unit {0}
MayMake (Some link) d = CanMake link d
