-- What handshake and flows post with any event is CLC and LLC messages.
use Rattle.std.proofs.Common.{List, true, ℕ}
use Rattle.pipe_model.specs.Lawful.{asked}
use Rattle.pipe_model.specs.declared.event.Event.TheVariants.{Clc as ClcEvent}
use Rattle.pipe_model.specs.declared.reply.Reply.TheVariants.{Idle, Sent}
use Rattle.std.specs.Prelude.{option_map}
use Rattle.pipe_model.specs.Wires.{landing}
use Rattle.pipe_model.specs.Fabric.{loses}
use Rattle.pipe_model.specs.declared.reply.SentKind.TheVariants.{AddLink as AddLinkSent, DeleteRkey as DeleteSent, TestLink as TestSent}
use Rattle.history_laws.specs.Words.{Deliver, Done, Entry, Event, Grow, Open, Opened, Reply, Report, Setup, Test, Trim, act_of, flow_of, front, other, peer_of, report_posts}
use Rattle.history_laws.specs.Posts.{EachPost}
use Rattle.history_laws.proofs.Posts.Control.{IsControl, llc-control, of-act, of-front, of-loss}

-- of any event
pub all-control : (setup : Setup) (payload : List ℕ) (past : List Entry) (event : Event) (reply : Reply) → EachPost IsControl (asked setup payload past event reply)
all-control setup payload past (Open s) Opened = (tt, tt)
all-control setup payload past (ClcEvent s dir) Idle = tt
all-control setup payload past (ClcEvent s dir) reply = of-front setup payload (other dir) s past (front payload dir s past)
all-control setup payload past (Deliver slot dir) reply = llc-control _ (of-act setup (other dir) past (act_of (other dir) (option_map (λ c. c.post) (landing slot dir past)) past))
all-control setup payload past (Report x slot) Done = llc-control (report_posts setup x slot true past) (of-loss setup x slot true (loses slot (peer_of x past)) (flow_of x past) past)
all-control setup payload past Grow (Sent AddLinkSent) = (tt, tt)
all-control setup payload past (Test x slot) (Sent TestSent) = (tt, tt)
all-control setup payload past (Trim x) (Sent DeleteSent) = (tt, tt)
all-control setup payload past _ _ = tt
