-- The flows of one side, as a manager keeps them.
-- A reader learns here how the manager's values stand for the flows of the definitions.
use Rattle.std.specs.Prelude.{Option, Some, None}
use Rattle.smc_num.specs.declared.Side.{Side}
use Rattle.pipe_model.specs.Flows.{Flow, LinkFlow, NoFlow, FirstContact, AddSent, KeysSent, LinkSent, Abandoned, AddSeen}
use Rattle.llc_flows.specs.declared.link.Link.{Link}
use Rattle.llc_flows.specs.declared.link.Link.TheVariants.{NoFlow as NoFlowHere, FirstContact as FirstContactHere, AddSent as AddSentHere, KeysSent as KeysSentHere, LinkSent as LinkSentHere, Abandoned as AbandonedHere, AddSeen as AddSeenHere}
use Rattle.llc_flows.specs.declared.link.AddRequest.{AddRequest}
use Rattle.llc_flows.specs.declared.link.AddRequest.TheVariants.{Link as LinkRequest, Keys as KeysRequest}

-- a side and its flows
pub record Flowing : Type 0 where
  pub side : Side
  pub flow : Flow

-- the flow of a link
abbrev pub link_of : Link → LinkFlow
link_of NoFlowHere = NoFlow
link_of FirstContactHere = FirstContact
link_of (AddSentHere slot on) = AddSent slot on
link_of (KeysSentHere slot on) = KeysSent slot on
link_of (LinkSentHere slot) = LinkSent slot
link_of (AbandonedHere on) = Abandoned on
link_of (AddSeenHere slot) = AddSeen slot

-- the request of an ADD LINK flow that is open, where it is still wanted
abbrev pub request_of : LinkFlow → Option AddRequest
request_of (AddSent slot on) = Some (LinkRequest slot)
request_of (KeysSent slot on) = Some (KeysRequest slot)
request_of _ = None
