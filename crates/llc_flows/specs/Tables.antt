-- The decision tables of the flows: the state of each flow, and what each action does.
-- A reader learns here how a row's action becomes a step: some act only where the message names the flow's slot.
use Rattle.std.specs.Prelude.{ℕ, ◌==◌, ◌&&◌, Bool, true, false, if◌then◌else◌}
use Rattle.pipe_model.specs.declared.flow.KeyPhase.{KeyPhase}
use Rattle.pipe_model.specs.declared.flow.KeyPhase.TheVariants.{Free, Asked, Retry as RetryWaits, Deleting}
use Rattle.pipe_model.specs.declared.flow.LinkView.{LinkView}
use Rattle.pipe_model.specs.declared.flow.FlowStep.{FlowStep}
use Rattle.pipe_model.specs.declared.flow.FlowStep.TheVariants.{Skip, Live, SendKeys, Over, AskLink, ReplyKeys, ReplyAdd, Confirmed, Retry, Withdraw}
use Rattle.pipe_model.specs.Flows.{LinkFlow, NoFlow, FirstContact, AddSent, KeysSent, LinkSent, Abandoned, AddSeen, on_new_link}

-- the server's state of a link flow; a flow of the client is none of the server's
abbrev pub server_state : LinkFlow → ℕ
server_state NoFlow = 0
server_state FirstContact = 1
server_state (AddSent k on) = 2
server_state (KeysSent k on) = 3
server_state (LinkSent k) = 4
server_state (Abandoned on) = 5
server_state (AddSeen k) = 0

-- the client's state of a link flow; a flow of the server is none of the client's
abbrev pub client_state : LinkFlow → ℕ
client_state FirstContact = 1
client_state (AddSeen k) = 2
client_state _ = 0

-- the state of the key table
abbrev pub key_state : KeyPhase → ℕ
key_state Free = 0
key_state Asked = 1
key_state RetryWaits = 2
key_state Deleting = 3

-- what an action of the server does, where the flow's slot is named or not, and a link stands there or not
abbrev pub server_act : ℕ → Bool → Bool → FlowStep
server_act action named stands =
    if action == 1 then Live false true else
    if action == 2 then Live false false else
    if action == 3 then (if named && stands then SendKeys else Skip) else
    if action == 4 then (if named then Over else Skip) else
    if action == 5 then (if named then AskLink else Skip) else
    if action == 6 then Over else Skip

-- what an action of the client does, where the flow's slot is named or not
abbrev pub client_act : ℕ → Bool → LinkView → FlowStep
client_act action named view =
    if action == 1 then Live true true else
    if action == 2 then (if named then Live true false else Skip) else
    if action == 3 then on_new_link view else
    if action == 4 then (if named && (view.stands_here && view.stands_there) then ReplyAdd true else on_new_link view) else
    if action == 5 then ReplyKeys false else
    if action == 6 then ReplyKeys named else Skip

-- what an action of the key table does, where the last request was whole or not
abbrev pub key_act : ℕ → Bool → FlowStep
key_act action whole =
    if action == 1 then (if whole then Confirmed else Retry) else
    if action == 2 then Retry else
    if action == 3 then Withdraw else Skip
