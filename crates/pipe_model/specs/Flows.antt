-- The LLC flows of one side: how links are confirmed and added, keys confirmed and deleted, links deleted and tested.
-- A reader learns here the tables alone, with no history in them: what a side does with a message, and what it waits for then.
use Rattle.std.specs.Prelude.{ℕ, ◌==◌, ◌&&◌, ◌||◌, not, Bool, true, false, if◌then◌else◌, List, [], ◌∷◌, filter}
use Rattle.std.specs.List.{list_any}
use Rattle.smc_num.specs.declared.Side.{Side}
use Rattle.smc_num.specs.declared.Side.TheVariants.{A, B}
use Rattle.smc_num.specs.declared.LinkId.{LinkId}
use Rattle.llc_wire.specs.declared.LlcMessage.{LlcMessage}
use Rattle.llc_wire.specs.declared.LlcMessage.TheVariants.{ConfirmLink, AddLink, AddKeys, DeleteLink, ConfirmRkey, TestLink, DeleteRkey}
use Rattle.pipe_model.specs.declared.flow.KeyPhase.{KeyPhase}
use Rattle.pipe_model.specs.declared.flow.KeyPhase.TheVariants.{Free, Asked, Retry as RetryWaits, Deleting}
use Rattle.pipe_model.specs.declared.flow.LinkView.{LinkView}
use Rattle.pipe_model.specs.declared.flow.FlowStep.{FlowStep}
use Rattle.pipe_model.specs.declared.flow.FlowStep.TheVariants.{Skip, Live, SendKeys, Over, AskLink, ReplyKeys, ReplyAdd, Reject, Confirmed, Retry, Withdraw, ReplyRetry, Learn, Forget, Gone, Answered, Echo}

-- the flow of a link: at the server of a slot, with the slot of the link that carries the open request; at the client, seen
-- RFC 7609, 3.3; one request at a time is ours
pub data LinkFlow : Type 0 where
  NoFlow : LinkFlow
  FirstContact : LinkFlow
  AddSent : ℕ → ℕ → LinkFlow
  KeysSent : ℕ → ℕ → LinkFlow
  LinkSent : ℕ → LinkFlow
  Abandoned : ℕ → LinkFlow
  AddSeen : ℕ → LinkFlow

-- an outstanding DELETE LINK: the slot that it is for, and the slot of the link that carries it
-- RFC 7609, 3.3; one request at a time is ours
pub record Drop : Type 0 where
  pub slot : ℕ
  pub on : ℕ

-- the flows of a side: of links; of keys, with the RMB of the last CONFIRM RKEY and the slot of the link that carries the
-- key request; the slots that are being tested; the outstanding DELETE LINKs
-- RFC 7609, 3.3; one request at a time is ours
pub record Flow : Type 0 where
  pub link : LinkFlow
  pub key : KeyPhase
  pub rmb : ℕ
  pub on : ℕ
  pub tests : List ℕ
  pub drops : List Drop

-- no flow is under way
-- ours: a state without requests
abbrev pub no_flow : Flow
no_flow = record { link = NoFlow; key = Free; rmb = 0; on = 0; tests = []; drops = [] }

-- whether a group is in first contact
-- RFC 7609, 3.5
abbrev pub is_first_contact : LinkFlow → Bool
is_first_contact FirstContact = true
is_first_contact _ = false

-- whether a link is being added
-- ours: a word on flows
abbrev pub is_adding : LinkFlow → Bool
is_adding NoFlow = false
is_adding FirstContact = false
is_adding _ = true

-- the slot that the flow is for
-- ours: a word on flows
abbrev pub flow_slot : LinkFlow → ℕ
flow_slot (AddSent k on) = k
flow_slot (KeysSent k on) = k
flow_slot (LinkSent k) = k
flow_slot (AddSeen k) = k
flow_slot _ = 0

-- whether the answer to a CONFIRM RKEY is awaited
-- ours: a word on flows
abbrev pub is_asked : KeyPhase → Bool
is_asked Asked = true
is_asked _ = false

-- whether the answer to a DELETE RKEY is awaited
-- ours: a word on flows
abbrev pub is_deleting : KeyPhase → Bool
is_deleting Deleting = true
is_deleting _ = false

-- the server takes a reply to CONFIRM LINK
-- RFC 7609, 3.3: CONFIRM LINK
abbrev pub on_confirm_link_reply : LinkFlow → FlowStep
on_confirm_link_reply FirstContact = Live false true
on_confirm_link_reply (LinkSent k) = Live false false
on_confirm_link_reply _ = Skip

-- the server takes an accepting reply to ADD LINK
-- RFC 7609, 3.3: ADD LINK; what is passed over is ours
abbrev pub on_add_link_reply : ℕ → LinkView → LinkFlow → FlowStep
on_add_link_reply j view (AddSent k on) = if (j == k) && view.stands_here then SendKeys else Skip
on_add_link_reply j view (Abandoned on) = Over
on_add_link_reply j view _ = Skip

-- the server takes a rejecting one
-- RFC 7609, 3.3: ADD LINK; what is passed over is ours
abbrev pub on_add_link_reject : ℕ → LinkFlow → FlowStep
on_add_link_reject j (AddSent k on) = if j == k then Over else Skip
on_add_link_reject j (Abandoned on) = Over
on_add_link_reject j _ = Skip

-- the server takes the reply to its keys
-- RFC 7609, 3.3: ADD LINK CONTINUATION; what is passed over is ours
abbrev pub on_add_keys_reply : ℕ → LinkFlow → FlowStep
on_add_keys_reply j (KeysSent k on) = if j == k then AskLink else Skip
on_add_keys_reply j (Abandoned on) = Over
on_add_keys_reply j _ = Skip

-- the client takes a CONFIRM LINK on the link of a slot
-- RFC 7609, 3.3: CONFIRM LINK
abbrev pub on_confirm_link : ℕ → LinkFlow → FlowStep
on_confirm_link landed FirstContact = Live true true
on_confirm_link landed (AddSeen k) = if landed == k then Live true false else Skip
on_confirm_link landed _ = Skip

-- the client makes a link for an ADD LINK, or rejects it
-- RFC 7609, 3.3: ADD LINK; when it is rejected is ours
abbrev pub on_new_link : LinkView → FlowStep
on_new_link view = if not view.path_up || (view.stands_here || view.stands_there) then Reject else ReplyAdd false

-- the client takes an ADD LINK for a slot
-- RFC 7609, 3.3: ADD LINK; when it is rejected is ours
abbrev pub on_add_link : ℕ → LinkView → LinkFlow → FlowStep
on_add_link j view FirstContact = Skip
on_add_link j view (AddSeen k) = if (j == k) && (view.stands_here && view.stands_there) then ReplyAdd true else on_new_link view
on_add_link j view _ = on_new_link view

-- the client takes the keys for a slot
-- RFC 7609, 3.3: ADD LINK CONTINUATION; what is passed over is ours
abbrev pub on_add_keys : ℕ → LinkFlow → FlowStep
on_add_keys j FirstContact = Skip
on_add_keys j (AddSeen k) = ReplyKeys (j == k)
on_add_keys j _ = ReplyKeys false

-- the answer to CONFIRM RKEY, where `whole` says that every link of the side's table was in the request
-- RFC 7609, 3.3: CONFIRM RKEY; when it is asked again is ours
abbrev pub on_confirm_rkey_reply : Bool → Bool → KeyPhase → FlowStep
on_confirm_rkey_reply retry whole Asked = if not retry && whole then Confirmed else Retry
on_confirm_rkey_reply retry whole _ = Skip

-- the answer to DELETE RKEY, whatever it says
-- RFC 7609, 3.3: DELETE RKEY; that an error counts as an answer is ours
abbrev pub on_delete_rkey_reply : KeyPhase → FlowStep
on_delete_rkey_reply Deleting = Withdraw
on_delete_rkey_reply _ = Skip

-- a key is not learnt at the server while a link is being added there
-- RFC 7609, 3.3: CONFIRM RKEY; when it is refused is ours
abbrev pub on_confirm_rkey : Side → LinkFlow → FlowStep
on_confirm_rkey A flow = Learn
on_confirm_rkey B flow = if is_adding flow then ReplyRetry else Learn

-- what a side does with a landed LLC message
-- RFC 7609, 3.3; what is passed over is ours
abbrev pub flow_step : Side → Flow → LlcMessage → LinkView → ℕ → Bool → FlowStep
flow_step A f (ConfirmLink false mac gid qp link user most) view landed whole = on_confirm_link landed f.link
flow_step B f (ConfirmLink true mac gid qp link user most) view landed whole = on_confirm_link_reply f.link
flow_step A f (AddLink false rejected reason mac gid qp link mtu psn) view landed whole = on_add_link link view f.link
flow_step B f (AddLink true false reason mac gid qp link mtu psn) view landed whole = on_add_link_reply link view f.link
flow_step B f (AddLink true true reason mac gid qp link mtu psn) view landed whole = on_add_link_reject link f.link
flow_step A f (AddKeys false link count keys) view landed whole = on_add_keys link f.link
flow_step B f (AddKeys true link count keys) view landed whole = on_add_keys_reply link f.link
flow_step x f (DeleteLink false every orderly link reason) view landed whole = Gone (view.stands_here && not view.stands_there)
flow_step x f (DeleteLink true every orderly link reason) view landed whole = Answered
flow_step x f (ConfirmRkey false retry negative others tokens) view landed whole = on_confirm_rkey x f.link
flow_step x f (ConfirmRkey true retry negative others tokens) view landed whole = on_confirm_rkey_reply retry whole f.key
flow_step x f (TestLink false bytes) view landed whole = Echo
flow_step x f (TestLink true bytes) view landed whole = Answered
flow_step x f (DeleteRkey false negative count mask keys) view landed whole = Forget
flow_step x f (DeleteRkey true negative count mask keys) view landed whole = on_delete_rkey_reply f.key
flow_step _ _ _ _ _ _ = Skip

-- the slot that a message names, or the one on whose link it landed
-- RFC 7609, A.3: the link number
abbrev pub named_slot : LlcMessage → ℕ → ℕ
named_slot (ConfirmLink reply mac gid qp link user most) landed = link
named_slot (AddLink reply rejected reason mac gid qp link mtu psn) landed = link
named_slot (AddKeys reply link count keys) landed = link
named_slot (DeleteLink reply every orderly link reason) landed = link
named_slot _ landed = landed

-- a request that a reply ends
-- RFC 7609, 3.3: a reply ends its request
abbrev pub after_answer : LlcMessage → ℕ → Flow → Flow
after_answer (DeleteLink reply every orderly link reason) landed f = record f { drops = filter (λ d. not (d.slot == link)) f.drops }
after_answer (TestLink reply bytes) landed f = record f { tests = filter (λ k. not (k == landed)) f.tests }
after_answer _ landed f = f

-- the flows after that step; a request that the step makes goes on the link of slot `carrier`
-- RFC 7609, 3.3: a reply ends its request
abbrev pub flow_after : FlowStep → LlcMessage → ℕ → ℕ → Flow → Flow
flow_after (Live reply first) m landed carrier f = record f { link = NoFlow }
flow_after SendKeys m landed carrier f = record f { link = KeysSent (named_slot m landed) carrier }
flow_after Over m landed carrier f = record f { link = NoFlow }
flow_after AskLink m landed carrier f = record f { link = LinkSent (named_slot m landed) }
flow_after (ReplyAdd again) m landed carrier f = record f { link = AddSeen (named_slot m landed) }
flow_after Confirmed m landed carrier f = record f { key = Free }
flow_after Retry m landed carrier f = record f { key = RetryWaits }
flow_after Withdraw m landed carrier f = record f { key = Free }
flow_after Answered m landed carrier f = after_answer m landed f
flow_after _ m landed carrier f = f

-- the server begins to add a link on a slot
-- RFC 7609, 3.3
abbrev pub begins_add : ℕ → ℕ → Flow → Flow
begins_add k carrier f = record f { link = AddSent k carrier }

-- a side begins to confirm the keys of an RMB
-- RFC 7609, 3.3
abbrev pub begins_confirm : ℕ → ℕ → Flow → Flow
begins_confirm rmb carrier f = record f { key = Asked; rmb = rmb; on = carrier }

-- it begins to delete keys
-- RFC 7609, 3.3
abbrev pub begins_delete : ℕ → Flow → Flow
begins_delete carrier f = record f { key = Deleting; on = carrier }

-- it begins to test the link of a slot
-- RFC 7609, 3.3
abbrev pub begins_test : ℕ → Flow → Flow
begins_test k f = record f { tests = k ∷ f.tests }

-- whether a DELETE LINK for a slot is outstanding
-- RFC 7609, 3.3: DELETE LINK; one a slot is ours
abbrev pub is_dropping : ℕ → Flow → Bool
is_dropping k f = list_any (λ d. d.slot == k) f.drops

-- it begins to delete the link of a slot, unless it does so already
-- RFC 7609, 3.3: DELETE LINK; one a slot is ours
abbrev pub begins_drop : ℕ → ℕ → Flow → Flow
begins_drop k carrier f = if is_dropping k f then f else record f { drops = record { slot = k; on = carrier } ∷ f.drops }

-- the side has reported the link of slot `k`, and the lowest live link is now that of slot `carrier`
-- ours: a request whose carrier is lost is posted again
abbrev pub lost_link : ℕ → ℕ → LinkFlow → LinkFlow
lost_link k carrier (AddSent j on) = if j == k then Abandoned on else if on == k then AddSent j carrier else AddSent j on
lost_link k carrier (KeysSent j on) = if j == k then Abandoned on else if on == k then KeysSent j carrier else KeysSent j on
lost_link k carrier (LinkSent j) = if j == k then NoFlow else LinkSent j
lost_link k carrier (Abandoned on) = if on == k then NoFlow else Abandoned on
lost_link k carrier (AddSeen j) = if j == k then NoFlow else AddSeen j
lost_link k carrier flow = flow

-- whether the key request is then posted again: its answer is awaited, and the link that carried it is lost
-- ours: a request whose carrier is lost is posted again
abbrev pub resends_key : ℕ → Flow → Bool
resends_key k f = (is_asked f.key || is_deleting f.key) && (f.on == k)

-- whether the ADD LINK request is posted again
-- ours: a request whose carrier is lost is posted again
abbrev pub resends_add : ℕ → LinkFlow → Bool
resends_add k (AddSent j on) = not (j == k) && (on == k)
resends_add k (KeysSent j on) = not (j == k) && (on == k)
resends_add k _ = false

-- the flows after a side has reported the link of a slot
-- ours: a request whose carrier is lost is posted again
abbrev pub lost : ℕ → ℕ → Flow → Flow
lost k carrier f = record f {
  link = lost_link k carrier f.link;
  on = if f.on == k then carrier else f.on;
  tests = filter (λ j. not (j == k)) f.tests;
  drops = filter (λ d. not (d.on == k)) f.drops;
}
