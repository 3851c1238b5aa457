-- What each step says of its side, its flows and the message that landed.
use Rattle.std.proofs.Common.{Bool, List, Some, ap, eqb-true, false, if◌then◌else◌, not, refl, subst, sym, true, ℕ, ◌&&◌, ◌==◌, ◌||◌, ◌≡◌}
use Rattle.pipe_model.specs.declared.flow.FlowStep.TheVariants.{Confirmed, Live}
use Rattle.pipe_model.specs.Flows.{LinkSent}
use Rattle.pipe_model.specs.declared.flow.KeyPhase.TheVariants.{Asked, Free, Retry as RetryWaits}
use Rattle.history_laws.specs.Words.{A, Abandoned, Act, AddKeys, AddLink, AddSeen, AddSent, AskLink, B, ConfirmLink, ConfirmRkey, DeleteLink, DeleteRkey, Deleting, Entry, FirstContact, Flow, FlowStep, KeyPhase, KeyToken, KeysSent, Learn, LinkFlow, LinkView, LlcMessage, NewKey, NoFlow, Over, Reject, ReplyAdd, ReplyKeys, ReplyRetry, Retry, SendKeys, Side, Skip, TestLink, act_in, fabric, flow_of, flow_step, is_adding, is_whole, named_slot, on_add_keys, on_add_keys_reply, on_add_link, on_add_link_reject, on_add_link_reply, on_confirm_link, on_confirm_link_reply, on_confirm_rkey, on_confirm_rkey_reply, on_delete_rkey_reply, on_new_link, peer, view_of}
use Rattle.history_laws.proofs.Basics.{a-is-b, and-left}
use Rattle.link_laws.specs.StepSays.{StepSays}
use Rattle.link_laws.proofs.Fabric.{act-step}
use Rattle.link_laws.specs.FabricChanges.{Takes}

module _ (x : Side) (link : LinkFlow) (key : KeyPhase) (m : LlcMessage) (landed : ℕ) where
  either : (b : Bool) (s t : FlowStep) → (b ≡ true → StepSays x link key m landed s) → StepSays x link key m landed t → StepSays x link key m landed (if b then s else t)
  either true s t p q = p refl
  either false s t p q = q

-- the client
confirms-a : (link : LinkFlow) (key : KeyPhase) (landed : ℕ) (mac gid : List ℕ) (qp k user most : ℕ) → StepSays A link key (ConfirmLink false mac gid qp k user most) landed (on_confirm_link landed link)
confirms-a FirstContact key landed mac gid qp k user most = refl
confirms-a (AddSeen j) key landed mac gid qp k user most = either A (AddSeen j) key (ConfirmLink false mac gid qp k user most) landed (landed == j) (Live true false) Skip (λ e. refl) tt
confirms-a NoFlow key landed mac gid qp k user most = tt
confirms-a (AddSent j on) key landed mac gid qp k user most = tt
confirms-a (KeysSent j on) key landed mac gid qp k user most = tt
confirms-a (LinkSent j) key landed mac gid qp k user most = tt
confirms-a (Abandoned on) key landed mac gid qp k user most = tt

new-a : (link : LinkFlow) (key : KeyPhase) (m : LlcMessage) (landed : ℕ) (view : LinkView) → StepSays A link key m landed (ReplyAdd false) → StepSays A link key m landed (on_new_link view)
new-a link key m landed view h = either A link key m landed (not view.path_up || (view.stands_here || view.stands_there)) Reject (ReplyAdd false) (λ e. tt) h

adds-a : (link : LinkFlow) (key : KeyPhase) (m : LlcMessage) (landed j : ℕ) (view : LinkView) → ((again : Bool) → StepSays A link key m landed (ReplyAdd again)) → StepSays A link key m landed (on_add_link j view link)
adds-a FirstContact key m landed j view h = tt
adds-a (AddSeen k) key m landed j view h = either A (AddSeen k) key m landed ((j == k) && (view.stands_here && view.stands_there)) (ReplyAdd true) (on_new_link view) (λ e. h true) (new-a (AddSeen k) key m landed view (h false))
adds-a NoFlow key m landed j view h = new-a NoFlow key m landed view (h false)
adds-a (AddSent k on) key m landed j view h = new-a (AddSent k on) key m landed view (h false)
adds-a (KeysSent k on) key m landed j view h = new-a (KeysSent k on) key m landed view (h false)
adds-a (LinkSent k) key m landed j view h = new-a (LinkSent k) key m landed view (h false)
adds-a (Abandoned on) key m landed j view h = new-a (Abandoned on) key m landed view (h false)

tells-a : (link : LinkFlow) (key : KeyPhase) (landed j count : ℕ) (keys : List NewKey) → StepSays A link key (AddKeys false j count keys) landed (on_add_keys j link)
tells-a FirstContact key landed j count keys = tt
tells-a (AddSeen k) key landed j count keys = by (j == k) refl
  where
    by : (b : Bool) → (j == k) ≡ b → StepSays A (AddSeen k) key (AddKeys false j count keys) landed (ReplyKeys b)
    by true e = (refl, (refl, ap AddSeen (sym (eqb-true j k e))))
    by false e = (refl, refl)
tells-a NoFlow key landed j count keys = (refl, refl)
tells-a (AddSent k on) key landed j count keys = (refl, refl)
tells-a (KeysSent k on) key landed j count keys = (refl, refl)
tells-a (LinkSent k) key landed j count keys = (refl, refl)
tells-a (Abandoned on) key landed j count keys = (refl, refl)

-- the server
confirms-b : (link : LinkFlow) (key : KeyPhase) (landed : ℕ) (mac gid : List ℕ) (qp k user most : ℕ) → StepSays B link key (ConfirmLink true mac gid qp k user most) landed (on_confirm_link_reply link)
confirms-b FirstContact key landed mac gid qp k user most = refl
confirms-b (LinkSent j) key landed mac gid qp k user most = refl
confirms-b NoFlow key landed mac gid qp k user most = tt
confirms-b (AddSent j on) key landed mac gid qp k user most = tt
confirms-b (KeysSent j on) key landed mac gid qp k user most = tt
confirms-b (Abandoned on) key landed mac gid qp k user most = tt
confirms-b (AddSeen j) key landed mac gid qp k user most = tt

adds-b : (link : LinkFlow) (key : KeyPhase) (landed : ℕ) (reason : ℕ) (mac gid : List ℕ) (qp j mtu psn : ℕ) (view : LinkView) → StepSays B link key (AddLink true false reason mac gid qp j mtu psn) landed (on_add_link_reply j view link)
adds-b (AddSent k on) key landed reason mac gid qp j mtu psn view =
    either B (AddSent k on) key (AddLink true false reason mac gid qp j mtu psn) landed ((j == k) && view.stands_here) SendKeys Skip (λ e. (refl, (refl, (on, ap (λ n. AddSent n on) (sym (eqb-true j k (and-left (j == k) view.stands_here e))))))) tt
adds-b (Abandoned on) key landed reason mac gid qp j mtu psn view = tt
adds-b NoFlow key landed reason mac gid qp j mtu psn view = tt
adds-b FirstContact key landed reason mac gid qp j mtu psn view = tt
adds-b (KeysSent k on) key landed reason mac gid qp j mtu psn view = tt
adds-b (LinkSent k) key landed reason mac gid qp j mtu psn view = tt
adds-b (AddSeen k) key landed reason mac gid qp j mtu psn view = tt

rejects-b : (link : LinkFlow) (key : KeyPhase) (m : LlcMessage) (landed j : ℕ) → StepSays B link key m landed (on_add_link_reject j link)
rejects-b (AddSent k on) key m landed j = either B (AddSent k on) key m landed (j == k) Over Skip (λ e. tt) tt
rejects-b (Abandoned on) key m landed j = tt
rejects-b NoFlow key m landed j = tt
rejects-b FirstContact key m landed j = tt
rejects-b (KeysSent k on) key m landed j = tt
rejects-b (LinkSent k) key m landed j = tt
rejects-b (AddSeen k) key m landed j = tt

tells-b : (link : LinkFlow) (key : KeyPhase) (landed j count : ℕ) (keys : List NewKey) → StepSays B link key (AddKeys true j count keys) landed (on_add_keys_reply j link)
tells-b (KeysSent k on) key landed j count keys = either B (KeysSent k on) key (AddKeys true j count keys) landed (j == k) AskLink Skip (λ e. (refl, (refl, (on, ap (λ n. KeysSent n on) (sym (eqb-true j k e)))))) tt
tells-b (Abandoned on) key landed j count keys = tt
tells-b NoFlow key landed j count keys = tt
tells-b FirstContact key landed j count keys = tt
tells-b (AddSent k on) key landed j count keys = tt
tells-b (LinkSent k) key landed j count keys = tt
tells-b (AddSeen k) key landed j count keys = tt

-- either of them
key-answer : (x : Side) (link : LinkFlow) (key : KeyPhase) (landed : ℕ) (retry negative : Bool) (others : ℕ) (tokens : List KeyToken) (whole : Bool) → StepSays x link key (ConfirmRkey true retry negative others tokens) landed (on_confirm_rkey_reply retry whole key)
key-answer x link Asked landed retry negative others tokens whole = either x link Asked (ConfirmRkey true retry negative others tokens) landed (not retry && whole) Confirmed Retry (λ e. (refl, refl)) (refl, refl)
key-answer x link Free landed retry negative others tokens whole = tt
key-answer x link RetryWaits landed retry negative others tokens whole = tt
key-answer x link Deleting landed retry negative others tokens whole = tt

delete-answer : (x : Side) (link : LinkFlow) (key : KeyPhase) (landed : ℕ) (negative : Bool) (count mask : ℕ) (keys : List ℕ) → StepSays x link key (DeleteRkey true negative count mask keys) landed (on_delete_rkey_reply key)
delete-answer x link Deleting landed negative count mask keys = (refl, refl)
delete-answer x link Free landed negative count mask keys = tt
delete-answer x link Asked landed negative count mask keys = tt
delete-answer x link RetryWaits landed negative count mask keys = tt

key-request-b : (link : LinkFlow) (key : KeyPhase) (landed : ℕ) (retry negative : Bool) (others : ℕ) (tokens : List KeyToken) → StepSays B link key (ConfirmRkey false retry negative others tokens) landed (on_confirm_rkey B link)
key-request-b link key landed retry negative others tokens = by (is_adding link) refl
  where
    by : (b : Bool) → is_adding link ≡ b → StepSays B link key (ConfirmRkey false retry negative others tokens) landed (if b then ReplyRetry else Learn)
    by true e = (refl, (refl, e))
    by false e = (refl, λ q. e)

-- any step
pub step-says : (x : Side) (f : Flow) (m : LlcMessage) (view : LinkView) (landed : ℕ) (whole : Bool) → StepSays x f.link f.key m landed (flow_step x f m view landed whole)
step-says A f (ConfirmLink false mac gid qp k user most) view landed whole = confirms-a f.link f.key landed mac gid qp k user most
step-says A f (ConfirmLink true mac gid qp k user most) view landed whole = tt
step-says A f (AddLink false rejected reason mac gid qp j mtu psn) view landed whole = adds-a f.link f.key (AddLink false rejected reason mac gid qp j mtu psn) landed j view (λ again. (refl, refl))
step-says A f (AddLink true true reason mac gid qp j mtu psn) view landed whole = tt
step-says A f (AddLink true false reason mac gid qp j mtu psn) view landed whole = tt
step-says A f (AddKeys false j count keys) view landed whole = tells-a f.link f.key landed j count keys
step-says A f (AddKeys true j count keys) view landed whole = tt
step-says A f (ConfirmRkey false retry negative others tokens) view landed whole = (refl, λ q. absurd (a-is-b q))
step-says A f (ConfirmRkey true retry negative others tokens) view landed whole = key-answer A f.link f.key landed retry negative others tokens whole
step-says A f (DeleteRkey true negative count mask keys) view landed whole = delete-answer A f.link f.key landed negative count mask keys
step-says A f (DeleteRkey false negative count mask keys) view landed whole = refl
step-says A f (DeleteLink false every orderly k reason) view landed whole = refl
step-says A f (DeleteLink true every orderly k reason) view landed whole = tt
step-says A f (TestLink false bytes) view landed whole = refl
step-says A f (TestLink true bytes) view landed whole = tt
step-says B f (ConfirmLink true mac gid qp k user most) view landed whole = confirms-b f.link f.key landed mac gid qp k user most
step-says B f (ConfirmLink false mac gid qp k user most) view landed whole = tt
step-says B f (AddLink true false reason mac gid qp j mtu psn) view landed whole = adds-b f.link f.key landed reason mac gid qp j mtu psn view
step-says B f (AddLink true true reason mac gid qp j mtu psn) view landed whole = rejects-b f.link f.key (AddLink true true reason mac gid qp j mtu psn) landed j
step-says B f (AddLink false rejected reason mac gid qp j mtu psn) view landed whole = tt
step-says B f (AddKeys true j count keys) view landed whole = tells-b f.link f.key landed j count keys
step-says B f (AddKeys false j count keys) view landed whole = tt
step-says B f (ConfirmRkey false retry negative others tokens) view landed whole = key-request-b f.link f.key landed retry negative others tokens
step-says B f (ConfirmRkey true retry negative others tokens) view landed whole = key-answer B f.link f.key landed retry negative others tokens whole
step-says B f (DeleteRkey true negative count mask keys) view landed whole = delete-answer B f.link f.key landed negative count mask keys
step-says B f (DeleteRkey false negative count mask keys) view landed whole = refl
step-says B f (DeleteLink false every orderly k reason) view landed whole = refl
step-says B f (DeleteLink true every orderly k reason) view landed whole = tt
step-says B f (TestLink false bytes) view landed whole = refl
step-says B f (TestLink true bytes) view landed whole = tt

-- of an act with an entry
pub act-says : (x : Side) (e : Entry) (past : List Entry) (act : Act) → act_in x e past ≡ Some act → StepSays x (flow_of x past).link (flow_of x past).key act.message act.link.slot act.step
act-says x e past act is = subst (λ v. StepSays x (flow_of x past).link (flow_of x past).key act.message act.link.slot v) (sym (act-step x e past act is)) (step-says x (flow_of x past) act.message (view_of x (named_slot act.message act.link.slot) past (fabric past)) act.link.slot (is_whole (peer x (fabric past))))

pub takes-says : (x : Side) (e : Entry) (past : List Entry) (step : FlowStep) → (t : Takes x e past step) → StepSays x (flow_of x past).link (flow_of x past).key t.act.message t.act.link.slot step
takes-says x e past step t = subst (λ v. StepSays x (flow_of x past).link (flow_of x past).key t.act.message t.act.link.slot v) t.does (act-says x e past t.act t.is)
