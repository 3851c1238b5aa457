-- Which steps B takes with a landed message: none makes a link; it tells its keys for the slot of its flow, and then asks to confirm that link. And what key steps say of the key flow at both sides.
use Rattle.std.proofs.Common.{Bool, ap, sym, eqb-true, false, if◌then◌else◌, not, refl, true, ℕ, ◌&&◌, ◌==◌, ◌||◌, ◌≡◌}
use Rattle.pipe_model.specs.Flows.{LinkSent}
use Rattle.pipe_model.specs.declared.flow.KeyPhase.TheVariants.{Asked, Free, Retry as RetryWaits}
use Rattle.pipe_model.specs.declared.flow.FlowStep.TheVariants.{Confirmed, Live}
use Rattle.history_laws.specs.Words.{A, Abandoned, AddKeys, AddLink, AddSeen, AddSent, AskLink, B, ConfirmLink, ConfirmRkey, DeleteLink, DeleteRkey, Deleting, FirstContact, Flow, FlowStep, KeyPhase, KeysSent, Learn, LinkFlow, LinkView, LlcMessage, NoFlow, Over, Reject, ReplyAdd, ReplyKeys, ReplyRetry, Retry, SendKeys, Side, Skip, TestLink, Withdraw, flow_slot, flow_step, is_adding, is_asked, is_deleting, named_slot, on_add_keys, on_add_keys_reply, on_add_link, on_add_link_reject, on_add_link_reply, on_confirm_link, on_confirm_link_reply, on_confirm_rkey, on_confirm_rkey_reply, on_delete_rkey_reply, on_new_link}

-- what is claimed of a step that B takes, its link flow being that and the message naming that slot
abbrev pub StepsB : LinkFlow → ℕ → FlowStep → Type 0
StepsB link j SendKeys = j ≡ flow_slot link
StepsB link j AskLink = (on : ℕ) × (link ≡ KeysSent j on)
StepsB link j (ReplyAdd again) = ⊥
StepsB link j step = Unit {0}

confirm-reply : (link : LinkFlow) (j : ℕ) → StepsB link j (on_confirm_link_reply link)
confirm-reply NoFlow j = tt
confirm-reply FirstContact j = tt
confirm-reply (AddSent k on) j = tt
confirm-reply (KeysSent k on) j = tt
confirm-reply (LinkSent k) j = tt
confirm-reply (Abandoned on) j = tt
confirm-reply (AddSeen k) j = tt

add-reply : (link : LinkFlow) (j : ℕ) (view : LinkView) → StepsB link j (on_add_link_reply j view link)
add-reply NoFlow j view = tt
add-reply FirstContact j view = tt
add-reply (AddSent k on) j view = by (j == k) view.stands_here refl
  where
    by : (b c : Bool) → (j == k) ≡ b → StepsB (AddSent k on) j (if b && c then SendKeys else Skip)
    by true true e = eqb-true j k e
    by true false e = tt
    by false c e = tt
add-reply (KeysSent k on) j view = tt
add-reply (LinkSent k) j view = tt
add-reply (Abandoned on) j view = tt
add-reply (AddSeen k) j view = tt

add-reject : (link : LinkFlow) (j : ℕ) → StepsB link j (on_add_link_reject j link)
add-reject NoFlow j = tt
add-reject FirstContact j = tt
add-reject (AddSent k on) j = by (j == k)
  where
    by : (b : Bool) → StepsB (AddSent k on) j (if b then Over else Skip)
    by true = tt
    by false = tt
add-reject (KeysSent k on) j = tt
add-reject (LinkSent k) j = tt
add-reject (Abandoned on) j = tt
add-reject (AddSeen k) j = tt

keys-reply : (link : LinkFlow) (j : ℕ) → StepsB link j (on_add_keys_reply j link)
keys-reply NoFlow j = tt
keys-reply FirstContact j = tt
keys-reply (AddSent k on) j = tt
keys-reply (KeysSent k on) j = by (j == k) refl
  where
    by : (b : Bool) → (j == k) ≡ b → StepsB (KeysSent k on) j (if b then AskLink else Skip)
    by true e = (on, ap (λ i. KeysSent i on) (sym (eqb-true j k e)))
    by false e = tt
keys-reply (LinkSent k) j = tt
keys-reply (Abandoned on) j = tt
keys-reply (AddSeen k) j = tt

rkey-reply : (link : LinkFlow) (j : ℕ) (retry whole : Bool) (phase : KeyPhase) → StepsB link j (on_confirm_rkey_reply retry whole phase)
rkey-reply link j retry whole Asked = by (not retry && whole)
  where
    by : (b : Bool) → StepsB link j (if b then Confirmed else Retry)
    by true = tt
    by false = tt
rkey-reply link j retry whole Free = tt
rkey-reply link j retry whole RetryWaits = tt
rkey-reply link j retry whole Deleting = tt

delete-reply : (link : LinkFlow) (j : ℕ) (phase : KeyPhase) → StepsB link j (on_delete_rkey_reply phase)
delete-reply link j Free = tt
delete-reply link j Asked = tt
delete-reply link j RetryWaits = tt
delete-reply link j Deleting = tt

-- B's step for any message
pub steps-b : (f : Flow) (m : LlcMessage) (view : LinkView) (landed : ℕ) (whole : Bool) → StepsB f.link (named_slot m landed) (flow_step B f m view landed whole)
steps-b f (ConfirmLink true mac gid qp k user most) view landed whole = confirm-reply f.link k
steps-b f (ConfirmLink false mac gid qp k user most) view landed whole = tt
steps-b f (AddLink true false reason mac gid qp k mtu psn) view landed whole = add-reply f.link k view
steps-b f (AddLink true true reason mac gid qp k mtu psn) view landed whole = add-reject f.link k
steps-b f (AddLink false rejected reason mac gid qp k mtu psn) view landed whole = tt
steps-b f (AddKeys true k count keys) view landed whole = keys-reply f.link k
steps-b f (AddKeys false k count keys) view landed whole = tt
steps-b f (DeleteLink false every orderly k reason) view landed whole = tt
steps-b f (DeleteLink true every orderly k reason) view landed whole = tt
steps-b f (ConfirmRkey false retry negative others tokens) view landed whole = by (is_adding f.link)
  where
    by : (b : Bool) → StepsB f.link landed (if b then ReplyRetry else Learn)
    by true = tt
    by false = tt
steps-b f (ConfirmRkey true retry negative others tokens) view landed whole = rkey-reply f.link landed retry whole f.key
steps-b f (TestLink false bytes) view landed whole = tt
steps-b f (TestLink true bytes) view landed whole = tt
steps-b f (DeleteRkey false negative count mask keys) view landed whole = tt
steps-b f (DeleteRkey true negative count mask keys) view landed whole = delete-reply f.link landed f.key

-- whether a message is of the confirming of keys
abbrev pub is_rkey : LlcMessage → Bool
is_rkey (ConfirmRkey reply retry negative others tokens) = true
is_rkey m = false

-- what a step says of the key flow: an RMB is confirmed where that was asked with every link in the list, keys are withdrawn where they are
-- deleted; and that it learns from a CONFIRM RKEY, and of keys for a new link from no CONFIRM RKEY
abbrev pub StepsKey : Bool → KeyPhase → Bool → FlowStep → Type 0
StepsKey rkey key whole Confirmed = (is_asked key ≡ true) × (whole ≡ true)
StepsKey rkey key whole Withdraw = is_deleting key ≡ true
StepsKey rkey key whole Learn = rkey ≡ true
StepsKey rkey key whole AskLink = rkey ≡ false
StepsKey rkey key whole (ReplyKeys known) = rkey ≡ false
StepsKey rkey key whole step = Unit {0}

module _ (rkey : Bool) where
  k-confirm-reply : (link : LinkFlow) (key : KeyPhase) (whole : Bool) → StepsKey rkey key whole (on_confirm_link_reply link)
  k-confirm-reply NoFlow key whole = tt
  k-confirm-reply FirstContact key whole = tt
  k-confirm-reply (AddSent k on) key whole = tt
  k-confirm-reply (KeysSent k on) key whole = tt
  k-confirm-reply (LinkSent k) key whole = tt
  k-confirm-reply (Abandoned on) key whole = tt
  k-confirm-reply (AddSeen k) key whole = tt

  k-add-reply : (link : LinkFlow) (j : ℕ) (view : LinkView) (key : KeyPhase) (whole : Bool) → StepsKey rkey key whole (on_add_link_reply j view link)
  k-add-reply NoFlow j view key whole = tt
  k-add-reply FirstContact j view key whole = tt
  k-add-reply (AddSent k on) j view key whole = by ((j == k) && view.stands_here)
    where
      by : (b : Bool) → StepsKey rkey key whole (if b then SendKeys else Skip)
      by true = tt
      by false = tt
  k-add-reply (KeysSent k on) j view key whole = tt
  k-add-reply (LinkSent k) j view key whole = tt
  k-add-reply (Abandoned on) j view key whole = tt
  k-add-reply (AddSeen k) j view key whole = tt

  k-add-reject : (link : LinkFlow) (j : ℕ) (key : KeyPhase) (whole : Bool) → StepsKey rkey key whole (on_add_link_reject j link)
  k-add-reject NoFlow j key whole = tt
  k-add-reject FirstContact j key whole = tt
  k-add-reject (AddSent k on) j key whole = by (j == k)
    where
      by : (b : Bool) → StepsKey rkey key whole (if b then Over else Skip)
      by true = tt
      by false = tt
  k-add-reject (KeysSent k on) j key whole = tt
  k-add-reject (LinkSent k) j key whole = tt
  k-add-reject (Abandoned on) j key whole = tt
  k-add-reject (AddSeen k) j key whole = tt

  k-confirm : (link : LinkFlow) (landed : ℕ) (key : KeyPhase) (whole : Bool) → StepsKey rkey key whole (on_confirm_link landed link)
  k-confirm NoFlow landed key whole = tt
  k-confirm FirstContact landed key whole = tt
  k-confirm (AddSent k on) landed key whole = tt
  k-confirm (KeysSent k on) landed key whole = tt
  k-confirm (LinkSent k) landed key whole = tt
  k-confirm (Abandoned on) landed key whole = tt
  k-confirm (AddSeen k) landed key whole = by (landed == k)
    where
      by : (b : Bool) → StepsKey rkey key whole (if b then Live true false else Skip)
      by true = tt
      by false = tt

  k-new : (view : LinkView) (key : KeyPhase) (whole : Bool) → StepsKey rkey key whole (on_new_link view)
  k-new view key whole = by (not view.path_up || (view.stands_here || view.stands_there))
    where
      by : (b : Bool) → StepsKey rkey key whole (if b then Reject else ReplyAdd false)
      by true = tt
      by false = tt

  k-add : (link : LinkFlow) (j : ℕ) (view : LinkView) (key : KeyPhase) (whole : Bool) → StepsKey rkey key whole (on_add_link j view link)
  k-add NoFlow j view key whole = k-new view key whole
  k-add FirstContact j view key whole = tt
  k-add (AddSent k on) j view key whole = k-new view key whole
  k-add (KeysSent k on) j view key whole = k-new view key whole
  k-add (LinkSent k) j view key whole = k-new view key whole
  k-add (Abandoned on) j view key whole = k-new view key whole
  k-add (AddSeen k) j view key whole = by ((j == k) && (view.stands_here && view.stands_there))
    where
      by : (b : Bool) → StepsKey rkey key whole (if b then ReplyAdd true else on_new_link view)
      by true = tt
      by false = k-new view key whole

  k-rkey-reply : (retry whole : Bool) (key : KeyPhase) → StepsKey rkey key whole (on_confirm_rkey_reply retry whole key)
  k-rkey-reply true true Asked = tt
  k-rkey-reply true false Asked = tt
  k-rkey-reply false true Asked = (refl, refl)
  k-rkey-reply false false Asked = tt
  k-rkey-reply retry whole Free = tt
  k-rkey-reply retry whole RetryWaits = tt
  k-rkey-reply retry whole Deleting = tt

  k-delete-reply : (key : KeyPhase) (whole : Bool) → StepsKey rkey key whole (on_delete_rkey_reply key)
  k-delete-reply Free whole = tt
  k-delete-reply Asked whole = tt
  k-delete-reply RetryWaits whole = tt
  k-delete-reply Deleting whole = refl

k-keys-reply : (link : LinkFlow) (j : ℕ) (key : KeyPhase) (whole : Bool) → StepsKey false key whole (on_add_keys_reply j link)
k-keys-reply NoFlow j key whole = tt
k-keys-reply FirstContact j key whole = tt
k-keys-reply (AddSent k on) j key whole = tt
k-keys-reply (KeysSent k on) j key whole = by (j == k)
  where
    by : (b : Bool) → StepsKey false key whole (if b then AskLink else Skip)
    by true = refl
    by false = tt
k-keys-reply (LinkSent k) j key whole = tt
k-keys-reply (Abandoned on) j key whole = tt
k-keys-reply (AddSeen k) j key whole = tt

k-keys : (link : LinkFlow) (j : ℕ) (key : KeyPhase) (whole : Bool) → StepsKey false key whole (on_add_keys j link)
k-keys NoFlow j key whole = refl
k-keys FirstContact j key whole = tt
k-keys (AddSent k on) j key whole = refl
k-keys (KeysSent k on) j key whole = refl
k-keys (LinkSent k) j key whole = refl
k-keys (Abandoned on) j key whole = refl
k-keys (AddSeen k) j key whole = refl

k-rkey : (x : Side) (link : LinkFlow) (key : KeyPhase) (whole : Bool) → StepsKey true key whole (on_confirm_rkey x link)
k-rkey A link key whole = refl
k-rkey B link key whole = by (is_adding link)
  where
    by : (b : Bool) → StepsKey true key whole (if b then ReplyRetry else Learn)
    by true = tt
    by false = refl

-- the step of any side for any message
pub steps-key : (x : Side) (f : Flow) (m : LlcMessage) (view : LinkView) (landed : ℕ) (whole : Bool) → StepsKey (is_rkey m) f.key whole (flow_step x f m view landed whole)
steps-key A f (ConfirmLink false mac gid qp k user most) view landed whole = k-confirm false f.link landed f.key whole
steps-key A f (ConfirmLink true mac gid qp k user most) view landed whole = tt
steps-key A f (AddLink false rejected reason mac gid qp k mtu psn) view landed whole = k-add false f.link k view f.key whole
steps-key A f (AddLink true false reason mac gid qp k mtu psn) view landed whole = tt
steps-key A f (AddLink true true reason mac gid qp k mtu psn) view landed whole = tt
steps-key A f (AddKeys false k count keys) view landed whole = k-keys f.link k f.key whole
steps-key A f (AddKeys true k count keys) view landed whole = tt
steps-key A f (DeleteLink false every orderly k reason) view landed whole = tt
steps-key A f (DeleteLink true every orderly k reason) view landed whole = tt
steps-key A f (ConfirmRkey false retry negative others tokens) view landed whole = k-rkey A f.link f.key whole
steps-key A f (ConfirmRkey true retry negative others tokens) view landed whole = k-rkey-reply true retry whole f.key
steps-key A f (TestLink false bytes) view landed whole = tt
steps-key A f (TestLink true bytes) view landed whole = tt
steps-key A f (DeleteRkey false negative count mask keys) view landed whole = tt
steps-key A f (DeleteRkey true negative count mask keys) view landed whole = k-delete-reply false f.key whole
steps-key B f (ConfirmLink false mac gid qp k user most) view landed whole = tt
steps-key B f (ConfirmLink true mac gid qp k user most) view landed whole = k-confirm-reply false f.link f.key whole
steps-key B f (AddLink false rejected reason mac gid qp k mtu psn) view landed whole = tt
steps-key B f (AddLink true false reason mac gid qp k mtu psn) view landed whole = k-add-reply false f.link k view f.key whole
steps-key B f (AddLink true true reason mac gid qp k mtu psn) view landed whole = k-add-reject false f.link k f.key whole
steps-key B f (AddKeys false k count keys) view landed whole = tt
steps-key B f (AddKeys true k count keys) view landed whole = k-keys-reply f.link k f.key whole
steps-key B f (DeleteLink false every orderly k reason) view landed whole = tt
steps-key B f (DeleteLink true every orderly k reason) view landed whole = tt
steps-key B f (ConfirmRkey false retry negative others tokens) view landed whole = k-rkey B f.link f.key whole
steps-key B f (ConfirmRkey true retry negative others tokens) view landed whole = k-rkey-reply true retry whole f.key
steps-key B f (TestLink false bytes) view landed whole = tt
steps-key B f (TestLink true bytes) view landed whole = tt
steps-key B f (DeleteRkey false negative count mask keys) view landed whole = tt
steps-key B f (DeleteRkey true negative count mask keys) view landed whole = k-delete-reply false f.key whole
