-- Whatever LLC message lands at either side: what is under way of a side's key flow is then the answer, or nothing, or what was, and it fits.
use Rattle.std.specs.Prelude.{Option}
use Rattle.std.proofs.Common.{Bool, List, None, Some, [], ap, false, if◌then◌else◌, inl, inr, not, refl, subst, sym, true, true≢false, ℕ, ◌&&◌, ◌==◌, ◌∙◌, ◌∷◌, ◌≡◌, ◌⊎◌}
use Rattle.std.specs.Option.{option_or}
use Rattle.pipe_model.specs.Fabric.{does, loses}
use Rattle.pipe_model.specs.declared.flow.KeyPhase.TheVariants.{Asked, Free, Retry as RetryWaits}
use Rattle.pipe_model.specs.declared.flow.FlowStep.TheVariants.{Answered, Confirmed}
use Rattle.history_laws.specs.Words.{A, AddKeys, AddLink, B, ConfirmLink, ConfirmRkey, DeleteLink, DeleteRkey, Deleting, Echo, Entry, Fabric, Flow, FlowStep, Forget, Gone, KeyPhase, KeyToken, Learn, LinkId, Llc, LlcMessage, Peer, ReplyRetry, Retry, Setup, Side, Skip, TestLink, Withdraw, fabric, flow_of, is_adding, is_standing, key_again, llc_step, loss_posts, on_confirm_rkey_reply, on_delete_rkey_reply, other, peer, phase_at, stands, step_posts, table_of}
use Rattle.history_laws.proofs.Basics.{none-is, some-is}
use Rattle.link_laws.specs.Linked.{Under, is_link_message}
use Rattle.link_laws.proofs.UnderWay.{IsNotGone, gone-there, left_after}
use Rattle.link_laws.specs.UnderWay.{HasFlows, HasOneOf, kind_in, kind_of}
use Rattle.link_laws.specs.KeyFlows.{HasKeyFlow, is_key_of, key_fits, key_kind}
use Rattle.link_laws.proofs.Requests.KeyPosts.{IsLinkStep, again-is, any-one, flow-other, key-like, keys-loss, keys-loss-one, link-step, link-step-key, link-step-none}
use Rattle.link_laws.proofs.Requests.KeyLandings.{keys-loss-fits, keys-loss-free}

-- what is left of what was under way of the key flow of x, as a message of `from` lands
abbrev pub left_of : Side → Side → LinkId → LlcMessage → Option Under → Option Under
left_of x from l m u = left_after (kind_of (key_kind x) (Llc from l m)) u

-- what a landing at z does to the key flow of x
pub record LandsKey (setup : Setup) (x z : Side) (past : List Entry) (l : LinkId) (m : LlcMessage) (step : FlowStep) (left : Option Under) : Type 0 where
  pub one : HasOneOf (key_kind x) (step_posts setup z l m past step)
  pub free : (kind_in (key_kind x) (step_posts setup z l m past step) ≡ None) ⊎ (left ≡ None)
  pub fits : (w : Under) → option_or (kind_in (key_kind x) (step_posts setup z l m past step)) left ≡ Some w → stands w.link (peer x (does z l m step (fabric past))).table ≡ true → key_fits w.link.slot w.message (peer x (does z l m step (fabric past))).flow ≡ true

pub link-not-gone : (step : FlowStep) → IsLinkStep step → IsNotGone step
link-not-gone (Gone report) s = s
link-not-gone step s = tt

module _ (setup : Setup) (past : List Entry) (flows : HasFlows past) (x : Side) (all : HasKeyFlow x past) (l : LinkId) where
  -- nothing of the key flow comes or goes, and the flow stays
  plain : (z : Side) (m : LlcMessage) (step : FlowStep) → HasOneOf (key_kind x) (step_posts setup z l m past step) → kind_in (key_kind x) (step_posts setup z l m past step) ≡ None
      → (Flow.key (Peer.flow (peer x (does z l m step (fabric past)))) ≡ (flow_of x past).key) × (Flow.on (Peer.flow (peer x (does z l m step (fabric past)))) ≡ (flow_of x past).on) → LandsKey setup x z past l m step all.under
  plain z m step one none same = record {
    one = one;
    free = inl none;
    fits = λ w e s. key-like w.link.slot w.message (peer x (does z l m step (fabric past))).flow (flow_of x past) same.0 same.1 ∙ all.fits w (ap (λ o. option_or o all.under) (sym none) ∙ e);
  }

  -- what was under way has landed, and nothing is posted
  taken : (z : Side) (m : LlcMessage) (step : FlowStep) → HasOneOf (key_kind x) (step_posts setup z l m past step) → kind_in (key_kind x) (step_posts setup z l m past step) ≡ None → LandsKey setup x z past l m step None
  taken z m step one none = record { one = one; free = inl none; fits = λ w e s. absurd (none-is w (ap (λ o. option_or o None) (sym none) ∙ e)) }

  -- what was under way has landed, and is answered
  replied : (z : Side) (m : LlcMessage) (step : FlowStep) (r : LlcMessage) → HasOneOf (key_kind x) (step_posts setup z l m past step) → kind_in (key_kind x) (step_posts setup z l m past step) ≡ Some (record { from = z; link = l; message = r })
      → key_fits l.slot r (peer x (does z l m step (fabric past))).flow ≡ true → LandsKey setup x z past l m step None
  replied z m step r one some fits = record {
    one = one;
    free = inr refl;
    fits = λ w e s. subst (λ (v : Under). key_fits v.link.slot v.message (peer x (does z l m step (fabric past))).flow ≡ true) (some-is (record { from = z; link = l; message = r }) w (ap (λ o. option_or o None) (sym some) ∙ e)) fits;
  }

  -- a message of the link flow, at this side or the other
  link-own : (m : LlcMessage) → is_link_message m ≡ true → LandsKey setup x x past l m (llc_step x l m past (fabric past)) all.under
  link-own m e = let s = link-step _ _ l.slot _ x m e in plain x m _ (any-one (key_kind x) setup x l past m _ (link-not-gone _ s)) (link-step-none setup x l past x m _ s) (link-step-key x l m _ (fabric past) s)

-- two sides
flow-beside : (x : Side) (l : LinkId) (m : LlcMessage) (step : FlowStep) (f : Fabric) → (Flow.key (Peer.flow (peer x (does (other x) l m step f))) ≡ Flow.key (Peer.flow (peer x f))) × (Flow.on (Peer.flow (peer x (does (other x) l m step f))) ≡ Flow.on (Peer.flow (peer x f)))
flow-beside A l m step f = (ap (λ (f : Flow). f.key) (flow-other B l m step f), ap (λ (f : Flow). f.on) (flow-other B l m step f))
flow-beside B l m step f = (ap (λ (f : Flow). f.key) (flow-other A l m step f), ap (λ (f : Flow). f.on) (flow-other A l m step f))

-- the other side's loss posts nothing of this side's key flow
pub beside-loss : (setup : Setup) (x : Side) (k : ℕ) (mine : Bool) (p : Peer) (before : Flow) (past : List Entry) → kind_in (key_kind x) (loss_posts setup (other x) k mine p before past) ≡ None
beside-loss setup x k mine p before past = keys-loss x (other x) k mine p setup before past ∙ by (p.group == 0) (Rattle.pipe_model.specs.Flows.resends_key k before)
  where
    at : (x : Side) → (b : Bool) → kind_in (key_kind x) (if b then key_again (other x) p (Rattle.pipe_model.specs.Keys.keys_of (other x) past).keys (Rattle.pipe_model.specs.Posts.deleting_rmbs setup (other x) past) before.key ∷ [] else []) ≡ None
    at A true = ap (λ o. option_or o None) (again-is B p (Rattle.pipe_model.specs.Keys.keys_of B past).keys (Rattle.pipe_model.specs.Posts.deleting_rmbs setup B past) before.key)
    at B true = ap (λ o. option_or o None) (again-is A p (Rattle.pipe_model.specs.Keys.keys_of A past).keys (Rattle.pipe_model.specs.Posts.deleting_rmbs setup A past) before.key)
    at x false = refl

    by : (b c : Bool) → (if b then None else kind_in (key_kind x) (if c then key_again (other x) p (Rattle.pipe_model.specs.Keys.keys_of (other x) past).keys (Rattle.pipe_model.specs.Posts.deleting_rmbs setup (other x) past) before.key ∷ [] else [])) ≡ None
    by true c = refl
    by false c = at x c

module _ (setup : Setup) (past : List Entry) (flows : HasFlows past) (l : LinkId) where
  -- a message of x lands at the other side
  module _ (x : Side) (all : HasKeyFlow x past) where
    plain-other : (m : LlcMessage) (step : FlowStep) → HasOneOf (key_kind x) (step_posts setup (other x) l m past step) → kind_in (key_kind x) (step_posts setup (other x) l m past step) ≡ None → LandsKey setup x (other x) past l m step all.under
    plain-other m step one none = plain setup past flows x all l (other x) m step one none (flow-beside x l m step (fabric past))

    link-other : (m : LlcMessage) → is_link_message m ≡ true → LandsKey setup x (other x) past l m (llc_step (other x) l m past (fabric past)) all.under
    link-other m e = let s = link-step _ _ l.slot _ (other x) m e in plain-other m _ (any-one (key_kind x) setup (other x) l past m _ (link-not-gone _ s)) (link-step-none setup (other x) l past x m _ s)

    no-posts : (m : LlcMessage) (step : FlowStep) → step_posts setup (other x) l m past step ≡ [] → LandsKey setup x (other x) past l m step all.under
    no-posts m step e = plain-other m step (subst (λ ps. HasOneOf (key_kind x) ps) (sym e) tt) (ap (kind_in (key_kind x)) e)

    key-reply-other : (retry negative : Bool) (others : ℕ) (tokens : List KeyToken) (whole : Bool) (phase : KeyPhase) → LandsKey setup x (other x) past l (ConfirmRkey true retry negative others tokens) (on_confirm_rkey_reply retry whole phase) all.under
    key-reply-other retry negative others tokens whole Asked = by (not retry && whole)
      where
        by : (b : Bool) → LandsKey setup x (other x) past l (ConfirmRkey true retry negative others tokens) (if b then Confirmed else Retry) all.under
        by true = no-posts (ConfirmRkey true retry negative others tokens) Confirmed refl
        by false = no-posts (ConfirmRkey true retry negative others tokens) Retry refl
    key-reply-other retry negative others tokens whole Free = no-posts (ConfirmRkey true retry negative others tokens) Skip refl
    key-reply-other retry negative others tokens whole RetryWaits = no-posts (ConfirmRkey true retry negative others tokens) Skip refl
    key-reply-other retry negative others tokens whole Deleting = no-posts (ConfirmRkey true retry negative others tokens) Skip refl

    delete-reply-other : (negative : Bool) (count mask : ℕ) (keys : List ℕ) (phase : KeyPhase) → LandsKey setup x (other x) past l (DeleteRkey true negative count mask keys) (on_delete_rkey_reply phase) all.under
    delete-reply-other negative count mask keys Deleting = no-posts (DeleteRkey true negative count mask keys) Withdraw refl
    delete-reply-other negative count mask keys Free = no-posts (DeleteRkey true negative count mask keys) Skip refl
    delete-reply-other negative count mask keys Asked = no-posts (DeleteRkey true negative count mask keys) Skip refl
    delete-reply-other negative count mask keys RetryWaits = no-posts (DeleteRkey true negative count mask keys) Skip refl

    gone-other : (every orderly : Bool) (k reason : ℕ) (b : Bool) → LandsKey setup x (other x) past l (DeleteLink false every orderly k reason) (Gone b) all.under
    gone-other every orderly k reason true = plain-other (DeleteLink false every orderly k reason) (Gone true) (inl refl, keys-loss-one x (other x) k false (loses k (peer (other x) (fabric past))) setup (flow_of (other x) past) past) (beside-loss setup x k false (loses k (peer (other x) (fabric past))) (flow_of (other x) past) past)
    gone-other every orderly k reason false = plain-other (DeleteLink false every orderly k reason) (Gone false) (inl refl, tt) refl

    key-fits-now : (m : LlcMessage) → all.under ≡ Some (record { from = x; link = l; message = m }) → key_fits l.slot m (flow_of x past) ≡ true
    key-fits-now m e = all.fits (record { from = x; link = l; message = m }) e

  at-other : (x : Side) (all : HasKeyFlow x past) (m : LlcMessage) → (is_key_of x x m ≡ true → HasKeyFlow.under all ≡ Some (record { from = x; link = l; message = m })) → LandsKey setup x (other x) past l m (llc_step (other x) l m past (fabric past)) (left_of x x l m (HasKeyFlow.under all))
  at-other x all (ConfirmLink reply mac gid qp k user most) h = link-other x all (ConfirmLink reply mac gid qp k user most) refl
  at-other x all (AddLink reply rejected reason mac gid qp k mtu psn) h = link-other x all (AddLink reply rejected reason mac gid qp k mtu psn) refl
  at-other x all (AddKeys reply k count keys) h = link-other x all (AddKeys reply k count keys) refl
  at-other A all (DeleteLink false every orderly k reason) h = gone-other A all every orderly k reason _
  at-other B all (DeleteLink false every orderly k reason) h = gone-other B all every orderly k reason _
  at-other A all (DeleteLink true every orderly k reason) h = no-posts A all (DeleteLink true every orderly k reason) Answered refl
  at-other B all (DeleteLink true every orderly k reason) h = no-posts B all (DeleteLink true every orderly k reason) Answered refl
  at-other A all (TestLink false bytes) h = plain-other A all (TestLink false bytes) Echo (inr refl, tt) refl
  at-other B all (TestLink false bytes) h = plain-other B all (TestLink false bytes) Echo (inr refl, tt) refl
  at-other A all (TestLink true bytes) h = no-posts A all (TestLink true bytes) Answered refl
  at-other B all (TestLink true bytes) h = no-posts B all (TestLink true bytes) Answered refl
  at-other A all (ConfirmRkey false retry negative others tokens) h = by (is_adding (flow_of B past).link)
    where
      by : (b : Bool) → LandsKey setup A B past l (ConfirmRkey false retry negative others tokens) (if b then ReplyRetry else Learn) None
      by true = replied setup past flows A all l B (ConfirmRkey false retry negative others tokens) ReplyRetry (ConfirmRkey true true negative others tokens) (inr refl, tt) refl (key-fits-now A all (ConfirmRkey false retry negative others tokens) (h refl))
      by false = replied setup past flows A all l B (ConfirmRkey false retry negative others tokens) Learn (ConfirmRkey true false negative others tokens) (inr refl, tt) refl (key-fits-now A all (ConfirmRkey false retry negative others tokens) (h refl))
  at-other B all (ConfirmRkey false retry negative others tokens) h = replied setup past flows B all l A (ConfirmRkey false retry negative others tokens) Learn (ConfirmRkey true false negative others tokens) (inr refl, tt) refl (key-fits-now B all (ConfirmRkey false retry negative others tokens) (h refl))
  at-other A all (ConfirmRkey true retry negative others tokens) h = key-reply-other A all retry negative others tokens _ (flow_of B past).key
  at-other B all (ConfirmRkey true retry negative others tokens) h = key-reply-other B all retry negative others tokens _ (flow_of A past).key
  at-other A all (DeleteRkey false negative count mask keys) h = replied setup past flows A all l B (DeleteRkey false negative count mask keys) Forget _ (inr refl, tt) refl (key-fits-now A all (DeleteRkey false negative count mask keys) (h refl))
  at-other B all (DeleteRkey false negative count mask keys) h = replied setup past flows B all l A (DeleteRkey false negative count mask keys) Forget _ (inr refl, tt) refl (key-fits-now B all (DeleteRkey false negative count mask keys) (h refl))
  at-other A all (DeleteRkey true negative count mask keys) h = delete-reply-other A all negative count mask keys (flow_of B past).key
  at-other B all (DeleteRkey true negative count mask keys) h = delete-reply-other B all negative count mask keys (flow_of A past).key

  -- a message of the other side lands at x
  module _ (x : Side) (all : HasKeyFlow x past) where
    key-answer : (retry negative : Bool) (others : ℕ) (tokens : List KeyToken) (whole : Bool) (phase : KeyPhase) → LandsKey setup x x past l (ConfirmRkey true retry negative others tokens) (on_confirm_rkey_reply retry whole phase) None
    key-answer retry negative others tokens whole Asked = by (not retry && whole)
      where
        by : (b : Bool) → LandsKey setup x x past l (ConfirmRkey true retry negative others tokens) (if b then Confirmed else Retry) None
        by true = taken setup past flows x all l x (ConfirmRkey true retry negative others tokens) Confirmed tt refl
        by false = taken setup past flows x all l x (ConfirmRkey true retry negative others tokens) Retry tt refl
    key-answer retry negative others tokens whole Free = taken setup past flows x all l x (ConfirmRkey true retry negative others tokens) Skip tt refl
    key-answer retry negative others tokens whole RetryWaits = taken setup past flows x all l x (ConfirmRkey true retry negative others tokens) Skip tt refl
    key-answer retry negative others tokens whole Deleting = taken setup past flows x all l x (ConfirmRkey true retry negative others tokens) Skip tt refl

    delete-answer : (negative : Bool) (count mask : ℕ) (keys : List ℕ) (phase : KeyPhase) → LandsKey setup x x past l (DeleteRkey true negative count mask keys) (on_delete_rkey_reply phase) None
    delete-answer negative count mask keys Deleting = taken setup past flows x all l x (DeleteRkey true negative count mask keys) Withdraw tt refl
    delete-answer negative count mask keys Free = taken setup past flows x all l x (DeleteRkey true negative count mask keys) Skip tt refl
    delete-answer negative count mask keys Asked = taken setup past flows x all l x (DeleteRkey true negative count mask keys) Skip tt refl
    delete-answer negative count mask keys RetryWaits = taken setup past flows x all l x (DeleteRkey true negative count mask keys) Skip tt refl

  -- the peer says that a link is gone
  gone-own : (x : Side) (all : HasKeyFlow x past) (every orderly : Bool) (k reason : ℕ) (b : Bool) → (is_standing (phase_at k (table_of x past)) && not (is_standing (phase_at k (table_of (other x) past)))) ≡ b → LandsKey setup x x past l (DeleteLink false every orderly k reason) (Gone b) (HasKeyFlow.under all)
  gone-own A all every orderly k reason false e = plain setup past flows A all l A (DeleteLink false every orderly k reason) (Gone false) (inl refl, tt) refl (refl, refl)
  gone-own B all every orderly k reason false e = plain setup past flows B all l B (DeleteLink false every orderly k reason) (Gone false) (inl refl, tt) refl (refl, refl)
  gone-own A all every orderly k reason true e = record {
    one = (inl refl, keys-loss-one A A k false (loses k (peer A (fabric past))) setup (flow_of A past) past);
    free = keys-loss-free A past flows all k false (gone-there past flows B k (not-there (is_standing (phase_at k (table_of A past))) (is_standing (phase_at k (table_of B past))) e)) setup;
    fits = keys-loss-fits A past flows all k false (gone-there past flows B k (not-there (is_standing (phase_at k (table_of A past))) (is_standing (phase_at k (table_of B past))) e)) setup;
  }
    where
      not-there : (a b : Bool) → (a && not b) ≡ true → b ≡ false
      not-there a false e = refl
      not-there true true e = absurd (true≢false (sym e))
      not-there false true e = absurd (true≢false (sym e))
  gone-own B all every orderly k reason true e = record {
    one = (inl refl, keys-loss-one B B k false (loses k (peer B (fabric past))) setup (flow_of B past) past);
    free = keys-loss-free B past flows all k false (gone-there past flows A k (not-there (is_standing (phase_at k (table_of B past))) (is_standing (phase_at k (table_of A past))) e)) setup;
    fits = keys-loss-fits B past flows all k false (gone-there past flows A k (not-there (is_standing (phase_at k (table_of B past))) (is_standing (phase_at k (table_of A past))) e)) setup;
  }
    where
      not-there : (a b : Bool) → (a && not b) ≡ true → b ≡ false
      not-there a false e = refl
      not-there true true e = absurd (true≢false (sym e))
      not-there false true e = absurd (true≢false (sym e))

  at-own : (x : Side) (all : HasKeyFlow x past) (m : LlcMessage) → LandsKey setup x x past l m (llc_step x l m past (fabric past)) (left_of x (other x) l m (HasKeyFlow.under all))
  at-own x all (ConfirmLink reply mac gid qp k user most) = link-own setup past flows x all l (ConfirmLink reply mac gid qp k user most) refl
  at-own x all (AddLink reply rejected reason mac gid qp k mtu psn) = link-own setup past flows x all l (AddLink reply rejected reason mac gid qp k mtu psn) refl
  at-own x all (AddKeys reply k count keys) = link-own setup past flows x all l (AddKeys reply k count keys) refl
  at-own A all (DeleteLink false every orderly k reason) = gone-own A all every orderly k reason _ refl
  at-own B all (DeleteLink false every orderly k reason) = gone-own B all every orderly k reason _ refl
  at-own A all (DeleteLink true every orderly k reason) = plain setup past flows A all l A (DeleteLink true every orderly k reason) Answered tt refl (refl, refl)
  at-own B all (DeleteLink true every orderly k reason) = plain setup past flows B all l B (DeleteLink true every orderly k reason) Answered tt refl (refl, refl)
  at-own A all (TestLink false bytes) = plain setup past flows A all l A (TestLink false bytes) Echo (inr refl, tt) refl (refl, refl)
  at-own B all (TestLink false bytes) = plain setup past flows B all l B (TestLink false bytes) Echo (inr refl, tt) refl (refl, refl)
  at-own A all (TestLink true bytes) = plain setup past flows A all l A (TestLink true bytes) Answered tt refl (refl, refl)
  at-own B all (TestLink true bytes) = plain setup past flows B all l B (TestLink true bytes) Answered tt refl (refl, refl)
  at-own A all (ConfirmRkey false retry negative others tokens) = plain setup past flows A all l A (ConfirmRkey false retry negative others tokens) Learn (inr refl, tt) refl (refl, refl)
  at-own B all (ConfirmRkey false retry negative others tokens) = by (is_adding (flow_of B past).link)
    where
      by : (b : Bool) → LandsKey setup B B past l (ConfirmRkey false retry negative others tokens) (if b then ReplyRetry else Learn) (HasKeyFlow.under all)
      by true = plain setup past flows B all l B (ConfirmRkey false retry negative others tokens) ReplyRetry (inr refl, tt) refl (refl, refl)
      by false = plain setup past flows B all l B (ConfirmRkey false retry negative others tokens) Learn (inr refl, tt) refl (refl, refl)
  at-own A all (ConfirmRkey true retry negative others tokens) = key-answer A all retry negative others tokens _ (flow_of A past).key
  at-own B all (ConfirmRkey true retry negative others tokens) = key-answer B all retry negative others tokens _ (flow_of B past).key
  at-own A all (DeleteRkey false negative count mask keys) = plain setup past flows A all l A (DeleteRkey false negative count mask keys) Forget (inr refl, tt) refl (refl, refl)
  at-own B all (DeleteRkey false negative count mask keys) = plain setup past flows B all l B (DeleteRkey false negative count mask keys) Forget (inr refl, tt) refl (refl, refl)
  at-own A all (DeleteRkey true negative count mask keys) = delete-answer A all negative count mask keys (flow_of A past).key
  at-own B all (DeleteRkey true negative count mask keys) = delete-answer B all negative count mask keys (flow_of B past).key

  -- a message of side `dir` lands at the other
  pub lands-key : (x dir : Side) (all : HasKeyFlow x past) (m : LlcMessage) → (is_key_of x dir m ≡ true → HasKeyFlow.under all ≡ Some (record { from = dir; link = l; message = m })) → LandsKey setup x (other dir) past l m (llc_step (other dir) l m past (fabric past)) (left_of x dir l m (HasKeyFlow.under all))
  lands-key A A all m h = at-other A all m h
  lands-key B B all m h = at-other B all m h
  lands-key A B all m h = at-own A all m
  lands-key B A all m h = at-own B all m
