-- What a step of the flows and a report post: at most one message of the link flow, and on links that were made.
use Rattle.std.proofs.Common.{Bool, List, None, [], ap, arith, false, if◌then◌else◌, inl, inr, not, refl, subst, sym, true, true≢false, ℕ, ◌&&◌, ◌++◌, ◌==◌, ◌||◌, ◌∙◌, ◌∷◌, ◌≡◌, ◌≤◌}
use Rattle.pipe_model.specs.Fabric.{loses}
use Rattle.std.specs.Prelude.{Option, unwrap_or}
use Rattle.pipe_model.specs.declared.flow.KeyPhase.TheVariants.{Asked, Free, Retry as RetryWaits}
use Rattle.pipe_model.specs.Flows.{LinkSent}
use Rattle.pipe_model.specs.declared.flow.FlowStep.TheVariants.{Answered, Confirmed, Live}
use Rattle.history_laws.specs.Words.{A, Abandoned, AddKeys, AddLink, AddSeen, AddSent, AskLink, B, ConfirmLink, ConfirmRkey, Dead, DeleteLink, DeleteRkey, Deleting, Echo, Entry, Fabric, FirstContact, Flow, FlowStep, Forget, Gone, Key, KeyPhase, Keys, KeysSent, Learn, LinkFlow, LinkId, LinkView, Llc, LlcMessage, NoFlow, Over, Peer, Post, Reject, ReplyAdd, ReplyKeys, ReplyRetry, Retry, SendKeys, Setup, Side, Skip, TestLink, Withdraw, add_again, delete_link, deleting_rmbs, drop_posts, ends_group, fabric, flow_of, flow_slot, flow_step, goes_on, is_adding, is_dropping, key_again, keys_of, link_at, link_or_none, llc_step, loss_posts, lowest_live, made_on, named_slot, no_link, on_add_keys, on_add_keys_reply, on_add_link, on_add_link_reject, on_add_link_reply, on_confirm_link, on_confirm_link_reply, on_confirm_rkey_reply, on_delete_rkey_reply, on_new_link, pair_on, peer, peer_of, resends_add, resends_key, set_phase, step_posts, table_of, without_slot}
use Rattle.link_laws.proofs.UnderWay.WireStep.{Grows}
use Rattle.link_laws.specs.UnderWay.{AreOnMade, HasOneOf, kind_in, link_kind}
use Rattle.link_laws.proofs.Sound.{all-link, set-link}
use Rattle.link_laws.specs.Linked.{AreLinked, Under}
use Rattle.link_laws.proofs.UnderWay.Growing.{known-made}
use Rattle.link_laws.proofs.UnderWay.PostKinds.{made-append, one-alone, one-append}

-- links that were made stay so
pub made-later : (f g : Fabric) (ps : List Post) → Grows f g → AreOnMade f ps → AreOnMade g ps
made-later f g [] grows a = tt
made-later f g (Llc from link m ∷ ps) grows a = (let p : made_on link.slot f ≤ made_on link.slot g = grows.rises link.slot in let q : link.incarnation ≤ made_on link.slot f = a.0 in omega (arith, p, q), made-later f g ps grows a.1)
made-later f g (Rattle.pipe_model.specs.declared.post.Post.TheVariants.Write from link key address len ∷ ps) grows a = made-later f g ps grows a
made-later f g (Rattle.pipe_model.specs.declared.post.Post.TheVariants.Cdc from link m ∷ ps) grows a = made-later f g ps grows a
made-later f g (Rattle.pipe_model.specs.declared.post.Post.TheVariants.Clc from s link m ∷ ps) grows a = made-later f g ps grows a

-- a loss changes no link of a slot
pub lost-link : (j k : ℕ) (p : Peer) → link_at j (loses k p).table ≡ link_at j p.table
lost-link j k p = by (lowest_live (set_phase k Dead p.table) == 0)
  where
    by : (b : Bool) → link_at j (Peer.table (if b then ends_group (without_slot k p) else goes_on k (without_slot k p))) ≡ link_at j p.table
    by true = all-link j (set_phase k Dead p.table) ∙ set-link j k Dead p.table
    by false = set-link j k Dead p.table

-- the link on which a side posts after a loss was made
pub lost-made : (f : Fabric) (u : Option Under) → AreLinked f u → (x : Side) (j k : ℕ) → LinkId.incarnation (link_or_none j (loses k (peer x f)).table) ≤ made_on (LinkId.slot (link_or_none j (loses k (peer x f)).table)) f
lost-made f u all x j k = subst (λ (o : Option LinkId). LinkId.incarnation (unwrap_or o no_link) ≤ made_on (LinkId.slot (unwrap_or o no_link)) f) (sym (lost-link j k (peer x f))) (known-made f u all x j)

module _ (x : Side) (k : ℕ) (own : Bool) (p : Peer) where
  abbrev carrier : LinkId
  carrier = link_or_none (lowest_live p.table) p.table

  drop-none : kind_in link_kind (drop_posts x k own p) ≡ None
  drop-none = by (own && not (is_dropping k p.flow))
    where
      by : (b : Bool) → kind_in link_kind (if b then Llc x (link_or_none (lowest_live p.table) p.table) (delete_link k) ∷ [] else []) ≡ None
      by true = refl
      by false = refl

  drop-one : HasOneOf link_kind (drop_posts x k own p)
  drop-one = by (own && not (is_dropping k p.flow))
    where
      by : (b : Bool) → HasOneOf link_kind (if b then Llc x (link_or_none (lowest_live p.table) p.table) (delete_link k) ∷ [] else [])
      by true = (inl refl, tt)
      by false = tt

  drop-made : (f : Fabric) → carrier.incarnation ≤ made_on carrier.slot f → AreOnMade f (drop_posts x k own p)
  drop-made f m = by (own && not (is_dropping k p.flow))
    where
      by : (b : Bool) → AreOnMade f (if b then Llc x (link_or_none (lowest_live p.table) p.table) (delete_link k) ∷ [] else [])
      by true = (m, tt)
      by false = tt

  module _ (keys : List Key) (rmbs : List ℕ) where
    key-none : (phase : KeyPhase) (b : Bool) → kind_in link_kind (if b then key_again x p keys rmbs phase ∷ [] else []) ≡ None
    key-none Deleting true = refl
    key-none Free true = refl
    key-none Asked true = refl
    key-none RetryWaits true = refl
    key-none phase false = refl

    key-one : (phase : KeyPhase) (b : Bool) → HasOneOf link_kind (if b then key_again x p keys rmbs phase ∷ [] else [])
    key-one phase true = one-alone link_kind (key_again x p keys rmbs phase)
    key-one phase false = tt

    key-made : (f : Fabric) → carrier.incarnation ≤ made_on carrier.slot f → (phase : KeyPhase) (b : Bool) → AreOnMade f (if b then key_again x p keys rmbs phase ∷ [] else [])
    key-made f m Deleting true = (m, tt)
    key-made f m Free true = (m, tt)
    key-made f m Asked true = (m, tt)
    key-made f m RetryWaits true = (m, tt)
    key-made f m phase false = tt

  add-one : (ks : Keys) (qp : ℕ) (flow : LinkFlow) (b : Bool) → HasOneOf link_kind (if b then add_again x p ks qp flow else [])
  add-one ks qp (AddSent j on) true = (inr refl, tt)
  add-one ks qp (KeysSent j on) true = (inr refl, tt)
  add-one ks qp flow true = tt
  add-one ks qp flow false = tt

  add-made : (f : Fabric) → carrier.incarnation ≤ made_on carrier.slot f → (ks : Keys) (qp : ℕ) (flow : LinkFlow) (b : Bool) → AreOnMade f (if b then add_again x p ks qp flow else [])
  add-made f m ks qp (AddSent j on) true = (m, tt)
  add-made f m ks qp (KeysSent j on) true = (m, tt)
  add-made f m ks qp flow true = tt
  add-made f m ks qp flow false = tt

  -- what a loss makes a side post
  pub loss-one : (setup : Setup) (before : Flow) (past : List Entry) → HasOneOf link_kind (loss_posts setup x k own p before past)
  loss-one setup before past = by (p.group == 0)
    where
      by : (b : Bool) → HasOneOf link_kind (if b then [] else (drop_posts x k own p ++ (if resends_key k before then key_again x p (keys_of x past).keys (deleting_rmbs setup x past) before.key ∷ [] else [])) ++ (if resends_add k before.link then add_again x p (keys_of x past) (pair_on x (flow_slot before.link) past) before.link else []))
      by true = tt
      by false = one-append link_kind (drop_posts x k own p ++ (if resends_key k before then key_again x p (keys_of x past).keys (deleting_rmbs setup x past) before.key ∷ [] else [])) _
          (one-append link_kind (drop_posts x k own p) _ drop-one (key-one (keys_of x past).keys (deleting_rmbs setup x past) before.key (resends_key k before)) (inl drop-none))
          (add-one (keys_of x past) (pair_on x (flow_slot before.link) past) before.link (resends_add k before.link))
          (inl (Rattle.link_laws.proofs.UnderWay.PostKinds.kind-append link_kind (drop_posts x k own p) _
          ∙ (ap (λ o. Rattle.std.specs.Option.option_or o (kind_in link_kind (if resends_key k before then key_again x p (keys_of x past).keys (deleting_rmbs setup x past) before.key ∷ [] else []))) drop-none ∙ key-none (keys_of x past).keys (deleting_rmbs setup x past) before.key (resends_key k before))))

  -- nothing of the link flow, where the request of B was not on that link
  pub loss-quiet : (setup : Setup) (before : Flow) (past : List Entry) → resends_add k before.link ≡ false → kind_in link_kind (loss_posts setup x k own p before past) ≡ None
  loss-quiet setup before past e = by (p.group == 0)
    where
      by : (b : Bool) → kind_in link_kind (if b then [] else (drop_posts x k own p ++ (if resends_key k before then key_again x p (keys_of x past).keys (deleting_rmbs setup x past) before.key ∷ [] else [])) ++ (if resends_add k before.link then add_again x p (keys_of x past) (pair_on x (flow_slot before.link) past) before.link else [])) ≡ None
      by true = refl
      by false =
          Rattle.link_laws.proofs.UnderWay.PostKinds.kind-append link_kind (drop_posts x k own p ++ (if resends_key k before then key_again x p (keys_of x past).keys (deleting_rmbs setup x past) before.key ∷ [] else [])) _
          ∙ (ap (λ o. Rattle.std.specs.Option.option_or o (kind_in link_kind (if resends_add k before.link then add_again x p (keys_of x past) (pair_on x (flow_slot before.link) past) before.link else [])))
          (Rattle.link_laws.proofs.UnderWay.PostKinds.kind-append link_kind (drop_posts x k own p) _
          ∙ (ap (λ o. Rattle.std.specs.Option.option_or o (kind_in link_kind (if resends_key k before then key_again x p (keys_of x past).keys (deleting_rmbs setup x past) before.key ∷ [] else []))) drop-none ∙ key-none (keys_of x past).keys (deleting_rmbs setup x past) before.key (resends_key k before)))
          ∙ ap (λ b. kind_in link_kind (if b then add_again x p (keys_of x past) (pair_on x (flow_slot before.link) past) before.link else [])) e)

  -- a loss posts on links that were made
  pub loss-made : (setup : Setup) (f : Fabric) → carrier.incarnation ≤ made_on carrier.slot f → (before : Flow) (past : List Entry) → AreOnMade f (loss_posts setup x k own p before past)
  loss-made setup f m before past = by (p.group == 0)
    where
      by : (b : Bool) → AreOnMade f (if b then [] else (drop_posts x k own p ++ (if resends_key k before then key_again x p (keys_of x past).keys (deleting_rmbs setup x past) before.key ∷ [] else [])) ++ (if resends_add k before.link then add_again x p (keys_of x past) (pair_on x (flow_slot before.link) past) before.link else []))
      by true = tt
      by false = made-append f (drop_posts x k own p ++ (if resends_key k before then key_again x p (keys_of x past).keys (deleting_rmbs setup x past) before.key ∷ [] else [])) _
          (made-append f (drop_posts x k own p) _ (drop-made f m) (key-made (keys_of x past).keys (deleting_rmbs setup x past) f m before.key (resends_key k before)))
          (add-made f m (keys_of x past) (pair_on x (flow_slot before.link) past) before.link (resends_add k before.link))

-- only DELETE LINK makes a side report
abbrev pub IsNotGone : FlowStep → Type 0
IsNotGone (Gone report) = ⊥
IsNotGone step = Unit {0}

not-gone-if : (b : Bool) (s t : FlowStep) → IsNotGone s → IsNotGone t → IsNotGone (if b then s else t)
not-gone-if true s t p q = p
not-gone-if false s t p q = q

-- whether a message is DELETE LINK
abbrev pub is_delete_link : LlcMessage → Bool
is_delete_link (DeleteLink reply every orderly link reason) = true
is_delete_link m = false

module _ (f : Flow) (view : LinkView) (landed : ℕ) (whole : Bool) where
  on-add : (k : ℕ) (flow : LinkFlow) → IsNotGone (on_add_link k view flow)
  on-add k FirstContact = tt
  on-add k (AddSeen j) = not-gone-if ((k == j) && (view.stands_here && view.stands_there)) (ReplyAdd true) (on_new_link view) tt new
    where
      new : IsNotGone (on_new_link view)
      new = not-gone-if (not view.path_up || (view.stands_here || view.stands_there)) Reject (ReplyAdd false) tt tt
  on-add k NoFlow = not-gone-if (not view.path_up || (view.stands_here || view.stands_there)) Reject (ReplyAdd false) tt tt
  on-add k (AddSent j on) = not-gone-if (not view.path_up || (view.stands_here || view.stands_there)) Reject (ReplyAdd false) tt tt
  on-add k (KeysSent j on) = not-gone-if (not view.path_up || (view.stands_here || view.stands_there)) Reject (ReplyAdd false) tt tt
  on-add k (LinkSent j) = not-gone-if (not view.path_up || (view.stands_here || view.stands_there)) Reject (ReplyAdd false) tt tt
  on-add k (Abandoned on) = not-gone-if (not view.path_up || (view.stands_here || view.stands_there)) Reject (ReplyAdd false) tt tt

  on-reply : (k : ℕ) (flow : LinkFlow) → IsNotGone (on_add_link_reply k view flow)
  on-reply k (AddSent j on) = not-gone-if ((k == j) && view.stands_here) SendKeys Skip tt tt
  on-reply k (Abandoned on) = tt
  on-reply k flow = tt

  on-reject : (k : ℕ) (flow : LinkFlow) → IsNotGone (on_add_link_reject k flow)
  on-reject k (AddSent j on) = not-gone-if (k == j) Over Skip tt tt
  on-reject k (Abandoned on) = tt
  on-reject k flow = tt

  on-keys : (k : ℕ) (flow : LinkFlow) → IsNotGone (on_add_keys k flow)
  on-keys k FirstContact = tt
  on-keys k (AddSeen j) = tt
  on-keys k flow = tt

  on-keys-reply : (k : ℕ) (flow : LinkFlow) → IsNotGone (on_add_keys_reply k flow)
  on-keys-reply k (KeysSent j on) = not-gone-if (k == j) AskLink Skip tt tt
  on-keys-reply k (Abandoned on) = tt
  on-keys-reply k flow = tt

  on-confirm : (flow : LinkFlow) → IsNotGone (on_confirm_link landed flow)
  on-confirm FirstContact = tt
  on-confirm (AddSeen k) = not-gone-if (landed == k) (Live true false) Skip tt tt
  on-confirm flow = tt

  on-confirm-reply : (flow : LinkFlow) → IsNotGone (on_confirm_link_reply flow)
  on-confirm-reply FirstContact = tt
  on-confirm-reply (LinkSent k) = tt
  on-confirm-reply flow = tt

  on-key-reply : (retry : Bool) (key : KeyPhase) → IsNotGone (on_confirm_rkey_reply retry whole key)
  on-key-reply retry Asked = not-gone-if (not retry && whole) Confirmed Retry tt tt
  on-key-reply retry key = tt

  on-delete-reply : (key : KeyPhase) → IsNotGone (on_delete_rkey_reply key)
  on-delete-reply Deleting = tt
  on-delete-reply key = tt

  -- no other message makes a side report
  pub not-gone : (x : Side) (m : LlcMessage) → is_delete_link m ≡ false → IsNotGone (flow_step x f m view landed whole)
  not-gone A (ConfirmLink false mac gid qp k user most) e = on-confirm f.link
  not-gone B (ConfirmLink false mac gid qp k user most) e = tt
  not-gone A (ConfirmLink true mac gid qp k user most) e = tt
  not-gone B (ConfirmLink true mac gid qp k user most) e = on-confirm-reply f.link
  not-gone A (AddLink false rejected reason mac gid qp k mtu psn) e = on-add k f.link
  not-gone B (AddLink false rejected reason mac gid qp k mtu psn) e = tt
  not-gone A (AddLink true rejected reason mac gid qp k mtu psn) e = tt
  not-gone B (AddLink true false reason mac gid qp k mtu psn) e = on-reply k f.link
  not-gone B (AddLink true true reason mac gid qp k mtu psn) e = on-reject k f.link
  not-gone A (AddKeys false k count keys) e = on-keys k f.link
  not-gone B (AddKeys false k count keys) e = tt
  not-gone A (AddKeys true k count keys) e = tt
  not-gone B (AddKeys true k count keys) e = on-keys-reply k f.link
  not-gone x (DeleteLink reply every orderly k reason) e = absurd (true≢false e)
  not-gone A (ConfirmRkey false retry negative others tokens) e = tt
  not-gone B (ConfirmRkey false retry negative others tokens) e = not-gone-if (is_adding f.link) ReplyRetry Learn tt tt
  not-gone A (ConfirmRkey true retry negative others tokens) e = on-key-reply retry f.key
  not-gone B (ConfirmRkey true retry negative others tokens) e = on-key-reply retry f.key
  not-gone A (TestLink false bytes) e = tt
  not-gone B (TestLink false bytes) e = tt
  not-gone A (TestLink true bytes) e = tt
  not-gone B (TestLink true bytes) e = tt
  not-gone A (DeleteRkey false negative count mask keys) e = tt
  not-gone B (DeleteRkey false negative count mask keys) e = tt
  not-gone A (DeleteRkey true negative count mask keys) e = on-delete-reply f.key
  not-gone B (DeleteRkey true negative count mask keys) e = on-delete-reply f.key

module _ (setup : Setup) (x : Side) (on : LinkId) (past : List Entry) where
  -- a step that is no report posts one message at most
  one-of : (m : LlcMessage) (step : FlowStep) → IsNotGone step → HasOneOf link_kind (step_posts setup x on m past step)
  one-of m (Gone report) n = absurd n
  one-of m (Live true first) n = (inr refl, tt)
  one-of m (Live false first) n = tt
  one-of m (ReplyKeys true) n = (inr refl, tt)
  one-of m (ReplyKeys false) n = (inr refl, tt)
  one-of m Skip n = tt
  one-of m SendKeys n = (inr refl, tt)
  one-of m Over n = tt
  one-of m AskLink n = (inr refl, tt)
  one-of m (ReplyAdd again) n = (inr refl, tt)
  one-of m Reject n = (inr refl, tt)
  one-of m Confirmed n = tt
  one-of m Retry n = tt
  one-of m Withdraw n = tt
  one-of m ReplyRetry n = (inr refl, tt)
  one-of m Learn n = (inr refl, tt)
  one-of m Forget n = (inr refl, tt)
  one-of m Answered n = tt
  one-of m Echo n = (inr refl, tt)

  gone-one : (reply every orderly : Bool) (k reason : ℕ) (b : Bool) → HasOneOf link_kind (step_posts setup x on (DeleteLink reply every orderly k reason) past (Gone b))
  gone-one reply every orderly k reason true = (inl refl, loss-one x k false (loses k (peer_of x past)) setup (flow_of x past) past)
  gone-one reply every orderly k reason false = (inl refl, tt)

  -- whatever a message makes a side post, one message of the link flow is in it at most
  pub step-one : (m : LlcMessage) → HasOneOf link_kind (step_posts setup x on m past (llc_step x on m past (fabric past)))
  step-one m = by m (is_delete_link m) refl
    where
      deletes : (y : Side) (f : Flow) (view : LinkView) (landed : ℕ) (whole reply every orderly : Bool) (k reason : ℕ) → HasOneOf link_kind (step_posts setup x on (DeleteLink reply every orderly k reason) past (flow_step y f (DeleteLink reply every orderly k reason) view landed whole))
      deletes A f view landed whole false every orderly k reason = gone-one false every orderly k reason (view.stands_here && not view.stands_there)
      deletes B f view landed whole false every orderly k reason = gone-one false every orderly k reason (view.stands_here && not view.stands_there)
      deletes A f view landed whole true every orderly k reason = tt
      deletes B f view landed whole true every orderly k reason = tt

      by : (m : LlcMessage) (b : Bool) → is_delete_link m ≡ b → HasOneOf link_kind (step_posts setup x on m past (llc_step x on m past (fabric past)))
      by m false e = one-of m _ (not-gone _ _ on.slot _ x m e)
      by (DeleteLink reply every orderly k reason) true e = deletes x _ _ on.slot _ reply every orderly k reason
      by (ConfirmLink reply mac gid qp k user most) true e = absurd (true≢false (sym e))
      by (AddLink reply rejected reason mac gid qp k mtu psn) true e = absurd (true≢false (sym e))
      by (AddKeys reply k count keys) true e = absurd (true≢false (sym e))
      by (ConfirmRkey reply retry negative others tokens) true e = absurd (true≢false (sym e))
      by (TestLink reply bytes) true e = absurd (true≢false (sym e))
      by (DeleteRkey reply negative count mask keys) true e = absurd (true≢false (sym e))

  -- and it posts on links that were made
  pub step-made : (u : Option Under) → AreLinked (fabric past) u → on.incarnation ≤ made_on on.slot (fabric past) → (m : LlcMessage) (step : FlowStep) → AreOnMade (fabric past) (step_posts setup x on m past step)
  step-made u all o m (Live true first) = (o, tt)
  step-made u all o m (Live false first) = tt
  step-made u all o m (ReplyKeys true) = (o, tt)
  step-made u all o m (ReplyKeys false) = (o, tt)
  step-made u all o m (Gone true) = (o, loss-made x (named_slot m on.slot) false (loses (named_slot m on.slot) (peer_of x past)) setup (fabric past) (lost-made (fabric past) u all x (lowest_live (loses (named_slot m on.slot) (peer_of x past)).table) (named_slot m on.slot)) (flow_of x past) past)
  step-made u all o m (Gone false) = (o, tt)
  step-made u all o m Skip = tt
  step-made u all o m SendKeys = (known-made (fabric past) u all x (lowest_live (table_of x past)), tt)
  step-made u all o m Over = tt
  step-made u all o m AskLink = (known-made (fabric past) u all x (named_slot m on.slot), tt)
  step-made u all o m (ReplyAdd again) = (o, tt)
  step-made u all o m Reject = (o, tt)
  step-made u all o m Confirmed = tt
  step-made u all o m Retry = tt
  step-made u all o m Withdraw = tt
  step-made u all o m ReplyRetry = (o, tt)
  step-made u all o m Learn = (o, tt)
  step-made u all o m Forget = (o, tt)
  step-made u all o m Answered = tt
  step-made u all o m Echo = (o, tt)
