-- Which messages of a side's key flow a step of the flows and a loss post, and what they do to the flow.
use Rattle.std.proofs.Common.{Bool, List, None, Some, [], ap, eqb-true, false, if◌then◌else◌, inl, inr, not, refl, sym, true, true≢false, ℕ, ◌&&◌, ◌++◌, ◌==◌, ◌||◌, ◌∙◌, ◌∷◌, ◌≡◌}
use Rattle.pipe_model.specs.Fabric.{does}
use Rattle.pipe_model.specs.declared.flow.FlowStep.TheVariants.{Answered, Confirmed, Live}
use Rattle.pipe_model.specs.Flows.{LinkSent}
use Rattle.std.specs.Prelude.{Option}
use Rattle.std.specs.Option.{option_or}
use Rattle.history_laws.specs.Words.{A, Abandoned, AddKeys, AddLink, AddSeen, AddSent, AskLink, B, ConfirmLink, ConfirmRkey, DeleteLink, DeleteRkey, Deleting, Echo, Entry, Fabric, FirstContact, Flow, FlowStep, Forget, Gone, Key, KeyPhase, Keys, KeysSent, Learn, LinkFlow, LinkId, LinkView, Llc, LlcMessage, NoFlow, Over, Peer, Post, Reject, ReplyAdd, ReplyKeys, ReplyRetry, Retry, SendKeys, Setup, Side, Skip, TestLink, Withdraw, add_again, delete_link, deleting_rmbs, drop_posts, flow_slot, flow_step, is_asked, is_deleting, is_dropping, key_again, keys_of, link_or_none, loss_posts, lowest_live, on_add_keys, on_add_keys_reply, on_add_link, on_add_link_reject, on_add_link_reply, on_confirm_link, on_confirm_link_reply, on_new_link, other, pair_on, peer, resends_add, resends_key, step_posts}
use Rattle.history_laws.proofs.Basics.{and-both}
use Rattle.link_laws.specs.KeyFlows.{key_fits, key_kind}
use Rattle.link_laws.specs.Linked.{Under, is_link_message}
use Rattle.link_laws.specs.UnderWay.{HasOneOf, kind_in, kind_of}
use Rattle.link_laws.proofs.UnderWay.{IsNotGone, kind-append, one-alone, one-append}

-- what a message says of a flow depends on its key phase and its carrier
pub key-like : (slot : ℕ) (m : LlcMessage) (f g : Flow) → f.key ≡ g.key → f.on ≡ g.on → key_fits slot m f ≡ key_fits slot m g
key-like slot (ConfirmRkey reply retry negative others tokens) f g p q = ap (λ k. is_asked k && (f.on == slot)) p ∙ ap (λ n. is_asked g.key && (n == slot)) q
key-like slot (DeleteRkey reply negative count mask keys) f g p q = ap (λ k. is_deleting k && (f.on == slot)) p ∙ ap (λ n. is_deleting g.key && (n == slot)) q
key-like slot m f g p q = refl

-- what fits is on the carrier
pub fits-carrier : (slot : ℕ) (m : LlcMessage) (f : Flow) → key_fits slot m f ≡ true → f.on ≡ slot
fits-carrier slot (ConfirmRkey reply retry negative others tokens) f e = let h = and-both (is_asked f.key) (f.on == slot) e in eqb-true f.on slot h.1
fits-carrier slot (DeleteRkey reply negative count mask keys) f e = let h = and-both (is_deleting f.key) (f.on == slot) e in eqb-true f.on slot h.1
fits-carrier slot m f e = absurd (true≢false (sym e))

-- nothing fits while no key request is out
pub fits-open : (slot : ℕ) (m : LlcMessage) (f : Flow) → is_asked f.key ≡ false → is_deleting f.key ≡ false → key_fits slot m f ≡ true → ⊥
fits-open slot (ConfirmRkey reply retry negative others tokens) f p q e = let h = and-both (is_asked f.key) (f.on == slot) e in true≢false (sym h.0 ∙ p)
fits-open slot (DeleteRkey reply negative count mask keys) f p q e = let h = and-both (is_deleting f.key) (f.on == slot) e in true≢false (sym h.0 ∙ q)
fits-open slot m f p q e = true≢false (sym e)

-- a step of one side leaves the other's flows
pub flow-other : (z : Side) (l : LinkId) (m : LlcMessage) (step : FlowStep) (f : Fabric) → (peer (other z) (does z l m step f)).flow ≡ (peer (other z) f).flow
flow-other A l m (Live reply first) f = refl
flow-other B l m (Live reply first) f = refl
flow-other A l m (ReplyAdd false) f = refl
flow-other B l m (ReplyAdd false) f = refl
flow-other A l m (Gone true) f = refl
flow-other B l m (Gone true) f = refl
flow-other A l m step f = refl
flow-other B l m step f = refl

-- the steps for messages of the link flow
abbrev pub IsLinkStep : FlowStep → Type 0
IsLinkStep Skip = Unit {0}
IsLinkStep (Live reply first) = Unit {0}
IsLinkStep SendKeys = Unit {0}
IsLinkStep Over = Unit {0}
IsLinkStep AskLink = Unit {0}
IsLinkStep (ReplyKeys known) = Unit {0}
IsLinkStep (ReplyAdd again) = Unit {0}
IsLinkStep Reject = Unit {0}
IsLinkStep step = ⊥

link-if : (b : Bool) (s t : FlowStep) → IsLinkStep s → IsLinkStep t → IsLinkStep (if b then s else t)
link-if true s t p q = p
link-if false s t p q = q

module _ (f : Flow) (view : LinkView) (landed : ℕ) (whole : Bool) where
  new-link : IsLinkStep (on_new_link view)
  new-link = link-if (not view.path_up || (view.stands_here || view.stands_there)) Reject (ReplyAdd false) tt tt

  on-add : (k : ℕ) (flow : LinkFlow) → IsLinkStep (on_add_link k view flow)
  on-add k FirstContact = tt
  on-add k (AddSeen j) = link-if ((k == j) && (view.stands_here && view.stands_there)) (ReplyAdd true) (on_new_link view) tt new-link
  on-add k NoFlow = new-link
  on-add k (AddSent j on) = new-link
  on-add k (KeysSent j on) = new-link
  on-add k (LinkSent j) = new-link
  on-add k (Abandoned on) = new-link

  on-reply : (k : ℕ) (flow : LinkFlow) → IsLinkStep (on_add_link_reply k view flow)
  on-reply k (AddSent j on) = link-if ((k == j) && view.stands_here) SendKeys Skip tt tt
  on-reply k (Abandoned on) = tt
  on-reply k flow = tt

  on-reject : (k : ℕ) (flow : LinkFlow) → IsLinkStep (on_add_link_reject k flow)
  on-reject k (AddSent j on) = link-if (k == j) Over Skip tt tt
  on-reject k (Abandoned on) = tt
  on-reject k flow = tt

  on-keys : (k : ℕ) (flow : LinkFlow) → IsLinkStep (on_add_keys k flow)
  on-keys k FirstContact = tt
  on-keys k (AddSeen j) = tt
  on-keys k flow = tt

  on-keys-reply : (k : ℕ) (flow : LinkFlow) → IsLinkStep (on_add_keys_reply k flow)
  on-keys-reply k (KeysSent j on) = link-if (k == j) AskLink Skip tt tt
  on-keys-reply k (Abandoned on) = tt
  on-keys-reply k flow = tt

  on-confirm : (flow : LinkFlow) → IsLinkStep (on_confirm_link landed flow)
  on-confirm FirstContact = tt
  on-confirm (AddSeen k) = link-if (landed == k) (Live true false) Skip tt tt
  on-confirm flow = tt

  on-confirm-reply : (flow : LinkFlow) → IsLinkStep (on_confirm_link_reply flow)
  on-confirm-reply FirstContact = tt
  on-confirm-reply (LinkSent k) = tt
  on-confirm-reply flow = tt

  -- a message of the link flow makes only such steps
  pub link-step : (x : Side) (m : LlcMessage) → is_link_message m ≡ true → IsLinkStep (flow_step x f m view landed whole)
  link-step A (ConfirmLink false mac gid qp k user most) e = on-confirm f.link
  link-step B (ConfirmLink false mac gid qp k user most) e = tt
  link-step A (ConfirmLink true mac gid qp k user most) e = tt
  link-step B (ConfirmLink true mac gid qp k user most) e = on-confirm-reply f.link
  link-step A (AddLink false rejected reason mac gid qp k mtu psn) e = on-add k f.link
  link-step B (AddLink false rejected reason mac gid qp k mtu psn) e = tt
  link-step A (AddLink true rejected reason mac gid qp k mtu psn) e = tt
  link-step B (AddLink true false reason mac gid qp k mtu psn) e = on-reply k f.link
  link-step B (AddLink true true reason mac gid qp k mtu psn) e = on-reject k f.link
  link-step A (AddKeys false k count keys) e = on-keys k f.link
  link-step B (AddKeys false k count keys) e = tt
  link-step A (AddKeys true k count keys) e = tt
  link-step B (AddKeys true k count keys) e = on-keys-reply k f.link
  link-step x (DeleteLink reply every orderly k reason) e = absurd (true≢false (sym e))
  link-step x (ConfirmRkey reply retry negative others tokens) e = absurd (true≢false (sym e))
  link-step x (TestLink reply bytes) e = absurd (true≢false (sym e))
  link-step x (DeleteRkey reply negative count mask keys) e = absurd (true≢false (sym e))

-- such a step leaves the key flow of its side
pub link-step-key : (z : Side) (l : LinkId) (m : LlcMessage) (step : FlowStep) (f : Fabric) → IsLinkStep step → (Flow.key (Peer.flow (peer z (does z l m step f))) ≡ Flow.key (Peer.flow (peer z f))) × (Flow.on (Peer.flow (peer z (does z l m step f))) ≡ Flow.on (Peer.flow (peer z f)))
link-step-key A l m Skip f s = (refl, refl)
link-step-key B l m Skip f s = (refl, refl)
link-step-key A l m (Live reply first) f s = (refl, refl)
link-step-key B l m (Live reply first) f s = (refl, refl)
link-step-key A l m SendKeys f s = (refl, refl)
link-step-key B l m SendKeys f s = (refl, refl)
link-step-key A l m Over f s = (refl, refl)
link-step-key B l m Over f s = (refl, refl)
link-step-key A l m AskLink f s = (refl, refl)
link-step-key B l m AskLink f s = (refl, refl)
link-step-key A l m (ReplyKeys known) f s = (refl, refl)
link-step-key B l m (ReplyKeys known) f s = (refl, refl)
link-step-key A l m (ReplyAdd false) f s = (refl, refl)
link-step-key B l m (ReplyAdd false) f s = (refl, refl)
link-step-key A l m (ReplyAdd true) f s = (refl, refl)
link-step-key B l m (ReplyAdd true) f s = (refl, refl)
link-step-key A l m Reject f s = (refl, refl)
link-step-key B l m Reject f s = (refl, refl)
link-step-key z l m step f s = absurd s

module _ (setup : Setup) (z : Side) (on : LinkId) (past : List Entry) (x : Side) where
  -- and posts nothing of a key flow
  pub link-step-none : (m : LlcMessage) (step : FlowStep) → IsLinkStep step → kind_in (key_kind x) (step_posts setup z on m past step) ≡ None
  link-step-none m Skip s = refl
  link-step-none m (Live true first) s = refl
  link-step-none m (Live false first) s = refl
  link-step-none m SendKeys s = refl
  link-step-none m Over s = refl
  link-step-none m AskLink s = refl
  link-step-none m (ReplyKeys true) s = refl
  link-step-none m (ReplyKeys false) s = refl
  link-step-none m (ReplyAdd again) s = refl
  link-step-none m Reject s = refl
  link-step-none m step s = absurd s

-- a step that is no report posts one message at most
pub any-one : (kind : Under → Bool) (setup : Setup) (x : Side) (on : LinkId) (past : List Entry) (m : LlcMessage) (step : FlowStep) → IsNotGone step → HasOneOf kind (step_posts setup x on m past step)
any-one kind setup x on past m (Gone report) n = absurd n
any-one kind setup x on past m (Live true first) n = (inr refl, tt)
any-one kind setup x on past m (Live false first) n = tt
any-one kind setup x on past m (ReplyKeys true) n = (inr refl, tt)
any-one kind setup x on past m (ReplyKeys false) n = (inr refl, tt)
any-one kind setup x on past m Skip n = tt
any-one kind setup x on past m SendKeys n = (inr refl, tt)
any-one kind setup x on past m Over n = tt
any-one kind setup x on past m AskLink n = (inr refl, tt)
any-one kind setup x on past m (ReplyAdd again) n = (inr refl, tt)
any-one kind setup x on past m Reject n = (inr refl, tt)
any-one kind setup x on past m Confirmed n = tt
any-one kind setup x on past m Retry n = tt
any-one kind setup x on past m Withdraw n = tt
any-one kind setup x on past m ReplyRetry n = (inr refl, tt)
any-one kind setup x on past m Learn n = (inr refl, tt)
any-one kind setup x on past m Forget n = (inr refl, tt)
any-one kind setup x on past m Answered n = tt
any-one kind setup x on past m Echo n = (inr refl, tt)

-- what a loss posts of a key flow
module _ (x z : Side) (k : ℕ) (own : Bool) (p : Peer) where
  drop-none : kind_in (key_kind x) (drop_posts z k own p) ≡ None
  drop-none = by (own && not (is_dropping k p.flow))
    where
      by : (b : Bool) → kind_in (key_kind x) (if b then Llc z (link_or_none (lowest_live p.table) p.table) (delete_link k) ∷ [] else []) ≡ None
      by true = refl
      by false = refl

  drop-one : HasOneOf (key_kind x) (drop_posts z k own p)
  drop-one = by (own && not (is_dropping k p.flow))
    where
      by : (b : Bool) → HasOneOf (key_kind x) (if b then Llc z (link_or_none (lowest_live p.table) p.table) (delete_link k) ∷ [] else [])
      by true = (inl refl, tt)
      by false = tt

  add-none : (ks : Keys) (qp : ℕ) (flow : LinkFlow) (b : Bool) → kind_in (key_kind x) (if b then add_again z p ks qp flow else []) ≡ None
  add-none ks qp (AddSent j on) true = refl
  add-none ks qp (KeysSent j on) true = refl
  add-none ks qp flow true = refl
  add-none ks qp flow false = refl

  add-one : (ks : Keys) (qp : ℕ) (flow : LinkFlow) (b : Bool) → HasOneOf (key_kind x) (if b then add_again z p ks qp flow else [])
  add-one ks qp (AddSent j on) true = (inr refl, tt)
  add-one ks qp (KeysSent j on) true = (inr refl, tt)
  add-one ks qp flow true = tt
  add-one ks qp flow false = tt

  key-one : (keys : List Key) (rmbs : List ℕ) (phase : KeyPhase) (b : Bool) → HasOneOf (key_kind x) (if b then key_again z p keys rmbs phase ∷ [] else [])
  key-one keys rmbs phase true = one-alone (key_kind x) (key_again z p keys rmbs phase)
  key-one keys rmbs phase false = tt

  -- the key request posted again
  abbrev pub key_part : (setup : Setup) → Flow → List Entry → List Post
  key_part setup before past = if resends_key k before then key_again z p (keys_of z past).keys (deleting_rmbs setup z past) before.key ∷ [] else []

  -- a loss posts one message of a key flow at most
  pub keys-loss-one : (setup : Setup) (before : Flow) (past : List Entry) → HasOneOf (key_kind x) (loss_posts setup z k own p before past)
  keys-loss-one setup before past = by (p.group == 0)
    where
      by : (b : Bool) → HasOneOf (key_kind x) (if b then [] else (drop_posts z k own p ++ key_part setup before past) ++ (if resends_add k before.link then add_again z p (keys_of z past) (pair_on z (flow_slot before.link) past) before.link else []))
      by true = tt
      by false = one-append (key_kind x) (drop_posts z k own p ++ key_part setup before past) _
          (one-append (key_kind x) (drop_posts z k own p) _ drop-one (key-one (keys_of z past).keys (deleting_rmbs setup z past) before.key (resends_key k before)) (inl drop-none))
          (add-one (keys_of z past) (pair_on z (flow_slot before.link) past) before.link (resends_add k before.link))
          (inr (add-none (keys_of z past) (pair_on z (flow_slot before.link) past) before.link (resends_add k before.link)))

  -- and that is the request posted again
  pub keys-loss : (setup : Setup) (before : Flow) (past : List Entry) → kind_in (key_kind x) (loss_posts setup z k own p before past) ≡ (if p.group == 0 then None else kind_in (key_kind x) (key_part setup before past))
  keys-loss setup before past = by (p.group == 0)
    where
      last : (o : Option Under) → option_or o None ≡ o
      last None = refl
      last (Some w) = refl

      by : (b : Bool) → kind_in (key_kind x) (if b then [] else (drop_posts z k own p ++ key_part setup before past) ++ (if resends_add k before.link then add_again z p (keys_of z past) (pair_on z (flow_slot before.link) past) before.link else [])) ≡ (if b then None else kind_in (key_kind x) (key_part setup before past))
      by true = refl
      by false =
          kind-append (key_kind x) (drop_posts z k own p ++ key_part setup before past) _
          ∙ (ap (λ o. option_or (kind_in (key_kind x) (drop_posts z k own p ++ key_part setup before past)) o) (add-none (keys_of z past) (pair_on z (flow_slot before.link) past) before.link (resends_add k before.link))
          ∙ (last (kind_in (key_kind x) (drop_posts z k own p ++ key_part setup before past))
          ∙ (kind-append (key_kind x) (drop_posts z k own p) (key_part setup before past) ∙ ap (λ o. option_or o (kind_in (key_kind x) (key_part setup before past))) drop-none)))

-- the request that a side posts again is of its own key flow
pub again-is : (x : Side) (p : Peer) (keys : List Key) (rmbs : List ℕ) (phase : KeyPhase) → kind_of (key_kind (other x)) (key_again x p keys rmbs phase) ≡ None
again-is A p keys rmbs Deleting = refl
again-is B p keys rmbs Deleting = refl
again-is A p keys rmbs phase = refl
again-is B p keys rmbs phase = refl
