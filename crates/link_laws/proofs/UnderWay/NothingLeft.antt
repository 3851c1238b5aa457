-- Where a side posts something of the link flow, nothing of it is under way on a link that is not dead.
use Rattle.std.proofs.Common.{Bool, List, None, Some, ap, eqb-true, false, if◌then◌else◌, inl, inr, not, refl, sym, true, true≢false, ℕ, ◌&&◌, ◌==◌, ◌∙◌, ◌≡◌, ◌⊎◌}
use Rattle.pipe_model.specs.Flows.{LinkSent}
use Rattle.std.specs.Prelude.{Option}
use Rattle.pipe_model.specs.Fabric.{loses}
use Rattle.pipe_model.specs.declared.flow.KeyPhase.TheVariants.{Asked}
use Rattle.pipe_model.specs.declared.flow.FlowStep.TheVariants.{Confirmed}
use Rattle.history_laws.specs.Words.{A, Abandoned, AddKeys, AddLink, AddSeen, AddSent, B, ConfirmLink, ConfirmRkey, DeleteLink, DeleteRkey, Deleting, Entry, FirstContact, Flow, Gone, KeyPhase, KeysSent, Learn, LinkFlow, LinkId, LinkPhase, LlcMessage, NoFlow, Peer, ReplyRetry, Retry, Setup, Side, TestLink, dead_at, fabric, flow_of, is_adding, is_dead, is_standing, link_at, llc_step, loss_posts, on_confirm_rkey_reply, on_delete_rkey_reply, other, passes, peer, phase_at, report_posts, resends_add, step_posts, table_of}
use Rattle.history_laws.proofs.Basics.{and-both}
use Rattle.link_laws.specs.Linked.{AreFlowing, AreLinked, Begins, Confirms, Goes, HasNone, IsOwn, IsSound, StandsAtBoth, Under, is_link_message, is_own_flow, phases, under_fits}
use Rattle.link_laws.proofs.UnderWay.WireStep.{alive-is}
use Rattle.link_laws.specs.UnderWay.{AreCarriedOf, HasFlows, kind_in, link_kind}
use Rattle.link_laws.proofs.Sound.{stands-at, true-not-false}
use Rattle.link_laws.proofs.UnderWay.StepPosts.{loss-quiet}

-- a link that is not dead stands at both sides
pub both-stand : (l : LinkId) (past : List Entry) → is_dead l past ≡ false → StandsAtBoth l (fabric past)
both-stand l past alive = let h = alive-is l past alive in record { at_a = h.1 A; at_b = h.1 B }

-- while B adds a link, what fits is on the link that carries the request
module _ (slot : ℕ) (a : LinkFlow) (pa pb : ℕ → LinkPhase) where
  carries-add : (j on : ℕ) (x : Side) (m : LlcMessage) → under_fits x slot m a (AddSent j on) pa pb ≡ true → (on == slot) ≡ true
  carries-add j on B (AddLink false rejected reason mac gid qp k mtu psn) e = let h = and-both (not (k == 0)) _ e in let g = and-both (j == k) (on == slot) h.1 in g.1
  carries-add j on A (AddLink true true reason mac gid qp k mtu psn) e = let g = and-both (j == k) (on == slot) e in g.1
  carries-add j on A (AddLink true false reason mac gid qp k mtu psn) e = let h = and-both ((j == k) && (on == slot)) _ e in let g = and-both (j == k) (on == slot) h.0 in g.1
  carries-add j on B (AddKeys false k count keys) e = absurd (true≢false (sym e))
  carries-add j on A (AddKeys true k count keys) e = absurd (true≢false (sym e))
  carries-add j on B (ConfirmLink false mac gid qp k user most) e = absurd (true≢false (sym e))
  carries-add j on A (ConfirmLink true mac gid qp k user most) e = absurd (true≢false (sym e))
  carries-add j on x m e = absurd (true≢false (sym e))

  carries-keys : (j on : ℕ) (x : Side) (m : LlcMessage) → under_fits x slot m a (KeysSent j on) pa pb ≡ true → (on == slot) ≡ true
  carries-keys j on B (AddKeys false k count keys) e = let g = and-both (j == k) (on == slot) e in g.1
  carries-keys j on A (AddKeys true k count keys) e = let g = and-both (j == k) (on == slot) e in g.1
  carries-keys j on B (AddLink false rejected reason mac gid qp k mtu psn) e = let h = and-both (not (k == 0)) false e in absurd (true≢false (sym h.1))
  carries-keys j on A (AddLink true true reason mac gid qp k mtu psn) e = absurd (true≢false (sym e))
  carries-keys j on A (AddLink true false reason mac gid qp k mtu psn) e = absurd (true≢false (sym e))
  carries-keys j on B (ConfirmLink false mac gid qp k user most) e = absurd (true≢false (sym e))
  carries-keys j on A (ConfirmLink true mac gid qp k user most) e = absurd (true≢false (sym e))
  carries-keys j on x m e = absurd (true≢false (sym e))

  -- where B posts its request again, what fits is on the lost link
  pub carries-again : (k : ℕ) (flow : LinkFlow) (x : Side) (m : LlcMessage) → resends_add k flow ≡ true → under_fits x slot m a flow pa pb ≡ true → slot ≡ k
  carries-again k (AddSent j on) x m r e = let h = and-both (not (j == k)) (on == k) r in sym (eqb-true on slot (carries-add j on x m e)) ∙ eqb-true on k h.1
  carries-again k (KeysSent j on) x m r e = let h = and-both (not (j == k)) (on == k) r in sym (eqb-true on slot (carries-keys j on x m e)) ∙ eqb-true on k h.1
  carries-again k NoFlow x m r e = absurd (true≢false (sym r))
  carries-again k FirstContact x m r e = absurd (true≢false (sym r))
  carries-again k (LinkSent j) x m r e = absurd (true≢false (sym r))
  carries-again k (Abandoned on) x m r e = absurd (true≢false (sym r))
  carries-again k (AddSeen j) x m r e = absurd (true≢false (sym r))

  -- nothing fits while B has no link flow
  pub none-fits-idle : (x : Side) (m : LlcMessage) → under_fits x slot m a NoFlow pa pb ≡ true → ⊥
  none-fits-idle B (AddLink false rejected reason mac gid qp k mtu psn) e = let h = and-both (not (k == 0)) false e in true≢false (sym h.1)
  none-fits-idle A (AddLink true true reason mac gid qp k mtu psn) e = true≢false (sym e)
  none-fits-idle A (AddLink true false reason mac gid qp k mtu psn) e = true≢false (sym e)
  none-fits-idle B (AddKeys false k count keys) e = true≢false (sym e)
  none-fits-idle A (AddKeys true k count keys) e = true≢false (sym e)
  none-fits-idle B (ConfirmLink false mac gid qp k user most) e = true≢false (sym e)
  none-fits-idle A (ConfirmLink true mac gid qp k user most) e = true≢false (sym e)
  none-fits-idle x m e = true≢false (sym e)

-- A never posts a request of the link flow again
pub never-a : (k : ℕ) (p : Peer) → IsOwn A p → resends_add k p.flow.link ≡ false
never-a k p own = by own.sound
  where
    flow : (l : LinkFlow) → is_own_flow A l ≡ true → resends_add k l ≡ false
    flow NoFlow e = refl
    flow FirstContact e = refl
    flow (AddSeen j) e = refl
    flow (AddSent j on) e = absurd (true≢false (sym e))
    flow (KeysSent j on) e = absurd (true≢false (sym e))
    flow (LinkSent j) e = refl
    flow (Abandoned on) e = refl

    by : IsSound A p → resends_add k p.flow.link ≡ false
    by (HasNone g f s) = ap (λ (f : Flow). resends_add k f.link) f
    by (Begins g f t) = ap (λ (f : Flow). resends_add k f.link) f
    by (Confirms link g f t) = ap (λ (f : Flow). resends_add k f.link) f
    by (Goes j g live f) = let s : AreFlowing A (phases p) p.flow = f in flow p.flow.link s.own

-- a side posts its request of the link flow again, as it reports the link of a slot on which none stands at the peer
pub record IsAgain (x : Side) (past : List Entry) : Type 0 where
  pub k : ℕ
  pub again : resends_add k (flow_of x past).link ≡ true
  pub there : is_standing (phase_at k (table_of (other x) past)) ≡ false

module _ (past : List Entry) (all : HasFlows past) where
  linked : AreLinked (fabric past) all.under
  linked = all.linked

  carried : AreCarriedOf link_kind past all.under
  carried = all.carried

  -- what is under way fits
  pub under-fits : (w : Under) → all.under ≡ Some w → under_fits w.from w.link.slot w.message (peer A (fabric past)).flow.link (peer B (fabric past)).flow.link (phases (peer A (fabric past))) (phases (peer B (fabric past))) ≡ true
  under-fits w e = linked.fits w e (both-stand w.link past (carried.alive w e))

  -- where a side would post its request of the link flow again as it loses the link of a slot, on which there is none that is not dead,
  -- nothing is under way
  pub again-none : (x : Side) (k : ℕ) → resends_add k (flow_of x past).link ≡ true → ((l : LinkId) → is_dead l past ≡ false → l.slot ≡ k → ⊥) → all.under ≡ None
  again-none A k e gone = absurd (true-not-false (resends_add k (flow_of A past).link) e (never-a k (peer A (fabric past)) (linked.own A)))
  again-none B k e gone = none all.under refl
    where
      none : (u : Option Under) → all.under ≡ u → u ≡ None
      none None is = refl
      none (Some w) is = absurd (gone w.link (carried.alive w is) (carries-again w.link.slot (peer A (fabric past)).flow.link (phases (peer A (fabric past))) (phases (peer B (fabric past))) k (peer B (fabric past)).flow.link w.from w.message e (under-fits w is)))

  -- a side posts as it loses the link of a slot
  pub loss-free : (setup : Setup) (x : Side) (k : ℕ) (own : Bool) → ((l : LinkId) → is_dead l past ≡ false → l.slot ≡ k → ⊥) → (kind_in link_kind (loss_posts setup x k own (loses k (peer x (fabric past))) (flow_of x past) past) ≡ None) ⊎ (all.under ≡ None)
  loss-free setup x k own gone = by (resends_add k (flow_of x past).link) refl
    where
      by : (b : Bool) → resends_add k (flow_of x past).link ≡ b → (kind_in link_kind (loss_posts setup x k own (loses k (peer x (fabric past))) (flow_of x past) past) ≡ None) ⊎ (all.under ≡ None)
      by false e = inl (loss-quiet x k own (loses k (peer x (fabric past))) setup (flow_of x past) past e)
      by true e = inr (again-none x k e gone)

  -- while B has no link flow nothing is under way
  pub idle-none : (flow_of B past).link ≡ NoFlow → all.under ≡ None
  idle-none e = none all.under refl
    where
      none : (u : Option Under) → all.under ≡ u → u ≡ None
      none None is = refl
      none (Some w) is = absurd (none-fits-idle w.link.slot (peer A (fabric past)).flow.link (phases (peer A (fabric past))) (phases (peer B (fabric past))) w.from w.message
          (ap (λ flow. under_fits w.from w.link.slot w.message (peer A (fabric past)).flow.link flow (phases (peer A (fabric past))) (phases (peer B (fabric past)))) (sym e) ∙ under-fits w is))

  -- a link of a slot on which none stands at a side is dead
  pub gone-there : (x : Side) (k : ℕ) → is_standing (phase_at k (table_of x past)) ≡ false → (l : LinkId) → is_dead l past ≡ false → l.slot ≡ k → ⊥
  gone-there x k none l alive e =
      let h = alive-is l past alive in
      let own : IsOwn x (peer x (fabric past)) = linked.own x in
      let at = stands-at 1 l (table_of x past) own.rises (h.1 x) in
      true-not-false (is_standing (phase_at l.slot (table_of x past))) at.2 (ap (λ j. is_standing (phase_at j (table_of x past))) e ∙ none)

  -- so is the link of a slot that may be reported
  pub gone-here : (x : Side) (k : ℕ) → dead_at k (table_of x past) past ≡ true → (l : LinkId) → is_dead l past ≡ false → l.slot ≡ k → ⊥
  gone-here x k dead l alive e =
      let h = alive-is l past alive in
      let own : IsOwn x (peer x (fabric past)) = linked.own x in
      let at = stands-at 1 l (table_of x past) own.rises (h.1 x) in
      true-not-false (is_dead l past) (sym (ap (λ o. passes (λ link. is_dead link past) o) (ap (λ j. link_at j (table_of x past)) (sym e) ∙ at.1)) ∙ dead) alive

  again-of : (setup : Setup) (x : Side) (k : ℕ) → is_standing (phase_at k (table_of (other x) past)) ≡ false → (kind_in link_kind (report_posts setup x k false past) ≡ None) ⊎ IsAgain x past
  again-of setup x k there = by (resends_add k (flow_of x past).link) refl
    where
      by : (b : Bool) → resends_add k (flow_of x past).link ≡ b → (kind_in link_kind (report_posts setup x k false past) ≡ None) ⊎ IsAgain x past
      by false e = inl (loss-quiet x k false (loses k (peer x (fabric past))) setup (flow_of x past) past e)
      by true e = inr (record { k = k; again = e; there = there })

  -- a message that is not of the link flow makes a side post something of it only where it posts its request again
  pub step-again : (setup : Setup) (x : Side) (on : LinkId) (m : LlcMessage) → is_link_message m ≡ false → (kind_in link_kind (step_posts setup x on m past (llc_step x on m past (fabric past))) ≡ None) ⊎ IsAgain x past
  step-again setup x on (ConfirmLink reply mac gid qp k user most) e = absurd (true≢false e)
  step-again setup x on (AddLink reply rejected reason mac gid qp k mtu psn) e = absurd (true≢false e)
  step-again setup x on (AddKeys reply k count keys) e = absurd (true≢false e)
  step-again setup A on (DeleteLink false every orderly k reason) e = by (is_standing (phase_at k (table_of A past)) && not (is_standing (phase_at k (table_of B past)))) refl
    where
      by : (b : Bool) → (is_standing (phase_at k (table_of A past)) && not (is_standing (phase_at k (table_of B past)))) ≡ b → (kind_in link_kind (step_posts setup A on (DeleteLink false every orderly k reason) past (Gone b)) ≡ None) ⊎ IsAgain A past
      by false e = inl refl
      by true e = again-of setup A k (not-standing (is_standing (phase_at k (table_of A past))) (is_standing (phase_at k (table_of B past))) e)
        where
          not-standing : (a b : Bool) → (a && not b) ≡ true → b ≡ false
          not-standing a false e = refl
          not-standing true true e = absurd (true≢false (sym e))
          not-standing false true e = absurd (true≢false (sym e))
  step-again setup B on (DeleteLink false every orderly k reason) e = by (is_standing (phase_at k (table_of B past)) && not (is_standing (phase_at k (table_of A past)))) refl
    where
      by : (b : Bool) → (is_standing (phase_at k (table_of B past)) && not (is_standing (phase_at k (table_of A past)))) ≡ b → (kind_in link_kind (step_posts setup B on (DeleteLink false every orderly k reason) past (Gone b)) ≡ None) ⊎ IsAgain B past
      by false e = inl refl
      by true e = again-of setup B k (not-standing (is_standing (phase_at k (table_of B past))) (is_standing (phase_at k (table_of A past))) e)
        where
          not-standing : (a b : Bool) → (a && not b) ≡ true → b ≡ false
          not-standing a false e = refl
          not-standing true true e = absurd (true≢false (sym e))
          not-standing false true e = absurd (true≢false (sym e))
  step-again setup A on (DeleteLink true every orderly k reason) e = inl refl
  step-again setup B on (DeleteLink true every orderly k reason) e = inl refl
  step-again setup A on (ConfirmRkey false retry negative others tokens) e = inl refl
  step-again setup B on (ConfirmRkey false retry negative others tokens) e = inl (by (is_adding (flow_of B past).link))
    where
      by : (b : Bool) → kind_in link_kind (step_posts setup B on (ConfirmRkey false retry negative others tokens) past (if b then ReplyRetry else Learn)) ≡ None
      by true = refl
      by false = refl
  step-again setup x on (ConfirmRkey true retry negative others tokens) e = inl (at x)
    where
      by : (x : Side) (whole : Bool) (phase : KeyPhase) → kind_in link_kind (step_posts setup x on (ConfirmRkey true retry negative others tokens) past (on_confirm_rkey_reply retry whole phase)) ≡ None
      by x whole Asked = flip (not retry && whole)
        where
          flip : (b : Bool) → kind_in link_kind (step_posts setup x on (ConfirmRkey true retry negative others tokens) past (if b then Confirmed else Retry)) ≡ None
          flip true = refl
          flip false = refl
      by x whole phase = refl

      at : (x : Side) → kind_in link_kind (step_posts setup x on (ConfirmRkey true retry negative others tokens) past (llc_step x on (ConfirmRkey true retry negative others tokens) past (fabric past))) ≡ None
      at A = by A _ (flow_of A past).key
      at B = by B _ (flow_of B past).key
  step-again setup A on (TestLink false bytes) e = inl refl
  step-again setup B on (TestLink false bytes) e = inl refl
  step-again setup A on (TestLink true bytes) e = inl refl
  step-again setup B on (TestLink true bytes) e = inl refl
  step-again setup A on (DeleteRkey false negative count mask keys) e = inl refl
  step-again setup B on (DeleteRkey false negative count mask keys) e = inl refl
  step-again setup x on (DeleteRkey true negative count mask keys) e = inl (at x)
    where
      by : (x : Side) (phase : KeyPhase) → kind_in link_kind (step_posts setup x on (DeleteRkey true negative count mask keys) past (on_delete_rkey_reply phase)) ≡ None
      by x Deleting = refl
      by x phase = refl

      at : (x : Side) → kind_in link_kind (step_posts setup x on (DeleteRkey true negative count mask keys) past (llc_step x on (DeleteRkey true negative count mask keys) past (fabric past))) ≡ None
      at A = by A (flow_of A past).key
      at B = by B (flow_of B past).key

  -- and then nothing is under way
  pub step-free : (setup : Setup) (x : Side) (on : LinkId) (m : LlcMessage) → is_link_message m ≡ false → (kind_in link_kind (step_posts setup x on m past (llc_step x on m past (fabric past))) ≡ None) ⊎ (all.under ≡ None)
  step-free setup x on m e = elim (step-again setup x on m e) [ inl h ↦ inl h | inr a ↦ inr (again-none x a.k a.again (gone-there (other x) a.k a.there)) ]
