-- Two sides in one group stay together as one of them loses a link, and what was under way on another link still fits.
use Rattle.std.proofs.Common.{Bool, ap, eq-eqb, eqb-true, false, if◌then◌else◌, not, refl, sym, true, true≢false, ℕ, ◌&&◌, ◌==◌, ◌||◌, ◌∙◌, ◌≡◌}
use Rattle.smc_num.specs.declared.LinkPhase.TheVariants.{Live as LiveLink}
use Rattle.pipe_model.specs.Flows.{LinkSent}
use Rattle.history_laws.specs.Words.{A, Abandoned, AddKeys, AddLink, AddSeen, AddSent, B, ConfirmLink, Dead, FirstContact, KeysSent, LinkFlow, LinkPhase, LlcMessage, NoFlow, Peer, Pending, Side, Unused, goes_on, is_first_contact, is_live, is_pending, is_standing, lost_link, lowest_live, phase_at, set_phase, without_slot}
use Rattle.history_laws.proofs.Basics.{and-both, and-true, or-true}
use Rattle.link_laws.specs.Linked.{AreTogether, flows_fit, is_accepted, is_adding_on, is_confirming, is_seen, is_telling_on, phases, slot_fits, under_fits}
use Rattle.link_laws.proofs.Sound.OneSide.{true-not-false}
use Rattle.link_laws.proofs.Sound.Slots.{set-beside, set-dead, set-link}

-- what no side's phase of a slot that does not stand can hurt
gone-a : (flow : LinkFlow) (k : ℕ) (a b : LinkPhase) → is_standing a ≡ false → slot_fits flow k a b ≡ true
gone-a flow k Unused b e = refl
gone-a flow k Dead b e = refl
gone-a flow k Pending b e = absurd (true≢false e)
gone-a flow k LiveLink b e = absurd (true≢false e)

pub gone-b : (flow : LinkFlow) (k : ℕ) (a b : LinkPhase) → is_standing b ≡ false → slot_fits flow k a b ≡ true
gone-b flow k Unused b e = refl
gone-b flow k Dead b e = refl
gone-b flow k Pending Unused e = refl
gone-b flow k Pending Dead e = refl
gone-b flow k LiveLink Unused e = refl
gone-b flow k LiveLink Dead e = refl
gone-b flow k Pending Pending e = refl
gone-b flow k Pending LiveLink e = absurd (true≢false e)
gone-b flow k LiveLink Pending e = absurd (true≢false e)
gone-b flow k LiveLink LiveLink e = refl

-- the phases of a slot fit by what is being confirmed alone
pub by-confirming : (f g : LinkFlow) (k : ℕ) (a b : LinkPhase) → is_confirming k f ≡ is_confirming k g → slot_fits f k a b ≡ slot_fits g k a b
by-confirming f g k LiveLink Pending e = e
by-confirming f g k Pending LiveLink e = refl
by-confirming f g k Unused b e = refl
by-confirming f g k Dead b e = refl
by-confirming f g k Pending Unused e = refl
by-confirming f g k Pending Pending e = refl
by-confirming f g k Pending Dead e = refl
by-confirming f g k LiveLink Unused e = refl
by-confirming f g k LiveLink LiveLink e = refl
by-confirming f g k LiveLink Dead e = refl

module _ (k carrier : ℕ) where
  pub first-lost : (flow : LinkFlow) → is_first_contact (lost_link k carrier flow) ≡ is_first_contact flow
  first-lost NoFlow = refl
  first-lost FirstContact = refl
  first-lost (AddSent j on) = by (j == k) (on == k)
    where
      by : (b c : Bool) → is_first_contact (if b then Abandoned on else if c then AddSent j carrier else AddSent j on) ≡ false
      by true c = refl
      by false true = refl
      by false false = refl
  first-lost (KeysSent j on) = by (j == k) (on == k)
    where
      by : (b c : Bool) → is_first_contact (if b then Abandoned on else if c then KeysSent j carrier else KeysSent j on) ≡ false
      by true c = refl
      by false true = refl
      by false false = refl
  first-lost (LinkSent j) = by (j == k)
    where
      by : (b : Bool) → is_first_contact (if b then NoFlow else LinkSent j) ≡ false
      by true = refl
      by false = refl
  first-lost (Abandoned on) = by (on == k)
    where
      by : (b : Bool) → is_first_contact (if b then NoFlow else Abandoned on) ≡ false
      by true = refl
      by false = refl
  first-lost (AddSeen j) = by (j == k)
    where
      by : (b : Bool) → is_first_contact (if b then NoFlow else AddSeen j) ≡ false
      by true = refl
      by false = refl

  -- two other slots
  apart : (i j : ℕ) → (j == k) ≡ false → (i == k) ≡ true → false ≡ (i == j)
  apart i j ne e = by (i == j) refl
    where
      by : (b : Bool) → (i == j) ≡ b → false ≡ b
      by true f = absurd (true-not-false (j == k) (eq-eqb j k (sym (eqb-true i j f) ∙ eqb-true i k e)) ne)
      by false f = refl

  seen-lost : (j : ℕ) → (j == k) ≡ false → (flow : LinkFlow) → is_seen j (lost_link k carrier flow) ≡ is_seen j flow
  seen-lost j ne NoFlow = refl
  seen-lost j ne FirstContact = refl
  seen-lost j ne (AddSent i on) = by (i == k) (on == k)
    where
      by : (b c : Bool) → is_seen j (if b then Abandoned on else if c then AddSent i carrier else AddSent i on) ≡ false
      by true c = refl
      by false true = refl
      by false false = refl
  seen-lost j ne (KeysSent i on) = by (i == k) (on == k)
    where
      by : (b c : Bool) → is_seen j (if b then Abandoned on else if c then KeysSent i carrier else KeysSent i on) ≡ false
      by true c = refl
      by false true = refl
      by false false = refl
  seen-lost j ne (LinkSent i) = by (i == k)
    where
      by : (b : Bool) → is_seen j (if b then NoFlow else LinkSent i) ≡ false
      by true = refl
      by false = refl
  seen-lost j ne (Abandoned on) = by (on == k)
    where
      by : (b : Bool) → is_seen j (if b then NoFlow else Abandoned on) ≡ false
      by true = refl
      by false = refl
  seen-lost j ne (AddSeen i) = by (i == k) refl
    where
      by : (b : Bool) → (i == k) ≡ b → is_seen j (if b then NoFlow else AddSeen i) ≡ (i == j)
      by true e = apart i j ne e
      by false e = refl

  confirming-lost : (j : ℕ) → (j == k) ≡ false → (flow : LinkFlow) → is_confirming j (lost_link k carrier flow) ≡ is_confirming j flow
  confirming-lost j ne NoFlow = refl
  confirming-lost j ne FirstContact = refl
  confirming-lost j ne (AddSent i on) = by (i == k) (on == k)
    where
      by : (b c : Bool) → is_confirming j (if b then Abandoned on else if c then AddSent i carrier else AddSent i on) ≡ false
      by true c = refl
      by false true = refl
      by false false = refl
  confirming-lost j ne (KeysSent i on) = by (i == k) (on == k)
    where
      by : (b c : Bool) → is_confirming j (if b then Abandoned on else if c then KeysSent i carrier else KeysSent i on) ≡ false
      by true c = refl
      by false true = refl
      by false false = refl
  confirming-lost j ne (LinkSent i) = by (i == k) refl
    where
      by : (b : Bool) → (i == k) ≡ b → is_confirming j (if b then NoFlow else LinkSent i) ≡ (i == j)
      by true e = apart i j ne e
      by false e = refl
  confirming-lost j ne (Abandoned on) = by (on == k)
    where
      by : (b : Bool) → is_confirming j (if b then NoFlow else Abandoned on) ≡ false
      by true = refl
      by false = refl
  confirming-lost j ne (AddSeen i) = by (i == k)
    where
      by : (b : Bool) → is_confirming j (if b then NoFlow else AddSeen i) ≡ false
      by true = refl
      by false = refl

  adding-lost : (j s : ℕ) → (s == k) ≡ false → (flow : LinkFlow) → is_adding_on j s flow ≡ true → is_adding_on j s (lost_link k carrier flow) ≡ true
  adding-lost j s ne NoFlow e = absurd (true≢false (sym e))
  adding-lost j s ne FirstContact e = absurd (true≢false (sym e))
  adding-lost j s ne (KeysSent i on) e = absurd (true≢false (sym e))
  adding-lost j s ne (LinkSent i) e = absurd (true≢false (sym e))
  adding-lost j s ne (AddSeen i) e = absurd (true≢false (sym e))
  adding-lost j s ne (AddSent i on) e = by (i == k) (on == k) refl
    where
      by : (b c : Bool) → (on == k) ≡ c → is_adding_on j s (if b then Abandoned on else if c then AddSent i carrier else AddSent i on) ≡ true
      by true c f = let h = and-both (i == j) (on == s) e in h.1
      by false true f = absurd (true-not-false (s == k) (let h = and-both (i == j) (on == s) e in eq-eqb s k (sym (eqb-true on s h.1) ∙ eqb-true on k f)) ne)
      by false false f = e
  adding-lost j s ne (Abandoned on) e = by (on == k) refl
    where
      by : (b : Bool) → (on == k) ≡ b → is_adding_on j s (if b then NoFlow else Abandoned on) ≡ true
      by true f = absurd (true-not-false (s == k) (eq-eqb s k (sym (eqb-true on s e) ∙ eqb-true on k f)) ne)
      by false f = e

  telling-lost : (j s : ℕ) → (s == k) ≡ false → (flow : LinkFlow) → is_telling_on j s flow ≡ true → is_telling_on j s (lost_link k carrier flow) ≡ true
  telling-lost j s ne NoFlow e = absurd (true≢false (sym e))
  telling-lost j s ne FirstContact e = absurd (true≢false (sym e))
  telling-lost j s ne (AddSent i on) e = absurd (true≢false (sym e))
  telling-lost j s ne (LinkSent i) e = absurd (true≢false (sym e))
  telling-lost j s ne (AddSeen i) e = absurd (true≢false (sym e))
  telling-lost j s ne (KeysSent i on) e = by (i == k) (on == k) refl
    where
      by : (b c : Bool) → (on == k) ≡ c → is_telling_on j s (if b then Abandoned on else if c then KeysSent i carrier else KeysSent i on) ≡ true
      by true c f = let h = and-both (i == j) (on == s) e in h.1
      by false true f = absurd (true-not-false (s == k) (let h = and-both (i == j) (on == s) e in eq-eqb s k (sym (eqb-true on s h.1) ∙ eqb-true on k f)) ne)
      by false false f = e
  telling-lost j s ne (Abandoned on) e = by (on == k) refl
    where
      by : (b : Bool) → (on == k) ≡ b → is_telling_on j s (if b then NoFlow else Abandoned on) ≡ true
      by true f = absurd (true-not-false (s == k) (eq-eqb s k (sym (eqb-true on s e) ∙ eqb-true on k f)) ne)
      by false f = e

  -- the phases of a side that has lost the link of slot `k`
  module _ (phase later : ℕ → LinkPhase) (beside : (j : ℕ) → (j == k) ≡ false → later j ≡ phase j) (gone : is_standing (later k) ≡ false) where
    gone-at : (j : ℕ) → (j == k) ≡ true → is_standing (later j) ≡ false
    gone-at j e = ap (λ i. is_standing (later i)) (eqb-true j k e) ∙ gone

    not-pending : (p : LinkPhase) → is_standing p ≡ false → is_pending p ≡ false
    not-pending Unused e = refl
    not-pending Pending e = absurd (true≢false e)
    not-pending LiveLink e = refl
    not-pending Dead e = refl

    slots-a : (flow : LinkFlow) (j : ℕ) (b : LinkPhase) → slot_fits flow j (phase j) b ≡ true → slot_fits flow j (later j) b ≡ true
    slots-a flow j b e = by (j == k) refl
      where
        by : (c : Bool) → (j == k) ≡ c → slot_fits flow j (later j) b ≡ true
        by true f = gone-a flow j (later j) b (gone-at j f)
        by false f = ap (λ p. slot_fits flow j p b) (beside j f) ∙ e

    slots-b : (flow : LinkFlow) (j : ℕ) (a : LinkPhase) → slot_fits flow j a (phase j) ≡ true → slot_fits (lost_link k carrier flow) j a (later j) ≡ true
    slots-b flow j a e = by (j == k) refl
      where
        by : (c : Bool) → (j == k) ≡ c → slot_fits (lost_link k carrier flow) j a (later j) ≡ true
        by true f = gone-b (lost_link k carrier flow) j a (later j) (gone-at j f)
        by false f = ap (λ p. slot_fits (lost_link k carrier flow) j a p) (beside j f) ∙ (by-confirming (lost_link k carrier flow) flow j a (phase j) (confirming-lost j f flow) ∙ e)

    seen-or-gone : (j : ℕ) (a : LinkFlow) → (is_seen j a || not (is_standing (phase j))) ≡ true → (is_seen j (lost_link k carrier a) || not (is_standing (later j))) ≡ true
    seen-or-gone j a e = by (j == k) refl
      where
        by : (c : Bool) → (j == k) ≡ c → (is_seen j (lost_link k carrier a) || not (is_standing (later j))) ≡ true
        by true f = or-true (is_seen j (lost_link k carrier a)) (not (is_standing (later j))) (ap not (gone-at j f))
        by false f = ap (λ p. is_seen j (lost_link k carrier a) || not (is_standing p)) (beside j f) ∙ (ap (λ b. b || not (is_standing (phase j))) (seen-lost j f a) ∙ e)

    seen-or-past : (j : ℕ) (a : LinkFlow) → (is_seen j a || not (is_pending (phase j))) ≡ true → (is_seen j (lost_link k carrier a) || not (is_pending (later j))) ≡ true
    seen-or-past j a e = by (j == k) refl
      where
        by : (c : Bool) → (j == k) ≡ c → (is_seen j (lost_link k carrier a) || not (is_pending (later j))) ≡ true
        by true f = or-true (is_seen j (lost_link k carrier a)) (not (is_pending (later j))) (ap not (not-pending (later j) (gone-at j f)))
        by false f = ap (λ p. is_seen j (lost_link k carrier a) || not (is_pending p)) (beside j f) ∙ (ap (λ b. b || not (is_pending (phase j))) (seen-lost j f a) ∙ e)

    flows-a : (a b : LinkFlow) → flows_fit a b phase ≡ true → flows_fit (lost_link k carrier a) b later ≡ true
    flows-a a NoFlow e = refl
    flows-a a FirstContact e = refl
    flows-a a (AddSent j on) e = refl
    flows-a a (KeysSent j on) e = seen-or-gone j a e
    flows-a a (LinkSent j) e = seen-or-past j a e
    flows-a a (Abandoned on) e = refl
    flows-a a (AddSeen j) e = refl

    -- A has lost it
    accepted-a : (j : ℕ) (a b : LinkFlow) (pb : LinkPhase) → is_accepted j a b (phase j) pb ≡ true → is_accepted j (lost_link k carrier a) b (later j) pb ≡ true
    accepted-a j a (AddSent i on) pb e = let h = and-both (is_pending pb) (is_seen j a || not (is_standing (phase j))) e in and-true (is_pending pb) (is_seen j (lost_link k carrier a) || not (is_standing (later j))) h.0 (seen-or-gone j a h.1)
    accepted-a j a NoFlow pb e = refl
    accepted-a j a FirstContact pb e = refl
    accepted-a j a (KeysSent i on) pb e = refl
    accepted-a j a (LinkSent i) pb e = refl
    accepted-a j a (Abandoned on) pb e = refl
    accepted-a j a (AddSeen i) pb e = refl

    pub under-a : (x : Side) (s : ℕ) (m : LlcMessage) (a b : LinkFlow) (pb : ℕ → LinkPhase) → (s == k) ≡ false → under_fits x s m a b phase pb ≡ true → under_fits x s m (lost_link k carrier a) b later pb ≡ true
    under-a B s (AddLink false rejected reason mac gid qp j mtu psn) a b pb ne e = e
    under-a A s (AddLink true true reason mac gid qp j mtu psn) a b pb ne e = e
    under-a A s (AddLink true false reason mac gid qp j mtu psn) a b pb ne e =
        let h = and-both (is_adding_on j s b) (is_accepted j a b (phase j) (pb j)) e in
        and-true (is_adding_on j s b) (is_accepted j (lost_link k carrier a) b (later j) (pb j)) h.0 (accepted-a j a b (pb j) h.1)
    under-a B s (AddKeys false j count keys) a b pb ne e = e
    under-a A s (AddKeys true j count keys) a b pb ne e = e
    under-a B s (ConfirmLink false mac gid qp j user most) a b pb ne e =
        ap (λ p. is_confirming s b && ((is_first_contact (lost_link k carrier a) || is_seen s (lost_link k carrier a)) && (is_pending p && is_pending (pb s)))) (beside s ne)
        ∙ (ap (λ c. is_confirming s b && ((c || is_seen s (lost_link k carrier a)) && (is_pending (phase s) && is_pending (pb s)))) (first-lost a)
        ∙ (ap (λ c. is_confirming s b && ((is_first_contact a || c) && (is_pending (phase s) && is_pending (pb s)))) (seen-lost s ne a) ∙ e))
    under-a A s (ConfirmLink true mac gid qp j user most) a b pb ne e = ap (λ p. is_confirming s b && (is_live p && is_pending (pb s))) (beside s ne) ∙ e
    under-a A s (AddLink false rejected reason mac gid qp j mtu psn) a b pb ne e = absurd (true≢false (sym e))
    under-a B s (AddLink true rejected reason mac gid qp j mtu psn) a b pb ne e = absurd (true≢false (sym e))
    under-a A s (AddKeys false j count keys) a b pb ne e = absurd (true≢false (sym e))
    under-a B s (AddKeys true j count keys) a b pb ne e = absurd (true≢false (sym e))
    under-a A s (ConfirmLink false mac gid qp j user most) a b pb ne e = absurd (true≢false (sym e))
    under-a B s (ConfirmLink true mac gid qp j user most) a b pb ne e = absurd (true≢false (sym e))
    under-a x s m a b pb ne e = absurd (true≢false (sym e))

    -- B has lost it
    accepted-b : (j s : ℕ) (a b : LinkFlow) (pa : LinkPhase) → is_adding_on j s b ≡ true → is_accepted j a b pa (phase j) ≡ true → is_accepted j a (lost_link k carrier b) pa (later j) ≡ true
    accepted-b j s a (AddSent i on) pa on_is e = by (i == k) (on == k) refl
      where
        here : (i == k) ≡ false → (is_pending (later j) && (is_seen j a || not (is_standing pa))) ≡ true
        here f = let h = and-both (i == j) (on == s) on_is in ap (λ p. is_pending p && (is_seen j a || not (is_standing pa))) (beside j (ap (λ n. n == k) (sym (eqb-true i j h.0)) ∙ f)) ∙ e

        by : (b c : Bool) → (i == k) ≡ b → is_accepted j a (if b then Abandoned on else if c then AddSent i carrier else AddSent i on) pa (later j) ≡ true
        by true c f = refl
        by false true f = here f
        by false false f = here f
    accepted-b j s a (Abandoned on) pa on_is e = by (on == k)
      where
        by : (b : Bool) → is_accepted j a (if b then NoFlow else Abandoned on) pa (later j) ≡ true
        by true = refl
        by false = refl
    accepted-b j s a NoFlow pa on_is e = refl
    accepted-b j s a FirstContact pa on_is e = refl
    accepted-b j s a (KeysSent i on) pa on_is e = absurd (true≢false (sym on_is))
    accepted-b j s a (LinkSent i) pa on_is e = absurd (true≢false (sym on_is))
    accepted-b j s a (AddSeen i) pa on_is e = absurd (true≢false (sym on_is))

    pub under-b : (x : Side) (s : ℕ) (m : LlcMessage) (a b : LinkFlow) (pa : ℕ → LinkPhase) → (s == k) ≡ false → under_fits x s m a b pa phase ≡ true → under_fits x s m a (lost_link k carrier b) pa later ≡ true
    under-b B s (AddLink false rejected reason mac gid qp j mtu psn) a b pa ne e =
        let h = and-both (not (j == 0)) (is_adding_on j s b) e in and-true (not (j == 0)) (is_adding_on j s (lost_link k carrier b)) h.0 (adding-lost j s ne b h.1)
    under-b A s (AddLink true true reason mac gid qp j mtu psn) a b pa ne e = adding-lost j s ne b e
    under-b A s (AddLink true false reason mac gid qp j mtu psn) a b pa ne e =
        let h = and-both (is_adding_on j s b) (is_accepted j a b (pa j) (phase j)) e in
        and-true (is_adding_on j s (lost_link k carrier b)) (is_accepted j a (lost_link k carrier b) (pa j) (later j)) (adding-lost j s ne b h.0) (accepted-b j s a b (pa j) h.0 h.1)
    under-b B s (AddKeys false j count keys) a b pa ne e = telling-lost j s ne b e
    under-b A s (AddKeys true j count keys) a b pa ne e = telling-lost j s ne b e
    under-b B s (ConfirmLink false mac gid qp j user most) a b pa ne e =
        ap (λ p. is_confirming s (lost_link k carrier b) && ((is_first_contact a || is_seen s a) && (is_pending (pa s) && is_pending p))) (beside s ne)
        ∙ (ap (λ c. c && ((is_first_contact a || is_seen s a) && (is_pending (pa s) && is_pending (phase s)))) (confirming-lost s ne b) ∙ e)
    under-b A s (ConfirmLink true mac gid qp j user most) a b pa ne e =
        ap (λ p. is_confirming s (lost_link k carrier b) && (is_live (pa s) && is_pending p)) (beside s ne) ∙ (ap (λ c. c && (is_live (pa s) && is_pending (phase s))) (confirming-lost s ne b) ∙ e)
    under-b x s m a b pa ne e = absurd (true≢false (sym e))

    flows-b : (a b : LinkFlow) (pa : ℕ → LinkPhase) → flows_fit a b pa ≡ true → flows_fit a (lost_link k carrier b) pa ≡ true
    flows-b a NoFlow pa e = refl
    flows-b a FirstContact pa e = refl
    flows-b a (AddSent i on) pa e = by (i == k) (on == k)
      where
        by : (b c : Bool) → flows_fit a (if b then Abandoned on else if c then AddSent i carrier else AddSent i on) pa ≡ true
        by true c = refl
        by false true = refl
        by false false = refl
    flows-b a (KeysSent i on) pa e = by (i == k) (on == k)
      where
        by : (b c : Bool) → flows_fit a (if b then Abandoned on else if c then KeysSent i carrier else KeysSent i on) pa ≡ true
        by true c = refl
        by false true = e
        by false false = e
    flows-b a (LinkSent i) pa e = by (i == k)
      where
        by : (b : Bool) → flows_fit a (if b then NoFlow else LinkSent i) pa ≡ true
        by true = refl
        by false = e
    flows-b a (Abandoned on) pa e = by (on == k)
      where
        by : (b : Bool) → flows_fit a (if b then NoFlow else Abandoned on) pa ≡ true
        by true = refl
        by false = refl
    flows-b a (AddSeen i) pa e = by (i == k)
      where
        by : (b : Bool) → flows_fit a (if b then NoFlow else AddSeen i) pa ≡ true
        by true = refl
        by false = refl

-- the two sides, after one of them went on without the link of a slot
pub together-a : (k : ℕ) (a b : Peer) → AreTogether a b → AreTogether (goes_on k (without_slot k a)) b
together-a k a b t = record {
  same = λ j. set-link j k Dead a.table ∙ t.same j;
  slots = λ j. slots-a k (lowest_live (set_phase k Dead a.table)) (phases a) (λ j. phase_at j (set_phase k Dead a.table)) (λ j e. set-beside j k Dead a.table e) (set-dead k a.table) b.flow.link j (phases b j) (t.slots j);
  first = λ e. t.first (sym (first-lost k (lowest_live (set_phase k Dead a.table)) a.flow.link) ∙ e);
  flows = flows-a k (lowest_live (set_phase k Dead a.table)) (phases a) (λ j. phase_at j (set_phase k Dead a.table)) (λ j e. set-beside j k Dead a.table e) (set-dead k a.table) a.flow.link b.flow.link t.flows;
}

pub together-b : (k : ℕ) (a b : Peer) → AreTogether a b → AreTogether a (goes_on k (without_slot k b))
together-b k a b t = record {
  same = λ j. t.same j ∙ sym (set-link j k Dead b.table);
  slots = λ j. slots-b k (lowest_live (set_phase k Dead b.table)) (phases b) (λ j. phase_at j (set_phase k Dead b.table)) (λ j e. set-beside j k Dead b.table e) (set-dead k b.table) b.flow.link j (phases a j) (t.slots j);
  first = λ e. first-lost k (lowest_live (set_phase k Dead b.table)) b.flow.link ∙ t.first e;
  flows = flows-b k (lowest_live (set_phase k Dead b.table)) (phases b) (λ j. phase_at j (set_phase k Dead b.table)) (λ j e. set-beside j k Dead b.table e) (set-dead k b.table) a.flow.link b.flow.link (phases a) t.flows;
}
