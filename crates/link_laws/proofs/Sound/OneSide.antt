-- One side alone: what it knows stays sound as it loses a link, learns one, and as its flows go on.
use Rattle.std.proofs.Common.{Bool, List, None, Some, [], ap, arith, cond, eq-eqb, eqb-true, false, filter, if◌then◌else◌, not, refl, sym, true, true≢false, ℕ, ◌==◌, ◌∙◌, ◌∷◌, ◌≡◌, ◌≢◌, ◌≤◌}
use Rattle.smc_num.specs.declared.LinkPhase.TheVariants.{Live as LiveLink}
use Rattle.pipe_model.specs.Flows.{LinkSent, lost}
use Rattle.pipe_model.specs.Fabric.{learns_link, loses}
use Rattle.history_laws.specs.Words.{A, Abandoned, AddSeen, AddSent, B, Dead, Drop, FirstContact, Flow, KeysSent, Known, LinkFlow, LinkId, LinkPhase, NoFlow, Peer, Pending, Side, at_slot, begins_drop, begins_group, dead, ends_group, goes_on, is_dropping, is_first_contact, is_live, is_standing, lost_link, lowest_live, phase_at, put, reports, set_phase, with_flow, with_phase, without_slot}
use Rattle.history_laws.specs.Tables.{Rises}
use Rattle.history_laws.proofs.Tables.{map-rises, put-rises}
use Rattle.history_laws.proofs.Basics.{standing-live}
use Rattle.link_laws.specs.Linked.{AreFlowing, AreLive, AreOf, Begins, CarryDrops, Confirms, Goes, HasNone, IsOwn, IsSound, LinkFits, NoneStands, is_own_flow, phases}
use Rattle.link_laws.proofs.Sound.Slots.{all-none, lowest-is, map-of, phase-link, phase_in, put-of, put-phase, set-beside, set-dead}

pub true-not-false : (b : Bool) → b ≡ true → b ≡ false → ⊥
true-not-false b e f = true≢false (sym e ∙ f)

pub none-at : (k : ℕ) (ks : List Known) → NoneStands ks → is_standing (phase_at k ks) ≡ false
none-at k [] s = refl
none-at k (n ∷ ks) s = by (n.link.slot == k) (none-at k ks s.1)
  where
    by : (b : Bool) → is_standing (phase_at k ks) ≡ false → is_standing (phase_in (if b then Some n else at_slot k ks)) ≡ false
    by true ih = s.0
    by false ih = ih

-- no link is live
pub lowest-none : (ks : List Known) → Rises 1 ks → ((j : ℕ) → is_live (phase_at j ks) ≡ false) → (lowest_live ks == 0) ≡ true
lowest-none ks r none = by (lowest_live ks == 0) refl
  where
    by : (b : Bool) → (lowest_live ks == 0) ≡ b → b ≡ true
    by true e = refl
    by false e = absurd (true-not-false (is_live (phase_at (lowest_live ks) ks)) (let h = lowest-is 1 ks (omega arith) r e in ap is_live h.1) (none (lowest_live ks)))

-- the flows of a side that has lost the link of slot `k`
module _ (k carrier : ℕ) (phase later : ℕ → LinkPhase) (beside : (j : ℕ) → (j == k) ≡ false → later j ≡ phase j) (carries : later carrier ≡ LiveLink) where
  -- a live link is not on the slot of one that is not
  elsewhere : (j on : ℕ) → (j == k) ≡ true → is_live (phase j) ≡ false → phase on ≡ LiveLink → later on ≡ LiveLink
  elsewhere j on e none is = by (on == k) refl
    where
      by : (b : Bool) → (on == k) ≡ b → later on ≡ LiveLink
      by true f = absurd (true-not-false (is_live (phase j)) (ap (λ i. is_live (phase i)) (eqb-true j k e ∙ sym (eqb-true on k f)) ∙ ap is_live is) none)
      by false f = beside on f ∙ is

  link-lost : (flow : LinkFlow) → LinkFits phase flow → LinkFits later (lost_link k carrier flow)
  link-lost NoFlow s = tt
  link-lost FirstContact s = s
  link-lost (AddSent j on) s = by (j == k) (on == k) refl refl
    where
      by : (b c : Bool) → (j == k) ≡ b → (on == k) ≡ c → LinkFits later (if b then Abandoned on else if c then AddSent j carrier else AddSent j on)
      by true c e f = elsewhere j on e s.1 s.2
      by false true e f = (s.0, ap is_live (beside j e) ∙ s.1, carries)
      by false false e f = (s.0, ap is_live (beside j e) ∙ s.1, beside on f ∙ s.2)
  link-lost (KeysSent j on) s = by (j == k) (on == k) refl refl
    where
      by : (b c : Bool) → (j == k) ≡ b → (on == k) ≡ c → LinkFits later (if b then Abandoned on else if c then KeysSent j carrier else KeysSent j on)
      by true c e f = elsewhere j on e (ap is_live s.1) s.2
      by false true e f = (s.0, beside j e ∙ s.1, carries)
      by false false e f = (s.0, beside j e ∙ s.1, beside on f ∙ s.2)
  link-lost (LinkSent j) s = by (j == k) refl
    where
      by : (b : Bool) → (j == k) ≡ b → LinkFits later (if b then NoFlow else LinkSent j)
      by true e = tt
      by false e = beside j e ∙ s
  link-lost (Abandoned on) s = by (on == k) refl
    where
      by : (b : Bool) → (on == k) ≡ b → LinkFits later (if b then NoFlow else Abandoned on)
      by true e = tt
      by false e = beside on e ∙ s
  link-lost (AddSeen j) s = by (j == k) refl
    where
      by : (b : Bool) → (j == k) ≡ b → LinkFits later (if b then NoFlow else AddSeen j)
      by true e = tt
      by false e = beside j e ∙ s

  own-lost : (x : Side) (flow : LinkFlow) → is_own_flow x flow ≡ true → is_own_flow x (lost_link k carrier flow) ≡ true
  own-lost x NoFlow e = refl
  own-lost x FirstContact e = refl
  own-lost A (AddSent j on) e = absurd (true≢false (sym e))
  own-lost B (AddSent j on) e = by (j == k) (on == k)
    where
      by : (b c : Bool) → is_own_flow B (if b then Abandoned on else if c then AddSent j carrier else AddSent j on) ≡ true
      by true c = refl
      by false true = refl
      by false false = refl
  own-lost A (KeysSent j on) e = absurd (true≢false (sym e))
  own-lost B (KeysSent j on) e = by (j == k) (on == k)
    where
      by : (b c : Bool) → is_own_flow B (if b then Abandoned on else if c then KeysSent j carrier else KeysSent j on) ≡ true
      by true c = refl
      by false true = refl
      by false false = refl
  own-lost A (LinkSent j) e = absurd (true≢false (sym e))
  own-lost B (LinkSent j) e = by (j == k)
    where
      by : (b : Bool) → is_own_flow B (if b then NoFlow else LinkSent j) ≡ true
      by true = refl
      by false = refl
  own-lost A (Abandoned on) e = absurd (true≢false (sym e))
  own-lost B (Abandoned on) e = by (on == k)
    where
      by : (b : Bool) → is_own_flow B (if b then NoFlow else Abandoned on) ≡ true
      by true = refl
      by false = refl
  own-lost B (AddSeen j) e = absurd (true≢false (sym e))
  own-lost A (AddSeen j) e = by (j == k)
    where
      by : (b : Bool) → is_own_flow A (if b then NoFlow else AddSeen j) ≡ true
      by true = refl
      by false = refl

  tests-lost : (ks : List ℕ) → AreLive phase ks → AreLive later (filter (λ j. not (j == k)) ks)
  tests-lost [] s = tt
  tests-lost (j ∷ ks) s = by (j == k) refl (tests-lost ks s.1)
    where
      by : (b : Bool) → (j == k) ≡ b → AreLive later (filter (λ j. not (j == k)) ks) → AreLive later (if not b then j ∷ filter (λ j. not (j == k)) ks else filter (λ j. not (j == k)) ks)
      by true e rest = rest
      by false e rest = (beside j e ∙ s.0, rest)

  drops-lost : (ds : List Drop) → CarryDrops phase ds → CarryDrops later (filter (λ (d : Drop). not (d.on == k)) ds)
  drops-lost [] s = tt
  drops-lost (d ∷ ds) s = by (d.on == k) refl (drops-lost ds s.1)
    where
      by : (b : Bool) → (d.on == k) ≡ b → CarryDrops later (filter (λ (d : Drop). not (d.on == k)) ds) → CarryDrops later (if not b then d ∷ filter (λ (d : Drop). not (d.on == k)) ds else filter (λ (d : Drop). not (d.on == k)) ds)
      by true e rest = rest
      by false e rest = (beside d.on e ∙ s.0, rest)

  flowing-lost : (x : Side) (f : Flow) → AreFlowing x phase f → AreFlowing x later (lost k carrier f)
  flowing-lost x f s = record {
    own = own-lost x f.link s.own;
    link = link-lost f.link s.link;
    key = λ out. by (f.on == k) refl (s.key out);
    tests = tests-lost f.tests s.tests;
    drops = drops-lost f.drops s.drops;
  }
    where
      by : (b : Bool) → (f.on == k) ≡ b → phase f.on ≡ LiveLink → later (if b then carrier else f.on) ≡ LiveLink
      by true e is = carries
      by false e is = beside f.on e ∙ is

-- a side loses the link of a slot
module _ (x : Side) (k : ℕ) (p : Peer) (own : IsOwn x p) where
  pub after-rises : Rises 1 (set_phase k Dead p.table)
  after-rises = map-rises (with_phase k Dead) (phase-link k Dead) 1 p.table own.rises

  after-of : p.group ≢ 0 → AreOf p.group (set_phase k Dead p.table)
  after-of ne = map-of (with_phase k Dead) (phase-link k Dead) p.group p.table (own.owned ne)

  ended : IsOwn x (ends_group (without_slot k p))
  ended = record { rises = map-rises dead (λ n. refl) 1 (set_phase k Dead p.table) after-rises; owned = λ ne. absurd (ne refl); sound = HasNone refl refl (all-none (set_phase k Dead p.table)) }

  no-live : ((j : ℕ) → is_live (phases p j) ≡ false) → (lowest_live (set_phase k Dead p.table) == 0) ≡ true
  no-live none = lowest-none (set_phase k Dead p.table) after-rises (λ j. by j (j == k) refl)
    where
      by : (j : ℕ) (b : Bool) → (j == k) ≡ b → is_live (phase_at j (set_phase k Dead p.table)) ≡ false
      by j true e = ap (λ i. is_live (phase_at i (set_phase k Dead p.table))) (eqb-true j k e) ∙ standing-live (phase_at k (set_phase k Dead p.table)) (set-dead k p.table)
      by j false e = ap is_live (set-beside j k Dead p.table e) ∙ none j

  -- it goes on only beyond first contact
  pub was-going : (lowest_live (set_phase k Dead p.table) == 0) ≡ false → (p.group ≢ 0) × AreFlowing x (phases p) p.flow
  was-going some = by own.sound
    where
      never : ((j : ℕ) → is_live (phases p j) ≡ false) → (p.group ≢ 0) × AreFlowing x (phases p) p.flow
      never none = absurd (true-not-false (lowest_live (set_phase k Dead p.table) == 0) (no-live none) some)

      alone : (link : LinkId) (j : ℕ) (b : Bool) → is_live (phase_in (cond b (Some (record { link = link; phase = Pending })) None)) ≡ false
      alone link j true = refl
      alone link j false = refl

      by : IsSound x p → (p.group ≢ 0) × AreFlowing x (phases p) p.flow
      by (HasNone g f s) = never (λ j. standing-live (phases p j) (none-at j p.table s))
      by (Begins g f t) = never (λ j. ap (λ table. is_live (phase_at j table)) t)
      by (Confirms link g f t) = never (λ j. ap (λ table. is_live (phase_at j table)) t ∙ alone link j (link.slot == j))
      by (Goes j g live f) = (g, f)

  going : (lowest_live (set_phase k Dead p.table) == 0) ≡ false → IsOwn x (goes_on k (without_slot k p))
  going some = let was = was-going some in let low = lowest-is 1 (set_phase k Dead p.table) (omega arith) after-rises some in record {
    rises = after-rises;
    owned = after-of;
    sound = Goes (lowest_live (set_phase k Dead p.table)) was.0 low.1 (flowing-lost k (lowest_live (set_phase k Dead p.table)) (phases p) (λ j. phase_at j (set_phase k Dead p.table)) (λ j e. set-beside j k Dead p.table e) low.1 x p.flow was.1);
  }

  pub loses-own : IsOwn x (loses k p)
  loses-own = by (lowest_live (set_phase k Dead p.table) == 0) refl
    where
      by : (b : Bool) → (lowest_live (set_phase k Dead p.table) == 0) ≡ b → IsOwn x (if b then ends_group (without_slot k p) else goes_on k (without_slot k p))
      by true e = ended
      by false e = going e

  dropping : (carrier : ℕ) (q : Peer) → q.group ≢ 0 → phases q carrier ≡ LiveLink → Rises 1 q.table → AreOf q.group q.table → AreFlowing x (phases q) q.flow → IsOwn x (with_flow (begins_drop k carrier) q)
  dropping carrier q ne live rises owned s = record { rises = rises; owned = λ ne. owned; sound = Goes carrier ne live (by (is_dropping k q.flow)) }
    where
      by : (b : Bool) → AreFlowing x (phases q) (if b then q.flow else record q.flow { drops = record { slot = k; on = carrier } ∷ q.flow.drops })
      by true = s
      by false = record { own = s.own; link = s.link; key = s.key; tests = s.tests; drops = (live, s.drops) }

  -- of its own, with a DELETE LINK
  pub reports-own : IsOwn x (reports k p)
  reports-own = by (lowest_live (set_phase k Dead p.table) == 0) refl
    where
      told : (c : Bool) → (lowest_live (set_phase k Dead p.table) == 0) ≡ false → IsOwn x (if c then goes_on k (without_slot k p) else with_flow (begins_drop k (lowest_live (set_phase k Dead p.table))) (goes_on k (without_slot k p)))
      told true e = going e
      told false e = let was = was-going e in let low = lowest-is 1 (set_phase k Dead p.table) (omega arith) after-rises e in
          dropping (lowest_live (set_phase k Dead p.table)) (goes_on k (without_slot k p)) was.0 low.1 after-rises (after-of was.0)
          (flowing-lost k (lowest_live (set_phase k Dead p.table)) (phases p) (λ j. phase_at j (set_phase k Dead p.table)) (λ j e. set-beside j k Dead p.table e) low.1 x p.flow was.1)

      by : (b : Bool) → (lowest_live (set_phase k Dead p.table) == 0) ≡ b
          → IsOwn x (let q = (if b then ends_group (without_slot k p) else goes_on k (without_slot k p)) in if q.group == 0 then q else with_flow (begins_drop k (lowest_live q.table)) q)
      by true e = ended
      by false e = told (p.group == 0) e

-- a side begins first contact
pub begins-own : (x : Side) (group : ℕ) → group ≢ 0 → IsOwn x (begins_group group)
begins-own x group ne = record { rises = tt; owned = λ g. tt; sound = Begins ne refl refl }

-- a side beyond first contact
pub record IsGoing (x : Side) (p : Peer) : Type 0 where
  pub on : ℕ
  pub live : phases p on ≡ LiveLink
  pub flowing : AreFlowing x (phases p) p.flow

pub going-of : (x : Side) (p : Peer) → IsSound x p → p.group ≢ 0 → is_first_contact p.flow.link ≡ false → IsGoing x p
going-of x p (HasNone g f s) ne first = absurd (ne g)
going-of x p (Begins g f t) ne first = absurd (true-not-false (is_first_contact p.flow.link) (ap (λ (f : Flow). is_first_contact f.link) f) first)
going-of x p (Confirms link g f t) ne first = absurd (true-not-false (is_first_contact p.flow.link) (ap (λ (f : Flow). is_first_contact f.link) f) first)
going-of x p (Goes k g live f) ne first = record { on = k; live = live; flowing = f }

-- what is live stays so
module _ (phase later : ℕ → LinkPhase) (live : (j : ℕ) → phase j ≡ LiveLink → later j ≡ LiveLink) where
  tests-on : (ks : List ℕ) → AreLive phase ks → AreLive later ks
  tests-on [] s = tt
  tests-on (j ∷ ks) s = (live j s.0, tests-on ks s.1)

  drops-on : (ds : List Drop) → CarryDrops phase ds → CarryDrops later ds
  drops-on [] s = tt
  drops-on (d ∷ ds) s = (live d.on s.0, drops-on ds s.1)

  -- with another state of the link flow
  pub relinked : (x : Side) (f : Flow) (flow : LinkFlow) → AreFlowing x phase f → is_own_flow x flow ≡ true → LinkFits later flow → AreFlowing x later (record f { link = flow })
  relinked x f flow s own fits = record { own = own; link = fits; key = λ out. live f.on (s.key out); tests = tests-on f.tests s.tests; drops = drops-on f.drops s.drops }

-- a link is made on a slot where none stands
module _ (k : ℕ) (phase later : ℕ → LinkPhase) (beside : (j : ℕ) → (j == k) ≡ false → later j ≡ phase j) (free : is_standing (phase k) ≡ false) (here : later k ≡ Pending) where
  pub made-stays : (j : ℕ) (p : LinkPhase) → is_standing p ≡ true → phase j ≡ p → later j ≡ p
  made-stays j p s e = by (j == k) refl
    where
      by : (b : Bool) → (j == k) ≡ b → later j ≡ p
      by true f = absurd (true-not-false (is_standing (phase k)) (ap (λ i. is_standing (phase i)) (sym (eqb-true j k f)) ∙ (ap is_standing e ∙ s)) free)
      by false f = beside j f ∙ e

  made-not-live : (j : ℕ) → is_live (phase j) ≡ false → is_live (later j) ≡ false
  made-not-live j e = by (j == k) refl
    where
      by : (b : Bool) → (j == k) ≡ b → is_live (later j) ≡ false
      by true f = ap (λ i. is_live (later i)) (eqb-true j k f) ∙ ap is_live here
      by false f = ap is_live (beside j f) ∙ e

  pub made-fits : (flow : LinkFlow) → LinkFits phase flow → LinkFits later flow
  made-fits NoFlow s = tt
  made-fits FirstContact s = s
  made-fits (AddSent j on) s = (s.0, made-not-live j s.1, made-stays on LiveLink refl s.2)
  made-fits (KeysSent j on) s = (s.0, made-stays j Pending refl s.1, made-stays on LiveLink refl s.2)
  made-fits (LinkSent j) s = made-stays j Pending refl s
  made-fits (Abandoned on) s = made-stays on LiveLink refl s
  made-fits (AddSeen j) s = made-stays j Pending refl s

-- a side learns a link, and its link flow goes on
pub learns-own : (x : Side) (link : LinkId) (p : Peer) (flow : LinkFlow) → IsOwn x p → IsGoing x p → p.group ≢ 0 → 1 ≤ link.slot → link.group ≡ p.group → is_standing (phases p link.slot) ≡ false
    → is_own_flow x flow ≡ true → (((j : ℕ) → (j == link.slot) ≡ false → phase_at j (put (record { link = link; phase = Pending }) p.table) ≡ phases p j) → phase_at link.slot (put (record { link = link; phase = Pending }) p.table) ≡ Pending → LinkFits (λ j. phase_at j (put (record { link = link; phase = Pending }) p.table)) flow)
    → IsOwn x (learns_link link (with_flow (λ (f : Flow). record f { link = flow }) p))
learns-own x link p flow own goes ne o group free is_own fits = record {
  rises = put-rises 1 (record { link = link; phase = Pending }) p.table o own.rises;
  owned = λ g. put-of p.group (record { link = link; phase = Pending }) p.table group (own.owned ne);
  sound = Goes goes.on ne (stays goes.on goes.live) (relinked (phases p) (λ j. phase_at j (put (record { link = link; phase = Pending }) p.table)) stays x p.flow flow goes.flowing is_own (fits beside here));
}
  where
    beside : (j : ℕ) → (j == link.slot) ≡ false → phase_at j (put (record { link = link; phase = Pending }) p.table) ≡ phases p j
    beside j e = put-phase j (record { link = link; phase = Pending }) p.table ∙ by (link.slot == j) refl
      where
        by : (b : Bool) → (link.slot == j) ≡ b → (if b then Pending else phase_at j p.table) ≡ phases p j
        by true f = absurd (true-not-false (j == link.slot) (eq-eqb j link.slot (sym (eqb-true link.slot j f))) e)
        by false f = refl

    here : phase_at link.slot (put (record { link = link; phase = Pending }) p.table) ≡ Pending
    here = put-phase link.slot (record { link = link; phase = Pending }) p.table ∙ ap (λ b. if b then Pending else phase_at link.slot p.table) (eq-eqb link.slot link.slot refl)

    stays : (j : ℕ) → phases p j ≡ LiveLink → phase_at j (put (record { link = link; phase = Pending }) p.table) ≡ LiveLink
    stays j e = made-stays link.slot (phases p) (λ j. phase_at j (put (record { link = link; phase = Pending }) p.table)) beside free here j LiveLink refl e
