-- Each change of links and flows lets only a link stand anew that was not made, and forgets no link that was.
use Rattle.std.proofs.Common.{Bool, List, None, Some, [], ap, arith, eqb-true, false, if◌then◌else◌, inl, inr, refl, subst, sym, true, ℕ, ◌&&◌, ◌+◌, ◌<◌, ◌==◌, ◌||◌, ◌∙◌, ◌∷◌, ◌≡◌, ◌≤◌, ◌⊎◌}
use Rattle.std.specs.Prelude.{Option, option_map, unwrap_or}
use Rattle.pipe_model.specs.Fabric.{does, loses}
use Rattle.smc_num.specs.declared.LinkPhase.TheVariants.{Live as LiveLink}
use Rattle.pipe_model.specs.declared.flow.FlowStep.TheVariants.{Live}
use Rattle.history_laws.specs.Words.{A, B, Dead, Fabric, Flow, FlowStep, Gone, Known, LinkId, LlcMessage, Peer, Pending, ReplyAdd, Side, all_dead, at_slot, begins_drop, ends_group, flow_after, goes_on, is_standing, link_at, link_or_none, lowest_live, made_on, makes, named_slot, no_link, peer, put, reports, same_link, set_phase, stands, with_flow, with_peer, with_phase, without_slot}
use Rattle.history_laws.specs.Tables.{Rises}
use Rattle.history_laws.proofs.Tables.{map-rises}
use Rattle.history_laws.proofs.Basics.{some-is}
use Rattle.link_laws.proofs.UnderWay.WireStep.{Grows}
use Rattle.link_laws.specs.UnderWay.{IsUnmade}
use Rattle.link_laws.proofs.Sound.{all-none, found-slot, live-stands, none-stands, phase-link, put-link, put-stands, set-link, stands-at, true-not-false}
use Rattle.link_laws.specs.Linked.{AreLatest, AreLinked, IsOwn, StandsAtBoth, Under}

-- nothing changes
pub grows-same : (f : Fabric) → Grows f f
grows-same f = record { comes = λ x l s. inl s; rises = λ k. omega arith }

-- one change after another
pub grows-on : (f g h : Fabric) → Grows f g → Grows g h → Grows f h
grows-on f g h a b = record { comes = comes; rises = λ k. let p = a.rises k in let q = b.rises k in omega (arith, p, q) }
  where
    before : (l : LinkId) → IsUnmade l g → IsUnmade l f
    before l u = let p : made_on l.slot f ≤ made_on l.slot g = a.rises l.slot in let q : made_on l.slot g < l.incarnation = u in omega (arith, p, q)

    comes : (x : Side) (l : LinkId) → stands l (peer x h).table ≡ true → (stands l (peer x f).table ≡ true) ⊎ IsUnmade l f
    comes x l s = elim (b.comes x l s) [ inl t ↦ a.comes x l t | inr u ↦ inr (before l u) ]

-- one side changes, and nothing stands there that did not before
pub grows-peer : (x : Side) (p : Peer) (f : Fabric) → ((l : LinkId) → stands l p.table ≡ true → stands l (peer x f).table ≡ true) → Grows f (with_peer x p f)
grows-peer A p f old = record { comes = comes; rises = λ k. omega arith }
  where
    comes : (x : Side) (l : LinkId) → stands l (peer x (with_peer A p f)).table ≡ true → (stands l (peer x f).table ≡ true) ⊎ IsUnmade l f
    comes A l s = inl (old l s)
    comes B l s = inl s
grows-peer B p f old = record { comes = comes; rises = λ k. omega arith }
  where
    comes : (x : Side) (l : LinkId) → stands l (peer x (with_peer B p f)).table ≡ true → (stands l (peer x f).table ≡ true) ⊎ IsUnmade l f
    comes A l s = inl s
    comes B l s = inl (old l s)

-- the next link of a slot is made
pub grows-made : (link : LinkId) (f : Fabric) → link.incarnation ≡ made_on link.slot f + 1 → Grows f (makes link f)
grows-made link f next = record { comes = comes; rises = rises }
  where
    new : Known
    new = record { link = link; phase = Pending }

    unmade : IsUnmade link f
    unmade = omega (arith, next)

    one : (l : LinkId) (ks : List Known) → stands l (put (record { link = link; phase = Pending }) ks) ≡ true → (stands l ks ≡ true) ⊎ IsUnmade l f
    one l ks s = elim (put-stands l (record { link = link; phase = Pending }) ks s) [ inl e ↦ inr (subst (λ m. IsUnmade m f) (sym e) unmade) | inr t ↦ inl t ]

    comes : (x : Side) (l : LinkId) → stands l (peer x (makes link f)).table ≡ true → (stands l (peer x f).table ≡ true) ⊎ IsUnmade l f
    comes A l s = one l f.a.table s
    comes B l s = one l f.b.table s

    rises : (k : ℕ) → made_on k f ≤ made_on k (makes link f)
    rises k = subst (λ (o : Option LinkId). made_on k f ≤ LinkId.incarnation (unwrap_or o no_link)) (sym (put-link k (record { link = link; phase = Pending }) f.latest)) (by (link.slot == k) refl)
      where
        by : (b : Bool) → (link.slot == k) ≡ b → made_on k f ≤ LinkId.incarnation (unwrap_or (if b then Some link else link_at k f.latest) no_link)
        by true e = let same : made_on link.slot f ≡ made_on k f = ap (λ k. made_on k f) (eqb-true link.slot k e) in omega (arith, next, same)
        by false e = omega arith

-- what stands after a loss stood before it
pub dead-stands : (l : LinkId) (k : ℕ) (ks : List Known) → stands l (set_phase k Dead ks) ≡ true → stands l ks ≡ true
dead-stands l k [] s = s
dead-stands l k (n ∷ ks) s = by (n.link.slot == k) (same_link l n.link) (is_standing n.phase) s (λ t. dead-stands l k ks t)
  where
    by : (b c d : Bool) → (((same_link l (if b then record n { phase = Dead } else n).link) && is_standing (if b then record n { phase = Dead } else n).phase) || stands l (set_phase k Dead ks)) ≡ true
        → (stands l (set_phase k Dead ks) ≡ true → stands l ks ≡ true) → ((same_link l n.link && is_standing n.phase) || stands l ks) ≡ true
    by true c d t ih = at (same_link l n.link) (same_link l n.link && is_standing n.phase) t
      where
        at : (c d : Bool) → ((c && false) || stands l (set_phase k Dead ks)) ≡ true → (d || stands l ks) ≡ true
        at c true t = refl
        at true false t = ih t
        at false false t = ih t
    by false c d t ih = at (same_link l n.link && is_standing n.phase) t
      where
        at : (d : Bool) → (d || stands l (set_phase k Dead ks)) ≡ true → (d || stands l ks) ≡ true
        at true t = refl
        at false t = ih t

-- what stands after a side has lost a link stood before
pub loses-stands : (l : LinkId) (k : ℕ) (p : Peer) → stands l (loses k p).table ≡ true → stands l p.table ≡ true
loses-stands l k p s = by (lowest_live (set_phase k Dead p.table) == 0) s
  where
    by : (b : Bool) → stands l (Peer.table (if b then ends_group (without_slot k p) else goes_on k (without_slot k p))) ≡ true → stands l p.table ≡ true
    by true t = absurd (true-not-false (stands l (all_dead (set_phase k Dead p.table))) t (none-stands l (all_dead (set_phase k Dead p.table)) (all-none (set_phase k Dead p.table))))
    by false t = dead-stands l k p.table t

-- and after it has reported it
pub reports-stands : (l : LinkId) (k : ℕ) (p : Peer) → stands l (reports k p).table ≡ true → stands l p.table ≡ true
reports-stands l k p s = loses-stands l k p (by (loses k p) ((loses k p).group == 0) s)
  where
    by : (q : Peer) (b : Bool) → stands l (Peer.table (if b then q else with_flow (begins_drop k (lowest_live q.table)) q)) ≡ true → stands l q.table ≡ true
    by q true t = t
    by q false t = t

-- what goes live stood
pub lives-stands : (l0 : LinkId) (ks : List Known) → Rises 1 ks → stands l0 ks ≡ true → (l : LinkId) → stands l (set_phase l0.slot LiveLink ks) ≡ true → stands l ks ≡ true
lives-stands l0 ks rises s0 l s = elim (live-stands l l0.slot ks s) [ inl t ↦ t | inr e ↦ subst (λ m. stands m ks ≡ true) (same e) s0 ]
  where
    same : l.slot ≡ l0.slot → l0 ≡ l
    same e =
        let a = stands-at 1 l (set_phase l0.slot LiveLink ks) (map-rises (with_phase l0.slot LiveLink) (phase-link l0.slot LiveLink) 1 ks rises) s in
        let b = stands-at 1 l0 ks rises s0 in
        some-is l0 l (sym b.1 ∙ (ap (λ j. link_at j ks) (sym e) ∙ (sym (set-link l.slot l0.slot LiveLink ks) ∙ a.1)))

-- a step of the flows
pub grows-does : (x : Side) (l : LinkId) (m : LlcMessage) (step : FlowStep) (f : Fabric) (u : Option Under) → AreLinked f u → StandsAtBoth l f → Grows f (does x l m step f)
grows-does x l m step f u all both = by step
  where
    flowed : (change : Flow → Flow) → Fabric
    flowed change = with_peer x (with_flow change (peer x f)) f

    flows : (x : Side) (change : Flow → Flow) → Grows f (with_peer x (with_flow change (peer x f)) f)
    flows x change = grows-peer x (with_flow change (peer x f)) f (λ l s. s)

    lives : (x : Side) (change : Flow → Flow) → Grows f (with_peer x (record (with_flow change (peer x f)) { table = set_phase l.slot LiveLink (peer x f).table }) f)
    lives A change = let own : IsOwn A (peer A f) = all.own A in grows-peer A (record (with_flow change (peer A f)) { table = set_phase l.slot LiveLink (peer A f).table }) f (λ m s. lives-stands l (peer A f).table own.rises both.at_a m s)
    lives B change = let own : IsOwn B (peer B f) = all.own B in grows-peer B (record (with_flow change (peer B f)) { table = set_phase l.slot LiveLink (peer B f).table }) f (λ m s. lives-stands l (peer B f).table own.rises both.at_b m s)

    live : (x : Side) (reply first : Bool) → Grows f (does x l m (Live reply first) f)
    live A reply first = lives A (flow_after (Live reply first) m l.slot (lowest_live (peer A f).table))
    live B reply first = lives B (flow_after (Live reply first) m l.slot (lowest_live (peer B f).table))

    adds : (x : Side) → Grows f (does x l m (ReplyAdd false) f)
    adds x = grows-on f (with_peer x (with_flow (flow_after (ReplyAdd false) m l.slot (lowest_live (peer x f).table)) (peer x f)) f) (does x l m (ReplyAdd false) f) (flows x (flow_after (ReplyAdd false) m l.slot (lowest_live (peer x f).table)))
        (grows-made _ (with_peer x (with_flow (flow_after (ReplyAdd false) m l.slot (lowest_live (peer x f).table)) (peer x f)) f) refl)

    gone : (x : Side) → Grows f (does x l m (Gone true) f)
    gone A = grows-peer A (loses (named_slot m l.slot) (peer A f)) f (λ n s. loses-stands n (named_slot m l.slot) (peer A f) s)
    gone B = grows-peer B (loses (named_slot m l.slot) (peer B f)) f (λ n s. loses-stands n (named_slot m l.slot) (peer B f) s)

    by : (step : FlowStep) → Grows f (does x l m step f)
    by (Live reply first) = live x reply first
    by (ReplyAdd false) = adds x
    by (ReplyAdd true) = flows x (flow_after (ReplyAdd true) m l.slot (lowest_live (peer x f).table))
    by (Gone true) = gone x
    by (Gone false) = flows x (flow_after (Gone false) m l.slot (lowest_live (peer x f).table))
    by step = flows x (flow_after step m l.slot (lowest_live (peer x f).table))

-- the link that a side knows on a slot was made; so was no link
pub known-made : (f : Fabric) (u : Option Under) → AreLinked f u → (x : Side) (k : ℕ) → LinkId.incarnation (link_or_none k (peer x f).table) ≤ made_on (LinkId.slot (link_or_none k (peer x f).table)) f
known-made f u all x k = by (at_slot k (peer x f).table) refl
  where
    old : AreLatest (peer x f) f.latest
    old = all.latest x

    by : (o : Option Known) → at_slot k (peer x f).table ≡ o → LinkId.incarnation (unwrap_or (option_map (λ (n : Known). n.link) o) no_link) ≤ made_on (LinkId.slot (unwrap_or (option_map (λ (n : Known). n.link) o) no_link)) f
    by None e = omega arith
    by (Some n) e =
        let known = old.known k n.link (ap (λ o. option_map (λ (n : Known). n.link) o) e) in
        let slot : n.link.slot ≡ k = found-slot k n (peer x f).table e in
        let at : link_at n.link.slot f.latest ≡ Some n.link = ap (λ j. link_at j f.latest) slot ∙ known in
        subst (λ (o : Option LinkId). n.link.incarnation ≤ LinkId.incarnation (unwrap_or o no_link)) (sym at) (omega arith)
