-- What it takes for one side to change, and what a link that stands at both sides tells.
use Rattle.std.proofs.Common.{Bool, List, None, Some, ap, eqb-true, false, refl, subst, sym, true, ℕ, ◌==◌, ◌∙◌, ◌≡◌, ◌≢◌, ◌≤◌}
use Rattle.std.specs.Prelude.{Option}
use Rattle.history_laws.specs.Words.{A, B, Dead, Fabric, Flow, Known, LinkId, Peer, Side, is_first_contact, is_standing, link_at, peer, phase_at, set_phase, stands, with_peer}
use Rattle.history_laws.proofs.Basics.{by-side, none-is, some-is}
use Rattle.history_laws.specs.Tables.{Rises}
use Rattle.link_laws.specs.Linked.{AreLatest, AreLinked, AreTogether, Begins, Confirms, FitsUnder, Goes, HasNone, IsOwn, IsSound, StandsAtBoth, Under, flows_fit, phases, slot_fits, under_fits}
use Rattle.link_laws.proofs.Sound.Slots.{at-stands, none-stands, of-at, set-beside, set-dead, set-link, stands-at}
use Rattle.link_laws.proofs.Sound.OneSide.{true-not-false}

pub none-fits : (f : Fabric) → (w : Under) → None ≡ Some w → FitsUnder w f
none-fits f w e = absurd (none-is w e)

pub one-fits : (f : Fabric) (u : Under) → FitsUnder u f → (w : Under) → Some u ≡ Some w → FitsUnder w f
one-fits f u fits w e = subst (λ v. FitsUnder v f) (some-is u w e) fits

-- nothing under way is always right
pub forgotten : (f : Fabric) (u : Option Under) → AreLinked f u → AreLinked f None
forgotten f u all = record { latest_rises = all.latest_rises; latest = all.latest; own = all.own; together = all.together; fits = none-fits f }

-- another message under way
pub answered : (f : Fabric) (u : Option Under) (w : Under) → FitsUnder w f → AreLinked f u → AreLinked f (Some w)
answered f u w fits all = record { latest_rises = all.latest_rises; latest = all.latest; own = all.own; together = all.together; fits = one-fits f w fits }

-- one side changes
pub changed-a : (p : Peer) (f : Fabric) (u v : Option Under) → AreLatest p f.latest → IsOwn A p → (p.group ≢ 0 → p.group ≡ f.b.group → AreTogether p f.b) → ((w : Under) → v ≡ Some w → FitsUnder w (with_peer A p f)) → AreLinked f u → AreLinked (with_peer A p f) v
changed-a p f u v latest own together fits all = record {
  latest_rises = all.latest_rises;
  latest = by-side (λ x. AreLatest (peer x (with_peer A p f)) f.latest) latest (all.latest B);
  own = by-side (λ x. IsOwn x (peer x (with_peer A p f))) own (all.own B);
  together = together;
  fits = fits;
}

pub changed-b : (p : Peer) (f : Fabric) (u v : Option Under) → AreLatest p f.latest → IsOwn B p → (f.a.group ≢ 0 → f.a.group ≡ p.group → AreTogether f.a p) → ((w : Under) → v ≡ Some w → FitsUnder w (with_peer B p f)) → AreLinked f u → AreLinked (with_peer B p f) v
changed-b p f u v latest own together fits all = record {
  latest_rises = all.latest_rises;
  latest = by-side (λ x. AreLatest (peer x (with_peer B p f)) f.latest) (all.latest A) latest;
  own = by-side (λ x. IsOwn x (peer x (with_peer B p f))) (all.own A) own;
  together = together;
  fits = fits;
}

-- the flows of a side but that of links
pub reflowed-a : (flow : Flow) (told : List LinkId) (f : Fabric) (u : Option Under) → flow.link ≡ f.a.flow.link → IsOwn A (record f.a { flow = flow; told = told }) → AreLinked f u → AreLinked (with_peer A (record f.a { flow = flow; told = told }) f) u
reflowed-a flow told f u e own all =
    let old : AreLatest f.a f.latest = all.latest A in
    changed-a (record f.a { flow = flow; told = told }) f u u (record { known = old.known }) own
    (λ ne same. let t = all.together ne same in record { same = t.same; slots = t.slots; first = λ g. t.first (ap is_first_contact (sym e) ∙ g); flows = ap (λ l. flows_fit l f.b.flow.link (phases f.a)) e ∙ t.flows })
    (λ w is both. ap (λ l. under_fits w.from w.link.slot w.message l f.b.flow.link (phases f.a) (phases f.b)) e ∙ all.fits w is (record { at_a = both.at_a; at_b = both.at_b })) all

pub reflowed-b : (flow : Flow) (told : List LinkId) (f : Fabric) (u : Option Under) → flow.link ≡ f.b.flow.link → IsOwn B (record f.b { flow = flow; told = told }) → AreLinked f u → AreLinked (with_peer B (record f.b { flow = flow; told = told }) f) u
reflowed-b flow told f u e own all =
    let old : AreLatest f.b f.latest = all.latest B in
    changed-b (record f.b { flow = flow; told = told }) f u u (record { known = old.known }) own
    (λ ne same. let t = all.together ne same in record { same = t.same; slots = λ j. ap (λ l. slot_fits l j (phases f.a j) (phases f.b j)) e ∙ t.slots j; first = λ g. ap is_first_contact e ∙ t.first g; flows = ap (λ l. flows_fit f.a.flow.link l (phases f.a)) e ∙ t.flows })
    (λ w is both. ap (λ l. under_fits w.from w.link.slot w.message f.a.flow.link l (phases f.a) (phases f.b)) e ∙ all.fits w is (record { at_a = both.at_a; at_b = both.at_b })) all

-- a side at which a link stands has the link's group
pub has-group : (x : Side) (p : Peer) (l : LinkId) → IsOwn x p → stands l p.table ≡ true → (p.group ≢ 0) × (l.group ≡ p.group)
has-group x p l own s = (ne own.sound, of-at p.group l.slot p.table l (own.owned (ne own.sound)) (let h = stands-at 1 l p.table own.rises s in h.1))
  where
    ne : IsSound x p → p.group ≢ 0
    ne (HasNone g f none) = absurd (true-not-false (stands l p.table) s (none-stands l p.table none))
    ne (Begins g f t) = g
    ne (Confirms link g f t) = g
    ne (Goes j g live f) = g

pub both-in : (f : Fabric) (u : Option Under) (l : LinkId) → AreLinked f u → StandsAtBoth l f → (f.a.group ≢ 0) × (f.a.group ≡ f.b.group)
both-in f u l all both =
    let a = has-group A f.a l (all.own A) both.at_a in
    let b = has-group B f.b l (all.own B) both.at_b in
    (a.0, sym a.1 ∙ b.1)

-- a link that stands after the loss of a slot stood before, on another slot
pub stood : (k : ℕ) (l : LinkId) (ks : List Known) → Rises 1 (set_phase k Dead ks) → stands l (set_phase k Dead ks) ≡ true → ((l.slot == k) ≡ false) × (stands l ks ≡ true)
stood k l ks r s = (other, at-stands l ks (sym (set-link l.slot k Dead ks) ∙ at.1) (ap is_standing (sym (set-beside l.slot k Dead ks other)) ∙ at.2))
  where
    at : (1 ≤ l.slot) × (link_at l.slot (set_phase k Dead ks) ≡ Some l) × (is_standing (phase_at l.slot (set_phase k Dead ks)) ≡ true)
    at = stands-at 1 l (set_phase k Dead ks) r s

    by : (b : Bool) → (l.slot == k) ≡ b → b ≡ false
    by true e = absurd (true-not-false (is_standing (phase_at l.slot (set_phase k Dead ks))) at.2 (ap (λ j. is_standing (phase_at j (set_phase k Dead ks))) (eqb-true l.slot k e) ∙ set-dead k ks))
    by false e = refl

    other : (l.slot == k) ≡ false
    other = by (l.slot == k) refl
