-- The landings of the link flow: ADD LINK, its reply, the keys and their reply, CONFIRM LINK and its reply; and how B begins to add a link.
use Rattle.std.proofs.Common.{Bool, List, None, Some, ap, arith, cond, eq-eqb, eqb-true, false, if◌then◌else◌, not, refl, subst, sym, true, true≢false, ℕ, ◌&&◌, ◌==◌, ◌||◌, ◌∙◌, ◌≡◌, ◌≢◌, ◌≤◌}
use Rattle.pipe_model.specs.Flows.{LinkSent}
use Rattle.smc_num.specs.declared.LinkPhase.TheVariants.{Live as LiveLink}
use Rattle.std.proofs.lemmas.Bool.{eqb-false, ne_eqb}
use Rattle.std.specs.Prelude.{Option, option_map}
use Rattle.history_laws.specs.Words.{A, Abandoned, AddKeys, AddLink, AddSeen, AddSent, B, ConfirmLink, Dead, Fabric, FirstContact, Flow, KeysSent, Known, LinkFlow, LinkId, LinkPhase, NewKey, NoFlow, Peer, Pending, Side, Unused, is_first_contact, is_live, is_pending, is_standing, link_at, makes, no_flow, peer, phase_at, put, set_phase, stands, with_flow, with_peer, with_phase}
use Rattle.history_laws.proofs.Basics.{and-both, and-true, by-side, live-is, none-is, or-true, standing-live}
use Rattle.history_laws.proofs.Tables.{map-rises, put-rises}
use Rattle.link_laws.specs.Linked.{AreFlowing, AreLatest, AreLinked, AreTogether, Begins, Confirms, FitsUnder, Goes, HasNone, IsOwn, IsSound, LinkFits, StandsAtBoth, Under, flows_fit, is_accepted, is_adding_on, is_confirming, is_own_flow, is_seen, is_telling_on, phases, slot_fits}
use Rattle.link_laws.proofs.Sound.Frames.{answered, both-in, changed-a, changed-b, has-group, none-fits, one-fits}
use Rattle.link_laws.proofs.Sound.OneSide.{IsGoing, going-of, learns-own, made-fits, relinked, true-not-false}
use Rattle.link_laws.proofs.Sound.Slots.{map-of, phase-link, phase_in, put-link, put-phase, set-beside, set-here, set-link, stands-at}
use Rattle.link_laws.proofs.Sound.Losses.{by-confirming, gone-b}

-- a link flow set
abbrev pub linked_to : LinkFlow → Peer → Peer
linked_to flow p = with_flow (λ (f : Flow). record f { link = flow }) p

pub adding-not-first : (k s : ℕ) (flow : LinkFlow) → is_adding_on k s flow ≡ true → is_first_contact flow ≡ false
adding-not-first k s FirstContact e = absurd (true≢false (sym e))
adding-not-first k s NoFlow e = refl
adding-not-first k s (AddSent j on) e = refl
adding-not-first k s (KeysSent j on) e = refl
adding-not-first k s (LinkSent j) e = refl
adding-not-first k s (Abandoned on) e = refl
adding-not-first k s (AddSeen j) e = refl

adding-fits-any : (k s : ℕ) (a flow : LinkFlow) (phase : ℕ → LinkPhase) → is_adding_on k s flow ≡ true → flows_fit a flow phase ≡ true
adding-fits-any k s a (AddSent j on) phase e = refl
adding-fits-any k s a (Abandoned on) phase e = refl
adding-fits-any k s a NoFlow phase e = refl
adding-fits-any k s a FirstContact phase e = refl
adding-fits-any k s a (AddSeen j) phase e = refl
adding-fits-any k s a (KeysSent j on) phase e = absurd (true≢false (sym e))
adding-fits-any k s a (LinkSent j) phase e = absurd (true≢false (sym e))

pending-is : (p : LinkPhase) → is_pending p ≡ true → p ≡ Pending
pending-is Pending e = refl
pending-is Unused e = absurd (true≢false (sym e))
pending-is LiveLink e = absurd (true≢false (sym e))
pending-is Dead e = absurd (true≢false (sym e))

pub standing-not-live : (p : LinkPhase) → is_standing p ≡ true → is_live p ≡ false → is_pending p ≡ true
standing-not-live Unused e f = absurd (true≢false (sym e))
standing-not-live Pending e f = refl
standing-not-live LiveLink e f = absurd (true≢false f)
standing-not-live Dead e f = absurd (true≢false (sym e))

-- A waits for the link's CONFIRM LINK, and it stands at B
accepted-now : (k s : ℕ) (a b : LinkFlow) (pa : LinkPhase) (pb : ℕ → LinkPhase) → is_adding_on k s b ≡ true → LinkFits pb b → is_standing (pb k) ≡ true → is_seen k a ≡ true → is_accepted k a b pa (pb k) ≡ true
accepted-now k s a (AddSent j on) pa pb e fits st seen =
    let h = and-both (j == k) (on == s) e in
    and-true (is_pending (pb k)) (is_seen k a || not (is_standing pa)) (standing-not-live (pb k) st (ap (λ i. is_live (pb i)) (sym (eqb-true j k h.0)) ∙ fits.1)) (rw seen refl)
accepted-now k s a (Abandoned on) pa pb e fits st seen = refl
accepted-now k s a NoFlow pa pb e fits st seen = refl
accepted-now k s a FirstContact pa pb e fits st seen = refl
accepted-now k s a (KeysSent j on) pa pb e fits st seen = refl
accepted-now k s a (LinkSent j) pa pb e fits st seen = refl
accepted-now k s a (AddSeen j) pa pb e fits st seen = refl

-- B posts ADD LINK for a slot, or its keys, on the link of another
pub asks-add : (f : Fabric) (l : LinkId) (k : ℕ) (rejected : Bool) (reason : ℕ) (mac gid : List ℕ) (qp mtu psn : ℕ) → (k == 0) ≡ false → f.b.flow.link ≡ AddSent k l.slot
    → FitsUnder (record { from = B; link = l; message = AddLink false rejected reason mac gid qp k mtu psn }) f
asks-add f l k rejected reason mac gid qp mtu psn ne e both = and-true (not (k == 0)) (is_adding_on k l.slot f.b.flow.link) (ap not ne) (ap (λ flow. is_adding_on k l.slot flow) e ∙ and-true (k == k) (l.slot == l.slot) (eq-eqb k k refl) (eq-eqb l.slot l.slot refl))

pub tells-keys : (f : Fabric) (l : LinkId) (k count : ℕ) (keys : List NewKey) → f.b.flow.link ≡ KeysSent k l.slot → FitsUnder (record { from = B; link = l; message = AddKeys false k count keys }) f
tells-keys f l k count keys e both = ap (λ flow. is_telling_on k l.slot flow) e ∙ and-true (k == k) (l.slot == l.slot) (eq-eqb k k refl) (eq-eqb l.slot l.slot refl)

-- an ADD LINK lands at A
module _ (f : Fabric) (l : LinkId) (r0 : Bool) (e0 : ℕ) (mac0 gid0 : List ℕ) (qp0 k mtu0 psn0 : ℕ) (both : StandsAtBoth l f) (all : AreLinked f (Some (record { from = B; link = l; message = AddLink false r0 e0 mac0 gid0 qp0 k mtu0 psn0 }))) where
  add-is : (not (k == 0) ≡ true) × (is_adding_on k l.slot f.b.flow.link ≡ true)
  add-is = and-both (not (k == 0)) (is_adding_on k l.slot f.b.flow.link) (all.fits (record { from = B; link = l; message = AddLink false r0 e0 mac0 gid0 qp0 k mtu0 psn0 }) refl both)

  -- A rejects it
  pub rejects : (reason : ℕ) (mac gid : List ℕ) (qp mtu psn : ℕ) → AreLinked f (Some (record { from = A; link = l; message = AddLink true true reason mac gid qp k mtu psn }))
  rejects reason mac gid qp mtu psn = answered f _ (record { from = A; link = l; message = AddLink true true reason mac gid qp k mtu psn }) (λ b. add-is.1) all

  b-goes : IsGoing B f.b
  b-goes = let own : IsOwn B f.b = all.own B in let g = has-group B f.b l own both.at_b in going-of B f.b own.sound g.0 (adding-not-first k l.slot f.b.flow.link add-is.1)

  a-first : is_first_contact f.a.flow.link ≡ false
  a-first = by (is_first_contact f.a.flow.link) refl
    where
      by : (b : Bool) → is_first_contact f.a.flow.link ≡ b → b ≡ false
      by true e = let g = both-in f _ l all both in let t = all.together g.0 g.1 in absurd (true-not-false (is_first_contact f.b.flow.link) (t.first e) (adding-not-first k l.slot f.b.flow.link add-is.1))
      by false e = refl

  a-goes : IsGoing A f.a
  a-goes = let own : IsOwn A f.a = all.own A in let g = has-group A f.a l own both.at_a in going-of A f.a own.sound g.0 a-first

  -- A has made the link before
  pub accepts-again : (reason : ℕ) (mac gid : List ℕ) (qp mtu psn : ℕ) → f.a.flow.link ≡ AddSeen k → is_standing (phases f.b k) ≡ true
      → AreLinked (with_peer A (linked_to (AddSeen k) f.a) f) (Some (record { from = A; link = l; message = AddLink true false reason mac gid qp k mtu psn }))
  accepts-again reason mac gid qp mtu psn e there =
      answered (with_peer A (linked_to (AddSeen k) f.a) f) _ (record { from = A; link = l; message = AddLink true false reason mac gid qp k mtu psn })
      (λ b. and-true (is_adding_on k l.slot f.b.flow.link) (is_accepted k (AddSeen k) f.b.flow.link (phases f.a k) (phases f.b k)) add-is.1 (accepted-now k l.slot (AddSeen k) f.b.flow.link (phases f.a k) (phases f.b) add-is.1 goes.flowing.link there (eq-eqb k k refl)))
      (subst (λ flow. AreLinked (with_peer A (linked_to flow f.a) f) (Some (record { from = B; link = l; message = AddLink false r0 e0 mac0 gid0 qp0 k mtu0 psn0 }))) e all)
    where
      goes : IsGoing B f.b
      goes = b-goes

  -- A makes the link
  module _ (incarnation : ℕ) (free_a : is_standing (phases f.a k) ≡ false) (free_b : is_standing (phases f.b k) ≡ false) where
    abbrev new : Known
    new = record { link = record { group = f.a.group; slot = k; incarnation = incarnation }; phase = Pending }

    abbrev after : Fabric
    after = makes (record { group = f.a.group; slot = k; incarnation = incarnation }) (with_peer A (linked_to (AddSeen k) f.a) f)

    one-at-least : 1 ≤ k
    one-at-least = by (k == 0) refl add-is.0
      where
        by : (b : Bool) → (k == 0) ≡ b → not b ≡ true → 1 ≤ k
        by true e n = absurd (true≢false (sym n))
        by false e n = omega (arith, eqb-false k 0 e)

    made-latest : (p q : Peer) → q.table ≡ put new p.table → AreLatest p f.latest → AreLatest q (put new f.latest)
    made-latest p q is old = record { known = λ j n e. put-link j new f.latest ∙ by j n (k == j) (old.known j n) (sym (put-link j new p.table) ∙ (sym (ap (λ t. link_at j t) is) ∙ e)) }
      where
        by : (j : ℕ) (n : LinkId) (b : Bool) → (link_at j p.table ≡ Some n → link_at j f.latest ≡ Some n) → (if b then Some new.link else link_at j p.table) ≡ Some n → (if b then Some new.link else link_at j f.latest) ≡ Some n
        by j n true old e = e
        by j n false old e = old e

    goes-a : IsGoing A f.a
    goes-a = a-goes

    goes-b : IsGoing B f.b
    goes-b = b-goes

    groups : (f.a.group ≢ 0) × (f.a.group ≡ f.b.group)
    groups = both-in f _ l all both

    own-a : IsOwn A after.a
    own-a = learns-own A new.link f.a (AddSeen k) (all.own A) goes-a groups.0 one-at-least refl free_a refl (λ beside here. here)

    own-b : IsOwn B after.b
    own-b = learns-own B new.link f.b f.b.flow.link (all.own B) goes-b (λ e. groups.0 (groups.1 ∙ e)) one-at-least groups.1 free_b flowing.own (λ beside here. made-fits k (phases f.b) (λ j. phase_at j (put new f.b.table)) beside free_b here f.b.flow.link flowing.link)
      where
        flowing : AreFlowing B (phases f.b) f.b.flow
        flowing = goes-b.flowing

    slot : (j : ℕ) (b : Bool) → slot_fits f.b.flow.link j (phases f.a j) (phases f.b j) ≡ true → slot_fits f.b.flow.link j (if b then Pending else phases f.a j) (if b then Pending else phases f.b j) ≡ true
    slot j true e = refl
    slot j false e = e

    together : AreTogether f.a f.b → AreTogether after.a after.b
    together t = record {
      same = λ j. put-link j new f.a.table ∙ (ap (λ o. if k == j then Some new.link else o) (t.same j) ∙ sym (put-link j new f.b.table));
      slots = λ j. ap (λ p. slot_fits f.b.flow.link j p (phase_at j (put new f.b.table))) (put-phase j new f.a.table) ∙ (ap (λ p. slot_fits f.b.flow.link j (if k == j then Pending else phases f.a j) p) (put-phase j new f.b.table) ∙ slot j (k == j) (t.slots j));
      first = λ e. absurd (true≢false (sym e));
      flows = adding-fits-any k l.slot (AddSeen k) f.b.flow.link (λ j. phase_at j (put new f.a.table)) add-is.1;
    }

    there : is_standing (phase_at k (put new f.b.table)) ≡ true
    there = ap is_standing (put-phase k new f.b.table) ∙ ap (λ b. is_standing (if b then Pending else phases f.b k)) (eq-eqb k k refl)

    pub accepts-new : (reason : ℕ) (mac gid : List ℕ) (qp mtu psn : ℕ) → AreLinked after (Some (record { from = A; link = l; message = AddLink true false reason mac gid qp k mtu psn }))
    accepts-new reason mac gid qp mtu psn = record {
      latest_rises = put-rises 1 new f.latest one-at-least all.latest_rises;
      latest = by-side (λ x. AreLatest (peer x after) (put new f.latest)) (made-latest f.a after.a refl (all.latest A)) (made-latest f.b after.b refl (all.latest B));
      own = by-side (λ x. IsOwn x (peer x after)) own-a own-b;
      together = λ ne same. together (all.together groups.0 groups.1);
      fits = one-fits after (record { from = A; link = l; message = AddLink true false reason mac gid qp k mtu psn }) (λ b. and-true (is_adding_on k l.slot f.b.flow.link) (is_accepted k (AddSeen k) f.b.flow.link (phase_at k (put new f.a.table)) (phase_at k (put new f.b.table))) add-is.1 (accepted-now k l.slot (AddSeen k) f.b.flow.link (phase_at k (put new f.a.table)) (λ j. phase_at j (put new f.b.table)) add-is.1 (fits-b own-b.sound) there (eq-eqb k k refl)));
    }
      where
        fits-b : IsSound B after.b → LinkFits (λ j. phase_at j (put new f.b.table)) f.b.flow.link
        fits-b s = let g = going-of B after.b s (λ e. groups.0 (groups.1 ∙ e)) (adding-not-first k l.slot f.b.flow.link add-is.1) in let fl : AreFlowing B (phases after.b) after.b.flow = g.flowing in fl.link

pub b-has : (f : Fabric) (u : Option Under) (l : LinkId) → StandsAtBoth l f → AreLinked f u → f.b.group ≢ 0
b-has f u l both all = let g = has-group B f.b l (all.own B) both.at_b in g.0

-- B goes on
module _ (f : Fabric) (u : Option Under) (b-group : f.b.group ≢ 0) (all : AreLinked f u) where
  -- B's link flow goes on, with no table changed
  pub turns-b : (flow : LinkFlow) (v : Option Under) → is_first_contact f.b.flow.link ≡ false → ((j : ℕ) → is_confirming j f.b.flow.link ≡ true → is_confirming j flow ≡ true) → is_own_flow B flow ≡ true
      → (LinkFits (phases f.b) f.b.flow.link → LinkFits (phases f.b) flow) → flows_fit f.a.flow.link flow (phases f.a) ≡ true → ((w : Under) → v ≡ Some w → FitsUnder w (with_peer B (linked_to flow f.b) f))
      → AreLinked (with_peer B (linked_to flow f.b) f) v
  turns-b flow v first confirms is_own fits flows under = changed-b (linked_to flow f.b) f u v (record { known = λ j n e. old.known j n e }) own (λ ne same. together (all.together ne same)) under all
    where
      old : AreLatest f.b f.latest
      old = all.latest B

      was : IsOwn B f.b
      was = all.own B

      goes : IsGoing B f.b
      goes = going-of B f.b was.sound b-group first

      flowing : AreFlowing B (phases f.b) f.b.flow
      flowing = goes.flowing

      own : IsOwn B (linked_to flow f.b)
      own = record { rises = was.rises; owned = was.owned; sound = Goes goes.on b-group goes.live (relinked (phases f.b) (phases f.b) (λ j e. e) B f.b.flow flow flowing is_own (fits flowing.link)) }

      slot : (j : ℕ) (pa pb : LinkPhase) → slot_fits f.b.flow.link j pa pb ≡ true → slot_fits flow j pa pb ≡ true
      slot j LiveLink Pending e = confirms j e
      slot j Pending LiveLink e = e
      slot j Unused pb e = refl
      slot j Dead pb e = refl
      slot j Pending Unused e = refl
      slot j Pending Pending e = refl
      slot j Pending Dead e = refl
      slot j LiveLink Unused e = refl
      slot j LiveLink LiveLink e = refl
      slot j LiveLink Dead e = refl

      together : AreTogether f.a f.b → AreTogether f.a (linked_to flow f.b)
      together t = record { same = t.same; slots = λ j. slot j (phases f.a j) (phases f.b j) (t.slots j); first = λ e. absurd (true-not-false (is_first_contact f.b.flow.link) (t.first e) first); flows = flows }

  -- it gives the link up, or is done with a link that it had given up
  pub overs : is_first_contact f.b.flow.link ≡ false → ((j : ℕ) → is_confirming j f.b.flow.link ≡ false) → AreLinked (with_peer B (linked_to NoFlow f.b) f) None
  overs first confirms = turns-b NoFlow None first (λ j e. absurd (true-not-false (is_confirming j f.b.flow.link) e (confirms j))) refl (λ s. tt) refl (none-fits _)

  -- it begins to add a link, on the link of slot `low`
  pub grows : (k low : ℕ) (to : LinkId) (rejected : Bool) (reason : ℕ) (mac gid : List ℕ) (qp mtu psn : ℕ) → f.b.flow.link ≡ NoFlow → 1 ≤ k → is_standing (phases f.b k) ≡ false → phases f.b low ≡ LiveLink → to.slot ≡ low
      → AreLinked (with_peer B (linked_to (AddSent k low) f.b) f) (Some (record { from = B; link = to; message = AddLink false rejected reason mac gid qp k mtu psn }))
  grows k low to rejected reason mac gid qp mtu psn e one free live slot =
      turns-b (AddSent k low) (Some (record { from = B; link = to; message = AddLink false rejected reason mac gid qp k mtu psn })) (ap is_first_contact e) (λ j c. absurd (true-not-false (is_confirming j f.b.flow.link) c (ap (λ flow. is_confirming j flow) e))) refl
      (λ s. (one, standing-live (phases f.b k) free, live)) refl
      (one-fits (with_peer B (linked_to (AddSent k low) f.b) f) _ (asks-add (with_peer B (linked_to (AddSent k low) f.b) f) to k rejected reason mac gid qp mtu psn (ne_eqb k 0 (λ z. omega (arith, z, one))) (ap (λ s. AddSent k s) (sym slot))))

  -- A has accepted the link: B tells its keys
  pub sends-keys : (k on low : ℕ) (to : LinkId) (count : ℕ) (keys : List NewKey) → f.b.flow.link ≡ AddSent k on → is_accepted k f.a.flow.link (AddSent k on) (phases f.a k) (phases f.b k) ≡ true → phases f.b low ≡ LiveLink → to.slot ≡ low
      → AreLinked (with_peer B (linked_to (KeysSent k low) f.b) f) (Some (record { from = B; link = to; message = AddKeys false k count keys }))
  sends-keys k on low to count keys e acc live slot =
      let h = and-both (is_pending (phases f.b k)) (is_seen k f.a.flow.link || not (is_standing (phases f.a k))) acc in
      turns-b (KeysSent k low) (Some (record { from = B; link = to; message = AddKeys false k count keys })) (ap is_first_contact e) (λ j c. absurd (true-not-false (is_confirming j f.b.flow.link) c (ap (λ flow. is_confirming j flow) e))) refl
      (λ s. let was : LinkFits (phases f.b) (AddSent k on) = subst (λ flow. LinkFits (phases f.b) flow) e s in (was.0, pending-is (phases f.b k) h.0, live)) h.1
      (one-fits (with_peer B (linked_to (KeysSent k low) f.b) f) _ (tells-keys (with_peer B (linked_to (KeysSent k low) f.b) f) to k count keys (ap (λ s. KeysSent k s) (sym slot))))

  -- A has told its own: B asks to confirm the link
  pub asks-link : (k on : ℕ) (to : LinkId) (mac gid : List ℕ) (qp j user most : ℕ) → f.b.flow.link ≡ KeysSent k on → f.a.group ≢ 0 → f.a.group ≡ f.b.group → to.slot ≡ k
      → AreLinked (with_peer B (linked_to (LinkSent k) f.b) f) (Some (record { from = B; link = to; message = ConfirmLink false mac gid qp j user most }))
  asks-link k on to mac gid qp j user most e ne same slot =
      turns-b (LinkSent k) (Some (record { from = B; link = to; message = ConfirmLink false mac gid qp j user most })) (ap is_first_contact e) (λ j c. absurd (true-not-false (is_confirming j f.b.flow.link) c (ap (λ flow. is_confirming j flow) e))) refl
      (λ s. let was : LinkFits (phases f.b) (KeysSent k on) = subst (λ flow. LinkFits (phases f.b) flow) e s in was.1)
      (weaker (is_seen k f.a.flow.link) (phases f.a k) seen)
      (one-fits (with_peer B (linked_to (LinkSent k) f.b) f) (record { from = B; link = to; message = ConfirmLink false mac gid qp j user most }) (λ both. subst (λ s. (is_confirming s (LinkSent k) && ((is_first_contact f.a.flow.link || is_seen s f.a.flow.link) && (is_pending (phases f.a s) && is_pending (phases f.b s)))) ≡ true) (sym slot)
      (and-true (k == k) _ (eq-eqb k k refl) (let st = stands-at 1 to f.a.table (let own : IsOwn A f.a = all.own A in own.rises) both.at_a in let is = is-seen (is_standing (phases f.a k)) seen (ap (λ i. is_standing (phases f.a i)) (sym slot) ∙ st.2) in
      and-true (is_first_contact f.a.flow.link || is_seen k f.a.flow.link) _ (or-true (is_first_contact f.a.flow.link) (is_seen k f.a.flow.link) is) (and-true (is_pending (phases f.a k)) (is_pending (phases f.b k)) (a-pending is) b-pending)))))
    where
      seen : (is_seen k f.a.flow.link || not (is_standing (phases f.a k))) ≡ true
      seen = let t = all.together ne same in ap (λ flow. flows_fit f.a.flow.link flow (phases f.a)) (sym e) ∙ t.flows

      is-seen : (b : Bool) → (is_seen k f.a.flow.link || not b) ≡ true → b ≡ true → is_seen k f.a.flow.link ≡ true
      is-seen true s st = by (is_seen k f.a.flow.link) s
        where
          by : (c : Bool) → (c || false) ≡ true → c ≡ true
          by true s = refl
          by false s = s
      is-seen false s st = absurd (true≢false (sym st))

      weaker : (b : Bool) (p : LinkPhase) → (b || not (is_standing p)) ≡ true → (b || not (is_pending p)) ≡ true
      weaker true p s = refl
      weaker false Unused s = refl
      weaker false Pending s = s
      weaker false LiveLink s = refl
      weaker false Dead s = refl

      seen-pending : (flow : LinkFlow) → LinkFits (phases f.a) flow → is_seen k flow ≡ true → is_pending (phases f.a k) ≡ true
      seen-pending (AddSeen i) s is = ap (λ n. is_pending (phases f.a n)) (sym (eqb-true i k is)) ∙ ap is_pending s
      seen-pending NoFlow s is = absurd (true≢false (sym is))
      seen-pending FirstContact s is = absurd (true≢false (sym is))
      seen-pending (AddSent i on) s is = absurd (true≢false (sym is))
      seen-pending (KeysSent i on) s is = absurd (true≢false (sym is))
      seen-pending (LinkSent i) s is = absurd (true≢false (sym is))
      seen-pending (Abandoned on) s is = absurd (true≢false (sym is))

      seen-not-first : (flow : LinkFlow) → is_seen k flow ≡ true → is_first_contact flow ≡ false
      seen-not-first (AddSeen i) is = refl
      seen-not-first NoFlow is = refl
      seen-not-first FirstContact is = absurd (true≢false (sym is))
      seen-not-first (AddSent i on) is = refl
      seen-not-first (KeysSent i on) is = refl
      seen-not-first (LinkSent i) is = refl
      seen-not-first (Abandoned on) is = refl

      a-pending : is_seen k f.a.flow.link ≡ true → is_pending (phases f.a k) ≡ true
      a-pending is = let own : IsOwn A f.a = all.own A in let g = going-of A f.a own.sound ne (seen-not-first f.a.flow.link is) in let fl : AreFlowing A (phases f.a) f.a.flow = g.flowing in seen-pending f.a.flow.link fl.link is

      b-pending : is_pending (phases f.b k) ≡ true
      b-pending = let own : IsOwn B f.b = all.own B in let g = going-of B f.b own.sound b-group (ap is_first_contact e) in let fl : AreFlowing B (phases f.b) f.b.flow = g.flowing in
          let was : LinkFits (phases f.b) (KeysSent k on) = subst (λ flow. LinkFits (phases f.b) flow) e fl.link in ap is_pending was.1

-- the keys land at A, which replies, with its own or without
pub replies-keys : (f : Fabric) (l : LinkId) (k c0 count : ℕ) (keys0 keys : List NewKey) → StandsAtBoth l f → AreLinked f (Some (record { from = B; link = l; message = AddKeys false k c0 keys0 })) → AreLinked f (Some (record { from = A; link = l; message = AddKeys true k count keys }))
replies-keys f l k c0 count keys0 keys both all = answered f _ (record { from = A; link = l; message = AddKeys true k count keys }) (λ b. all.fits (record { from = B; link = l; message = AddKeys false k c0 keys0 }) refl both) all

-- a side's pending link is live
abbrev pub lives : ℕ → Peer → Peer
lives k p = record (linked_to NoFlow p) { table = set_phase k LiveLink p.table }

pub lives-own : (x : Side) (p : Peer) (l : LinkId) → stands l p.table ≡ true → IsOwn x p → IsOwn x (lives l.slot p)
lives-own x p l st own = record {
  rises = map-rises (with_phase l.slot LiveLink) (phase-link l.slot LiveLink) 1 p.table own.rises;
  owned = λ ne. map-of (with_phase l.slot LiveLink) (phase-link l.slot LiveLink) p.group p.table (own.owned ne);
  sound = Goes l.slot group.0 here (flowing own.sound);
}
  where
    group : (p.group ≢ 0) × (l.group ≡ p.group)
    group = has-group x p l own st

    here : phase_at l.slot (set_phase l.slot LiveLink p.table) ≡ LiveLink
    here = let s = stands-at 1 l p.table own.rises st in set-here l.slot LiveLink p.table s.2

    stays : (j : ℕ) → phases p j ≡ LiveLink → phase_at j (set_phase l.slot LiveLink p.table) ≡ LiveLink
    stays j e = by (j == l.slot) refl
      where
        by : (b : Bool) → (j == l.slot) ≡ b → phase_at j (set_phase l.slot LiveLink p.table) ≡ LiveLink
        by true f = ap (λ i. phase_at i (set_phase l.slot LiveLink p.table)) (eqb-true j l.slot f) ∙ here
        by false f = set-beside j l.slot LiveLink p.table f ∙ e

    from-first : (flow : Flow) → flow ≡ record no_flow { link = FirstContact } → AreFlowing x (λ j. phase_at j (set_phase l.slot LiveLink p.table)) (record flow { link = NoFlow })
    from-first flow e = subst (λ (fl : Flow). AreFlowing x (λ j. phase_at j (set_phase l.slot LiveLink p.table)) (record fl { link = NoFlow })) (sym e) (record { own = refl; link = tt; key = λ out. absurd (true≢false (sym out)); tests = tt; drops = tt })

    flowing : IsSound x p → AreFlowing x (λ j. phase_at j (set_phase l.slot LiveLink p.table)) (record p.flow { link = NoFlow })
    flowing (HasNone g f s) = absurd (group.0 g)
    flowing (Begins g f t) = from-first p.flow f
    flowing (Confirms link g f t) = from-first p.flow f
    flowing (Goes k g live f) = relinked (phases p) (λ j. phase_at j (set_phase l.slot LiveLink p.table)) stays x p.flow NoFlow f refl tt

lives-latest : (k : ℕ) (p : Peer) (latest : List Known) → AreLatest p latest → AreLatest (lives k p) latest
lives-latest k p latest old = record { known = λ j n e. old.known j n (sym (set-link j k LiveLink p.table) ∙ e) }

-- the phases then
abbrev pub lived : LinkId → Peer → ℕ → LinkPhase
lived l p j = phase_at j (set_phase l.slot LiveLink p.table)

-- in first contact no link is live
pub first-not-live : (x : Side) (p : Peer) (k : ℕ) → IsSound x p → is_first_contact p.flow.link ≡ true → phases p k ≡ LiveLink → ⊥
first-not-live x p k (HasNone g f s) first live = true-not-false (is_first_contact p.flow.link) first (ap (λ (f : Flow). is_first_contact f.link) f)
first-not-live x p k (Begins g f t) first live = true≢false (sym (ap is_live live) ∙ ap (λ table. is_live (phase_at k table)) t)
first-not-live x p k (Confirms link g f t) first live = true≢false (sym (ap is_live live) ∙ (ap (λ table. is_live (phase_at k table)) t ∙ by (link.slot == k)))
  where
    by : (b : Bool) → is_live (phase_in (cond b (Some (record { link = link; phase = Pending })) None)) ≡ false
    by true = refl
    by false = refl
first-not-live x p k (Goes j g is f) first live = by p.flow.link f.link first
  where
    by : (flow : LinkFlow) → LinkFits (phases p) flow → is_first_contact flow ≡ true → ⊥
    by FirstContact s e = s
    by NoFlow s e = true≢false (sym e)
    by (AddSent i on) s e = true≢false (sym e)
    by (KeysSent i on) s e = true≢false (sym e)
    by (LinkSent i) s e = true≢false (sym e)
    by (Abandoned on) s e = true≢false (sym e)
    by (AddSeen i) s e = true≢false (sym e)

-- and but one is known
pub first-alone : (x : Side) (p : Peer) (l : LinkId) → IsSound x p → is_first_contact p.flow.link ≡ true → link_at l.slot p.table ≡ Some l → (j : ℕ) → (j == l.slot) ≡ false → is_standing (phases p j) ≡ false
first-alone x p l (HasNone g f s) first e j ne = absurd (true-not-false (is_first_contact p.flow.link) first (ap (λ (f : Flow). is_first_contact f.link) f))
first-alone x p l (Begins g f t) first e j ne = ap (λ table. is_standing (phase_at j table)) t
first-alone x p l (Confirms link g f t) first e j ne = ap (λ table. is_standing (phase_at j table)) t ∙ by (link.slot == j) refl
  where
    same : (b : Bool) → (link.slot == l.slot) ≡ b → option_map (λ (n : Known). n.link) (cond b (Some (record { link = link; phase = Pending })) None) ≡ Some l → link.slot ≡ l.slot
    same true g e = eqb-true link.slot l.slot g
    same false g e = absurd (none-is l e)

    by : (b : Bool) → (link.slot == j) ≡ b → is_standing (phase_in (cond b (Some (record { link = link; phase = Pending })) None)) ≡ false
    by true g = absurd (true-not-false (j == l.slot) (eq-eqb j l.slot (sym (eqb-true link.slot j g) ∙ same (link.slot == l.slot) refl (sym (ap (λ table. link_at l.slot table) t) ∙ e))) ne)
    by false g = refl
first-alone x p l (Goes k g is f) first e j ne = by p.flow.link f.link first
  where
    by : (flow : LinkFlow) → LinkFits (phases p) flow → is_first_contact flow ≡ true → is_standing (phases p j) ≡ false
    by FirstContact s e = absurd s
    by NoFlow s e = absurd (true≢false (sym e))
    by (AddSent i on) s e = absurd (true≢false (sym e))
    by (KeysSent i on) s e = absurd (true≢false (sym e))
    by (LinkSent i) s e = absurd (true≢false (sym e))
    by (Abandoned on) s e = absurd (true≢false (sym e))
    by (AddSeen i) s e = absurd (true≢false (sym e))

-- a CONFIRM LINK lands at A
module _ (f : Fabric) (l : LinkId) (mac0 gid0 : List ℕ) (qp0 j0 user0 most0 : ℕ) (both : StandsAtBoth l f) (all : AreLinked f (Some (record { from = B; link = l; message = ConfirmLink false mac0 gid0 qp0 j0 user0 most0 }))) where
  pub lives-a : (mac gid : List ℕ) (qp i user most : ℕ) → AreLinked (with_peer A (lives l.slot f.a) f) (Some (record { from = A; link = l; message = ConfirmLink true mac gid qp i user most }))
  lives-a mac gid qp i user most =
      changed-a (lives l.slot f.a) f _ (Some (record { from = A; link = l; message = ConfirmLink true mac gid qp i user most })) (lives-latest l.slot f.a f.latest (all.latest A)) (lives-own A f.a l both.at_a (all.own A)) (λ ne same. together (all.together ne same))
      (one-fits (with_peer A (lives l.slot f.a) f) (record { from = A; link = l; message = ConfirmLink true mac gid qp i user most }) (λ b. and-true (is_confirming l.slot f.b.flow.link) _ is.0 (and-true (is_live (lived l f.a l.slot)) (is_pending (phases f.b l.slot)) (ap is_live here) pending))) all
    where
      is : (is_confirming l.slot f.b.flow.link ≡ true) × (((is_first_contact f.a.flow.link || is_seen l.slot f.a.flow.link) && (is_pending (phases f.a l.slot) && is_pending (phases f.b l.slot))) ≡ true)
      is = and-both (is_confirming l.slot f.b.flow.link) _ (all.fits (record { from = B; link = l; message = ConfirmLink false mac0 gid0 qp0 j0 user0 most0 }) refl both)

      pending : is_pending (phases f.b l.slot) ≡ true
      pending = let h = and-both (is_first_contact f.a.flow.link || is_seen l.slot f.a.flow.link) _ is.1 in let p = and-both (is_pending (phases f.a l.slot)) (is_pending (phases f.b l.slot)) h.1 in p.1

      here : lived l f.a l.slot ≡ LiveLink
      here = let own : IsOwn A f.a = all.own A in let s = stands-at 1 l f.a.table own.rises both.at_a in set-here l.slot LiveLink f.a.table s.2

      flows : (flow : LinkFlow) → is_confirming l.slot flow ≡ true → flows_fit NoFlow flow (lived l f.a) ≡ true
      flows FirstContact e = refl
      flows (LinkSent j) e = ap (λ i. not (is_pending (lived l f.a i))) (eqb-true j l.slot e) ∙ ap (λ p. not (is_pending p)) here
      flows NoFlow e = refl
      flows (AddSent j on) e = refl
      flows (KeysSent j on) e = absurd (true≢false (sym e))
      flows (Abandoned on) e = refl
      flows (AddSeen j) e = refl

      together : AreTogether f.a f.b → AreTogether (lives l.slot f.a) f.b
      together t = record {
        same = λ j. set-link j l.slot LiveLink f.a.table ∙ t.same j;
        slots = λ j. slot j (j == l.slot) refl (t.slots j);
        first = λ e. absurd (true≢false (sym e));
        flows = flows f.b.flow.link is.0;
      }
        where
          confirmed : (p : LinkPhase) → is_pending p ≡ true → slot_fits f.b.flow.link l.slot LiveLink p ≡ true
          confirmed Pending e = is.0
          confirmed Unused e = refl
          confirmed LiveLink e = refl
          confirmed Dead e = refl

          slot : (j : ℕ) (b : Bool) → (j == l.slot) ≡ b → slot_fits f.b.flow.link j (phases f.a j) (phases f.b j) ≡ true → slot_fits f.b.flow.link j (lived l f.a j) (phases f.b j) ≡ true
          slot j true e s = subst (λ i. slot_fits f.b.flow.link i (lived l f.a i) (phases f.b i) ≡ true) (sym (eqb-true j l.slot e)) (ap (λ p. slot_fits f.b.flow.link l.slot p (phases f.b l.slot)) here ∙ confirmed (phases f.b l.slot) pending)
          slot j false e s = ap (λ p. slot_fits f.b.flow.link j p (phases f.b j)) (set-beside j l.slot LiveLink f.a.table e) ∙ s

-- its reply lands at B
module _ (f : Fabric) (l : LinkId) (mac0 gid0 : List ℕ) (qp0 j0 user0 most0 : ℕ) (both : StandsAtBoth l f) (all : AreLinked f (Some (record { from = A; link = l; message = ConfirmLink true mac0 gid0 qp0 j0 user0 most0 }))) where
  pub lives-b : AreLinked (with_peer B (lives l.slot f.b) f) None
  lives-b = changed-b (lives l.slot f.b) f _ None (lives-latest l.slot f.b f.latest (all.latest B)) own (λ ne same. together (all.together ne same)) (none-fits _) all
    where
      was : IsOwn B f.b
      was = all.own B

      own : IsOwn B (lives l.slot f.b)
      own = lives-own B f.b l both.at_b was

      is : (is_confirming l.slot f.b.flow.link ≡ true) × ((is_live (phases f.a l.slot) && is_pending (phases f.b l.slot)) ≡ true)
      is = and-both (is_confirming l.slot f.b.flow.link) _ (all.fits (record { from = A; link = l; message = ConfirmLink true mac0 gid0 qp0 j0 user0 most0 }) refl both)

      at : (1 ≤ l.slot) × (link_at l.slot f.b.table ≡ Some l) × (is_standing (phase_at l.slot f.b.table) ≡ true)
      at = stands-at 1 l f.b.table was.rises both.at_b

      -- no other link is pending there and live at A
      others : (flow : LinkFlow) → is_confirming l.slot flow ≡ true → f.b.flow.link ≡ flow → (j : ℕ) → (j == l.slot) ≡ false → slot_fits flow j (phases f.a j) (phases f.b j) ≡ true → slot_fits NoFlow j (phases f.a j) (phases f.b j) ≡ true
      others FirstContact c e j ne s = gone-b NoFlow j (phases f.a j) (phases f.b j) (first-alone B f.b l was.sound (ap is_first_contact e) at.1 j ne)
      others (LinkSent i) c e j ne s = by-confirming NoFlow (LinkSent i) j (phases f.a j) (phases f.b j) (other (i == j) refl) ∙ s
        where
          other : (b : Bool) → (i == j) ≡ b → false ≡ b
          other true f = absurd (true-not-false (j == l.slot) (eq-eqb j l.slot (sym (eqb-true i j f) ∙ eqb-true i l.slot c)) ne)
          other false f = refl
      others NoFlow c e j ne s = s
      others (AddSent i on) c e j ne s = by-confirming NoFlow (AddSent i on) j (phases f.a j) (phases f.b j) refl ∙ s
      others (KeysSent i on) c e j ne s = by-confirming NoFlow (KeysSent i on) j (phases f.a j) (phases f.b j) refl ∙ s
      others (Abandoned on) c e j ne s = by-confirming NoFlow (Abandoned on) j (phases f.a j) (phases f.b j) refl ∙ s
      others (AddSeen i) c e j ne s = by-confirming NoFlow (AddSeen i) j (phases f.a j) (phases f.b j) refl ∙ s

      together : AreTogether f.a f.b → AreTogether f.a (lives l.slot f.b)
      together t = record {
        same = λ j. t.same j ∙ sym (set-link j l.slot LiveLink f.b.table);
        slots = λ j. slot j (j == l.slot) refl (t.slots j);
        first = λ e. absurd (first-not-live A f.a l.slot (let own_a : IsOwn A f.a = all.own A in own_a.sound) e (live-is (phases f.a l.slot) (let h = and-both (is_live (phases f.a l.slot)) (is_pending (phases f.b l.slot)) is.1 in h.0)));
        flows = refl;
      }
        where
          here : lived l f.b l.slot ≡ LiveLink
          here = set-here l.slot LiveLink f.b.table at.2

          lively : (p : LinkPhase) → is_live p ≡ true → slot_fits NoFlow l.slot p LiveLink ≡ true
          lively LiveLink e = refl
          lively Unused e = refl
          lively Pending e = absurd (true≢false (sym e))
          lively Dead e = refl

          slot : (j : ℕ) (b : Bool) → (j == l.slot) ≡ b → slot_fits f.b.flow.link j (phases f.a j) (phases f.b j) ≡ true → slot_fits NoFlow j (phases f.a j) (lived l f.b j) ≡ true
          slot j true e s = subst (λ i. slot_fits NoFlow i (phases f.a i) (lived l f.b i) ≡ true) (sym (eqb-true j l.slot e)) (ap (λ p. slot_fits NoFlow l.slot (phases f.a l.slot) p) here ∙ lively (phases f.a l.slot) (let h = and-both (is_live (phases f.a l.slot)) (is_pending (phases f.b l.slot)) is.1 in h.0))
          slot j false e s = ap (λ p. slot_fits NoFlow j (phases f.a j) p) (set-beside j l.slot LiveLink f.b.table e) ∙ others f.b.flow.link is.0 refl j e s
