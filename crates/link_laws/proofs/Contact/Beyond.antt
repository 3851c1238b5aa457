-- Once B has offered in later contact, each side that is in that group is beyond first contact, after each kind of entry.
use Rattle.std.proofs.Common.{Bool, List, None, Some, [], ap, arith, false, if◌then◌else◌, inl, inr, refl, subst, sym, true, true≢false, ℕ, ◌+◌, ◌==◌, ◌||◌, ◌∙◌, ◌∷◌, ◌≡◌, ◌≢◌, ◌≤◌, ◌⊎◌}
use Rattle.smc_num.specs.declared.LinkPhase.TheVariants.{Live as LiveLink}
use Rattle.std.specs.Prelude.{Option, option_map}
use Rattle.history_laws.specs.Words.{A, B, Dead, Entry, Fabric, Flow, Known, LinkFlow, LinkId, LinkPhase, Offered, Peer, Pending, Side, Unused, fabric, flow_of, group_of, is_first_contact, is_live, is_pending, is_standing, link_at, made_on, offered, peer, phase_at, put, table_of}
use Rattle.history_laws.proofs.Basics.{none-is, some-is}
use Rattle.link_laws.specs.Linked.{AreLinked, AreTogether, Begins as BeginsSound, Confirms, Goes, HasNone, IsOwn, IsSound, Under, slot_fits}
use Rattle.link_laws.specs.Offered.{AreOffered}
use Rattle.link_laws.specs.Contact.{AreCounted, Contact, IsBeyond, IsOfferedFirst}
use Rattle.link_laws.proofs.Sound.{at-stands, has-group}
use Rattle.link_laws.proofs.Contact.Changes.{Begins, IsLaterOffer, IsPlain, Joins, Kind, Moves, Plain, Readies}
use Rattle.link_laws.proofs.Contact.Offers.{IsFirstOffer, joined-next, known-made, offer-after, offered-row}

-- a side in first contact has a group
pub first-has-group : (x : Side) (p : Peer) → IsSound x p → is_first_contact p.flow.link ≡ true → p.group ≢ 0
first-has-group x p (HasNone g f n) first = absurd (true≢false (sym first ∙ ap (λ (f : Flow). is_first_contact f.link) f))
first-has-group x p (BeginsSound g f t) first = g
first-has-group x p (Confirms link g f t) first = g
first-has-group x p (Goes k g l f) first = g

pending-stands : (p : LinkPhase) → is_pending p ≡ true → is_standing p ≡ true
pending-stands p e = ap (λ b. b || is_live p) e

-- what is pending is not live, and does not stand against what is live at B
pending-not-live : (p : LinkPhase) → is_pending p ≡ true → p ≡ LiveLink → ⊥
pending-not-live p e l = true≢false (sym e ∙ ap is_pending l)

pending-against : (flow : LinkFlow) (k : ℕ) (p q : LinkPhase) → is_pending p ≡ true → q ≡ LiveLink → slot_fits flow k p q ≡ true → ⊥
pending-against flow k Pending q e l fits = true≢false (sym fits ∙ ap (λ r. slot_fits flow k Pending r) l)
pending-against flow k Unused q e l fits = true≢false (sym e)
pending-against flow k LiveLink q e l fits = true≢false (sym e)
pending-against flow k Dead q e l fits = true≢false (sym e)

module _ (past : List Entry) (under : Option Under) (e : Entry) (linked : AreLinked (fabric past) under) (offers : AreOffered past) (counted : AreCounted past) (contact : Contact past under) (beyond : IsBeyond past) where
  -- A is in first contact of B's group only with B
  a-with-b : is_first_contact (flow_of A past).link ≡ true → group_of A past ≡ group_of B past → is_first_contact (flow_of B past).link ≡ true
  a-with-b first same =
      let own : IsOwn A (peer A (fabric past)) = linked.own A in
      let t : AreTogether (Fabric.a (fabric past)) (Fabric.b (fabric past)) = linked.together (first-has-group A (peer A (fabric past)) own.sound first) same in
      t.first first

  -- a link that is live at B, of its group, is not pending at A
  not-pending-at-a : (l : LinkId) → link_at l.slot (table_of A past) ≡ Some l → is_pending (phase_at l.slot (table_of A past)) ≡ true → group_of B past ≡ l.group → phase_at l.slot (table_of B past) ≡ LiveLink → ⊥
  not-pending-at-a l at p group live =
      let g = has-group A (peer A (fabric past)) l (linked.own A) (at-stands l (table_of A past) at (pending-stands (phase_at l.slot (table_of A past)) p)) in
      let t : AreTogether (Fabric.a (fabric past)) (Fabric.b (fabric past)) = linked.together g.0 (sym g.1 ∙ sym group) in
      pending-against (flow_of B past).link l.slot (phase_at l.slot (table_of A past)) (phase_at l.slot (table_of B past)) p live (t.slots l.slot)

  -- of an offer that was made before
  old-first : Kind past under e → (x : Side) (s : ℕ) (o : Offered) → offered B s past ≡ Some o → o.offer.first ≡ false → group_of x (e ∷ past) ≡ o.link.group → is_first_contact (flow_of x (e ∷ past)).link ≡ false
  old-first (Plain k) x s o h later group = by (is_first_contact (flow_of x (e ∷ past)).link) refl
    where
      moves : Moves past under e
      moves = k.moves

      by : (b : Bool) → is_first_contact (flow_of x (e ∷ past)).link ≡ b → b ≡ false
      by false q = refl
      by true q = let was = moves.first x q in sym was.0 ∙ beyond.first x s o h later (sym was.1 ∙ group)
  old-first (Begins t p k) A s o h later group = ap (λ (f : Fabric). is_first_contact f.a.flow.link) k.changed ∙ beyond.first A s o h later (ap (λ (f : Fabric). f.a.group) (sym k.changed) ∙ group)
  old-first (Begins t p k) B s o h later group = absurd (omega (arith, offers.begun B s o h, sym group ∙ ap (λ (f : Fabric). f.b.group) k.changed, k.group))
  old-first (Joins t m p k) A s o h later group =
      let row = offered-row past under t m contact k.accept k.accept_first in
      let it : IsOfferedFirst t row.0 past = row.1.0 in
      let l : p.link ≡ Offered.link row.0 = joined-next past under e linked offers counted contact t m p k row.0 it in
      let same : group_of B past ≡ o.link.group = it.group ∙ ap (λ (l : LinkId). l.group) (sym l) ∙ ap (λ (f : Fabric). f.a.group) (sym k.changed) ∙ group in
      absurd (true≢false (ap (λ (f : Flow). is_first_contact f.link) (sym it.flow) ∙ beyond.first B s o h later same))
  old-first (Joins t m p k) B s o h later group = ap (λ (f : Fabric). is_first_contact f.b.flow.link) k.changed ∙ beyond.first B s o h later (ap (λ (f : Fabric). f.b.group) (sym k.changed) ∙ group)
  old-first (Readies t m k) x s o h later group = ap (λ (f : Fabric). is_first_contact (peer x f).flow.link) k.changed ∙ beyond.first x s o h later (ap (λ (f : Fabric). (peer x f).group) (sym k.changed) ∙ group)

  -- the table of a side that knows one link
  alone : (new : Known) (ks : List Known) (l : LinkId) → ks ≡ new ∷ [] → link_at l.slot ks ≡ Some l → new.link ≡ l
  alone new ks l e h = by (new.link.slot == l.slot) (sym (ap (λ t. link_at l.slot t) e) ∙ h)
    where
      by : (b : Bool) → option_map (λ (k : Known). k.link) (if b then Some new else None) ≡ Some l → new.link ≡ l
      by true q = some-is new.link l q
      by false q = absurd (none-is l q)

  old-pending : Kind past under e → (x : Side) (s : ℕ) (o : Offered) → offered B s past ≡ Some o → o.offer.first ≡ false → link_at o.link.slot (table_of x (e ∷ past)) ≡ Some o.link → is_pending (phase_at o.link.slot (table_of x (e ∷ past))) ≡ false
  old-pending (Plain k) x s o h later at = by (is_pending (phase_at o.link.slot (table_of x (e ∷ past)))) refl
    where
      moves : Moves past under e
      moves = k.moves

      by : (b : Bool) → is_pending (phase_at o.link.slot (table_of x (e ∷ past))) ≡ b → b ≡ false
      by false q = refl
      by true q = let was = moves.pending x o.link (offers.made s o h later) at q in sym was.1 ∙ beyond.pending x s o h later was.0
  old-pending (Begins t p k) A s o h later at = ap (λ (f : Fabric). is_pending (phase_at o.link.slot f.a.table)) k.changed ∙ beyond.pending A s o h later (ap (λ (f : Fabric). link_at o.link.slot f.a.table) (sym k.changed) ∙ at)
  old-pending (Begins t p k) B s o h later at = absurd (none-is o.link (ap (λ (f : Fabric). link_at o.link.slot f.b.table) (sym k.changed) ∙ at))
  old-pending (Joins t m p k) x s o h later at =
      let row = offered-row past under t m contact k.accept k.accept_first in
      let it : IsOfferedFirst t row.0 past = row.1.0 in
      let l : p.link ≡ Offered.link row.0 = joined-next past under e linked offers counted contact t m p k row.0 it in
      absurd (new it l (is x it at))
    where
      is : (x : Side) → {o1 : Offered} → IsOfferedFirst t o1 past → link_at o.link.slot (table_of x (e ∷ past)) ≡ Some o.link → p.link ≡ o.link
      is A it at = alone (record { link = p.link; phase = Pending }) (table_of A (e ∷ past)) o.link (ap (λ (f : Fabric). f.a.table) k.changed) at
      is B it at = alone (record { link = p.link; phase = Pending }) (table_of B (e ∷ past)) o.link (ap (λ (f : Fabric). f.b.table) k.changed ∙ ap (λ ks. put (record { link = p.link; phase = Pending }) ks) it.table) at

      new : {o1 : Offered} → IsOfferedFirst t o1 past → p.link ≡ o1.link → p.link ≡ o.link → ⊥
      new it l same =
          let next : LinkId.incarnation p.link ≡ made_on (LinkId.slot p.link) (fabric past) + 1 = subst (λ (n : LinkId). n.incarnation ≡ made_on n.slot (fabric past) + 1) (sym l) it.next in
          let made : LinkId.incarnation p.link ≤ made_on (LinkId.slot p.link) (fabric past) = subst (λ (n : LinkId). n.incarnation ≤ made_on n.slot (fabric past)) (sym same) (offers.made s o h later) in
          omega (arith, next, made)
  old-pending (Readies t m k) x s o h later at = ap (λ (f : Fabric). is_pending (phase_at o.link.slot (peer x f).table)) k.changed ∙ beyond.pending x s o h later (ap (λ (f : Fabric). link_at o.link.slot (peer x f).table) (sym k.changed) ∙ at)

  -- of an offer that is made with the entry
  new-first : (k : IsPlain past under e) (x : Side) (o : Offered) → IsLaterOffer B o past → group_of x (e ∷ past) ≡ o.link.group → is_first_contact (flow_of x (e ∷ past)).link ≡ false
  new-first k x o new group = by (is_first_contact (flow_of x (e ∷ past)).link) refl
    where
      moves : Moves past under e
      moves = k.moves

      at : (x : Side) → is_first_contact (flow_of x past).link ≡ true → group_of x past ≡ o.link.group → is_first_contact (flow_of B past).link ≡ true
      at A first group = a-with-b first (group ∙ sym (new.group refl))
      at B first group = first

      by : (b : Bool) → is_first_contact (flow_of x (e ∷ past)).link ≡ b → b ≡ false
      by false q = refl
      by true q = let was = moves.first x q in sym (at x was.0 (sym was.1 ∙ group)) ∙ new.beyond refl

  new-pending : (k : IsPlain past under e) (x : Side) (o : Offered) → IsLaterOffer B o past → link_at o.link.slot (table_of x (e ∷ past)) ≡ Some o.link → is_pending (phase_at o.link.slot (table_of x (e ∷ past))) ≡ false
  new-pending k x o new at = by (is_pending (phase_at o.link.slot (table_of x (e ∷ past)))) refl
    where
      moves : Moves past under e
      moves = k.moves

      no_way : (x : Side) → link_at o.link.slot (table_of x past) ≡ Some o.link → is_pending (phase_at o.link.slot (table_of x past)) ≡ true → ⊥
      no_way A at p = not-pending-at-a o.link at p (new.group refl) (new.live refl)
      no_way B at p = pending-not-live (phase_at o.link.slot (table_of B past)) p (new.live refl)

      by : (b : Bool) → is_pending (phase_at o.link.slot (table_of x (e ∷ past))) ≡ b → b ≡ false
      by false q = refl
      by true q = let was = moves.pending x o.link (omega (arith, known-made past under e linked offers counted contact o.link (new.known refl))) at q in absurd (no_way x was.0 was.1)

  -- after the entry
  pub beyond-after : Kind past under e → IsBeyond (e ∷ past)
  beyond-after kind = record {
    first = λ x s o h later group. first x s o later group (offer-after past under e linked offers counted contact kind B s o h);
    pending = λ x s o h later at. pending x s o later at (offer-after past under e linked offers counted contact kind B s o h);
  }
    where
      first : (x : Side) (s : ℕ) (o : Offered) → o.offer.first ≡ false → group_of x (e ∷ past) ≡ o.link.group → (offered B s past ≡ Some o) ⊎ (IsLaterOffer B o past × IsPlain past under e) ⊎ IsFirstOffer past under e linked offers counted contact o → is_first_contact (flow_of x (e ∷ past)).link ≡ false
      first x s o later group (inl h) = old-first kind x s o h later group
      first x s o later group (inr (inl h)) = new-first h.1 x o h.0 group
      first x s o later group (inr (inr h)) = absurd (true≢false (sym h.first ∙ later))

      pending : (x : Side) (s : ℕ) (o : Offered) → o.offer.first ≡ false → link_at o.link.slot (table_of x (e ∷ past)) ≡ Some o.link → (offered B s past ≡ Some o) ⊎ (IsLaterOffer B o past × IsPlain past under e) ⊎ IsFirstOffer past under e linked offers counted contact o → is_pending (phase_at o.link.slot (table_of x (e ∷ past))) ≡ false
      pending x s o later at (inl h) = old-pending kind x s o h later at
      pending x s o later at (inr (inl h)) = new-pending h.1 x o h.0 at
      pending x s o later at (inr (inr h)) = absurd (true≢false (sym h.first ∙ later))
