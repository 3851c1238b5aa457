-- Entries that change one side alone: by its flows, or by the loss of a link.
use Rattle.std.proofs.Common.{Bool, List, None, Some, [], ap, arith, cond, eq-eqb, eqb-true, false, if◌then◌else◌, inl, inr, refl, subst, sym, true, true≢false, ℕ, ◌==◌, ◌||◌, ◌∙◌, ◌∷◌, ◌≡◌, ◌⊎◌}
use Rattle.pipe_model.specs.Flows.{LinkSent}
use Rattle.std.specs.Prelude.{Option, option_map, unwrap_or}
use Rattle.pipe_model.specs.Fabric.{loses}
use Rattle.history_laws.specs.Words.{A, Abandoned, AddSeen, AddSent, B, Dead, Entry, Fabric, FirstContact, Flow, KeysSent, Known, LinkFlow, LinkId, LinkPhase, NoFlow, Peer, Pending, Side, Unused, all_dead, at_slot, begins_drop, dead, ends_group, fabric, flow_of, goes_on, group_of, is_dropping, is_first_contact, is_live, is_pending, is_standing, link_at, link_or_none, lost_link, lowest_live, made_on, no_flow, peer, phase_at, reports, set_phase, table_of, with_flow, with_peer, without_slot}
use Rattle.link_laws.proofs.Sound.{set-beside, set-dead, set-link}
use Rattle.link_laws.specs.Linked.{Under, under_in}
use Rattle.link_laws.proofs.Contact.Changes.{Calm, IsStarting, Moves}
use Rattle.link_laws.specs.Contact.{IsConfirming}

-- a side in first contact and nothing else, with no link or a pending one
pub record IsStartingPeer (p : Peer) : Type 0 where
  pub flow : p.flow ≡ record no_flow { link = FirstContact }
  pub table : (p.table ≡ []) ⊎ ((link : LinkId) × (p.table ≡ record { link = link; phase = Pending } ∷ []))

-- what may become of a side that does not come into a group
pub record PeerMoves (p q : Peer) : Type 0 where
  pub group : (q.group ≡ p.group) ⊎ (q.group ≡ 0)
  pub first : is_first_contact q.flow.link ≡ true → (is_first_contact p.flow.link ≡ true) × (q.group ≡ p.group)
  pub pending : (l : LinkId) → link_at l.slot q.table ≡ Some l → is_pending (phase_at l.slot q.table) ≡ true → (link_at l.slot p.table ≡ Some l) × (is_pending (phase_at l.slot p.table) ≡ true)

pub peer-flows : (p : Peer) (flow : Flow) (told : List LinkId) → (is_first_contact flow.link ≡ true → is_first_contact p.flow.link ≡ true) → PeerMoves p (record p { flow = flow; told = told })
peer-flows p flow told f = record { group = inl refl; first = λ h. (f h, refl); pending = λ l a b. (a, b) }

-- the flow of links after a loss is that of first contact only where it was
lost-first : (k c : ℕ) (flow : LinkFlow) → is_first_contact (lost_link k c flow) ≡ true → is_first_contact flow ≡ true
lost-first k c NoFlow e = e
lost-first k c FirstContact e = e
lost-first k c (AddSent j on) e = absurd (by (j == k) (on == k) e)
  where
    by : (a b : Bool) → is_first_contact (if a then Abandoned on else if b then AddSent j c else AddSent j on) ≡ true → ⊥
    by true b e = true≢false (sym e)
    by false true e = true≢false (sym e)
    by false false e = true≢false (sym e)
lost-first k c (KeysSent j on) e = absurd (by (j == k) (on == k) e)
  where
    by : (a b : Bool) → is_first_contact (if a then Abandoned on else if b then KeysSent j c else KeysSent j on) ≡ true → ⊥
    by true b e = true≢false (sym e)
    by false true e = true≢false (sym e)
    by false false e = true≢false (sym e)
lost-first k c (LinkSent j) e = absurd (by (j == k) e)
  where
    by : (a : Bool) → is_first_contact (if a then NoFlow else LinkSent j) ≡ true → ⊥
    by true e = true≢false (sym e)
    by false e = true≢false (sym e)
lost-first k c (Abandoned on) e = absurd (by (on == k) e)
  where
    by : (a : Bool) → is_first_contact (if a then NoFlow else Abandoned on) ≡ true → ⊥
    by true e = true≢false (sym e)
    by false e = true≢false (sym e)
lost-first k c (AddSeen j) e = absurd (by (j == k) e)
  where
    by : (a : Bool) → is_first_contact (if a then NoFlow else AddSeen j) ≡ true → ⊥
    by true e = true≢false (sym e)
    by false e = true≢false (sym e)

dead-pending : (j : ℕ) (ks : List Known) → is_pending (phase_at j (all_dead ks)) ≡ false
dead-pending j [] = refl
dead-pending j (n ∷ ks) = by (n.link.slot == j) (dead-pending j ks)
  where
    by : (c : Bool) → is_pending (phase_at j (all_dead ks)) ≡ false → is_pending (unwrap_or (option_map (λ (n : Known). n.phase) (cond c (Some (dead n)) (at_slot j (all_dead ks)))) Unused) ≡ false
    by true ih = refl
    by false ih = ih

pending-stands : (p : LinkPhase) → is_pending p ≡ true → is_standing p ≡ false → ⊥
pending-stands p e f = true≢false (sym (ap (λ b. b || is_live p) e) ∙ f)

-- the loss of a link
pub peer-loses : (k : ℕ) (p : Peer) → PeerMoves p (loses k p)
peer-loses k p = by (lowest_live (set_phase k Dead p.table) == 0)
  where
    beside : (j : ℕ) (b : Bool) → (j == k) ≡ b → is_pending (phase_at j (set_phase k Dead p.table)) ≡ true → is_pending (phase_at j p.table) ≡ true
    beside j true q e = absurd (pending-stands (phase_at k (set_phase k Dead p.table)) (ap (λ n. is_pending (phase_at n (set_phase k Dead p.table))) (sym (eqb-true j k q)) ∙ e) (set-dead k p.table))
    beside j false q e = ap is_pending (sym (set-beside j k Dead p.table q)) ∙ e

    by : (b : Bool) → PeerMoves p (if b then ends_group (without_slot k p) else goes_on k (without_slot k p))
    by true = record { group = inr refl; first = λ h. absurd (true≢false (sym h)); pending = λ l a b. absurd (true≢false (sym b ∙ dead-pending l.slot (set_phase k Dead p.table))) }
    by false = record { group = inl refl; first = λ h. (lost-first k (lowest_live (set_phase k Dead p.table)) p.flow.link h, refl); pending = λ l a b. (sym (set-link l.slot k Dead p.table) ∙ a, beside l.slot (l.slot == k) refl b) }

-- and the request to delete it, too
pub peer-reports : (k : ℕ) (p : Peer) → PeerMoves p (reports k p)
peer-reports k p = by (loses k p) (peer-loses k p) ((loses k p).group == 0)
  where
    link-same : (c : ℕ) (flow : Flow) (b : Bool) → is_first_contact (Flow.link (if b then flow else record flow { drops = record { slot = k; on = c } ∷ flow.drops })) ≡ is_first_contact flow.link
    link-same c flow true = refl
    link-same c flow false = refl

    by : (q : Peer) → PeerMoves p q → (b : Bool) → PeerMoves p (if b then q else with_flow (begins_drop k (lowest_live q.table)) q)
    by q m true = m
    by q m false = record { group = m.group; first = λ h. m.first (sym (link-same (lowest_live q.table) q.flow (is_dropping k q.flow)) ∙ h); pending = m.pending }

-- a side that starts loses its group with a link that stands there
pub starting-ends : (k : ℕ) (p : Peer) → IsStartingPeer p → is_standing (phase_at k p.table) ≡ true → (loses k p).group ≡ 0
starting-ends k p st s = by st.table
  where
    gone : (ks : List Known) → p.table ≡ ks → lowest_live (set_phase k Dead ks) ≡ 0 → (loses k p).group ≡ 0
    gone ks e z = ap (λ b. (if b then ends_group (without_slot k p) else goes_on k (without_slot k p)).group) (ap (λ ts. lowest_live (set_phase k Dead ts) == 0) e ∙ eq-eqb (lowest_live (set_phase k Dead ks)) 0 z)

    one : (link : LinkId) (b : Bool) → (link.slot == k) ≡ b → is_standing (phase_at k (record { link = link; phase = Pending } ∷ [])) ≡ true → lowest_live (set_phase k Dead (record { link = link; phase = Pending } ∷ [])) ≡ 0
    one link true q s = ap (λ b. lowest_live ((if b then record { link = link; phase = Dead } else record { link = link; phase = Pending }) ∷ [])) q
    one link false q s = ap (λ b. lowest_live ((if b then record { link = link; phase = Dead } else record { link = link; phase = Pending }) ∷ [])) q

    by : (p.table ≡ []) ⊎ ((link : LinkId) × (p.table ≡ record { link = link; phase = Pending } ∷ [])) → (loses k p).group ≡ 0
    by (inl e) = absurd (true≢false (sym s ∙ ap (λ ks. is_standing (phase_at k ks)) e))
    by (inr h) = gone (record { link = h.0; phase = Pending } ∷ []) h.1 (one h.0 (h.0.slot == k) refl (ap (λ ks. is_standing (phase_at k ks)) (sym h.1) ∙ s))

pub starting-reports : (k : ℕ) (p : Peer) → IsStartingPeer p → is_standing (phase_at k p.table) ≡ true → (reports k p).group ≡ 0
starting-reports k p st s = by (loses k p) (starting-ends k p st s) ((loses k p).group == 0)
  where
    by : (q : Peer) → q.group ≡ 0 → (b : Bool) → (if b then q else with_flow (begins_drop k (lowest_live q.table)) q).group ≡ 0
    by q e true = e
    by q e false = e

-- an entry that changes one side in such a way
pub moves-peer : (past : List Entry) (under : Option Under) (e : Entry) (x : Side) (q : Peer) → fabric (e ∷ past) ≡ with_peer x q (fabric past) → PeerMoves (peer x (fabric past)) q
    → (Calm past under → IsStarting x past → q.group ≡ group_of x past → (q.flow ≡ flow_of x past) × (q.table ≡ table_of x past))
    → (x ≡ B → table_of B past ≡ [] → q.group ≡ group_of B past)
    → ((link : LinkId) → under ≡ None → IsConfirming B link past → under_in e.posts ≡ None)
    → Moves past under e
moves-peer past under e x q same m still empty none = record {
  group = λ y. side y (λ r. (r.group ≡ group_of y past) ⊎ (r.group ≡ 0)) (inl refl) (λ z. subst (λ w. (q.group ≡ group_of w past) ⊎ (q.group ≡ 0)) z m.group);
  first = λ y. side y (λ r. is_first_contact r.flow.link ≡ true → (is_first_contact (flow_of y past).link ≡ true) × (r.group ≡ group_of y past)) (λ h. (h, refl)) (λ z. subst (λ w. is_first_contact q.flow.link ≡ true → (is_first_contact (flow_of w past).link ≡ true) × (q.group ≡ group_of w past)) z m.first);
  pending = λ y l made. side y (λ r. link_at l.slot r.table ≡ Some l → is_pending (phase_at l.slot r.table) ≡ true → (link_at l.slot (table_of y past) ≡ Some l) × (is_pending (phase_at l.slot (table_of y past)) ≡ true)) (λ a b. (a, b)) (λ z. subst (λ w. link_at l.slot q.table ≡ Some l → is_pending (phase_at l.slot q.table) ≡ true → (link_at l.slot (table_of w past) ≡ Some l) × (is_pending (phase_at l.slot (table_of w past)) ≡ true)) z (m.pending l));
  made = λ k. omega (arith, made k);
  next = λ t k. made k;
  empty = λ t. side B (λ r. r.group ≡ group_of B past) refl (λ z. empty z t);
  still = λ y c st. side y (λ r. r.group ≡ group_of y past → (r.flow ≡ flow_of y past) × (r.table ≡ table_of y past)) (λ g. (refl, refl)) (λ z. subst (λ w. q.group ≡ group_of w past → (q.flow ≡ flow_of w past) × (q.table ≡ table_of w past)) z (still c (subst (λ w. IsStarting w past) (sym z) st)));
  none = none;
}
  where
    cases : (x y : Side) (f : Fabric) (P : Peer → Type 0) → P (peer y f) → (x ≡ y → P q) → P (peer y (with_peer x q f))
    cases A A f P a b = b refl
    cases A B f P a b = a
    cases B A f P a b = a
    cases B B f P a b = b refl

    side : (y : Side) (P : Peer → Type 0) → P (peer y (fabric past)) → (x ≡ y → P q) → P (peer y (fabric (e ∷ past)))
    side y P a b = subst (λ f. P (peer y f)) (sym same) (cases x y (fabric past) P a b)

    latest : (x : Side) (f : Fabric) → Fabric.latest (with_peer x q f) ≡ f.latest
    latest A f = refl
    latest B f = refl

    made : (k : ℕ) → made_on k (fabric (e ∷ past)) ≡ made_on k (fabric past)
    made k = ap (λ f. made_on k f) same ∙ ap (λ ks. (link_or_none k ks).incarnation) (latest x (fabric past))
