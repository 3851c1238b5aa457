-- Where a link comes from on whose slot a side has keys, through all events of an entry.
use Rattle.std.proofs.Common.{Bool, List, None, Some, [], ap, cond, false, if◌then◌else◌, inl, inr, refl, sym, true, true≢false, ℕ, ◌==◌, ◌∙◌, ◌∷◌, ◌≡◌}
use Rattle.std.specs.Prelude.{Option, option_map}
use Rattle.pipe_model.specs.Flows.{LinkSent}
use Rattle.pipe_model.specs.Fabric.{loses}
use Rattle.history_laws.specs.Words.{A, Abandoned, AddSeen, AddSent, B, Dead, FirstContact, KeysSent, Known, LinkFlow, LinkId, NoFlow, Peer, Side, all_dead, at_slot, begins_drop, ends_group, goes_on, is_dropping, is_live, link_at, lost_link, lowest_live, phase_at, reports, set_phase, with_flow, with_phase, without_slot}
use Rattle.history_laws.proofs.Basics.{or-left, or-parts, or-true}
use Rattle.link_laws.proofs.Sound.{all-link, phase_in, set-at, set-link}
use Rattle.link_laws.specs.FabricChanges.{is_keyed}
use Rattle.link_laws.specs.Covered.{wants_keys}

-- what is live after the loss of a slot was so
pub dead-live : (j k : ℕ) (ks : List Known) → is_live (phase_at j (set_phase k Dead ks)) ≡ true → is_live (phase_at j ks) ≡ true
dead-live j k ks e = by (at_slot j ks) (ap (λ o. is_live (phase_in o)) (sym (set-at j k Dead ks)) ∙ e)
  where
    by : (o : Option Known) → is_live (phase_in (option_map (with_phase k Dead) o)) ≡ true → is_live (phase_in o) ≡ true
    by None e = e
    by (Some n) e = test (n.link.slot == k) e
      where
        test : (b : Bool) → is_live (if b then record n { phase = Dead } else n).phase ≡ true → is_live n.phase ≡ true
        test true e = absurd (true≢false (sym e))
        test false e = e

-- nothing is live in an ended group
pub all-dead-live : (j : ℕ) (ks : List Known) → is_live (phase_at j (all_dead ks)) ≡ false
all-dead-live j [] = refl
all-dead-live j (n ∷ ks) = by (n.link.slot == j) (all-dead-live j ks)
  where
    by : (c : Bool) → is_live (phase_at j (all_dead ks)) ≡ false → is_live (phase_in (cond c (Some (record n { phase = Dead })) (at_slot j (all_dead ks)))) ≡ false
    by true e = refl
    by false e = e

-- a flow that has keys for a slot after a loss had them
pub lost-keyed : (j k carrier : ℕ) (flow : LinkFlow) → is_keyed j (lost_link k carrier flow) ≡ true → is_keyed j flow ≡ true
lost-keyed j k carrier NoFlow e = e
lost-keyed j k carrier FirstContact e = e
lost-keyed j k carrier (AddSent i on) e = by (i == k) (on == k) e
  where
    by : (b c : Bool) → is_keyed j (if b then Abandoned on else if c then AddSent i carrier else AddSent i on) ≡ true → false ≡ true
    by true c e = e
    by false true e = e
    by false false e = e
lost-keyed j k carrier (KeysSent i on) e = by (i == k) (on == k) e
  where
    by : (b c : Bool) → is_keyed j (if b then Abandoned on else if c then KeysSent i carrier else KeysSent i on) ≡ true → (i == j) ≡ true
    by true c e = absurd (true≢false (sym e))
    by false true e = e
    by false false e = e
lost-keyed j k carrier (LinkSent i) e = by (i == k) e
  where
    by : (b : Bool) → is_keyed j (if b then NoFlow else LinkSent i) ≡ true → (i == j) ≡ true
    by true e = absurd (true≢false (sym e))
    by false e = e
lost-keyed j k carrier (Abandoned on) e = by (on == k) e
  where
    by : (b : Bool) → is_keyed j (if b then NoFlow else Abandoned on) ≡ true → false ≡ true
    by true e = e
    by false e = e
lost-keyed j k carrier (AddSeen i) e = by (i == k) e
  where
    by : (b : Bool) → is_keyed j (if b then NoFlow else AddSeen i) ≡ true → false ≡ true
    by true e = e
    by false e = e

-- what a side has after a change, it had before: the link of a slot, and keys for it
pub record WasSo (x : Side) (j : ℕ) (new old : Peer) : Type 0 where
  pub link : (l : LinkId) → link_at j new.table ≡ Some l → link_at j old.table ≡ Some l
  pub wants : wants_keys x j new ≡ true → wants_keys x j old ≡ true

-- one change after another
pub so-then : (x : Side) (j : ℕ) (a b c : Peer) → WasSo x j a b → WasSo x j b c → WasSo x j a c
so-then x j a b c p q = record { link = λ l e. q.link l (p.link l e); wants = λ e. q.wants (p.wants e) }

-- the loss of a slot
pub loses-so : (x : Side) (j k : ℕ) (p : Peer) → WasSo x j (loses k p) p
loses-so x j k p = by (lowest_live (set_phase k Dead p.table) == 0)
  where
    wants-ended : (x : Side) → wants_keys x j (ends_group (without_slot k p)) ≡ true → wants_keys x j p ≡ true
    wants-ended A e = refl
    wants-ended B e = absurd (true≢false (sym (elim (or-parts (is_live (phase_at j (all_dead (set_phase k Dead p.table)))) false e) [ inl h ↦ h | inr h ↦ absurd (true≢false (sym h)) ]) ∙ all-dead-live j (set_phase k Dead p.table)))

    wants-goes : (x : Side) → wants_keys x j (goes_on k (without_slot k p)) ≡ true → wants_keys x j p ≡ true
    wants-goes A e = refl
    wants-goes B e = elim (or-parts (is_live (phase_at j (set_phase k Dead p.table))) (is_keyed j (lost_link k (lowest_live (set_phase k Dead p.table)) p.flow.link)) e) [
      | inl h ↦ or-left (is_live (phase_at j p.table)) (is_keyed j p.flow.link) (dead-live j k p.table h)
      | inr h ↦ or-true (is_live (phase_at j p.table)) (is_keyed j p.flow.link) (lost-keyed j k (lowest_live (set_phase k Dead p.table)) p.flow.link h)
    ]

    by : (b : Bool) → WasSo x j (if b then ends_group (without_slot k p) else goes_on k (without_slot k p)) p
    by true = record { link = λ l e. sym (set-link j k Dead p.table) ∙ (sym (all-link j (set_phase k Dead p.table)) ∙ e); wants = wants-ended x }
    by false = record { link = λ l e. sym (set-link j k Dead p.table) ∙ e; wants = wants-goes x }

-- flows that change, the table being the same
pub flows-so : (x : Side) (j : ℕ) (new old : Peer) → new.table ≡ old.table → (is_keyed j new.flow.link ≡ true → is_keyed j old.flow.link ≡ true) → WasSo x j new old
flows-so x j new old same keyed = record { link = λ l e. ap (λ t. link_at j t) (sym same) ∙ e; wants = by x }
  where
    by : (z : Side) → wants_keys z j new ≡ true → wants_keys z j old ≡ true
    by A e = refl
    by B e = elim (or-parts (is_live (phase_at j new.table)) (is_keyed j new.flow.link) e) [
      | inl h ↦ or-left (is_live (phase_at j old.table)) (is_keyed j old.flow.link) (ap (λ t. is_live (phase_at j t)) (sym same) ∙ h)
      | inr h ↦ or-true (is_live (phase_at j old.table)) (is_keyed j old.flow.link) (keyed h)
    ]

-- a report
pub reports-so : (x : Side) (j k : ℕ) (p : Peer) → WasSo x j (reports k p) p
reports-so x j k p = by ((loses k p).group == 0)
  where
    by : (b : Bool) → WasSo x j (if b then loses k p else with_flow (begins_drop k (lowest_live (loses k p).table)) (loses k p)) p
    by true = loses-so x j k p
    by false = so-then x j (with_flow (begins_drop k (lowest_live (loses k p).table)) (loses k p)) (loses k p) p (flows-so x j _ (loses k p) refl (λ h. drop (is_dropping k (loses k p).flow) h)) (loses-so x j k p)
      where
        drop : (c : Bool) → is_keyed j (if c then (loses k p).flow else record (loses k p).flow { drops = record { slot = k; on = lowest_live (loses k p).table } ∷ (loses k p).flow.drops }).link ≡ true → is_keyed j (loses k p).flow.link ≡ true
        drop true h = h
        drop false h = h
