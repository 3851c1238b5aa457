-- What the peer has learnt of a side's keys: it is bound there, and for a confirmed RMB it is the very key; from what links and messages owe.
use Rattle.std.proofs.Common.{Bool, List, None, Some, [], ap, arith, cond, eq-eqb, eqb-true, false, filter, if◌then◌else◌, inl, inr, map, not, refl, subst, sym, true, true≢false, ℕ, ◌+◌, ◌==◌, ◌∙◌, ◌∷◌, ◌≡◌, ◌≢◌, ◌≤◌, ◌⊎◌}
use Rattle.std.specs.Prelude.{Option, option_map, unwrap_or}
use Rattle.pipe_model.specs.Keys.{deleted}
use Rattle.pipe_model.specs.declared.flow.FlowStep.TheVariants.{Confirmed}
use Rattle.history_laws.specs.Words.{A, B, Entry, Key, Known, LinkId, Side, Withdraw, at_slot, book_of, fabric, group_of, has, is_pending, keys_of, link_at, link_or_none, named_rmbs, no_link, other, peer, stands, table_of, unpending}
use Rattle.history_laws.specs.Tables.{Rises}
use Rattle.history_laws.proofs.Basics.{none-is, some-is}
use Rattle.history_laws.specs.Lists.{IsAmong}
use Rattle.link_laws.proofs.Sound.{found-slot, has-group, stands-at}
use Rattle.link_laws.proofs.Keys.{book-from, book-none, confirmed-from, confirmed-none, not-alike, withdrawn-from}
use Rattle.link_laws.specs.Learnt.{AreExact, AreKnown, AreMade, AreTold, BeginsFirst, IsNear, NewGroup, NoGroup, OwedByLinks, OwedByMessages, Regroups, SameGroup}
use Rattle.link_laws.specs.KeyChanges.{ByAnswer, ByOffer, Confirms, ForAsked, ForMade, ForOffer, ForTold, GroupGoes, Registers, Withdrawn}
use Rattle.link_laws.proofs.Fabric.{one-learns, one-step}
use Rattle.link_laws.specs.FabricChanges.{Takes}
use Rattle.lending_laws.proofs.Keys.Bound.{stays-bound, stays-key}

-- the link of a slot of a table, where another link is on its slot
pub named-is : (j : ℕ) (table : List Known) (l : LinkId) → Rises 1 table → link_at l.slot table ≡ Some l → 1 ≤ l.slot → l.slot ≡ (link_or_none j table).slot → link_or_none j table ≡ l
named-is j table l rises at low same = by (link_at j table) refl same
  where
    by : (o : Option LinkId) → link_at j table ≡ o → l.slot ≡ (unwrap_or o no_link).slot → unwrap_or o no_link ≡ l
    by None e s = absurd (omega (arith, low, s))
    by (Some m) e s = some-is m l (sym e ∙ (ap (λ i. link_at i table) (sym (slot-is m e) ∙ sym s) ∙ at))
      where
        slot-is : (m : LinkId) → link_at j table ≡ Some m → m.slot ≡ j
        slot-is m e = from (at_slot j table) (λ n f. found-slot j n table f) e
          where
            from : (o : Option Known) → ((n : Known) → o ≡ Some n → n.link.slot ≡ j) → option_map (λ (n : Known). n.link) o ≡ Some m → m.slot ≡ j
            from None each f = absurd (none-is m f)
            from (Some n) each f = ap (λ (k : LinkId). k.slot) (sym (some-is n.link m f)) ∙ each n refl

-- a link that is known and not pending is that of its slot
pub known-at : (low : ℕ) (link : LinkId) (table : List Known) → Rises low table → IsAmong link (unpending table) → (low ≤ link.slot) × (link_at link.slot table ≡ Some link)
known-at low link [] r i = absurd i
known-at low link (n ∷ ks) r i = by (is_pending n.phase) i (λ h. known-at (n.link.slot + 1) link ks r.1 h)
  where
    later : (n.link.slot + 1 ≤ link.slot) × (link_at link.slot ks ≡ Some link) → (low ≤ link.slot) × (link_at link.slot (n ∷ ks) ≡ Some link)
    later h =
        let ne : (n.link.slot == link.slot) ≡ false = not-alike (n.link.slot == link.slot) (λ t. let same : n.link.slot ≡ link.slot = eqb-true n.link.slot link.slot t in absurd (omega (arith, same, h.0))) in
        (omega (arith, h.0, r.0), ap (λ b. option_map (λ (m : Known). m.link) (cond b (Some n) (at_slot link.slot ks))) ne ∙ h.1)

    by : (b : Bool) → IsAmong link (map (λ (m : Known). m.link) (if not b then n ∷ filter (λ (m : Known). not (is_pending m.phase)) ks else filter (λ (m : Known). not (is_pending m.phase)) ks))
        → (IsAmong link (unpending ks) → (n.link.slot + 1 ≤ link.slot) × (link_at link.slot ks ≡ Some link)) → (low ≤ link.slot) × (link_at link.slot (n ∷ ks) ≡ Some link)
    by true h rest = later (rest h)
    by false (inl same) rest = (subst (λ (l : LinkId). low ≤ l.slot) (sym same) r.0, ap (λ b. option_map (λ (m : Known). m.link) (cond b (Some n) (at_slot link.slot ks))) (eq-eqb n.link.slot link.slot (ap (λ (l : LinkId). l.slot) (sym same))) ∙ ap (λ (l : LinkId). Some l) (sym same))
    by false (inr h) rest = later (rest h)

module _ (x : Side) (e : Entry) (past : List Entry) (links : OwedByLinks e past) where
  rises : (z : Side) → Rises 1 (table_of z (e ∷ past))
  rises z = (links.linked.own z).rises

  -- a link that stands at a side has a group there
  in-group : (z : Side) (l : LinkId) → stands l (table_of z (e ∷ past)) ≡ true → group_of z (e ∷ past) ≢ 0
  in-group z l s = (has-group z (peer z (fabric (e ∷ past))) l (links.linked.own z) s).0

  -- both tables have one link on the slot of a link that stands near
  pub near-at : (l : LinkId) → IsNear x l (e ∷ past) → (1 ≤ l.slot) × (link_at l.slot (table_of x (e ∷ past)) ≡ Some l)
  near-at l (inl s) = let h = stands-at 1 l (table_of x (e ∷ past)) (rises x) s in (h.0, h.1)
  near-at l (inr (s, same)) = by x s same
    where
      by : (z : Side) → stands l (table_of (other z) (e ∷ past)) ≡ true → group_of z (e ∷ past) ≡ group_of (other z) (e ∷ past) → (1 ≤ l.slot) × (link_at l.slot (table_of z (e ∷ past)) ≡ Some l)
      by A s same =
          let h = stands-at 1 l (table_of B (e ∷ past)) (rises B) s in
          let t = links.linked.together (λ none. in-group B l s (sym same ∙ none)) same in
          (h.0, t.same l.slot ∙ h.1)
      by B s same =
          let h = stands-at 1 l (table_of A (e ∷ past)) (rises A) s in
          let t = links.linked.together (in-group A l s) (sym same) in
          (h.0, sym (t.same l.slot) ∙ h.1)

  -- what is registered for its slot is registered for it, but in first contact
  pub registers-near : (l : LinkId) → IsNear x l (e ∷ past) → (BeginsFirst x e → ⊥) → (rmb : ℕ) (link : LinkId) → Registers x e past rmb link → l.slot ≡ link.slot → link ≡ l
  registers-near l near later _ _ (ForMade rmb t i) s = let h = near-at l near in named-is _ (table_of x (e ∷ past)) l (rises x) h.1 h.0 s
  registers-near l near later _ _ (ForTold rmb t i) s = let h = near-at l near in named-is _ (table_of x (e ∷ past)) l (rises x) h.1 h.0 s
  registers-near l near later _ _ (ForOffer link o it) s = absurd (later (record { link = link; offer = o; offers = it }))
  registers-near l near later _ _ (ForAsked link tokens it known) s =
      let h = near-at l near in sym (some-is l link (sym h.1 ∙ (ap (λ j. link_at j (table_of x (e ∷ past))) s ∙ (known-at 1 link (table_of x (e ∷ past)) (rises x) known).1)))

  -- the group of a side with keys was the same before, but in first contact
  group-was : (z : Side) → (BeginsFirst z e → group_of z past ≡ 0 → ⊥) → (group_of z (e ∷ past) ≡ 0 → ⊥) → group_of z (e ∷ past) ≡ group_of z past
  group-was z later some = by (links.groups z)
    where
      by : Regroups z e past → group_of z (e ∷ past) ≡ group_of z past
      by (SameGroup same) = same
      by (NoGroup none) = absurd (some none)
      by (NewGroup new none) = absurd (later new none)

module _ (x : Side) (e : Entry) (past : List Entry) (links : OwedByLinks e past) (owed : OwedByMessages x e past) (was : AreTold x past) where
  -- what is newly learnt was made, and so was what was known
  pub made-after : AreMade (other x) (e ∷ past)
  made-after k i = elim (book-from (other x) e past k i) [
    | inl h ↦ let a = was.made k h in let b = links.made k.link.slot in omega (arith, a, b)
    | inr new ↦ owed.latest k new
  ]

  -- a link of which something was known before is not a new one
  stood : (z : Side) (k : Key) → IsAmong k (book_of (other x) past) → stands k.link (table_of z (e ∷ past)) ≡ true → stands k.link (table_of z past) ≡ true
  stood z k i s = elim (links.fresh z k.link s) [ inl h ↦ h | inr new ↦ let a = was.made k i in absurd (omega (arith, a, new)) ]

  -- what the peer knows of a link that stands is bound: the step
  pub known-after : AreKnown x (e ∷ past)
  known-after k i s = elim (book-from (other x) e past k i) [
    | inl h ↦ elim (stays-bound x e past k (was.known k h (stood x k h s))) [
      | inl has_it ↦ has_it
      | inr (Withdrawn t named) ↦ absurd (true≢false (sym (stood x k h s) ∙ owed.forgotten t k h named))
      | inr (GroupGoes none) ↦ absurd (in-group x e past links x k.link s none)
    ]
    | inr new ↦ elim (stays-bound x e past k (owed.told k new s)) [
      | inl has_it ↦ has_it
      | inr (Withdrawn t named) ↦ absurd (one-learns x e past Withdraw t k new)
      | inr (GroupGoes none) ↦ absurd (in-group x e past links x k.link s none)
    ]
  ]

  -- and is the very key for a confirmed RMB: the step
  pub exact-after : AreExact x (e ∷ past)
  exact-after k i confirmed near = elim (confirmed-from x e past k.rmb confirmed) [
    | inl before ↦ elim (book-from (other x) e past k i) [
      | inl h ↦ stay (was.exact k h before (near-before h near))
      | inr new ↦ stay (owed.exact k new before near)
    ]
    | inr by ↦ confirms k.rmb by refl
  ]
    where
      later : BeginsFirst x e → ⊥
      later new = owed.first new k i near

      some : group_of x (e ∷ past) ≡ 0 → ⊥
      some none = confirmed-none x (e ∷ past) k.rmb confirmed none

      near-before : IsAmong k (book_of (other x) past) → IsNear x k.link (e ∷ past) → IsNear x k.link past
      near-before h (inl s) = inl (stood x k h s)
      near-before h (inr (s, same)) = inr (
        stood (other x) k h s,
        sym (group-was x e past links x (λ new none. later new) some) ∙ (same ∙ group-was x e past links (other x) (λ new none. book-none (other x) past k h none) (λ none. some (same ∙ none))),
      )

      named : (t : Takes x e past Withdraw) → has k.rmb (named_rmbs (deleted t.act.message) (keys_of x past).keys) ≡ true → ⊥
      named t is = by (withdrawn-from x e past t k.rmb confirmed)
        where
          clashes : (r : ℕ) → Confirms x e past r → ⊥
          clashes _ (ByAnswer u) = apart (one-step x e past Withdraw Confirmed t u)
            where
              apart : Withdraw ≡ Confirmed → ⊥
              apart q = cc
          clashes _ (ByOffer link o it) = later (record { link = link; offer = o; offers = it })

          by : (has k.rmb (named_rmbs (deleted t.act.message) (keys_of x past).keys) ≡ false) ⊎ Confirms x e past k.rmb → ⊥
          by (inl q) = true≢false (sym is ∙ q)
          by (inr c) = clashes k.rmb c

      stay : IsAmong k (keys_of x past).keys → IsAmong k (keys_of x (e ∷ past)).keys
      stay h = elim (stays-key x e past k (registers-near x e past links k.link near later) h) [
        | inl there ↦ there
        | inr (Withdrawn t is) ↦ absurd (named t is)
        | inr (GroupGoes none) ↦ absurd (some none)
      ]

      confirms : (r : ℕ) → Confirms x e past r → k.rmb ≡ r → IsAmong k (keys_of x (e ∷ past)).keys
      confirms _ (ByAnswer t) same = elim (book-from (other x) e past k i) [
        | inl h ↦ stay (owed.answered t k h same near)
        | inr new ↦ absurd (one-learns x e past Confirmed t k new)
      ]
      confirms _ (ByOffer link o it) same = absurd (later (record { link = link; offer = o; offers = it }))

  -- all three of what is learnt
  pub told-after : AreTold x (e ∷ past)
  told-after = record { made = made-after; known = known-after; exact = exact-after }
