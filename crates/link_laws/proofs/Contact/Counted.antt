-- Groups are counted after each kind of entry, and what has ended stays so.
use Rattle.std.proofs.Common.{Bool, List, None, Some, ap, arith, eq-eqb, eqb-true, false, inl, inr, not, refl, subst, sym, true, true≢false, ℕ, ◌&&◌, ◌+◌, ◌==◌, ◌||◌, ◌∙◌, ◌∷◌, ◌≡◌, ◌≢◌, ◌≤◌, ◌⊎◌}
use Rattle.std.specs.Prelude.{Option, option_map, unwrap_or}
use Rattle.history_laws.specs.Words.{A, B, Entry, Fabric, Offered, Side, group_of, groups_begun, has_ended, loses_group_with, no_link, offered, peer}
use Rattle.link_laws.specs.Offered.{AreOffered}
use Rattle.link_laws.specs.Linked.{Under}
use Rattle.link_laws.specs.Contact.{AreCounted}
use Rattle.link_laws.proofs.Contact.Changes.{Begins, Joins, Kind, Moves, Plain, Readies}

-- the group that an offer named was begun
pub named-begun : (past : List Entry) (s : ℕ) → AreOffered past → (unwrap_or (option_map (λ (o : Offered). o.link) (offered B s past)) no_link).group ≤ groups_begun past
named-begun past s offers = by (offered B s past) refl
  where
    by : (o : Option Offered) → offered B s past ≡ o → (unwrap_or (option_map (λ (o : Offered). o.link) o) no_link).group ≤ groups_begun past
    by None e = omega arith
    by (Some o) e = offers.begun B s o e

module _ (past : List Entry) (under : Option Under) (e : Entry) (offers : AreOffered past) (counted : AreCounted past) where
  -- the number of a side's group after a kind of entry
  pub group-after : Kind past under e → (x : Side) → (group_of x (e ∷ past) ≡ group_of x past) ⊎ (group_of x (e ∷ past) ≡ 0) ⊎ ((groups_begun past + 1 ≡ group_of x (e ∷ past)) × (x ≡ B) × (groups_begun (e ∷ past) ≡ groups_begun past + 1)) ⊎ ((x ≡ A) × (group_of x (e ∷ past) ≤ groups_begun past) × (group_of x past ≡ 0))
  group-after (Plain k) x = let m : Moves past under e = k.moves in by (m.group x)
    where
      by : (group_of x (e ∷ past) ≡ group_of x past) ⊎ (group_of x (e ∷ past) ≡ 0) → (group_of x (e ∷ past) ≡ group_of x past) ⊎ (group_of x (e ∷ past) ≡ 0) ⊎ ((groups_begun past + 1 ≡ group_of x (e ∷ past)) × (x ≡ B) × (groups_begun (e ∷ past) ≡ groups_begun past + 1)) ⊎ ((x ≡ A) × (group_of x (e ∷ past) ≤ groups_begun past) × (group_of x past ≡ 0))
      by (inl h) = inl h
      by (inr h) = inr (inl h)
  group-after (Begins s o k) A = inl (ap (λ (f : Fabric). f.a.group) k.changed)
  group-after (Begins s o k) B = inr (inr (inl (sym k.group ∙ sym (ap (λ (f : Fabric). f.b.group) k.changed), refl, k.count)))
  group-after (Joins s m p k) A = inr (inr (inr (refl, subst (λ n. n ≤ groups_begun past) (sym (ap (λ (f : Fabric). f.a.group) k.changed ∙ ap (λ l. l.group) k.link)) (named-begun past s offers), k.without)))
  group-after (Joins s m p k) B = inl (ap (λ (f : Fabric). f.b.group) k.changed)
  group-after (Readies s m k) x = inl (ap (λ (f : Fabric). (peer x f).group) k.changed)

  -- groups begun do not become fewer
  pub begun-grows : Kind past under e → groups_begun past ≤ groups_begun (e ∷ past)
  begun-grows (Plain k) = omega (arith, k.count)
  begun-grows (Begins s o k) = omega (arith, k.count)
  begun-grows (Joins s m p k) = omega (arith, k.count)
  begun-grows (Readies s m k) = omega (arith, k.count)

  -- groups are counted after the entry
  pub counted-after : Kind past under e → AreCounted (e ∷ past)
  counted-after kind = record {
    at_most = λ x. most x (group-after kind x);
    last = last kind;
  }
    where
      most : (x : Side) → (group_of x (e ∷ past) ≡ group_of x past) ⊎ (group_of x (e ∷ past) ≡ 0) ⊎ ((groups_begun past + 1 ≡ group_of x (e ∷ past)) × (x ≡ B) × (groups_begun (e ∷ past) ≡ groups_begun past + 1)) ⊎ ((x ≡ A) × (group_of x (e ∷ past) ≤ groups_begun past) × (group_of x past ≡ 0)) → group_of x (e ∷ past) ≤ groups_begun (e ∷ past)
      most x (inl h) = omega (arith, h, counted.at_most x, begun-grows kind)
      most x (inr (inl h)) = omega (arith, h)
      most x (inr (inr (inl h))) = omega (arith, h.0, h.2)
      most x (inr (inr (inr h))) = omega (arith, h.1, begun-grows kind)

      last : Kind past under e → group_of B (e ∷ past) ≢ 0 → group_of B (e ∷ past) ≡ groups_begun (e ∷ past)
      last (Plain k) ne = let m : Moves past under e = k.moves in by (m.group B)
        where
          by : (group_of B (e ∷ past) ≡ group_of B past) ⊎ (group_of B (e ∷ past) ≡ 0) → group_of B (e ∷ past) ≡ groups_begun (e ∷ past)
          by (inl h) = h ∙ counted.last (λ z. ne (h ∙ z)) ∙ sym k.count
          by (inr h) = absurd (ne h)
      last (Begins s o k) ne = ap (λ (f : Fabric). f.b.group) k.changed ∙ k.group ∙ sym k.count
      last (Joins s m p k) ne = let h : group_of B (e ∷ past) ≡ group_of B past = ap (λ (f : Fabric). f.b.group) k.changed in h ∙ counted.last (λ z. ne (h ∙ z)) ∙ sym k.count
      last (Readies s m k) ne = let h : group_of B (e ∷ past) ≡ group_of B past = ap (λ (f : Fabric). f.b.group) k.changed in h ∙ counted.last (λ z. ne (h ∙ z)) ∙ sym k.count

-- a group that has ended at B ended before, or with the entry, in which case it was B's and no longer is
pub ended-cases : (past : List Entry) (e : Entry) (x : Side) (g : ℕ) → has_ended x g (e ∷ past) ≡ true → ((group_of x past ≡ g) × ((group_of x (e ∷ past) == g) ≡ false)) ⊎ (has_ended x g past ≡ true)
ended-cases past e x g h = by (g == 0) (group_of x past == g) (group_of x (e ∷ past) == g) refl refl h
  where
    by : (a b c : Bool) → (group_of x past == g) ≡ b → (group_of x (e ∷ past) == g) ≡ c → ((not a && (b && not c)) || has_ended x g past) ≡ true → ((group_of x past ≡ g) × ((group_of x (e ∷ past) == g) ≡ false)) ⊎ (has_ended x g past ≡ true)
    by true b c p q h = inr h
    by false false c p q h = inr h
    by false true true p q h = inr h
    by false true false p q h = inl (eqb-true (group_of x past) g p, q)

-- what has ended stays so
pub ended-stays : (past : List Entry) (e : Entry) (x : Side) (g : ℕ) → has_ended x g past ≡ true → has_ended x g (e ∷ past) ≡ true
ended-stays past e x g h = by (loses_group_with x g e past)
  where
    by : (b : Bool) → (b || has_ended x g past) ≡ true
    by true = refl
    by false = h

-- a side that was in a group and has left it has ended it
pub ended-now : (past : List Entry) (e : Entry) (x : Side) (g : ℕ) → g ≢ 0 → group_of x past ≡ g → group_of x (e ∷ past) ≡ 0 → has_ended x g (e ∷ past) ≡ true
ended-now past e x g ne is gone = by (g == 0) (group_of x past == g) (group_of x (e ∷ past) == g) refl (eq-eqb (group_of x past) g is) refl
  where
    by : (a b c : Bool) → (g == 0) ≡ a → b ≡ true → (group_of x (e ∷ past) == g) ≡ c → ((not a && (b && not c)) || has_ended x g past) ≡ true
    by true b c p q r = absurd (ne (eqb-true g 0 p))
    by false true false p q r = refl
    by false true true p q r = absurd (ne (sym (eqb-true (group_of x (e ∷ past)) g r) ∙ gone))
    by false false c p q r = absurd (true≢false (sym q))
