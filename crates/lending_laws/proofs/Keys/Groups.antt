-- The keys of a side, and what it has learnt, are for links of its group; what it has learnt has one key an RMB and slot.
use Rattle.std.proofs.Common.{List, [], eq-eqb, inl, inr, subst, sym, true≢false, ◌∙◌, ◌∷◌, ◌≡◌, ◌⊎◌}
use Rattle.history_laws.specs.Words.{Entry, Key, Side, group_of, key_base, keys_of}
use Rattle.history_laws.specs.Lists.{IsAmong}
use Rattle.link_laws.specs.KeyChanges.{Registers}
use Rattle.link_laws.proofs.Keys.{book-from, book-none, book-once, kept-from, keys-after, registered-from}
use Rattle.link_laws.specs.Learnt.{IsBook, NewGroup, NoGroup, Regroups, SameGroup}
use Rattle.lending_laws.specs.KeyGroups.{AllOwedByGroups, AreOfGroup, OwedByGroups}
use Rattle.lending_laws.proofs.Keys.Bound.{no-group}

-- a key after an entry was there before, or was registered with it, for that link
pub key-from : (x : Side) (e : Entry) (past : List Entry) (k : Key) → IsAmong k (keys_of x (e ∷ past)).keys → IsAmong k (keys_of x past).keys ⊎ Registers x e past k.rmb k.link
key-from x e past = keys-after x e past (λ ks. (k : Key) → IsAmong k ks.keys → IsAmong k (keys_of x past).keys ⊎ Registers x e past k.rmb k.link) (record {
  was = λ k i. inl i;
  withdrawn = λ t k i. inl (kept-from _ k (keys_of x past).keys i).0;
  registered = λ rmb link from ks had k i. elim (registered-from (key_base x) rmb link ks.keys k i) [
    | inl h ↦ had k h.0
    | inr same ↦ inr (subst (λ (j : Key). Registers x e past j.rmb j.link) (sym same) from)
  ];
  confirmed = λ rmb from ks had k i. had k i;
  ended = λ none k i. absurd i;
})

module _ (x : Side) (e : Entry) (past : List Entry) (owed : OwedByGroups x e past) where
  -- the group is the same where something was there before and something is there
  same-group : (group_of x past ≡ 0 → ⊥) → (group_of x (e ∷ past) ≡ 0 → ⊥) → group_of x (e ∷ past) ≡ group_of x past
  same-group some still = by owed.groups
    where
      by : Regroups x e past → group_of x (e ∷ past) ≡ group_of x past
      by (SameGroup same) = same
      by (NoGroup none) = absurd (still none)
      by (NewGroup new none) = absurd (some none)

  -- the step for the keys of the side
  pub of-group-after : AreOfGroup x past → AreOfGroup x (e ∷ past)
  of-group-after was k i = elim (key-from x e past k i) [
    | inl h ↦ was k h ∙ sym (same-group (λ none. zero x past k h none) (λ none. zero x (e ∷ past) k i none))
    | inr new ↦ owed.registered k.rmb k.link new
  ]
    where
      zero : (z : Side) (ps : List Entry) (j : Key) → IsAmong j (keys_of z ps).keys → group_of z ps ≡ 0 → ⊥
      zero z ps j h none = true≢false (sym (eq-eqb (group_of z ps) 0 none) ∙ no-group z ps j h)

  -- the step for what it has learnt
  pub book-after-group : IsBook x past → IsBook x (e ∷ past)
  book-after-group was = record {
    once = book-once x (e ∷ past);
    group = λ k i. elim (book-from x e past k i) [
      | inl h ↦ was.group k h ∙ sym (same-group (λ none. book-none x past k h none) (λ none. book-none x (e ∷ past) k i none))
      | inr new ↦ owed.learnt k new
    ];
  }

-- over every history
pub of-groups : (x : Side) (past : List Entry) → AllOwedByGroups x past → AreOfGroup x past × IsBook x past
of-groups x [] owed = (λ k i. absurd i, record { once = tt; group = λ k i. absurd i })
of-groups x (e ∷ past) owed = let was = of-groups x past owed.1 in (of-group-after x e past owed.0 was.0, book-after-group x e past owed.0 was.1)
