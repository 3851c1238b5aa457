-- No key is bound to another RMB too early: what was bound under its number is done with.
use Rattle.std.proofs.Common.{Bool, List, None, Some, [], ap, eq-eqb, eqb-true, false, filter, if◌then◌else◌, inl, inr, not, refl, subst, sym, true, true≢false, ℕ, ◌&&◌, ◌==◌, ◌∙◌, ◌∷◌, ◌≡◌, ◌⊎◌}
use Rattle.std.specs.Prelude.{All, IsTrue, Option, filter_map, find, option_map}
use Rattle.std.proofs.lemmas.List.Elements.{All-cons, All-nil}
use Rattle.pipe_model.specs.Keys.{AreBound, IsRebound, deleted, if_group, owing}
use Rattle.std.specs.Option.{option_or}
use Rattle.pipe_model.specs.Lending.{is_gone}
use Rattle.history_laws.specs.Words.{A, B, Binding, Entry, Key, Keys, Lending, LinkId, Setup, Side, Withdraw, group_of, has, has_ended, is_done_with, is_used, key_base, keys_of, last_binding, lendings, lends, loses_group_with, named_rmbs, no_keys}
use Rattle.history_laws.specs.Lists.{IsAmong}
use Rattle.history_laws.proofs.Basics.{and-both, and-true, none-is, not-true, or-left, or-true, some-is}
use Rattle.link_laws.specs.KeyChanges.{AreKeys, Goes, GroupGoes, HasUse, Registers, Withdrawn}
use Rattle.link_laws.proofs.Keys.{any-found, any-of, filter-are, found-is, found-none, keeps-key, keeps-use, kept-from, kept-in, keys-after, keys-are, none-are, not-alike, not-of, one-number, registers-are, right-among}
use Rattle.link_laws.specs.FabricChanges.{Takes}
use Rattle.lending_laws.specs.BoundKeys.{AreFreed, OwedByLendings, OwedLendings, OwedLendingsWith}

-- of each that is among them
pub all-where : {X : Type 0} (P : X → Type 0) (xs : List X) → ((a : X) → IsAmong a xs → P a) → All P xs
all-where P [] each = All-nil P
all-where P (a ∷ xs) each = All-cons P a xs (each a (inl refl)) (all-where P xs (λ b i. each b (inr i)))

-- a bound number stays bound to its RMB for its slot, but for a withdrawal and the group's end; over every list of entries
pub stays-bound : (x : Side) (e : Entry) (past : List Entry) (k : Key) → HasUse k (keys_of x past).keys → HasUse k (keys_of x (e ∷ past)).keys ⊎ Goes x e past k.rmb
stays-bound x e past k has_it = (keys-after x e past (λ ks. AreKeys (key_base x) ks.keys × (HasUse k ks.keys ⊎ Goes x e past k.rmb)) (record {
  was = (keys-are x past, inl has_it);
  withdrawn = λ t. (filter-are (key_base x) (λ j. not (has j.rmb (named_rmbs (deleted t.act.message) (keys_of x past).keys))) (keys_of x past).keys (keys-are x past), named t (has k.rmb (named_rmbs (deleted t.act.message) (keys_of x past).keys)) refl);
  registered = λ rmb link from ks p. (
    registers-are (key_base x) rmb link ks.keys p.0,
    elim p.1 [
      | inl s ↦ inl (let m = keeps-use (key_base x) rmb link ks.keys p.0.uses s.key s.among in record { key = record { key = s.key.key; rmb = s.key.rmb; link = m.0 }; among = m.1.1; number = s.number; of = s.of; slot = m.1.0 ∙ s.slot })
      | inr g ↦ inr g
    ],
  );
  confirmed = λ rmb from ks p. p;
  ended = λ none. (none-are (key_base x), inr (GroupGoes none));
})).1
  where
    named : (t : Takes x e past Withdraw) (b : Bool) → has k.rmb (named_rmbs (deleted t.act.message) (keys_of x past).keys) ≡ b
        → HasUse k (filter (λ j. not (has j.rmb (named_rmbs (deleted t.act.message) (keys_of x past).keys))) (keys_of x past).keys) ⊎ Goes x e past k.rmb
    named t true q = inr (Withdrawn t q)
    named t false q = inl (record {
      key = has_it.key;
      among = kept-in (λ j. not (has j.rmb (named_rmbs (deleted t.act.message) (keys_of x past).keys))) has_it.key (keys_of x past).keys has_it.among (not-of _ (ap (λ r. has r (named_rmbs (deleted t.act.message) (keys_of x past).keys)) has_it.of ∙ q));
      number = has_it.number;
      of = has_it.of;
      slot = has_it.slot;
    })

-- a key is its own
pub its-use : (k : Key) (ks : List Key) → IsAmong k ks → HasUse k ks
its-use k ks i = record { key = k; among = i; number = refl; of = refl; slot = refl }

-- the very key stays, where each registering for its slot is for its link
pub stays-key : (x : Side) (e : Entry) (past : List Entry) (k : Key) → ((rmb : ℕ) (link : LinkId) → Registers x e past rmb link → k.link.slot ≡ link.slot → link ≡ k.link)
    → IsAmong k (keys_of x past).keys → IsAmong k (keys_of x (e ∷ past)).keys ⊎ Goes x e past k.rmb
stays-key x e past k same i = (keys-after x e past (λ ks. AreKeys (key_base x) ks.keys × (IsAmong k ks.keys ⊎ Goes x e past k.rmb)) (record {
  was = (keys-are x past, inl i);
  withdrawn = λ t. (filter-are (key_base x) (λ j. not (has j.rmb (named_rmbs (deleted t.act.message) (keys_of x past).keys))) (keys_of x past).keys (keys-are x past), named t (has k.rmb (named_rmbs (deleted t.act.message) (keys_of x past).keys)) refl);
  registered = λ rmb link from ks p. (
    registers-are (key_base x) rmb link ks.keys p.0,
    elim p.1 [
      | inl s ↦ inl (keeps-key (key_base x) rmb link ks.keys p.0.uses k s (same rmb link from))
      | inr g ↦ inr g
    ],
  );
  confirmed = λ rmb from ks p. p;
  ended = λ none. (none-are (key_base x), inr (GroupGoes none));
})).1
  where
    named : (t : Takes x e past Withdraw) (b : Bool) → has k.rmb (named_rmbs (deleted t.act.message) (keys_of x past).keys) ≡ b
        → IsAmong k (filter (λ j. not (has j.rmb (named_rmbs (deleted t.act.message) (keys_of x past).keys))) (keys_of x past).keys) ⊎ Goes x e past k.rmb
    named t true q = inr (Withdrawn t q)
    named t false q = inl (kept-in (λ j. not (has j.rmb (named_rmbs (deleted t.act.message) (keys_of x past).keys))) k (keys_of x past).keys i (not-of _ q))

by-group : (group : ℕ) (ks : Keys) (k : Key) → IsAmong k (if_group group ks).keys → (group == 0) ≡ false
by-group group ks k i = by (group == 0) i
  where
    by : (b : Bool) → IsAmong k (if b then no_keys else ks).keys → b ≡ false
    by true h = absurd h
    by false h = refl

-- a side without a group has no keys
pub no-group : (x : Side) (past : List Entry) (k : Key) → IsAmong k (keys_of x past).keys → (group_of x past == 0) ≡ false
no-group x [] k i = absurd i
no-group x (e ∷ past) k i = by-group (group_of x (e ∷ past)) _ k i

-- the binding of a number that is bound
pub binding-is : (x : Side) (past : List Entry) (k : Key) (b : Binding) → IsAmong k (keys_of x past).keys → last_binding x k.key past ≡ Some b → (b.rmb ≡ k.rmb) × (b.begun ≡ lendings x past)
binding-is x [] k b i e = absurd i
binding-is x (f ∷ past) k b i e = by (find (λ (j : Key). j.key == k.key) (keys_of x (f ∷ past)).keys) refl e
  where
    by : (o : Option Key) → find (λ (j : Key). j.key == k.key) (keys_of x (f ∷ past)).keys ≡ o
        → option_or (option_map (λ (j : Key). let b : Binding = record { rmb = j.rmb; begun = lendings x (f ∷ past) } in b) o) (last_binding x k.key past) ≡ Some b
        → (b.rmb ≡ k.rmb) × (b.begun ≡ lendings x (f ∷ past))
    by None q e = absurd (true≢false (sym (any-of (λ (j : Key). j.key == k.key) k (keys_of x (f ∷ past)).keys i (eq-eqb k.key k.key refl)) ∙ found-none (λ (j : Key). j.key == k.key) (keys_of x (f ∷ past)).keys q))
    by (Some j) q e =
        let h = found-is (λ (j : Key). j.key == k.key) j (keys_of x (f ∷ past)).keys q in
        let same = one-number (keys_of x (f ∷ past)).keys (keys-are x (f ∷ past)).numbers j k h.0 i (eqb-true j.key k.key h.1) in
        let r = some-is (record { rmb = j.rmb; begun = lendings x (f ∷ past) }) b e in
        (ap (λ (c : Binding). c.rmb) (sym r) ∙ ap (λ (j : Key). j.rmb) same, ap (λ (c : Binding). c.begun) (sym r))

-- that of a number that isn't bound is the earlier one
pub binding-was : (x : Side) (e : Entry) (past : List Entry) (n : ℕ) → is_used n (keys_of x (e ∷ past)).keys ≡ false → last_binding x n (e ∷ past) ≡ last_binding x n past
binding-was x e past n free = by (find (λ (j : Key). j.key == n) (keys_of x (e ∷ past)).keys) refl
  where
    by : (o : Option Key) → find (λ (j : Key). j.key == n) (keys_of x (e ∷ past)).keys ≡ o
        → option_or (option_map (λ (j : Key). let b : Binding = record { rmb = j.rmb; begun = lendings x (e ∷ past) } in b) o) (last_binding x n past) ≡ last_binding x n past
    by None q = refl
    by (Some j) q = let h = found-is (λ (j : Key). j.key == n) j (keys_of x (e ∷ past)).keys q in absurd (true≢false (sym (any-of (λ (j : Key). n == j.key) j (keys_of x (e ∷ past)).keys h.0 (eq-eqb n j.key (sym (eqb-true j.key n h.1)))) ∙ free))

-- what had begun at a binding is among all lendings
pub begun-among : (x : Side) (n : ℕ) (past : List Entry) (b : Binding) → last_binding x n past ≡ Some b → (l : Lending) → IsAmong l b.begun → IsAmong l (lendings x past)
begun-among x n [] b e l i = absurd (none-is b e)
begun-among x n (f ∷ past) b e l i = by (find (λ (j : Key). j.key == n) (keys_of x (f ∷ past)).keys) e (λ g. right-among l (filter_map (lends x) f.posts) (lendings x past) (begun-among x n past b g l i))
  where
    by : (o : Option Key) → option_or (option_map (λ (j : Key). let b : Binding = record { rmb = j.rmb; begun = lendings x (f ∷ past) } in b) o) (last_binding x n past) ≡ Some b
        → (last_binding x n past ≡ Some b → IsAmong l (lendings x (f ∷ past))) → IsAmong l (lendings x (f ∷ past))
    by None e rest = rest e
    by (Some j) e rest = subst (λ (c : List Lending). IsAmong l c) (ap (λ (c : Binding). c.begun) (sym (some-is (record { rmb = j.rmb; begun = lendings x (f ∷ past) }) b e))) i

module _ (setup : Setup) (payload : List ℕ) (x : Side) (e : Entry) (past : List Entry) (owed : OwedLendings setup payload x past) (beside : OwedLendingsWith setup payload x e past) where
  -- the lendings of an RMB whose keys go are done with after the entry, and before it where they are withdrawn
  withdrawn : (rmb : ℕ) (t : Takes x e past Withdraw) → has rmb (named_rmbs (deleted t.act.message) (keys_of x past).keys) ≡ true → (l : Lending) → IsAmong l (lendings x past) → l.place.rmb ≡ rmb → is_done_with x l past ≡ true
  withdrawn rmb t named l i r = elim (owed.done l i) [
    | inl now ↦ absurd (true≢false (sym named ∙ (ap (λ n. has n (named_rmbs (deleted t.act.message) (keys_of x past).keys)) (sym r) ∙ beside.idle t l now)))
    | inr done ↦ done
  ]

  ended : group_of x (e ∷ past) ≡ 0 → (group_of x past == 0) ≡ false → (l : Lending) → IsAmong l (lendings x past) → is_done_with x l (e ∷ past) ≡ true
  ended none some l i = elim (owed.done l i) [
    | inl now ↦ or-true (is_gone A l.s (e ∷ past) && is_gone B l.s (e ∷ past)) (has_ended x l.group (e ∷ past)) (or-left (loses_group_with x l.group e past) (has_ended x l.group past) (loses l.group (owed.group l now)))
    | inr done ↦ beside.stays l i done
  ]
    where
      loses : (group : ℕ) → group ≡ group_of x past → loses_group_with x group e past ≡ true
      loses group is =
          let other = not-alike (group_of x (e ∷ past) == group) (λ t. true≢false (sym (eq-eqb (group_of x past) 0 (sym is ∙ (sym (eqb-true (group_of x (e ∷ past)) group t) ∙ none))) ∙ some)) in
          and-true (not (group == 0)) ((group_of x past == group) && not (group_of x (e ∷ past) == group)) (not-of (group == 0) (ap (λ g. g == 0) is ∙ some))
          (and-true (group_of x past == group) (not (group_of x (e ∷ past) == group)) (eq-eqb (group_of x past) group (sym is)) (not-of (group_of x (e ∷ past) == group) other))

  -- numbers that are free
  pub freed-after : AreFreed x past → AreFreed x (e ∷ past)
  freed-after was n b bound free l i r = by (is_used n (keys_of x past).keys) refl
    where
      before : last_binding x n past ≡ Some b
      before = sym (binding-was x e past n free) ∙ bound

      by : (c : Bool) → is_used n (keys_of x past).keys ≡ c → is_done_with x l (e ∷ past) ≡ true
      by false q = beside.stays l (begun-among x n past b before l i) (was n b before q l i r)
      by true q =
          let f = any-found (λ (j : Key). n == j.key) (keys_of x past).keys q in
          let number : n ≡ f.0.key = eqb-true n f.0.key f.1.1 in
          let is = binding-is x past f.0 b f.1.0 (ap (λ m. last_binding x m past) (sym number) ∙ before) in
          let known : IsAmong l (lendings x past) = subst (λ (ls : List Lending). IsAmong l ls) is.1 i in
          elim (stays-bound x e past f.0 (its-use f.0 (keys_of x past).keys f.1.0)) [
            | inl s ↦ absurd (true≢false (sym (any-of (λ (j : Key). n == j.key) s.key (keys_of x (e ∷ past)).keys s.among (eq-eqb n s.key.key (number ∙ sym s.number))) ∙ free))
            | inr (Withdrawn t named) ↦ beside.stays l known (withdrawn f.0.rmb t named l known (r ∙ is.0))
            | inr (GroupGoes none) ↦ ended none (no-group x past f.0 f.1.0) l known
          ]

  -- each key of the side may be bound so
  pub bound-with : AreFreed x past → AreBound x e past
  bound-with was = all-where (IsRebound x past) (keys_of x (e ∷ past)).keys (λ k i. rebound k i (last_binding x k.key past) refl)
    where
      rebound : (k : Key) → IsAmong k (keys_of x (e ∷ past)).keys → (o : Option Binding) → last_binding x k.key past ≡ o → All (λ l. IsTrue (is_done_with x l past)) (owing k o)
      rebound k i None q = All-nil (λ l. IsTrue (is_done_with x l past))
      rebound k i (Some b) q = all-where (λ l. IsTrue (is_done_with x l past)) (owing k (Some b)) (λ l h.
          let f = kept-from (λ (m : Lending). (m.place.rmb == b.rmb) && not (b.rmb == k.rmb)) l b.begun h in
          let both = and-both (l.place.rmb == b.rmb) (not (b.rmb == k.rmb)) f.1 in
          done l f.0 (eqb-true l.place.rmb b.rmb both.0) (not-true (b.rmb == k.rmb) both.1) (is_used k.key (keys_of x past).keys) refl)
        where
          done : (l : Lending) → IsAmong l b.begun → l.place.rmb ≡ b.rmb → (b.rmb == k.rmb) ≡ false → (c : Bool) → is_used k.key (keys_of x past).keys ≡ c → is_done_with x l past ≡ true
          done l h r other false u = was k.key b q u l h r
          done l h r other true u =
              let f = any-found (λ (j : Key). k.key == j.key) (keys_of x past).keys u in
              let number : k.key ≡ f.0.key = eqb-true k.key f.0.key f.1.1 in
              let is = binding-is x past f.0 b f.1.0 (ap (λ m. last_binding x m past) (sym number) ∙ q) in
              elim (stays-bound x e past f.0 (its-use f.0 (keys_of x past).keys f.1.0)) [
                | inl s ↦ absurd (true≢false (sym (eq-eqb b.rmb k.rmb (is.0 ∙ (sym s.of ∙ ap (λ (j : Key). j.rmb) (one-number (keys_of x (e ∷ past)).keys (keys-are x (e ∷ past)).numbers s.key k s.among i (s.number ∙ sym number))))) ∙ other))
                | inr (Withdrawn t named) ↦ withdrawn f.0.rmb t named l (subst (λ (ls : List Lending). IsAmong l ls) is.1 h) (r ∙ is.0)
                | inr (GroupGoes none) ↦ absurd (true≢false (ap (λ m. m == 0) (sym none) ∙ no-group x (e ∷ past) k i))
              ]

-- after every history in which lendings pay what they owe
pub are-freed : (setup : Setup) (payload : List ℕ) (x : Side) (past : List Entry) → OwedByLendings setup payload x past → AreFreed x past
are-freed setup payload x [] owed = λ n b e free l i r. absurd (none-is b e)
are-freed setup payload x (e ∷ past) owed = freed-after setup payload x e past owed.0 owed.1 (are-freed setup payload x past owed.2)

-- the law of bound keys with each entry of it
pub are-bound : (setup : Setup) (payload : List ℕ) (x : Side) (e : Entry) (past : List Entry) → OwedByLendings setup payload x (e ∷ past) → AreBound x e past
are-bound setup payload x e past owed = bound-with setup payload x e past owed.0 owed.1 (are-freed setup payload x past owed.2)
