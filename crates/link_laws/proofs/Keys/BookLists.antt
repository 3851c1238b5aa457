-- What a side has learnt, over every list of entries: one key an RMB and slot; and each key after an entry was known before or is learnt with it.
use Rattle.std.proofs.Common.{Bool, List, [], ap, eq-eqb, eqb-true, false, filter, if◌then◌else◌, inl, inr, nat_lt, not, refl, subst, sym, true, true≢false, ℕ, ◌==◌, ◌∙◌, ◌∷◌, ◌≡◌, ◌⊎◌}
use Rattle.smc_num.specs.Keys.{binds}
use Rattle.pipe_model.specs.Keys.{by_step, confirms, deleted, if_group}
use Rattle.history_laws.specs.Words.{Entry, Key, Keys, Side, Withdraw, act_in, book_of, by_act, flow_of, group_of, has, is_for, keys_of, named_rmbs, no_keys, table_of, withdraws}
use Rattle.history_laws.proofs.Basics.{not-true}
use Rattle.history_laws.specs.Lists.{IsAmong}
use Rattle.link_laws.specs.KeyChanges.{Confirms, Learns, NoTwo, same_use}
use Rattle.link_laws.proofs.Keys.Lists.{among-either, kept-from, not-alike, of-use, two-filter, two-more, use-of}
use Rattle.link_laws.proofs.Keys.BookEntries.{book-after}
use Rattle.link_laws.proofs.Keys.Entries.{keys-after, posts-go}
use Rattle.link_laws.specs.FabricChanges.{Takes}

-- binding a key
pub binds-once : (new : Key) (ks : List Key) → NoTwo same_use ks → NoTwo same_use (binds new ks)
binds-once new ks once = two-more same_use new (filter (λ k. not (is_for new.rmb new.link.slot k)) ks) (λ k i. by k (not-true (is_for new.rmb new.link.slot k) (kept-from (λ j. not (is_for new.rmb new.link.slot j)) k ks i).1)) (two-filter same_use (λ k. not (is_for new.rmb new.link.slot k)) ks once)
  where
    by : (k : Key) → is_for new.rmb new.link.slot k ≡ false → same_use k new ≡ false
    by k f = not-alike (same_use k new) (λ t. let u = of-use k.rmb k.link.slot new t in true≢false (sym (use-of new.rmb new.link.slot k (sym u.0) (sym u.1)) ∙ f))

-- what is bound was there or is the new key
pub bound-from : (new : Key) (ks : List Key) (k : Key) → IsAmong k (binds new ks) → IsAmong k ks ⊎ (k ≡ new)
bound-from new ks k i = elim (among-either k new (filter (λ j. not (is_for new.rmb new.link.slot j)) ks) i) [ inl h ↦ inl (kept-from (λ j. not (is_for new.rmb new.link.slot j)) k ks h).0 | inr e ↦ inr e ]

-- one key an RMB and slot, over every list of entries
pub book-once : (y : Side) (past : List Entry) → NoTwo same_use (book_of y past)
book-once y [] = tt
book-once y (e ∷ past) = book-after y e past (λ book. NoTwo same_use book) (record {
  was = book-once y past;
  forgot = λ t. two-filter same_use _ (book_of y past) (book-once y past);
  learnt = λ k from book once. binds-once k book once;
  ended = λ none. tt;
})

-- where a learnt key comes from
pub book-from : (y : Side) (e : Entry) (past : List Entry) (k : Key) → IsAmong k (book_of y (e ∷ past)) → IsAmong k (book_of y past) ⊎ Learns y e past k
book-from y e past = book-after y e past (λ book. (k : Key) → IsAmong k book → IsAmong k (book_of y past) ⊎ Learns y e past k) (record {
  was = λ k i. inl i;
  forgot = λ t k i. inl (kept-from _ k (book_of y past) i).0;
  learnt = λ new from book had k i. elim (bound-from new book k i) [ inl h ↦ had k h | inr same ↦ inr (subst (λ j. Learns y e past j) (sym same) from) ];
  ended = λ none k i. absurd i;
})

-- a side without a group has learnt nothing, and has confirmed nothing
pub book-none : (y : Side) (past : List Entry) (k : Key) → IsAmong k (book_of y past) → group_of y past ≡ 0 → ⊥
book-none y [] k i none = absurd i
book-none y (e ∷ past) k i none = by-group (group_of y (e ∷ past)) _ i none
  where
    by-group : (group : ℕ) (book : List Key) → IsAmong k (if group == 0 then [] else book) → group ≡ 0 → ⊥
    by-group group book h z = by (group == 0) h (eq-eqb group 0 z)
      where
        by : (b : Bool) → IsAmong k (if b then [] else book) → b ≡ true → ⊥
        by true j e = absurd j
        by false j e = true≢false (sym e)

-- nor has it confirmed an RMB
pub confirmed-none : (x : Side) (past : List Entry) (rmb : ℕ) → IsAmong rmb (keys_of x past).confirmed → group_of x past ≡ 0 → ⊥
confirmed-none x [] rmb i none = absurd i
confirmed-none x (e ∷ past) rmb i none = by-group (group_of x (e ∷ past)) _ i none
  where
    by-group : (group : ℕ) (ks : Keys) → IsAmong rmb (if_group group ks).confirmed → group ≡ 0 → ⊥
    by-group group ks h z = by (group == 0) h (eq-eqb group 0 z)
      where
        by : (b : Bool) → IsAmong rmb (if b then no_keys else ks).confirmed → b ≡ true → ⊥
        by true j e = absurd j
        by false j e = true≢false (sym e)

-- one RMB more
pub confirms-from : (new : ℕ) (rs : List ℕ) (r : ℕ) → IsAmong r (confirms new rs) → IsAmong r rs ⊎ (r ≡ new)
confirms-from new [] r (inl e) = inr e
confirms-from new [] r (inr i) = absurd i
confirms-from new (s ∷ rs) r i = by (new == s) (nat_lt new s) i (λ h. confirms-from new rs r h)
  where
    by : (b c : Bool) → IsAmong r (if b then s ∷ rs else if c then new ∷ s ∷ rs else s ∷ confirms new rs) → (IsAmong r (confirms new rs) → IsAmong r rs ⊎ (r ≡ new)) → IsAmong r (s ∷ rs) ⊎ (r ≡ new)
    by true c h rest = inl h
    by false true (inl e) rest = inr e
    by false true (inr h) rest = inl h
    by false false (inl e) rest = inl (inl e)
    by false false (inr h) rest = elim (rest h) [ inl g ↦ inl (inr g) | inr e ↦ inr e ]

-- the new one is among them
pub confirms-has : (new : ℕ) (rs : List ℕ) → IsAmong new (confirms new rs)
confirms-has new [] = inl refl
confirms-has new (s ∷ rs) = by (new == s) (nat_lt new s) refl (confirms-has new rs)
  where
    by : (b c : Bool) → (new == s) ≡ b → IsAmong new (confirms new rs) → IsAmong new (if b then s ∷ rs else if c then new ∷ s ∷ rs else s ∷ confirms new rs)
    by true c e rest = inl (eqb-true new s e)
    by false true e rest = inl refl
    by false false e rest = inr rest

-- an RMB that is confirmed after an entry was so, or is confirmed with the entry
pub confirmed-from : (x : Side) (e : Entry) (past : List Entry) (rmb : ℕ) → IsAmong rmb (keys_of x (e ∷ past)).confirmed → IsAmong rmb (keys_of x past).confirmed ⊎ Confirms x e past rmb
confirmed-from x e past = keys-after x e past (λ ks. (rmb : ℕ) → IsAmong rmb ks.confirmed → IsAmong rmb (keys_of x past).confirmed ⊎ Confirms x e past rmb) (record {
  was = λ rmb i. inl i;
  withdrawn = λ t rmb i. inl (kept-from (λ r. not (has r (named_rmbs (deleted t.act.message) (keys_of x past).keys))) rmb (keys_of x past).confirmed i).0;
  registered = λ r link from ks had rmb i. had rmb i;
  confirmed = λ r from ks had rmb i. elim (confirms-from r ks.confirmed rmb i) [ inl h ↦ had rmb h | inr same ↦ inr (subst (λ s. Confirms x e past s) (sym same) from) ];
  ended = λ none rmb i. absurd i;
})

-- as keys are withdrawn, an RMB that is confirmed after the entry is not of those, or is confirmed with the entry
pub withdrawn-from : (x : Side) (e : Entry) (past : List Entry) (t : Takes x e past Withdraw) (rmb : ℕ) → IsAmong rmb (keys_of x (e ∷ past)).confirmed
    → (has rmb (named_rmbs (deleted t.act.message) (keys_of x past).keys) ≡ false) ⊎ Confirms x e past rmb
withdrawn-from x e past t = posts-go x e past (λ ks. (rmb : ℕ) → IsAmong rmb ks.confirmed → (has rmb (named_rmbs (deleted t.act.message) (keys_of x past).keys) ≡ false) ⊎ Confirms x e past rmb)
    (λ rmb i. inl (not-true _ (kept-from (λ r. not (has r (named_rmbs (deleted t.act.message) (keys_of x past).keys))) rmb (keys_of x past).confirmed (subst (λ (ks : Keys). IsAmong rmb ks.confirmed) taken-is i)).1))
    (λ r link from ks had rmb i. had rmb i)
    (λ r from ks had rmb i. elim (confirms-from r ks.confirmed rmb i) [ inl h ↦ had rmb h | inr same ↦ inr (subst (λ s. Confirms x e past s) (sym same) from) ])
    (λ none rmb i. absurd i)
  where
    taken-is : by_act x (flow_of x past) (table_of x (e ∷ past)) (act_in x e past) (keys_of x past) ≡ withdraws (named_rmbs (deleted t.act.message) (keys_of x past).keys) (keys_of x past)
    taken-is = ap (λ o. by_act x (flow_of x past) (table_of x (e ∷ past)) o (keys_of x past)) t.is ∙ ap (λ s. by_step x (flow_of x past) (table_of x (e ∷ past)) t.act.message t.act.link.slot s (keys_of x past)) t.does
