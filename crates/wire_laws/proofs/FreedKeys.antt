-- No key is bound to another RMB too early: after every history made by the definitions, with CLC messages taken on known sockets.
use Rattle.std.proofs.Common.{Bool, List, [], ap, eq-eqb, eqb-true, false, inl, inr, not, refl, subst, sym, true, true≢false, ℕ, ◌&&◌, ◌==◌, ◌∙◌, ◌∷◌, ◌≡◌, ◌⊎◌}
use Rattle.std.specs.Prelude.{All, IsTrue, None, Option, Some, filter_map}
use Rattle.pipe_model.specs.Keys.{AreBound, IsRebound, deleted, owing}
use Rattle.std.proofs.lemmas.List.Elements.{All-nil}
use Rattle.history_laws.specs.Words.{Binding, Entry, Key, Lending, Setup, Side, Withdraw, group_of, has, is_done_with, is_used, keys_of, last_binding, lendings, lends, lent, named_rmbs, offered, returns}
use Rattle.history_laws.specs.Made.{IsMadeAll}
use Rattle.history_laws.specs.Lists.{IsAmong}
use Rattle.history_laws.proofs.Offers.{all-offers, begins, states}
use Rattle.history_laws.specs.Offers.{Begins, BeginsNone, BeginsOne}
use Rattle.history_laws.proofs.Basics.{and-both, none-is, not-true}
use Rattle.link_laws.specs.Awaited.{AreOnKnown}
use Rattle.link_laws.specs.FabricChanges.{Takes}
use Rattle.link_laws.specs.Joined.{HasAllFlows}
use Rattle.link_laws.proofs.Joined.{all-flows}
use Rattle.link_laws.proofs.Keys.{any-found, any-of, kept-from, keys-are, one-number}
use Rattle.link_laws.specs.KeyChanges.{Goes, GroupGoes, HasUse, Withdrawn}
use Rattle.lending_laws.specs.Owed.{OwedFrom}
use Rattle.lending_laws.proofs.Lendings.{all-groups, all-lendings, all-owed, are-done-all, changes, from-least, in-new, not-offered}
use Rattle.lending_laws.specs.Lendings.{AreDone, AreLendings, IsOfOffer}
use Rattle.lending_laws.proofs.Keys.{all-deleting, all-where, begun-among, binding-is, binding-was, has-among, in-among, its-use, named-idle, no-group, stays-bound, withdrawn-idle}
use Rattle.lending_laws.specs.Unlent.{AreUnlent}
use Rattle.wire_laws.proofs.Whole.{least-of}

-- what lendings owe, after every history
pub owed-from : (setup : Setup) (payload : List ℕ) (past : List Entry) → IsMadeAll setup payload past → AreOnKnown setup past → OwedFrom setup payload past
owed-from setup payload past m known = from-least setup payload past m (least-of setup payload past m known)

-- what is lent is of the side's group
pub lent-group : (setup : Setup) (payload : List ℕ) (past : List Entry) → IsMadeAll setup payload past → AreOnKnown setup past → (x : Side) (l : Lending) → IsAmong l (lent setup payload x past) → (l.group ≡ group_of x past) × ((l.group == 0) ≡ false)
lent-group setup payload past m known x l i = all-groups setup payload past m (all-owed setup payload past m (owed-from setup payload past m known)) x l i

-- what is not lent is done with
pub lent-or-done : (setup : Setup) (payload : List ℕ) (past : List Entry) → IsMadeAll setup payload past → AreOnKnown setup past → (x : Side) (l : Lending) → IsAmong l (lendings x past) → IsAmong l (lent setup payload x past) ⊎ (is_done_with x l past ≡ true)
lent-or-done setup payload past m known x l i = let d : AreDone setup payload x past = are-done-all setup payload past m (owed-from setup payload past m known) x in d.done l (in-among l (lendings x past) i)

module _ (setup : Setup) (payload : List ℕ) (e : Entry) (past : List Entry) (m : IsMadeAll setup payload (e ∷ past)) (x : Side) where
  -- a lending that had begun is lent only where it was
  lent-old : (l : Lending) → IsAmong l (lendings x past) → IsAmong l (lent setup payload x (e ∷ past)) → IsAmong l (lent setup payload x past)
  lent-old l known i = by (let c = changes setup payload past m.0.0 e m.0.1 (states setup payload past m.1) (all-offers setup payload past m.1) x in c.was l i)
    where
      it : IsOfOffer x past l
      it = let a : AreLendings x past = all-lendings setup payload past m.1 x in a.of_offer l (in-among l (lendings x past) known)

      new : Begins setup payload x e past → IsAmong l (filter_map (lends x) e.posts) → IsAmong l (lent setup payload x past)
      new (BeginsNone none offers) i = absurd (subst (λ ls. IsAmong l ls) none i)
      new (BeginsOne n) i = absurd (none-is it.0 (sym (not-offered setup payload past m.0.0 e m.0.1 (states setup payload past m.1) (all-offers setup payload past m.1) x n) ∙ (ap (λ s. offered x s past) (sym (ap (λ (k : Lending). k.s) (in-new setup payload past m.0.0 e m.0.1 (states setup payload past m.1) (all-offers setup payload past m.1) x n l i))) ∙ it.1.0)))

      by : IsAmong l (filter_map (lends x) e.posts) ⊎ (IsAmong l (lent setup payload x past) × (returns setup payload x e past l ≡ false)) → IsAmong l (lent setup payload x past)
      by (inl i) = new (begins setup payload past m.0.0 e m.0.1 (states setup payload past m.1) (all-offers setup payload past m.1) x) i
      by (inr i) = i.0

  -- no element is lent of an RMB whose keys are withdrawn
  pub withdrawn-not-lent : (t : Takes x e past Withdraw) (rmb : ℕ) → has rmb (named_rmbs (deleted t.act.message) (keys_of x past).keys) ≡ true → (l : Lending) → l.place.rmb ≡ rmb → IsAmong l (lent setup payload x past) → ⊥
  withdrawn-not-lent t rmb named l r i =
      let f : HasAllFlows past = all-flows setup payload past m.1 in
      let idle = withdrawn-idle setup payload past m.0.0 e m.0.1 m.1 x (f.keys x) (all-deleting setup payload past m.1 x) t in
      true≢false (sym (eq-eqb l.place.rmb rmb r) ∙ named-idle setup payload x past (deleted t.act.message) idle rmb (has-among rmb (named_rmbs (deleted t.act.message) (keys_of x past).keys) named) l i)

  -- numbers that are free
  unlent-after : AreOnKnown setup (e ∷ past) → AreUnlent setup payload x past → AreUnlent setup payload x (e ∷ past)
  unlent-after known was n b bound free l i r j = by (is_used n (keys_of x past).keys) refl
    where
      before : last_binding x n past ≡ Some b
      before = sym (binding-was x e past n free) ∙ bound

      old : IsAmong l (lent setup payload x past)
      old = lent-old l (begun-among x n past b before l i) j

      by : (c : Bool) → is_used n (keys_of x past).keys ≡ c → ⊥
      by false q = was n b before q l i r old
      by true q =
          let f = any-found (λ (j : Key). n == j.key) (keys_of x past).keys q in
          let number : n ≡ f.0.key = eqb-true n f.0.key f.1.1 in
          let is = binding-is x past f.0 b f.1.0 (ap (λ m. last_binding x m past) (sym number) ∙ before) in
          goes f.0 number is.0 (stays-bound x e past f.0 (its-use f.0 (keys_of x past).keys f.1.0))
        where
          goes : (k : Key) → n ≡ k.key → b.rmb ≡ k.rmb → HasUse k (keys_of x (e ∷ past)).keys ⊎ Goes x e past k.rmb → ⊥
          goes k number rmb (inl s) = true≢false (sym (any-of (λ (j : Key). n == j.key) s.key (keys_of x (e ∷ past)).keys s.among (eq-eqb n s.key.key (number ∙ sym s.number))) ∙ free)
          goes k number rmb (inr (Withdrawn t named)) = withdrawn-not-lent t k.rmb named l (r ∙ rmb) old
          goes k number rmb (inr (GroupGoes none)) = let g = lent-group setup payload (e ∷ past) m known x l j in true≢false (sym (eq-eqb l.group 0 (g.0 ∙ none)) ∙ g.1)

  -- each key of the side may be bound so
  pub bound-with : AreOnKnown setup past → AreUnlent setup payload x past → AreBound x e past
  bound-with known was = all-where (IsRebound x past) (keys_of x (e ∷ past)).keys (λ k i. rebound k i (last_binding x k.key past) refl)
    where
      done-if : (l : Lending) → IsAmong l (lendings x past) → (IsAmong l (lent setup payload x past) → ⊥) → is_done_with x l past ≡ true
      done-if l i n = elim (lent-or-done setup payload past m.1 known x l i) [ inl now ↦ absurd (n now) | inr done ↦ done ]

      rebound : (k : Key) → IsAmong k (keys_of x (e ∷ past)).keys → (o : Option Binding) → last_binding x k.key past ≡ o → All (λ l. IsTrue (is_done_with x l past)) (owing k o)
      rebound k i None q = All-nil (λ l. IsTrue (is_done_with x l past))
      rebound k i (Some b) q = all-where (λ l. IsTrue (is_done_with x l past)) (owing k (Some b)) (λ l h.
          let f = kept-from (λ (m : Lending). (m.place.rmb == b.rmb) && not (b.rmb == k.rmb)) l b.begun h in
          let both = and-both (l.place.rmb == b.rmb) (not (b.rmb == k.rmb)) f.1 in
          done-if l (begun-among x k.key past b q l f.0) (not-lent l f.0 (eqb-true l.place.rmb b.rmb both.0) (not-true (b.rmb == k.rmb) both.1) (is_used k.key (keys_of x past).keys) refl))
        where
          not-lent : (l : Lending) → IsAmong l b.begun → l.place.rmb ≡ b.rmb → (b.rmb == k.rmb) ≡ false → (c : Bool) → is_used k.key (keys_of x past).keys ≡ c → IsAmong l (lent setup payload x past) → ⊥
          not-lent l h r other false u j = was k.key b q u l h r j
          not-lent l h r other true u j =
              let f = any-found (λ (j : Key). k.key == j.key) (keys_of x past).keys u in
              let number : k.key ≡ f.0.key = eqb-true k.key f.0.key f.1.1 in
              let is = binding-is x past f.0 b f.1.0 (ap (λ m. last_binding x m past) (sym number) ∙ q) in
              goes f.0 number is.0 (stays-bound x e past f.0 (its-use f.0 (keys_of x past).keys f.1.0))
            where
              goes : (p : Key) → k.key ≡ p.key → b.rmb ≡ p.rmb → HasUse p (keys_of x (e ∷ past)).keys ⊎ Goes x e past p.rmb → ⊥
              goes p number rmb (inl s) = true≢false (sym (eq-eqb b.rmb k.rmb (rmb ∙ (sym s.of ∙ ap (λ (j : Key). j.rmb) (one-number (keys_of x (e ∷ past)).keys (keys-are x (e ∷ past)).numbers s.key k s.among i (s.number ∙ sym number))))) ∙ other)
              goes p number rmb (inr (Withdrawn t named)) = withdrawn-not-lent t p.rmb named l (r ∙ rmb) j
              goes p number rmb (inr (GroupGoes none)) = true≢false (ap (λ m. m == 0) (sym none) ∙ no-group x (e ∷ past) k i)

-- after every history
pub all-unlent : (setup : Setup) (payload : List ℕ) (past : List Entry) → IsMadeAll setup payload past → AreOnKnown setup past → (x : Side) → AreUnlent setup payload x past
all-unlent setup payload [] m known x = λ n b e free l i r j. none-is b e
all-unlent setup payload (e ∷ past) m known x = unlent-after setup payload e past m x known (all-unlent setup payload past m.1 known.1 x)

-- the law of bound keys with each entry
pub bound-holds : (setup : Setup) (payload : List ℕ) (x : Side) (e : Entry) (past : List Entry) → IsMadeAll setup payload (e ∷ past) → AreOnKnown setup past → AreBound x e past
bound-holds setup payload x e past m known = bound-with setup payload e past m x known (all-unlent setup payload past m.1 known x)
