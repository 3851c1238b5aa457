-- Lists of keys: what stands in them after a key is bound, an RMB is registered, or keys are taken out.
use Rattle.std.proofs.Common.{Bool, List, None, Some, [], ap, cond, eq-eqb, eqb-true, false, filter, if◌then◌else◌, inl, inr, not, refl, subst, sym, true, true≢false, ℕ, ◌++◌, ◌<◌, ◌==◌, ◌||◌, ◌∙◌, ◌∷◌, ◌≡◌, ◌⊎◌}
use Rattle.std.specs.List.{list_any}
use Rattle.std.specs.Prelude.{Option, find, option_map, unwrap_or}
use Rattle.smc_num.specs.Keys.{lowest_unused}
use Rattle.smc_num.proofs.KeyLemmas.{lowest_unused_is}
use Rattle.history_laws.specs.Words.{Key, LinkId, is_for, number_for, registers}
use Rattle.history_laws.specs.Lists.{IsAmong}
use Rattle.history_laws.proofs.Basics.{and-both, and-true, none-is, not-true, some-is}
use Rattle.link_laws.specs.KeyChanges.{AreKeys, NoTwo, same_number, same_use}

-- what is among the second of two lists is among both
pub right-among : {X : Type 0} (a : X) (xs ys : List X) → IsAmong a ys → IsAmong a (xs ++ ys)
right-among a [] ys i = i
right-among a (x ∷ xs) ys i = inr (right-among a xs ys i)

-- a test of which one answer is known
clash : {X : Type 0} (b : Bool) → b ≡ true → b ≡ false → X
clash b t f = absurd (true≢false (sym t ∙ f))

-- the other answer of a test
pub not-of : (b : Bool) → b ≡ false → not b ≡ true
not-of true e = absurd (true≢false e)
not-of false e = refl

-- a test that would give true gives false
pub not-alike : (b : Bool) → (b ≡ true → ⊥) → b ≡ false
not-alike true f = absurd (f refl)
not-alike false f = refl

-- what a test finds, and what it doesn't
pub any-of : {X : Type 0} (p : X → Bool) (k : X) (ks : List X) → IsAmong k ks → p k ≡ true → list_any p ks ≡ true
any-of p k [] i t = absurd i
any-of p k (j ∷ js) (inl e) t = by (p j) (ap p (sym e) ∙ t)
  where
    by : (b : Bool) → b ≡ true → (b || list_any p js) ≡ true
    by true e = refl
    by false e = absurd (true≢false (sym e))
any-of p k (j ∷ js) (inr i) t = by (p j) (any-of p k js i t)
  where
    by : (b : Bool) → list_any p js ≡ true → (b || list_any p js) ≡ true
    by true e = refl
    by false e = e

-- no element passes, so this one does not
pub none-of : {X : Type 0} (p : X → Bool) (k : X) (ks : List X) → list_any p ks ≡ false → IsAmong k ks → p k ≡ false
none-of p k ks none i = not-alike (p k) (λ t. clash (list_any p ks) (any-of p k ks i t) none)

-- an element that passes
pub any-found : {X : Type 0} (p : X → Bool) (ks : List X) → list_any p ks ≡ true → (k : X) × (IsAmong k ks × (p k ≡ true))
any-found {X = X} p [] e = absurd (true≢false (sym e))
any-found {X = X} p (j ∷ js) e = by (p j) refl e (λ f. any-found p js f)
  where
    by : (b : Bool) → p j ≡ b → (b || list_any p js) ≡ true → (list_any p js ≡ true → (k : X) × (IsAmong k js × (p k ≡ true))) → (k : X) × (IsAmong k (j ∷ js) × (p k ≡ true))
    by true t e rest = (j, (inl refl, t))
    by false t e rest = let r = rest e in (r.0, (inr r.1.0, r.1.1))

-- none passes where each does not
pub none-where : {X : Type 0} (p : X → Bool) (ks : List X) → ((k : X) → IsAmong k ks → p k ≡ false) → list_any p ks ≡ false
none-where p ks each = not-alike (list_any p ks) (λ t. let f = any-found p ks t in absurd (true≢false (sym f.1.1 ∙ each f.0 f.1.0)))

-- the first that passes
pub found-is : {X : Type 0} (p : X → Bool) (k : X) (ks : List X) → find p ks ≡ Some k → IsAmong k ks × (p k ≡ true)
found-is p k [] e = absurd (none-is k e)
found-is p k (j ∷ js) e = by (p j) refl e (λ f. found-is p k js f)
  where
    by : (b : Bool) → p j ≡ b → cond b (Some j) (find p js) ≡ Some k → (find p js ≡ Some k → IsAmong k js × (p k ≡ true)) → IsAmong k (j ∷ js) × (p k ≡ true)
    by true t e rest = let same = some-is j k e in (inl (sym same), ap p (sym same) ∙ t)
    by false t e rest = let r = rest e in (inr r.0, r.1)

-- nothing is found, so none passes
pub found-none : {X : Type 0} (p : X → Bool) (ks : List X) → find p ks ≡ None → list_any p ks ≡ false
found-none p [] e = refl
found-none p (j ∷ js) e = by (p j) e (λ f. found-none p js f)
  where
    by : (b : Bool) → cond b (Some j) (find p js) ≡ None → (find p js ≡ None → list_any p js ≡ false) → (b || list_any p js) ≡ false
    by true e rest = absurd (none-is j (sym e))
    by false e rest = rest e

-- keys that are kept
pub kept-in : {X : Type 0} (p : X → Bool) (k : X) (ks : List X) → IsAmong k ks → p k ≡ true → IsAmong k (filter p ks)
kept-in p k [] i t = i
kept-in p k (j ∷ js) i t = by (p j) refl i (λ h. kept-in p k js h t)
  where
    by : (b : Bool) → p j ≡ b → (k ≡ j) ⊎ IsAmong k js → (IsAmong k js → IsAmong k (filter p js)) → IsAmong k (if b then j ∷ filter p js else filter p js)
    by true e (inl same) rest = inl same
    by true e (inr h) rest = inr (rest h)
    by false e (inl same) rest = clash (p k) t (ap p same ∙ e)
    by false e (inr h) rest = rest h

-- what is kept was there and passes
pub kept-from : {X : Type 0} (p : X → Bool) (k : X) (ks : List X) → IsAmong k (filter p ks) → IsAmong k ks × (p k ≡ true)
kept-from p k [] i = absurd i
kept-from p k (j ∷ js) i = by (p j) refl i (λ h. kept-from p k js h)
  where
    by : (b : Bool) → p j ≡ b → IsAmong k (if b then j ∷ filter p js else filter p js) → (IsAmong k (filter p js) → IsAmong k js × (p k ≡ true)) → IsAmong k (j ∷ js) × (p k ≡ true)
    by true e (inl same) rest = (inl same, ap p same ∙ e)
    by true e (inr h) rest = let r = rest h in (inr r.0, r.1)
    by false e h rest = let r = rest h in (inr r.0, r.1)

-- what is among the first of two lists is among both
pub among-left : {X : Type 0} (k : X) (ks js : List X) → IsAmong k ks → IsAmong k (ks ++ js)
among-left k [] js i = absurd i
among-left k (j ∷ ks) js (inl e) = inl e
among-left k (j ∷ ks) js (inr i) = inr (among-left k ks js i)

-- the last is among them
pub among-last : {X : Type 0} (k : X) (ks : List X) → IsAmong k (ks ++ k ∷ [])
among-last k [] = inl refl
among-last k (j ∷ ks) = inr (among-last k ks)

-- one of a list with one more is of the list or that one
pub among-either : {X : Type 0} (k new : X) (ks : List X) → IsAmong k (ks ++ new ∷ []) → IsAmong k ks ⊎ (k ≡ new)
among-either k new [] (inl e) = inr e
among-either k new [] (inr i) = absurd i
among-either k new (j ∷ ks) (inl e) = inl (inl e)
among-either k new (j ∷ ks) (inr i) = elim (among-either k new ks i) [ inl h ↦ inl (inr h) | inr e ↦ inr e ]

-- keys that are not alike
pub two-filter : (alike : Key → Key → Bool) (p : Key → Bool) (ks : List Key) → NoTwo alike ks → NoTwo alike (filter p ks)
two-filter alike p [] n = tt
two-filter alike p (k ∷ ks) n = by (p k) (two-filter alike p ks n.1)
  where
    by : (b : Bool) → NoTwo alike (filter p ks) → NoTwo alike (if b then k ∷ filter p ks else filter p ks)
    by true rest = (none-where (alike k) (filter p ks) (λ j i. none-of (alike k) j ks n.0 (kept-from p j ks i).0), rest)
    by false rest = rest

-- one more that is like none
pub two-more : (alike : Key → Key → Bool) (new : Key) (ks : List Key) → ((k : Key) → IsAmong k ks → alike k new ≡ false) → NoTwo alike ks → NoTwo alike (ks ++ new ∷ [])
two-more alike new [] each n = (refl, tt)
two-more alike new (k ∷ ks) each n = (
  none-where (alike k) (ks ++ new ∷ []) (λ j i. elim (among-either j new ks i) [ inl h ↦ none-of (alike k) j ks n.0 h | inr e ↦ ap (alike k) e ∙ each k (inl refl) ]),
  two-more alike new ks (λ j i. each j (inr i)) n.1,
)

-- two that are alike both ways are one
pub one-of : (alike : Key → Key → Bool) (ks : List Key) → NoTwo alike ks → (k j : Key) → IsAmong k ks → IsAmong j ks → alike k j ≡ true → alike j k ≡ true → k ≡ j
one-of alike [] n k j i h t u = absurd i
one-of alike (m ∷ ms) n k j (inl e) (inl f) t u = e ∙ sym f
one-of alike (m ∷ ms) n k j (inl e) (inr h) t u = clash (alike k j) t (ap (λ x. alike x j) e ∙ none-of (alike m) j ms n.0 h)
one-of alike (m ∷ ms) n k j (inr i) (inl f) t u = clash (alike j k) u (ap (λ x. alike x k) f ∙ none-of (alike m) k ms n.0 i)
one-of alike (m ∷ ms) n k j (inr i) (inr h) t u = one-of alike ms n.1 k j i h t u

-- a number is that of one key, and so is the use
pub one-number : (ks : List Key) → NoTwo same_number ks → (k j : Key) → IsAmong k ks → IsAmong j ks → k.key ≡ j.key → k ≡ j
one-number ks n k j i h e = one-of same_number ks n k j i h (eq-eqb k.key j.key e) (eq-eqb j.key k.key (sym e))

-- a key of an RMB and slot passes the test for them
pub use-of : (rmb slot : ℕ) (k : Key) → k.rmb ≡ rmb → k.link.slot ≡ slot → is_for rmb slot k ≡ true
use-of rmb slot k e f = and-true (k.rmb == rmb) (k.link.slot == slot) (eq-eqb k.rmb rmb e) (eq-eqb k.link.slot slot f)

-- and the test tells both
pub of-use : (rmb slot : ℕ) (k : Key) → is_for rmb slot k ≡ true → (k.rmb ≡ rmb) × (k.link.slot ≡ slot)
of-use rmb slot k t = let b = and-both (k.rmb == rmb) (k.link.slot == slot) t in (eqb-true k.rmb rmb b.0, eqb-true k.link.slot slot b.1)

-- an RMB and slot are those of one key
pub one-use : (ks : List Key) → NoTwo same_use ks → (k j : Key) → IsAmong k ks → IsAmong j ks → k.rmb ≡ j.rmb → k.link.slot ≡ j.link.slot → k ≡ j
one-use ks n k j i h e f = one-of same_use ks n k j i h (use-of k.rmb k.link.slot j (sym e) (sym f)) (use-of j.rmb j.link.slot k e f)

-- where the number of an RMB for a slot comes from
pub number-from : (base rmb slot : ℕ) (ks : List Key) → ((j : Key) × (IsAmong j ks × ((is_for rmb slot j ≡ true) × (number_for base rmb slot ks ≡ j.key)))) ⊎ ((list_any (is_for rmb slot) ks ≡ false) × (number_for base rmb slot ks ≡ lowest_unused base ks))
number-from base rmb slot ks = by (find (is_for rmb slot) ks) refl
  where
    by : (o : Option Key) → find (is_for rmb slot) ks ≡ o → ((j : Key) × (IsAmong j ks × ((is_for rmb slot j ≡ true) × (number_for base rmb slot ks ≡ j.key)))) ⊎ ((list_any (is_for rmb slot) ks ≡ false) × (number_for base rmb slot ks ≡ lowest_unused base ks))
    by None e = inr (found-none (is_for rmb slot) ks e, ap (λ o. unwrap_or (option_map (λ (k : Key). k.key) o) (lowest_unused base ks)) e)
    by (Some j) e = let f = found-is (is_for rmb slot) j ks e in inl (j, (f.0, (f.1, ap (λ o. unwrap_or (option_map (λ (k : Key). k.key) o) (lowest_unused base ks)) e)))

-- the key that an RMB gets as it is registered for a link
abbrev pub new_key : ℕ → ℕ → LinkId → List Key → Key
new_key base rmb link ks = record { key = number_for base rmb link.slot ks; rmb = rmb; link = link }

module _ (base rmb : ℕ) (link : LinkId) (ks : List Key) where
  abbrev others : Key → Bool
  others k = not (is_for rmb link.slot k)

  -- the new key stands there
  pub registered : IsAmong (new_key base rmb link ks) (registers base rmb ks link)
  registered = among-last (new_key base rmb link ks) (filter others ks)

  -- what is registered was there, of another RMB or slot, or is that key
  pub registered-from : (k : Key) → IsAmong k (registers base rmb ks link) → (IsAmong k ks × (is_for rmb link.slot k ≡ false)) ⊎ (k ≡ new_key base rmb link ks)
  registered-from k i = elim (among-either k (new_key base rmb link ks) (filter others ks) i) [ inl h ↦ inl (let f = kept-from others k ks h in (f.0, not-true (is_for rmb link.slot k) f.1)) | inr e ↦ inr e ]

  -- a key of another RMB or slot stays
  pub stays-beside : (k : Key) → IsAmong k ks → is_for rmb link.slot k ≡ false → IsAmong k (registers base rmb ks link)
  stays-beside k i e = among-left k (filter others ks) (new_key base rmb link ks ∷ []) (kept-in others k ks i (not-of (is_for rmb link.slot k) e))

  -- a key of that RMB and slot keeps its number
  pub keeps-number : NoTwo same_use ks → (k : Key) → IsAmong k ks → is_for rmb link.slot k ≡ true → number_for base rmb link.slot ks ≡ k.key
  keeps-number uses k i t = by (number-from base rmb link.slot ks)
    where
      by : ((j : Key) × (IsAmong j ks × ((is_for rmb link.slot j ≡ true) × (number_for base rmb link.slot ks ≡ j.key)))) ⊎ ((list_any (is_for rmb link.slot) ks ≡ false) × (number_for base rmb link.slot ks ≡ lowest_unused base ks)) → number_for base rmb link.slot ks ≡ k.key
      by (inl (j, (h, (u, e)))) =
          let a = of-use rmb link.slot j u in
          let b = of-use rmb link.slot k t in
          e ∙ ap (λ (x : Key). x.key) (one-use ks uses j k h i (a.0 ∙ sym b.0) (a.1 ∙ sym b.1))
      by (inr (none, e)) = clash (list_any (is_for rmb link.slot) ks) (any-of (is_for rmb link.slot) k ks i t) none

  -- the number is that of no key of another RMB or slot
  pub number-apart : NoTwo same_number ks → (k : Key) → IsAmong k ks → is_for rmb link.slot k ≡ false → (k.key == number_for base rmb link.slot ks) ≡ false
  number-apart numbers k i f = not-alike (k.key == number_for base rmb link.slot ks) (λ t. by (eqb-true k.key (number_for base rmb link.slot ks) t) (number-from base rmb link.slot ks))
    where
      by : k.key ≡ number_for base rmb link.slot ks → ((j : Key) × (IsAmong j ks × ((is_for rmb link.slot j ≡ true) × (number_for base rmb link.slot ks ≡ j.key)))) ⊎ ((list_any (is_for rmb link.slot) ks ≡ false) × (number_for base rmb link.slot ks ≡ lowest_unused base ks)) → ⊥
      by t (inl (j, (h, (u, e)))) = true≢false (sym u ∙ (ap (λ x. is_for rmb link.slot x) (one-number ks numbers j k h i (sym e ∙ sym t)) ∙ f))
      by t (inr (none, e)) = true≢false (sym (any-of (λ j. lowest_unused base ks == j.key) k ks i (eq-eqb (lowest_unused base ks) k.key (sym e ∙ sym t))) ∙ (lowest_unused_is base ks).unused)

  number-above : AreKeys base ks → base < number_for base rmb link.slot ks
  number-above are = by (number-from base rmb link.slot ks)
    where
      by : ((j : Key) × (IsAmong j ks × ((is_for rmb link.slot j ≡ true) × (number_for base rmb link.slot ks ≡ j.key)))) ⊎ ((list_any (is_for rmb link.slot) ks ≡ false) × (number_for base rmb link.slot ks ≡ lowest_unused base ks)) → base < number_for base rmb link.slot ks
      by (inl (j, (h, (u, e)))) = subst (λ n. base < n) (sym e) (are.above j h)
      by (inr (none, e)) = subst (λ n. base < n) (sym e) (lowest_unused_is base ks).above

  -- a registering leaves no number twice, and no RMB and slot
  pub registers-are : AreKeys base ks → AreKeys base (registers base rmb ks link)
  registers-are are = record {
    numbers = two-more same_number (new_key base rmb link ks) (filter others ks) (λ k i. let f = kept-from others k ks i in number-apart are.numbers k f.0 (not-true (is_for rmb link.slot k) f.1)) (two-filter same_number others ks are.numbers);
    uses = two-more same_use (new_key base rmb link ks) (filter others ks) (λ k i. by k (not-true (is_for rmb link.slot k) (kept-from others k ks i).1)) (two-filter same_use others ks are.uses);
    above = λ k i. elim (registered-from k i) [ inl h ↦ are.above k h.0 | inr e ↦ subst (λ n. base < n) (sym (ap (λ (x : Key). x.key) e)) (number-above are) ];
  }
    where
      by : (k : Key) → is_for rmb link.slot k ≡ false → same_use k (new_key base rmb link ks) ≡ false
      by k f = not-alike (same_use k (new_key base rmb link ks)) (λ t. let u = of-use k.rmb k.link.slot (new_key base rmb link ks) t in true≢false (sym (use-of rmb link.slot k (sym u.0) (sym u.1)) ∙ f))

  -- each key keeps number, RMB and slot
  pub keeps-use : NoTwo same_use ks → (k : Key) → IsAmong k ks → (l : LinkId) × ((l.slot ≡ k.link.slot) × IsAmong (record { key = k.key; rmb = k.rmb; link = l }) (registers base rmb ks link))
  keeps-use uses k i = by (is_for rmb link.slot k) refl
    where
      by : (b : Bool) → is_for rmb link.slot k ≡ b → (l : LinkId) × ((l.slot ≡ k.link.slot) × IsAmong (record { key = k.key; rmb = k.rmb; link = l }) (registers base rmb ks link))
      by true t = let u = of-use rmb link.slot k t in (link, (sym u.1, subst (λ j. IsAmong j (registers base rmb ks link)) (ap (λ n. record { key = n; rmb = rmb; link = link }) (keeps-number uses k i t) ∙ ap (λ r. record { key = k.key; rmb = r; link = link }) (sym u.0)) registered))
      by false f = (k.link, (refl, stays-beside k i f))

  -- a key stays, where a link of its slot is its own
  pub keeps-key : NoTwo same_use ks → (k : Key) → IsAmong k ks → (k.link.slot ≡ link.slot → link ≡ k.link) → IsAmong k (registers base rmb ks link)
  keeps-key uses k i same = by (is_for rmb link.slot k) refl
    where
      by : (b : Bool) → is_for rmb link.slot k ≡ b → IsAmong k (registers base rmb ks link)
      by true t =
          let u = of-use rmb link.slot k t in
          subst (λ j. IsAmong j (registers base rmb ks link)) (ap (λ n. record { key = n; rmb = rmb; link = link }) (keeps-number uses k i t) ∙ (ap (λ r. record { key = k.key; rmb = r; link = link }) (sym u.0) ∙ ap (λ l. record { key = k.key; rmb = k.rmb; link = l }) (same u.1))) registered
      by false f = stays-beside k i f
