-- Which keys are bound after one more was bound, and which number is unused.
use Rattle.std.proofs.Common.{◌≡◌, ◌∙◌, ◌⊎◌, ℕ, ◌+◌, ◌-◌, ◌<◌, ◌==◌, ◌&&◌, ◌||◌, Bool, true, false, not, cond, List, [], ◌∷◌, ◌++◌, length, map, filter, Some, None, option_map, unwrap_or, refl, sym, ap, inl, inr, subst, arith}
use Rattle.std.specs.Prelude.{find}
use Rattle.std.specs.List.{list_any}
use Rattle.std.proofs.lemmas.Bool.{eqb-true, eq-eqb}
use Rattle.std.proofs.lemmas.List.{length-map}
use Rattle.std.proofs.lemmas.Map.Steps.{le-length_from_below}
use Rattle.smc_num.specs.declared.LinkId.{LinkId}
use Rattle.smc_num.specs.Names.{same_link}
use Rattle.smc_num.specs.Keys.{Key, is_used, lowest_unused, IsLowestUnused, is_for, is_bound, bound, binds}
use Rattle.smc_num.proofs.ListLemmas.{FindsFirst, FailsAll, find-range}

both_true : (a b : Bool) → (a && b) ≡ true → (a ≡ true) × (b ≡ true)
both_true true b e = (refl, e)
both_true false b e = cc

or_true : (a : Bool) → (a || true) ≡ true
or_true true = refl
or_true false = refl

true_where_not : (b : Bool) → not b ≡ false → b ≡ true
true_where_not true e = refl
true_where_not false e = cc

false_where_not : (b : Bool) → not b ≡ true → b ≡ false
false_where_not true e = cc
false_where_not false e = refl

-- a link is itself
same_link_refl : (link : LinkId) → same_link link link ≡ true
same_link_refl link = let g = eq-eqb link.group link.group refl in let s = eq-eqb link.slot link.slot refl in let i = eq-eqb link.incarnation link.incarnation refl in
    ap (λ b. b && ((link.slot == link.slot) && (link.incarnation == link.incarnation))) g ∙ (ap (λ b. b && (link.incarnation == link.incarnation)) s ∙ i)

-- what is bound is bound for a slot
not_for : (rmb : ℕ) (link : LinkId) (k : Key) → is_for rmb link.slot k ≡ false → is_bound rmb link k ≡ false
not_for rmb link k other = by_tests (k.rmb == rmb) (k.link.group == link.group) (k.link.slot == link.slot) (k.link.incarnation == link.incarnation) other
  where
    by_tests : (r g s i : Bool) → (r && s) ≡ false → (r && (g && (s && i))) ≡ false
    by_tests false g s i e = refl
    by_tests true false s i e = refl
    by_tests true true true i e = cc
    by_tests true true false i e = refl

-- the new key is found
pub bound-binds : (new : Key) (keys : List Key) → bound new.rmb new.link (binds new keys) ≡ Some new.key
bound-binds new keys = ap (λ o. option_map (λ k. k.key) o) (found keys)
  where
    itself : is_bound new.rmb new.link new ≡ true
    itself = ap (λ b. b && same_link new.link new.link) (eq-eqb new.rmb new.rmb refl) ∙ same_link_refl new.link

    found : (ks : List Key) → find (is_bound new.rmb new.link) (binds new ks) ≡ Some new
    found [] = ap (λ b. cond b (Some new) None) itself
    found (k ∷ ks) = by_test (is_for new.rmb new.link.slot k) refl (found ks)
      where
        by_test : (b : Bool) → is_for new.rmb new.link.slot k ≡ b → find (is_bound new.rmb new.link) (binds new ks) ≡ Some new
            → find (is_bound new.rmb new.link) (cond (not b) (k ∷ filter (λ j. not (is_for new.rmb new.link.slot j)) ks) (filter (λ j. not (is_for new.rmb new.link.slot j)) ks) ++ new ∷ []) ≡ Some new
        by_test true e rest = rest
        by_test false e rest = ap (λ b. cond b (Some k) (find (is_bound new.rmb new.link) (binds new ks))) (not_for new.rmb new.link k e) ∙ rest

-- a key of another RMB or slot is found as before
pub bound-binds_other : (new : Key) (rmb : ℕ) (link : LinkId) (keys : List Key) → is_for rmb link.slot new ≡ false → bound rmb link (binds new keys) ≡ bound rmb link keys
bound-binds_other new rmb link keys other = ap (λ o. option_map (λ k. k.key) o) (found keys)
  where
    replaced : (k : Key) → is_for new.rmb new.link.slot k ≡ true → is_for rmb link.slot k ≡ false
    replaced k e =
        let both = both_true (k.rmb == new.rmb) (k.link.slot == new.link.slot) e in
        ap (λ r. (r == rmb) && (k.link.slot == link.slot)) (eqb-true k.rmb new.rmb both.0)
        ∙ (ap (λ s. (new.rmb == rmb) && (s == link.slot)) (eqb-true k.link.slot new.link.slot both.1) ∙ other)

    found : (ks : List Key) → find (is_bound rmb link) (binds new ks) ≡ find (is_bound rmb link) ks
    found [] = ap (λ b. cond b (Some new) None) (not_for rmb link new other)
    found (k ∷ ks) = by_test (is_for new.rmb new.link.slot k) refl (found ks)
      where
        by_test : (b : Bool) → is_for new.rmb new.link.slot k ≡ b → find (is_bound rmb link) (binds new ks) ≡ find (is_bound rmb link) ks
            → find (is_bound rmb link) (cond (not b) (k ∷ filter (λ j. not (is_for new.rmb new.link.slot j)) ks) (filter (λ j. not (is_for new.rmb new.link.slot j)) ks) ++ new ∷ []) ≡ find (is_bound rmb link) (k ∷ ks)
        by_test true e rest = rest ∙ sym (ap (λ b. cond b (Some k) (find (is_bound rmb link) ks)) (not_for rmb link k (replaced k e)))
        by_test false e rest = ap (λ o. cond (is_bound rmb link k) (Some k) o) rest

-- a number above the base that is used stands among the keys, counted from the base
used_above : (base q : ℕ) (keys : List Key) → is_used (base + 1 + q) keys ≡ true → list_any (λ n. q == n) (map (λ k. k.key - (base + 1)) keys) ≡ true
used_above base q [] used = used
used_above base q (k ∷ ks) used = by_test (base + 1 + q == k.key) refl (used_above base q ks) used
  where
    by_test : (b : Bool) → (base + 1 + q == k.key) ≡ b → (is_used (base + 1 + q) ks ≡ true → list_any (λ n. q == n) (map (λ j. j.key - (base + 1)) ks) ≡ true)
        → (b || is_used (base + 1 + q) ks) ≡ true → ((q == k.key - (base + 1)) || list_any (λ n. q == n) (map (λ j. j.key - (base + 1)) ks)) ≡ true
    by_test true e rest u =
        let at : base + 1 + q ≡ k.key = eqb-true _ _ e in
        ap (λ b. b || list_any (λ n. q == n) (map (λ j. j.key - (base + 1)) ks)) (eq-eqb q (k.key - (base + 1)) (omega arith))
    by_test false e rest u = ap (λ b. (q == k.key - (base + 1)) || b) (rest u) ∙ or_true (q == k.key - (base + 1))

-- there is always a lowest unused number
pub lowest_unused_is : (base : ℕ) (keys : List Key) → IsLowestUnused base keys (lowest_unused base keys)
lowest_unused_is base keys = by_search (find-range (λ n. not (is_used n keys)) (base + 1) (length keys + 1))
  where
    by_search : ((m : ℕ) × FindsFirst (λ n. not (is_used n keys)) (base + 1) (length keys + 1) m) ⊎ FailsAll (λ n. not (is_used n keys)) (base + 1) (length keys + 1) → IsLowestUnused base keys (lowest_unused base keys)
    by_search (inl (m, f)) = subst (λ n. IsLowestUnused base keys n) (sym (ap (λ o. unwrap_or o base) f.found)) (record {
      above = omega (arith, f.low);
      unused = false_where_not (is_used m keys) f.passes;
      lowest = λ n above below. true_where_not (is_used n keys) (f.first n (omega arith) below);
    })
    by_search (inr none) =
        let used : (q : ℕ) → q < length keys + 1 → list_any (λ n. q == n) (map (λ k. k.key - (base + 1)) keys) ≡ true =
        λ q low. used_above base q keys (true_where_not (is_used (base + 1 + q) keys) (none (base + 1 + q) (omega arith) (omega arith))) in
        absurd (omega (arith, le-length_from_below (map (λ k. k.key - (base + 1)) keys) (length keys + 1) used, length-map keys (λ k. k.key - (base + 1))))
