-- The first element that passes a test.
use Rattle.std.proofs.Common.{◌≡◌, ◌∙◌, ◌⊎◌, ℕ, zero, suc, ◌+◌, ◌<◌, ◌≤◌, Bool, true, false, cond, List, [], ◌∷◌, map, filter, Some, option_map, refl, ap, inl, inr, arith}
use Rattle.std.specs.Prelude.{find}
use Rattle.std.proofs.lemmas.Bool.{cases_lt}
use Rattle.std.specs.List.{range_with_len}
use Rattle.smc_num.specs.Names.{head}

-- it is the first of all that pass
pub head-map-filter : {X Y : Type 0} (f : X → Y) (test : X → Bool) (xs : List X) → option_map f (find test xs) ≡ head (map f (filter test xs))
head-map-filter f test [] = refl
head-map-filter f test (x ∷ xs) = by_test (test x) (head-map-filter f test xs)
  where
    by_test : (b : Bool) → option_map f (find test xs) ≡ head (map f (filter test xs)) → option_map f (cond b (Some x) (find test xs)) ≡ head (map f (cond b (x ∷ filter test xs) (filter test xs)))
    by_test true rest = refl
    by_test false rest = rest

-- either the first number that passes is found, or none passes
pub record FindsFirst (test : ℕ → Bool) (from n m : ℕ) : Type 0 where
  pub found : find test (range_with_len from n) ≡ Some m
  pub low : from ≤ m
  pub high : m < from + n
  pub passes : test m ≡ true
  pub first : (k : ℕ) → from ≤ k → k < m → test k ≡ false

abbrev pub FailsAll : (ℕ → Bool) → ℕ → ℕ → Type 0
FailsAll test from n = (k : ℕ) → from ≤ k → k < from + n → test k ≡ false

pub find-range : (test : ℕ → Bool) (from n : ℕ) → ((m : ℕ) × FindsFirst test from n m) ⊎ FailsAll test from n
find-range test from zero = inr (λ k low high. absurd (omega arith))
find-range test from (suc n) = by_test (test from) refl (find-range test (from + 1) n)
  where
    by_test : (b : Bool) → test from ≡ b → ((m : ℕ) × FindsFirst test (from + 1) n m) ⊎ FailsAll test (from + 1) n → ((m : ℕ) × FindsFirst test from (suc n) m) ⊎ FailsAll test from (suc n)
    by_test true here rest = inl (
      from,
      record {
        found = ap (λ b. cond b (Some from) (find test (range_with_len (from + 1) n))) here;
        low = omega arith;
        high = omega arith;
        passes = here;
        first = λ k low high. absurd (omega arith);
      },
    )
    by_test false here (inl (m, f)) = inl (
      m,
      record {
        found = ap (λ b. cond b (Some from) (find test (range_with_len (from + 1) n))) here ∙ f.found;
        low = omega (arith, f.low);
        high = omega (arith, f.high);
        passes = f.passes;
        first = λ k low high. elim (cases_lt k (from + 1)) [ inl le ↦ ap test (let e : k ≡ from = omega arith in e) ∙ here | inr gt ↦ f.first k (omega arith) high ];
      },
    )
    by_test false here (inr none) = inr (λ k low high. elim (cases_lt k (from + 1)) [ inl le ↦ ap test (let e : k ≡ from = omega arith in e) ∙ here | inr gt ↦ none k (omega arith) (omega arith) ])
