-- The first number that passes a test, and the lowest unused one.
use Rattle.std.proofs.Common.{◌≡◌, ◌∙◌, ℕ, zero, suc, ◌+◌, ◌-◌, ◌<◌, ◌≤◌, Bool, true, false, not, cond, List, length, Some, unwrap_or, sym, ap, arith}
use Rattle.std.specs.Prelude.{find}
use Rattle.std.specs.List.{range_with_len}
use Rattle.smc_num.specs.Keys.{Key, is_used, lowest_unused}

-- where the first of the numbers fails, the others have the same first one
pub find_next : (test : ℕ → Bool) (from i count : ℕ) → i < count → test (from + i) ≡ false
    → find test (range_with_len (from + (i + 1)) (count - (i + 1))) ≡ find test (range_with_len (from + i) (count - i))
find_next test from i count below fails =
    let more : count - i ≡ suc (count - (i + 1)) = omega arith in
    let on : from + i + 1 ≡ from + (i + 1) = omega arith in
    sym (ap (λ n. find test (range_with_len (from + i) n)) more
    ∙ (ap (λ b. cond b (Some (from + i)) (find test (range_with_len (from + i + 1) (count - (i + 1))))) fails
    ∙ ap (λ a. find test (range_with_len a (count - (i + 1)))) on))

-- what is found, or a lower default, is below the end
found_below : (test : ℕ → Bool) (a n d : ℕ) → d < a → unwrap_or (find test (range_with_len a n)) d < a + n
found_below test a zero d low = omega (arith, low)
found_below test a (suc n) d low = by_test (test a) (found_below test (a + 1) n d (omega arith))
  where
    by_test : (b : Bool) → unwrap_or (find test (range_with_len (a + 1) n)) d < a + 1 + n → unwrap_or (cond b (Some a) (find test (range_with_len (a + 1) n))) d < a + suc n
    by_test true rest = omega arith
    by_test false rest = omega (arith, rest)

-- the lowest unused number is at most one past as many as there are keys
pub lowest_unused_le : (base : ℕ) (keys : List Key) → lowest_unused base keys ≤ base + length keys + 1
lowest_unused_le base keys = omega (arith, found_below (λ n. not (is_used n keys)) (base + 1) (length keys + 1) base (omega arith))
