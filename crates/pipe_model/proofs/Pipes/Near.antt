-- A near validation message that shows no gap names a number that its taker has taken.
use Rattle.std.proofs.Common.{◌≡◌, ◌∙◌, ℕ, ◌+◌, ◌-◌, ◌<◌, ◌≤◌, ◌⊎◌, inl, inr, true, false, sym, arith, ◌&&◌, true≢false, nat_lt, ltb-true}
use Rattle.smc_num.specs.Numbers.{past_by}
use Rattle.pipe_model.specs.Snapshot.{shows_gap, is_near}
use Rattle.pipe_model.proofs.Pipes.Items.{lt-or}

past-near : (told taken : ℕ) → taken < told → told < taken + 32_768 → past_by told taken ≡ told - taken
past-near told taken a b = omega arith

gap-of : (p : ℕ) → 0 < p → p < 32_768 → (nat_lt 0 p && nat_lt p 32_768) ≡ true
gap-of p a b = grind arith

pub no-gap : (told taken : ℕ) → is_near told taken ≡ true → shows_gap told taken ≡ false → told ≤ taken
no-gap told taken near e = by (lt-or taken told)
  where
    by : (taken < told) ⊎ (told ≤ taken) → told ≤ taken
    by (inr a) = a
    by (inl a) =
        let n : told < taken + 32_768 = ltb-true told (taken + 32_768) near in
        let p : past_by told taken ≡ told - taken = past-near told taken a n in
        absurd (true≢false (sym (gap-of (past_by told taken) (omega (arith, p, a)) (omega (arith, p, n))) ∙ e))
