-- The numbers of turns, and the word that is twice a number or one more.
use Rattle.std.proofs.Common.{◌≡◌, ℕ, zero, suc, ◌+◌, ◌-◌, ◌*◌, ◌/◌, ◌%◌, ◌^◌, ◌<◌, ◌≤◌, ◌⊎◌, inl, inr, refl, ap, ◌∙◌, bit_or, arith}
use Rattle.std.specs.Prelude.{max}
use Rattle.std.proofs.lemmas.Nat.{or_shifted, or_shr, or_mod}
use Rattle.turn_cell.specs.Calls.{IsLater}
use Rattle.turn_cell.specs.Keeping.{AtMost}

-- an even word gets its lowest bit
pub or_even : (k : ℕ) → bit_or (2 * k) 1 ≡ 2 * k + 1
or_even k = let e : bit_or (k * 2) 1 ≡ k * 2 + 1 = or_shifted k 1 1 (omega arith) in let h : 2 * k ≡ k * 2 = omega arith in ap (λ (n : ℕ). bit_or n 1) h ∙ e ∙ omega arith

-- an odd word has it
pub or_odd : (k : ℕ) → bit_or (2 * k + 1) 1 ≡ 2 * k + 1
or_odd k =
    let half : bit_or (2 * k + 1) 1 / 2 ≡ bit_or ((2 * k + 1) / 2) 0 = or_shr (2 * k + 1) 1 1 in
    let whole : (2 * k + 1) / 2 ≡ k = omega arith in
    let same : bit_or k 0 ≡ k = (let e : bit_or (k * 1) 0 ≡ k * 1 + 0 = or_shifted k 0 0 (omega arith) in ap (λ (n : ℕ). bit_or n 0) (omega arith) ∙ e ∙ omega arith) in
    let high : bit_or (2 * k + 1) 1 / 2 ≡ k = half ∙ ap (λ (n : ℕ). bit_or n 0) whole ∙ same in
    let odd : (2 * k + 1) % 2 ≡ 1 = omega arith in
    let low : bit_or (2 * k + 1) 1 % 2 ≡ 1 = or_mod (2 * k + 1) 1 1 ∙ ap (λ (n : ℕ). bit_or n 1) odd in
    let r : ℕ = bit_or (2 * k + 1) 1 in
    let a : r / 2 ≡ k = high in let b : r % 2 ≡ 1 = low in omega arith

-- a bound, one turn later
pub AtMost-more : (k n : ℕ) → k < 2 ^ 63 → AtMost k n → AtMost (k + 1) n
AtMost-more k n b (inl h) = inl (omega arith)
AtMost-more k n b (inr h) = let a = h.0 in let e = h.1 in inl (omega arith)

-- the turn after is not the last of all, or is
pub is_last : (k : ℕ) → k < 2 ^ 63 → (k + 1 < 2 ^ 63) ⊎ (k + 1 ≡ 2 ^ 63)
is_last k b = by (2 ^ 63 - (k + 1)) refl
  where
    by : (d : ℕ) → 2 ^ 63 - (k + 1) ≡ d → (k + 1 < 2 ^ 63) ⊎ (k + 1 ≡ 2 ^ 63)
    by zero e = inr (omega arith)
    by (suc d) e = inl (omega arith)

-- once the last turn of all was taken, its number comes again
pub AtMost-again : (k n : ℕ) → k + 1 ≡ 2 ^ 63 → AtMost (k + 1) n → AtMost k n
AtMost-again k n is (inl h) = by (n - k) refl
  where
    by : (d : ℕ) → n - k ≡ d → AtMost k n
    by zero e = inl (omega arith)
    by (suc d) e = inr (is, omega arith)
AtMost-again k n is (inr h) = let a = h.0 in absurd (omega arith)

pub AtMost-max : (k a b : ℕ) → AtMost k a → AtMost k b → AtMost k (max a b)
AtMost-max k a b (inl h) (inl g) = inl (by (a - b) refl)
  where
    by : (d : ℕ) → a - b ≡ d → max a b ≤ k
    by zero e = omega arith
    by (suc d) e = omega arith
AtMost-max k a b (inl h) (inr g) = let p = g.0 in let q = g.1 in inr (p, omega arith)
AtMost-max k a b (inr h) (inl g) = let p = h.0 in let q = h.1 in inr (p, omega arith)
AtMost-max k a b (inr h) (inr g) = let p = h.0 in let q = h.1 in let r = g.1 in inr (p, omega arith)

-- turn k + 1 is later than all that are at most k
pub AtMost-later : (k n turn : ℕ) → AtMost k n → turn ≡ k + 1 → IsLater n turn
AtMost-later k n turn (inl h) is = inl (omega arith)
AtMost-later k n turn (inr h) is = inr (is ∙ h.0)
