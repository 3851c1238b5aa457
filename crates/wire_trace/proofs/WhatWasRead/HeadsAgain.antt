-- The bytes of a head come again from the head that was read of them.
use Rattle.std.proofs.Common.{◌≡◌, ◌∙◌, ℕ, ◌+◌, ◌<◌, ◌≤◌, List, [], ◌∷◌, ◌++◌, length, take, drop, slice_index, refl, sym, ap, subst, arith, get_or-drop, length-drop, take-add}
use Rattle.byteorder.specs.Endian.{big_bytes, big_number}
use Rattle.field_cases.specs.Fields.{number_at}
use Rattle.wire_trace.specs.Heads.{head_bytes, head_at}
use Rattle.wire_trace.proofs.WhatWasRead.Fitting.{AreSmall}

-- two lists that agree in front and behind
cons : {x y : ℕ} {xs ys : List ℕ} → x ≡ y → xs ≡ ys → x ∷ xs ≡ y ∷ ys
cons e f i = e i ∷ f i

two_again : (a b : ℕ) → a < 256 → b < 256 → big_bytes 2 (big_number 2 (a ∷ b ∷ [])) ≡ a ∷ b ∷ []
two_again a b la lb = cons (omega arith) (cons (omega arith) refl)

four_again : (a b c d : ℕ) → a < 256 → b < 256 → c < 256 → d < 256 → big_bytes 4 (big_number 4 (a ∷ b ∷ c ∷ d ∷ [])) ≡ a ∷ b ∷ c ∷ d ∷ []
four_again a b c d la lb lc ld = cons (omega arith) (cons (omega arith) (cons (omega arith) (cons (omega arith) refl)))

eight_again : (a b c d e f g h : ℕ) → a < 256 → b < 256 → c < 256 → d < 256 → e < 256 → f < 256 → g < 256 → h < 256
    → big_bytes 8 (big_number 8 (a ∷ b ∷ c ∷ d ∷ e ∷ f ∷ g ∷ h ∷ [])) ≡ a ∷ b ∷ c ∷ d ∷ e ∷ f ∷ g ∷ h ∷ []
eight_again a b c d e f g h la lb lc ld le lf lg lh =
    cons (omega arith) (cons (omega arith) (cons (omega arith) (cons (omega arith) (cons (omega arith) (cons (omega arith) (cons (omega arith) (cons (omega arith) refl)))))))

two_front : (xs : List ℕ) → AreSmall xs → 2 ≤ length xs → big_bytes 2 (big_number 2 xs) ≡ take 2 xs
two_front [] small long = absurd (omega (arith, long))
two_front (a ∷ []) small long = absurd (omega (arith, long))
two_front (a ∷ b ∷ xs) small long = two_again a b (small 0) (small 1)

four_front : (xs : List ℕ) → AreSmall xs → 4 ≤ length xs → big_bytes 4 (big_number 4 xs) ≡ take 4 xs
four_front [] small long = absurd (omega (arith, long))
four_front (a ∷ []) small long = absurd (omega (arith, long))
four_front (a ∷ b ∷ []) small long = absurd (omega (arith, long))
four_front (a ∷ b ∷ c ∷ []) small long = absurd (omega (arith, long))
four_front (a ∷ b ∷ c ∷ d ∷ xs) small long = four_again a b c d (small 0) (small 1) (small 2) (small 3)

eight_front : (xs : List ℕ) → AreSmall xs → 8 ≤ length xs → big_bytes 8 (big_number 8 xs) ≡ take 8 xs
eight_front [] small long = absurd (omega (arith, long))
eight_front (a ∷ []) small long = absurd (omega (arith, long))
eight_front (a ∷ b ∷ []) small long = absurd (omega (arith, long))
eight_front (a ∷ b ∷ c ∷ []) small long = absurd (omega (arith, long))
eight_front (a ∷ b ∷ c ∷ d ∷ []) small long = absurd (omega (arith, long))
eight_front (a ∷ b ∷ c ∷ d ∷ e ∷ []) small long = absurd (omega (arith, long))
eight_front (a ∷ b ∷ c ∷ d ∷ e ∷ f ∷ []) small long = absurd (omega (arith, long))
eight_front (a ∷ b ∷ c ∷ d ∷ e ∷ f ∷ g ∷ []) small long = absurd (omega (arith, long))
eight_front (a ∷ b ∷ c ∷ d ∷ e ∷ f ∷ g ∷ h ∷ xs) small long = eight_again a b c d e f g h (small 0) (small 1) (small 2) (small 3) (small 4) (small 5) (small 6) (small 7)

one_front : (xs : List ℕ) → 1 ≤ length xs → slice_index xs 0 ∷ [] ≡ take 1 xs
one_front [] long = absurd (omega (arith, long))
one_front (a ∷ xs) long = refl

pub small_behind : (n : ℕ) (bytes : List ℕ) → AreSmall bytes → AreSmall (drop n bytes)
small_behind n bytes small k = subst (λ b. b < 256) (sym (get_or-drop n bytes k 0)) (small (n + k))

module _ (bytes : List ℕ) (small : AreSmall bytes) where
  pub two_at : (n : ℕ) → n + 2 ≤ length bytes → big_bytes 2 (number_at 2 n bytes) ≡ take 2 (drop n bytes)
  two_at n long = two_front (drop n bytes) (small_behind n bytes small) (let left = length-drop n bytes in omega (arith, left, long))

  pub four_at : (n : ℕ) → n + 4 ≤ length bytes → big_bytes 4 (number_at 4 n bytes) ≡ take 4 (drop n bytes)
  four_at n long = four_front (drop n bytes) (small_behind n bytes small) (let left = length-drop n bytes in omega (arith, left, long))

  pub eight_at : (n : ℕ) → n + 8 ≤ length bytes → big_bytes 8 (number_at 8 n bytes) ≡ take 8 (drop n bytes)
  eight_at n long = eight_front (drop n bytes) (small_behind n bytes small) (let left = length-drop n bytes in omega (arith, left, long))

one_at : (bytes : List ℕ) (n : ℕ) → n + 1 ≤ length bytes → slice_index (drop n bytes) 0 ∷ [] ≡ take 1 (drop n bytes)
one_at bytes n long = one_front (drop n bytes) (let left = length-drop n bytes in omega (arith, left, long))

byte_at : (bytes : List ℕ) (n : ℕ) → n + 1 ≤ length bytes → slice_index bytes (n + 0) ∷ [] ≡ take 1 (drop n bytes)
byte_at bytes n long = ap (λ b. b ∷ []) (sym (get_or-drop n bytes 0 0)) ∙ one_at bytes n long

-- a front, and what stands behind it
pub joined : (n m : ℕ) (bytes front piece : List ℕ) → front ≡ take n bytes → piece ≡ take m (drop n bytes) → front ++ piece ≡ take (n + m) bytes
joined n m bytes front piece e f = (λ i. e i ++ f i) ∙ sym (take-add n m bytes)

pub head_again : (bytes : List ℕ) → AreSmall bytes → 22 ≤ length bytes → head_bytes (head_at bytes) ≡ take 22 bytes
head_again bytes small long =
    joined 20 2 bytes _ _
    (joined 16 4 bytes _ _
    (joined 12 4 bytes _ _
    (joined 8 4 bytes _ _
    (joined 7 1 bytes _ _
    (joined 6 1 bytes _ _
    (joined 5 1 bytes _ _
    (joined 4 1 bytes _ _
    (four_at bytes small 0 (omega (arith, long)))
    (byte_at bytes 4 (omega (arith, long))))
    (byte_at bytes 5 (omega (arith, long))))
    (byte_at bytes 6 (omega (arith, long))))
    (byte_at bytes 7 (omega (arith, long))))
    (four_at bytes small 8 (omega (arith, long))))
    (four_at bytes small 12 (omega (arith, long))))
    (four_at bytes small 16 (omega (arith, long))))
    (two_at bytes small 20 (omega (arith, long)))
