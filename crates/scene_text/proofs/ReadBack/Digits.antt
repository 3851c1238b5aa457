-- A number that is printed is read as the same number.
use Rattle.std.proofs.Common.{◌≡◌, ◌∙◌, ℕ, ◌+◌, ◌*◌, ◌/◌, ◌%◌, ◌^◌, ◌<◌, ◌≤◌, Bool, true, false, List, [], ◌∷◌, ◌++◌, length, Result, Ok, Err, cond, refl, ap, arith}
use Rattle.std.specs.Prelude.{nat_lt}
use Rattle.std.specs.List.{list_all}
use Rattle.std.specs.Char.{digit_value, is_ascii_digit}
use Rattle.std.specs.Fmt.{decimal}
use Rattle.std.proofs.lemmas.Bool.{lt-ltb, le-ltb, le-leb, ne_eqb, cond-true}
use Rattle.std.proofs.lemmas.Bool.Decides.{nat_tests}
use Rattle.std.proofs.lemmas.Fmt.{decimal_by_steps, decimal_nonempty, length-decimal-le}
use Rattle.scene_text.specs.declared.faults.LineKind.{LineKind}
use Rattle.scene_text.specs.declared.faults.LineKind.TheVariants as kinds
use Rattle.scene_text.specs.declared.limits.TheConstants.{MOST_DIGITS}
use Rattle.scene_text.specs.Words.{◌>>=◌, digits_from, number_of, number_in}
use Rattle.scene_text.proofs.ReadBack.Splits.{all-append, all-weaker, is_plain, is_word_byte, plain_in_words, IsWord}

pub digit_is : (n : ℕ) → n < 10 → digit_value (48 + n) ≡ n
digit_is n h = grind (arith, nat_tests)

one_digit : (k n : ℕ) → n < 10 → digits_from k ((48 + n) ∷ []) ≡ Ok (k * 10 + n)
one_digit k n h = rw (digit_is n h) (cond-true (nat_lt n 10) _ _ (lt-ltb n 10 h))

through_test : (b : Bool) (x y : Result ℕ LineKind) (f : ℕ → Result ℕ LineKind) → x ≡ (y >>= f) → cond b x (Err kinds.Number) ≡ (cond b y (Err kinds.Number) >>= f)
through_test true x y f e = e
through_test false x y f e = refl

last_digit : (ds : List ℕ) (k b : ℕ) → digits_from k (ds ++ b ∷ []) ≡ (digits_from k ds >>= λ n. digits_from n (b ∷ []))
last_digit [] k b = refl
last_digit (d ∷ ds) k b = through_test (nat_lt (digit_value d) 10) _ _ (λ n. digits_from n (b ∷ [])) (last_digit ds (k * 10 + digit_value d) b)

-- the digits of a number are read as it
abbrev IsReadAs : ℕ → List ℕ → Type 0
IsReadAs n ds = digits_from 0 ds ≡ Ok n

digits_read : (n : ℕ) → n < 2 ^ 64 → IsReadAs n (decimal n)
digits_read = decimal_by_steps IsReadAs
    (λ n h. one_digit 0 n h ∙ ap Ok (let e : 0 * 10 + n ≡ n = omega arith in e))
    (λ n ds low e. last_digit ds 0 (48 + n % 10) ∙ ap (λ r. r >>= λ m. digits_from m ((48 + n % 10) ∷ [])) e ∙ one_digit (n / 10) (n % 10) (omega arith) ∙ ap Ok (let e : n / 10 * 10 + n % 10 ≡ n = omega arith in e))

digit_byte : (n : ℕ) → n < 10 → is_ascii_digit (48 + n) ≡ true
digit_byte n h = grind (arith, nat_tests)

-- they are digits
pub digits_are : (n : ℕ) → n < 2 ^ 64 → list_all is_ascii_digit (decimal n) ≡ true
digits_are = decimal_by_steps (λ n ds. list_all is_ascii_digit ds ≡ true)
    (λ n h. rw (digit_byte n h) refl)
    (λ n ds low e. all-append is_ascii_digit ds ((48 + n % 10) ∷ []) e (rw (digit_byte (n % 10) (omega arith)) refl))

digit_plain : (b : ℕ) → is_ascii_digit b ≡ true → is_plain b ≡ true
digit_plain b h = grind (arith, nat_tests)

-- what is above nine digits
abbrev pub too_large : ℕ
too_large = 1000000000

module _ (n : ℕ) (h : n < too_large) where
  pub some_digit : 0 < length (decimal n)
  some_digit = decimal_nonempty n (omega arith)

  pub number_read : number_of (decimal n) ≡ Ok n
  number_read =
      let some = some_digit in
      let few : length (decimal n) ≤ 9 = length-decimal-le 9 n (omega arith) (omega arith) (omega arith) in
      rw (ne_eqb (length (decimal n)) 0 (λ z. omega arith), le-ltb MOST_DIGITS (length (decimal n)) few) (digits_read n (omega arith))

  pub number_plain : list_all is_plain (decimal n) ≡ true
  number_plain = all-weaker is_ascii_digit is_plain digit_plain (decimal n) (digits_are n (omega arith))

  pub number_word : IsWord (decimal n)
  number_word = record { some = some_digit; whole = all-weaker is_plain is_word_byte plain_in_words (decimal n) number_plain }

  pub in_range_read : (least most : ℕ) → least ≤ n → n ≤ most → number_in least most (decimal n) ≡ Ok n
  in_range_read least most low high = rw (number_read, le-leb least n low, le-leb n most high) refl
