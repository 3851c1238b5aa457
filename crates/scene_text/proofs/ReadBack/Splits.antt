-- A text whose bytes pass a test is cut only at the bytes between such texts.
use Rattle.std.proofs.Common.{◌≡◌, ◌∙◌, ℕ, ◌<◌, Bool, true, List, [], ◌∷◌, ◌++◌, length, refl, ap, arith}
use Rattle.std.specs.Prelude.{not, nat_lt, nat_le, ◌==◌, ◌&&◌, filter}
use Rattle.std.specs.List.{slice_split, onto_first, list_all}
use Rattle.std.proofs.lemmas.Bool.{eq-eqb, and_parts, and_from, not-true, lt-ltb, cond-true}
use Rattle.std.proofs.lemmas.Bool.Decides.{nat_tests}
use Rattle.std.proofs.lemmas.List.Splits.{slice_split-cons_yes, slice_split-cons_no}
use Rattle.scene_text.specs.Words.{space, words_of}
use Rattle.scene_text.specs.Grammar.{is_printable}

-- what holds of each element of a list
abbrev pub Each : {X : Type 0} → (X → Type 0) → List X → Type 0
Each P [] = Unit
Each P (x ∷ xs) = P x × Each P xs

-- a byte that is not this one
abbrev pub differs : ℕ → ℕ → Bool
differs mark b = not (b == mark)

module _ {X : Type 0} (p : X → Bool) where
  pub all-append : (xs ys : List X) → list_all p xs ≡ true → list_all p ys ≡ true → list_all p (xs ++ ys) ≡ true
  all-append [] ys h k = k
  all-append (x ∷ xs) ys h k =
      let each = and_parts (p x) (list_all p xs) h in
      and_from (p x) (list_all p (xs ++ ys)) each.0 (all-append xs ys each.1 k)

  pub all-weaker : (q : X → Bool) → ((x : X) → p x ≡ true → q x ≡ true) → (xs : List X) → list_all p xs ≡ true → list_all q xs ≡ true
  all-weaker q weaker [] h = refl
  all-weaker q weaker (x ∷ xs) h =
      let each = and_parts (p x) (list_all p xs) h in
      and_from (q x) (list_all q xs) (weaker x each.0) (all-weaker q weaker xs each.1)

module _ (mark : ℕ) where
  pub whole_part : (xs : List ℕ) → list_all (differs mark) xs ≡ true → slice_split (λ b. b == mark) xs ≡ xs ∷ []
  whole_part [] h = refl
  whole_part (x ∷ xs) h =
      let each = and_parts (differs mark x) (list_all (differs mark) xs) h in
      slice_split-cons_no (λ b. b == mark) x xs (not-true _ each.0) ∙ ap (onto_first x) (whole_part xs each.1)

  pub first_part : (xs ys : List ℕ) → list_all (differs mark) xs ≡ true → slice_split (λ b. b == mark) (xs ++ mark ∷ ys) ≡ xs ∷ slice_split (λ b. b == mark) ys
  first_part [] ys h = slice_split-cons_yes (λ b. b == mark) mark ys (eq-eqb mark mark refl)
  first_part (x ∷ xs) ys h =
      let each = and_parts (differs mark x) (list_all (differs mark) xs) h in
      slice_split-cons_no (λ b. b == mark) x (xs ++ mark ∷ ys) (not-true _ each.0) ∙ ap (onto_first x) (first_part xs ys each.1)

-- a letter, a digit or an underscore, or what stands between these
abbrev pub is_plain : ℕ → Bool
is_plain b = nat_le 48 b && nat_le b 122

-- a byte that a word may have
abbrev pub is_word_byte : ℕ → Bool
is_word_byte b = nat_le 33 b && nat_le b 126

pub plain_differs : (mark : ℕ) → mark < 48 → (b : ℕ) → is_plain b ≡ true → differs mark b ≡ true
plain_differs mark low b h = grind (arith, nat_tests)

pub plain_in_words : (b : ℕ) → is_plain b ≡ true → is_word_byte b ≡ true
plain_in_words b h = grind (arith, nat_tests)

no_space : (b : ℕ) → is_word_byte b ≡ true → differs space b ≡ true
no_space b h = grind (arith, nat_tests)

printable : (b : ℕ) → is_word_byte b ≡ true → is_printable b ≡ true
printable b h = grind (arith, nat_tests)

-- a word: it has a byte, and only such bytes
pub record IsWord (word : List ℕ) : Type 0 where
  pub some : 0 < length word
  pub whole : list_all is_word_byte word ≡ true

module _ (word : List ℕ) (h : IsWord word) where
  no_spaces : list_all (differs space) word ≡ true
  no_spaces = all-weaker is_word_byte (differs space) no_space word h.whole

  pub word_printable : list_all is_printable word ≡ true
  word_printable = all-weaker is_word_byte is_printable printable word h.whole

  some_kept : (more : List (List ℕ)) → filter (λ w. nat_lt 0 (length w)) (word ∷ more) ≡ word ∷ filter (λ w. nat_lt 0 (length w)) more
  some_kept more = cond-true (nat_lt 0 (length word)) _ _ (lt-ltb 0 (length word) h.some)

  pub last_word : words_of word ≡ word ∷ []
  last_word = ap (filter (λ w. nat_lt 0 (length w))) (whole_part space word no_spaces) ∙ some_kept []

  pub next_word : (rest : List ℕ) → words_of (word ++ space ∷ rest) ≡ word ∷ words_of rest
  next_word rest = ap (filter (λ w. nat_lt 0 (length w))) (first_part space word rest no_spaces) ∙ some_kept (slice_split (λ b. b == space) rest)
