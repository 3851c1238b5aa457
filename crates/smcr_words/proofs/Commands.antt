-- Lists of words that are no command.
use Rattle.std.proofs.Common.{◌≡◌, ℕ, ◌<◌, ◌≤◌, ◌⊎◌, inl, inr, Bool, true, false, if◌then◌else◌, List, [], ◌∷◌, None, length, refl, sym, arith, codes, true≢false}
use Rattle.std.proofs.lemmas.Bool.{eqb-true}
use Rattle.std.specs.Str.{bytes_eq}
use Rattle.smcr_words.specs.Commands.{without_dashes, command_named, only_command, command_of}
use Rattle.smcr_words.specs.Reading.{begins_with_hyphen, no_hyphens}
use Rattle.smcr_words.proofs.Dashes.{tells}

three-by : (first second : Bool) (a b c : List ℕ) (ws rest : List (List ℕ)) → only_command (if first then b ∷ c ∷ ws else a ∷ (if second then c ∷ ws else b ∷ rest)) ≡ None
three-by true second a b c ws rest = refl
three-by false true a b c ws rest = refl
three-by false false a b c ws rest = refl

-- three words or more are no command
pub many-words : (words : List (List ℕ)) → 3 ≤ length words → command_of words ≡ None
many-words [] l = absurd (omega arith)
many-words (a ∷ []) l = absurd (omega arith)
many-words (a ∷ b ∷ []) l = absurd (omega arith)
many-words (a ∷ b ∷ c ∷ ws) l = three-by (bytes_eq a (codes "--")) (bytes_eq b (codes "--")) a b c ws (without_dashes (c ∷ ws))

hyphen_no_command : (w : List ℕ) → begins_with_hyphen w ≡ true → command_named w ≡ None
hyphen_no_command [] h = absurd (true≢false (sym h))
hyphen_no_command (x ∷ xs) h = rw (eqb-true x 45 h) refl

one : (w : List ℕ) → (begins_with_hyphen w ≡ true) ⊎ (begins_with_hyphen w ≡ false) → (no_hyphens (w ∷ []) ≡ true → ⊥) → only_command (w ∷ []) ≡ None
one w (inl h) deny = hyphen_no_command w h
one w (inr h) deny = absurd (deny (rw h refl))

-- words which are not one or two, or of which one begins with a hyphen, are no command
pub none_of : (ws : List (List ℕ)) → (no_hyphens ws ≡ true → 0 < length ws → length ws ≤ 2 → ⊥) → only_command ws ≡ None
none_of [] deny = refl
none_of (w ∷ []) deny = one w (tells (begins_with_hyphen w)) (λ h. deny h (omega arith) (omega arith))
none_of (w ∷ v ∷ us) deny = refl
