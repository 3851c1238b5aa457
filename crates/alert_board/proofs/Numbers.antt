-- The pen's numbers are the lengths of its lists.
use Rattle.std.proofs.Common.{◌≡◌, ℕ, zero, suc, ◌+◌, List, [], ◌∷◌, ◌++◌, length, map, refl, sym, ap, ◌∙◌, length-append}
use Rattle.std.specs.Prelude.{slice_index, slice_set, replicate}
use Rattle.alert_board.specs.declared.flags.Alert.{Alert}
use Rattle.alert_board.specs.Alerts.{log_at}

pub numbers_set : (logs : List (List Alert)) (p n : ℕ) (a : Alert) → n ≡ length (log_at logs p) + 1 → slice_set (map length logs) p n ≡ map length (slice_set logs p (log_at logs p ++ a ∷ []))
numbers_set [] p n a is = refl
numbers_set (x ∷ xs) zero n a is = ap (λ k. k ∷ map length xs) (is ∙ sym (length-append x (a ∷ [])))
numbers_set (x ∷ xs) (suc p) n a is = ap (λ ks. length x ∷ ks) (numbers_set xs p n a is)

pub number_at : (logs : List (List Alert)) (p : ℕ) → slice_index (map length logs) p ≡ length (log_at logs p)
number_at [] zero = refl
number_at [] (suc p) = refl
number_at (x ∷ xs) zero = refl
number_at (x ∷ xs) (suc p) = number_at xs p

pub numbers_none : (n : ℕ) → replicate n 0 ≡ map length (replicate {A = List Alert} n [])
numbers_none zero = refl
numbers_none (suc n) = ap (λ ks. 0 ∷ ks) (numbers_none n)

pub length_replicate : {A : Type 0} (n : ℕ) (a : A) → length (replicate n a) ≡ n
length_replicate zero a = refl
length_replicate (suc n) a = ap suc (length_replicate n a)

pub zero_at : (n p : ℕ) → slice_index (replicate n 0) p ≡ 0
zero_at zero zero = refl
zero_at zero (suc p) = refl
zero_at (suc n) zero = refl
zero_at (suc n) (suc p) = zero_at n p
