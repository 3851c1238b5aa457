-- Fields behind one another: what is appended, and what is read past the fields before.
use Rattle.std.proofs.Common.{◌≡◌, ◌∙◌, ℕ, ◌+◌, Bool, true, false, List, ◌++◌, length, take, drop, get_or, refl, sym, ap, append_assoc}
use Rattle.std.proofs.Math.Seq.{take-append_seam, drop-append-add}
use Rattle.std.proofs.lemmas.List.{get_or-append-add}
use Rattle.llc_wire.specs.Frame.{is_set, flag}

-- three runs of bytes that are appended one after another
pub append_three : (out a b c : List ℕ) → ((out ++ a) ++ b) ++ c ≡ out ++ ((a ++ b) ++ c)
append_three out a b c = simp append_assoc

-- four runs, grouped the other way
pub regrouped : (a b c d : List ℕ) → ((a ++ b) ++ c) ++ d ≡ a ++ (b ++ (c ++ d))
regrouped a b c d = simp append_assoc

-- a run of n bytes
pub take-run : (n : ℕ) (run rest : List ℕ) → length run ≡ n → take n (run ++ rest) ≡ run
take-run n run rest long = ap (λ m. take m (run ++ rest)) (sym long) ∙ take-append_seam run rest

-- what stands k bytes behind a run of n bytes
pub drop-run : (n k : ℕ) (run rest : List ℕ) → length run ≡ n → drop (n + k) (run ++ rest) ≡ drop k rest
drop-run n k run rest long = ap (λ m. drop (m + k) (run ++ rest)) (sym long) ∙ drop-append-add run rest k

pub get_or-run : (n k : ℕ) (run rest : List ℕ) → length run ≡ n → get_or (run ++ rest) (n + k) 0 ≡ get_or rest k 0
get_or-run n k run rest long = ap (λ m. get_or (run ++ rest) (m + k) 0) (sym long) ∙ get_or-append-add run rest k 0

-- one flag is read again
pub is_set-flag : (on : Bool) → is_set 0x80 (flag on 0x80) ≡ on
is_set-flag true = refl
is_set-flag false = refl

-- each of several flags is read again
pub reply_rejected : (a b : Bool) → (is_set 0x80 (flag a 0x80 + flag b 0x40) ≡ a) × (is_set 0x40 (flag a 0x80 + flag b 0x40) ≡ b)
reply_rejected true true = (refl, refl)
reply_rejected true false = (refl, refl)
reply_rejected false true = (refl, refl)
reply_rejected false false = (refl, refl)

pub reply_negative : (a b : Bool) → (is_set 0x80 (flag a 0x80 + flag b 0x20) ≡ a) × (is_set 0x20 (flag a 0x80 + flag b 0x20) ≡ b)
reply_negative true true = (refl, refl)
reply_negative true false = (refl, refl)
reply_negative false true = (refl, refl)
reply_negative false false = (refl, refl)

pub record ReadsThree (first second third : ℕ) (a b c : Bool) : Type 0 where
  pub a_back : is_set first (flag a first + flag b second + flag c third) ≡ a
  pub b_back : is_set second (flag a first + flag b second + flag c third) ≡ b
  pub c_back : is_set third (flag a first + flag b second + flag c third) ≡ c

pub reply_all_orderly : (a b c : Bool) → ReadsThree 0x80 0x40 0x20 a b c
reply_all_orderly true true true = record { a_back = refl; b_back = refl; c_back = refl }
reply_all_orderly true true false = record { a_back = refl; b_back = refl; c_back = refl }
reply_all_orderly true false true = record { a_back = refl; b_back = refl; c_back = refl }
reply_all_orderly true false false = record { a_back = refl; b_back = refl; c_back = refl }
reply_all_orderly false true true = record { a_back = refl; b_back = refl; c_back = refl }
reply_all_orderly false true false = record { a_back = refl; b_back = refl; c_back = refl }
reply_all_orderly false false true = record { a_back = refl; b_back = refl; c_back = refl }
reply_all_orderly false false false = record { a_back = refl; b_back = refl; c_back = refl }

pub reply_negative_retry : (a b c : Bool) → ReadsThree 0x80 0x20 0x10 a b c
reply_negative_retry true true true = record { a_back = refl; b_back = refl; c_back = refl }
reply_negative_retry true true false = record { a_back = refl; b_back = refl; c_back = refl }
reply_negative_retry true false true = record { a_back = refl; b_back = refl; c_back = refl }
reply_negative_retry true false false = record { a_back = refl; b_back = refl; c_back = refl }
reply_negative_retry false true true = record { a_back = refl; b_back = refl; c_back = refl }
reply_negative_retry false true false = record { a_back = refl; b_back = refl; c_back = refl }
reply_negative_retry false false true = record { a_back = refl; b_back = refl; c_back = refl }
reply_negative_retry false false false = record { a_back = refl; b_back = refl; c_back = refl }
