-- Places in a list, counted from 0, and rising lists of them.
use Rattle.std.specs.Prelude.{◌≡◌, ◌<◌, ◌+◌, ℕ, zero, suc, Bool, true, false, List, [], ◌∷◌, ◌++◌, if◌then◌else◌, nat_lt, nat_eq}

abbrev pub one_if : Bool → ℕ
one_if true = 1
one_if false = 0

-- how often the place stands in the list
abbrev pub times : ℕ → List ℕ → ℕ
times p [] = 0
times p (x ∷ xs) = one_if (nat_eq p x) + times p xs

-- each place below n stands in the list once
abbrev pub EachOnce : ℕ → List ℕ → Type 0
EachOnce n xs = (p : ℕ) → p < n → times p xs ≡ 1

-- all places of the list lie below n
abbrev pub Below : ℕ → List ℕ → Type 0
Below n [] = Unit {0}
Below n (x ∷ xs) = (x < n) × Below n xs

-- all places of the list lie above x
abbrev pub Above : ℕ → List ℕ → Type 0
Above x [] = Unit {0}
Above x (y ∷ ys) = (x < y) × Above x ys

-- each place lies below those behind it
abbrev pub Rising : List ℕ → Type 0
Rising [] = Unit {0}
Rising (x ∷ xs) = Above x xs × Rising xs

-- all places below n, rising
abbrev pub up_to : ℕ → List ℕ
up_to zero = []
up_to (suc n) = up_to n ++ n ∷ []

-- the rising list with one more place
abbrev pub insert : ℕ → List ℕ → List ℕ
insert y [] = y ∷ []
insert y (x ∷ xs) = if nat_lt y x then y ∷ x ∷ xs else x ∷ insert y xs

-- the places of two rising lists, rising
abbrev pub merged : List ℕ → List ℕ → List ℕ
merged xs [] = xs
merged xs (y ∷ ys) = merged (insert y xs) ys
