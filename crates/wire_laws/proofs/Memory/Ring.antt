-- Places of a stream in its element: which address a write covers there, and that elements are apart.
use Rattle.std.proofs.Common.{ap, arith, inl, inr, sym, true, ℕ, ◌%◌, ◌*◌, ◌+◌, ◌-◌, ◌/◌, ◌<◌, ◌∙◌, ◌≡◌, ◌≤◌, nat_le}
use Rattle.std.specs.Prelude.{nat_lt}
use Rattle.std.proofs.lemmas.Bool.{cases_lt, leb-true, ltb-true}
use Rattle.std.proofs.lemmas.Grind.{common_steps}
use Rattle.std.proofs.lemmas.Nat.{div-add-mod', mod-mul-add, mul-add-lt}
use Rattle.smc_num.specs.Places.{Place, address_of, element_start, rmb_address}
use Rattle.history_laws.proofs.Basics.{and-both}
use Rattle.wire_laws.specs.Memory.{covers}

pub rounds-up : (a b size : ℕ) → 0 < size → a < b → a * size + size ≤ b * size
rounds-up a b size some less = let q : a * size + (size - 1) < b * size = omega (arith, mul-add-lt a size (size - 1) b less (omega (arith, some))) in omega (arith, q, some)

rounds-on : (a b size : ℕ) → a ≤ b → a * size ≤ b * size
rounds-on a b size less = grind (arith, common_steps)

-- two counts less than an element apart have different places in it
apart-in : (size n m : ℕ) → 0 < size → n < m → m < n + size → n % size ≡ m % size → ⊥
apart-in size n m some below near same =
    let a : n ≡ n / size * size + n % size = omega (arith, div-add-mod' n size) in
    let b : m ≡ m / size * size + m % size = omega (arith, div-add-mod' m size) in
    elim (cases_lt (n / size) (m / size)) [
      | inl less ↦ let q : n / size * size + size ≤ m / size * size = rounds-up (n / size) (m / size) size some less in omega (arith, a, b, q, same, near)
      | inr more ↦ let q : m / size * size ≤ n / size * size = rounds-on (m / size) (n / size) size more in omega (arith, a, b, q, same, below)
    ]

one-place : (size n m : ℕ) → 0 < size → n < m + size → m < n + size → n % size ≡ m % size → n ≡ m
one-place size n m some a b same = elim (cases_lt n m) [
  | inl less ↦ absurd (apart-in size n m some less b same)
  | inr more ↦ elim (cases_lt m n) [
    | inl less ↦ absurd (apart-in size m n some less a (sym same))
    | inr less ↦ omega (arith, more, less)
  ]
]

-- a count that stays in the round
within-round : (size from k : ℕ) → from % size + k < size → (from + k) % size ≡ from % size + k
within-round size from k within =
    let regrouped : from + k ≡ from / size * size + (from % size + k) = omega (arith, div-add-mod' from size) in
    ap (λ m. m % size) regrouped ∙ mod-mul-add (from / size) size (from % size + k) within

pub covers-in : (first len address : ℕ) → covers first len address ≡ true → (first ≤ address) × (address < first + len)
covers-in first len address c = let b = and-both (nat_le first address) (nat_lt address (first + len)) c in (leb-true first address b.0, ltb-true address (first + len) b.1)

module _ (size : ℕ) (some : 0 < size) (place : Place) (p len : ℕ) (one : p % size + len ≤ size) where
  -- the address of a byte that a write carries is one that it covers, so far behind its first
  pub own-place : (n : ℕ) → p ≤ n → n < p + len → (address_of size place p ≤ address_of size place n) × ((address_of size place n < address_of size place p + len) × (p + (address_of size place n - address_of size place p) ≡ n))
  own-place n low high =
      let j : p + (n - p) ≡ n = omega (arith, low) in
      let r : (p + (n - p)) % size ≡ p % size + (n - p) = within-round size p (n - p) (omega (arith, one, low, high)) in
      let q : n % size ≡ p % size + (n - p) = ap (λ k. k % size) (sym j) ∙ r in
      (omega (arith, q), (omega (arith, q, low, high), omega (arith, q, low)))

  -- and the other way round, for a count within an element of those
  pub that-place : (n : ℕ) → n < p + size → p + len ≤ n + size → address_of size place p ≤ address_of size place n → address_of size place n < address_of size place p + len → p + (address_of size place n - address_of size place p) ≡ n
  that-place n low high from to =
      let a : p % size ≤ n % size = omega (arith, from) in
      let b : n % size < p % size + len = omega (arith, to) in
      let r : (p + (n % size - p % size)) % size ≡ p % size + (n % size - p % size) = within-round size p (n % size - p % size) (omega (arith, a, b, one)) in
      let q : (p + (n % size - p % size)) % size ≡ n % size = omega (arith, r, a) in
      let e : p + (n % size - p % size) ≡ n = one-place size (p + (n % size - p % size)) n some (omega (arith, a, b, high)) (omega (arith, low)) q in
      omega (arith, e)

-- two elements of one RMB have no address in common
pub apart-elements : (size : ℕ) → 0 < size → (one two : Place) → one.rmb ≡ two.rmb → 1 ≤ one.index → 1 ≤ two.index → (one.index ≡ two.index → ⊥) → (address : ℕ) → element_start size one ≤ address → address < element_start size one + size → element_start size two ≤ address → address < element_start size two + size → ⊥
apart-elements size some one two same a b differ address c d e f =
    let r : rmb_address one.rmb ≡ rmb_address two.rmb = ap (λ k. rmb_address k) same in
    elim (cases_lt one.index two.index) [
      | inl less ↦ let q = rounds-up (one.index - 1) (two.index - 1) size some (omega (arith, less, a)) in omega (arith, r, q, d, e)
      | inr more ↦ elim (cases_lt two.index one.index) [
        | inl less ↦ let q = rounds-up (two.index - 1) (one.index - 1) size some (omega (arith, less, b)) in omega (arith, r, q, c, f)
        | inr less ↦ absurd (differ (omega (arith, more, less)))
      ]
    ]
