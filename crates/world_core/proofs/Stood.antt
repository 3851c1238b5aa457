-- The bytes of a stream in an element of a buffer: what a landing adds to them, and what leaves them where they stand.
use Rattle.std.proofs.Common.{◌≡◌, ◌∙◌, ◌⊎◌, inl, inr, ℕ, ◌+◌, ◌-◌, ◌*◌, ◌/◌, ◌%◌, ◌<◌, ◌≤◌, ◌==◌, ◌&&◌, false, List, ◌++◌, length, take, drop, get_or, sym, ap, subst, arith, true≢false, eq-eqb}
use Rattle.std.proofs.lemmas.Bool.{cases_lt}
use Rattle.std.proofs.lemmas.Grind.{common_steps}
use Rattle.std.proofs.lemmas.List.{get_or_append_left, get_or-take, get_or-drop}
use Rattle.std.proofs.lemmas.Nat.{div-add-mod', mod-mul-add, mod_below, mul-add-lt}
use Rattle.smc_num.specs.Places.{Place, same_place, rmb_address, address_of}
use Rattle.rmb_region.specs.Regions.{Buffer, IsWhole, IsInside, lands, byte_at}
use Rattle.rmb_region.proofs.Bytes.{a_landing_writes_its_range, a_landing_leaves_all_else}
use Rattle.world_core.specs.Landed.{Stand}

rounds-up : (a b size : ℕ) → 0 < size → a < b → a * size + size ≤ b * size
rounds-up a b size some less = let q : a * size + (size - 1) < b * size = omega (arith, mul-add-lt a size (size - 1) b less (omega (arith, some))) in omega (arith, q, some)

rounds-on : (a b size : ℕ) → a ≤ b → a * size ≤ b * size
rounds-on a b size less = grind (arith, common_steps)

-- two counts less than an element apart have different places in it
pub apart-in : (size n m : ℕ) → 0 < size → n < m → m < n + size → n % size ≡ m % size → ⊥
apart-in size n m some below near same =
    let a : n ≡ n / size * size + n % size = omega (arith, div-add-mod' n size) in
    let b : m ≡ m / size * size + m % size = omega (arith, div-add-mod' m size) in
    elim (cases_lt (n / size) (m / size)) [
      | inl less ↦ let q : n / size * size + size ≤ m / size * size = rounds-up (n / size) (m / size) size some less in omega (arith, a, b, q, same, near)
      | inr more ↦ let q : m / size * size ≤ n / size * size = rounds-on (m / size) (n / size) size more in omega (arith, a, b, q, same, below)
    ]

-- a count that stays in the round
pub within-round : (size from k : ℕ) → from % size + k < size → (from + k) % size ≡ from % size + k
within-round size from k within =
    let regrouped : from + k ≡ from / size * size + (from % size + k) = omega (arith, div-add-mod' from size) in
    ap (λ m. m % size) regrouped ∙ mod-mul-add (from / size) size (from % size + k) within

pub slice-length : (from len : ℕ) (out : List ℕ) → from + len ≤ length out → length (take len (drop from out)) ≡ len
slice-length from len out fits = grind (arith, common_steps)

-- an element of the buffer
pub record IsElement (size : ℕ) (place : Place) (b : Buffer) : Type 0 where
  pub whole : IsWhole b
  pub size_is : b.size ≡ size
  pub rmb : place.rmb ≡ b.rmb
  pub low : 1 ≤ place.index
  pub high : place.index ≤ b.elements

pub some-size : (size : ℕ) (place : Place) (b : Buffer) → IsElement size place b → 0 < size
some-size size place b is = let w = is.whole in omega (arith, w.some, is.size_is)

pub element-ends : (size : ℕ) (place : Place) (b : Buffer) → IsElement size place b → (place.index - 1) * size + size ≤ b.elements * b.size
element-ends size place b is =
    subst (λ n. (place.index - 1) * size + size ≤ b.elements * n) (sym is.size_is) (rounds-up (place.index - 1) b.elements size (some-size size place b is) (omega (arith, is.low, is.high)))

-- a range in an element lies in the buffer
pub lies-inside : (size : ℕ) (place : Place) (b : Buffer) (from len : ℕ) → IsElement size place b → from % size + len ≤ size → IsInside (address_of size place from) len b
lies-inside size place b from len is fits =
    let e : rmb_address place.rmb ≡ rmb_address b.rmb = ap (λ r. rmb_address r) is.rmb in
    let q = element-ends size place b is in
    record { begins = omega (arith, e); ends = omega (arith, e, q, fits) }

module _ (size : ℕ) (place : Place) (b : Buffer) (is : IsElement size place b) (rd reach len : ℕ) (out : List ℕ) (fits : reach % size + len ≤ size) (window : reach + len ≤ rd + size) (has : reach + len ≤ length out) where
  abbrev Bytes : List ℕ
  Bytes = take len (drop reach out)

  long : length Bytes ≡ len
  long = slice-length reach len out has

  inside : IsInside (address_of size place reach) (length Bytes) b
  inside = subst (λ n. IsInside (address_of size place reach) n b) (sym long) (lies-inside size place b reach len is fits)

  abbrev After : Buffer
  After = lands (address_of size place reach) Bytes b

  of-new : (n : ℕ) → reach ≤ n → n < reach + len → byte_at (address_of size place n) After ≡ get_or out n 0
  of-new n above below =
      let e : reach + (n - reach) ≡ n = omega (arith, above) in
      let r : (reach + (n - reach)) % size ≡ reach % size + (n - reach) = within-round size reach (n - reach) (omega (arith, above, below, fits)) in
      let s : n % size ≡ reach % size + (n - reach) = ap (λ m. m % size) (sym e) ∙ r in
      let address : address_of size place n ≡ address_of size place reach + (n - reach) = omega (arith, s) in
      ap (λ at. byte_at at After) address
      ∙ a_landing_writes_its_range b (address_of size place reach) Bytes (n - reach) is.whole inside (omega (arith, long, above, below))
      ∙ get_or-take len (drop reach out) (n - reach) 0 (omega (arith, above, below))
      ∙ get_or-drop reach out (n - reach) 0
      ∙ ap (λ i. get_or out i 0) e

  else-where : (n : ℕ) → rd ≤ n → n < reach → (n % size < reach % size) ⊎ (reach % size + len ≤ n % size)
  else-where n above below = elim (cases_lt (n % size) (reach % size)) [
    | inl before ↦ inl before
    | inr from ↦ elim (cases_lt (n % size) (reach % size + len)) [
      | inl within ↦
          let j : ℕ = n % size - reach % size in
          let r : (reach + j) % size ≡ reach % size + j = within-round size reach j (omega (arith, within, from, fits)) in
          absurd (apart-in size n (reach + j) (some-size size place b is) (omega (arith, below)) (omega (arith, within, from, window, above)) (omega (arith, r)))
      | inr behind ↦ inr behind
    ]
  ]

  of-old : (n : ℕ) → rd ≤ n → n < reach → byte_at (address_of size place n) b ≡ get_or out n 0 → byte_at (address_of size place n) After ≡ get_or out n 0
  of-old n above below stood =
      let e : rmb_address place.rmb ≡ rmb_address b.rmb = ap (λ r. rmb_address r) is.rmb in
      let where-is : (address_of size place n < address_of size place reach) ⊎ (address_of size place reach + length Bytes ≤ address_of size place n) = by (else-where n above below) in
      a_landing_leaves_all_else b (address_of size place reach) Bytes (address_of size place n) is.whole inside (omega (arith, e)) where-is ∙ stood
    where
      by : (n % size < reach % size) ⊎ (reach % size + len ≤ n % size) → (address_of size place n < address_of size place reach) ⊎ (address_of size place reach + length Bytes ≤ address_of size place n)
      by (inl l) = inl (omega (arith, l))
      by (inr l) = inr (omega (arith, l, long))

  -- what lands goes on from the bytes that stand
  pub stand-more : Stand size place rd reach out b → Stand size place rd (reach + len) out After
  stand-more stood n above below = elim (cases_lt n reach) [
    | inl old ↦ of-old n above old (stood n above old)
    | inr new ↦ of-new n new below
  ]

-- what lands in another element leaves them
pub stand-else : (size : ℕ) (place place2 : Place) (b : Buffer) → IsElement size place b → IsElement size place2 b → same_place place place2 ≡ false → (from to : ℕ) (out : List ℕ) (at len : ℕ) (bytes : List ℕ) → length bytes ≡ len → at % size + len ≤ size →
    Stand size place from to out b → Stand size place from to out (lands (address_of size place2 at) bytes b)
stand-else size place place2 b is is2 other from to out at len bytes long fits stood n above below =
    let e : rmb_address place.rmb ≡ rmb_address b.rmb = ap (λ r. rmb_address r) is.rmb in
    let f : rmb_address place2.rmb ≡ rmb_address b.rmb = ap (λ r. rmb_address r) is2.rmb in
    let inside : IsInside (address_of size place2 at) (length bytes) b = subst (λ k. IsInside (address_of size place2 at) k b) (sym long) (lies-inside size place2 b at len is2 fits) in
    a_landing_leaves_all_else b (address_of size place2 at) bytes (address_of size place n) is.whole inside (omega (arith, e)) (by e f (cases_lt place.index place2.index)) ∙ stood n above below
  where
    some : 0 < size
    some = some-size size place b is

    differ : place.index ≡ place2.index → ⊥
    differ e = true≢false (sym (ap (λ a. a && (place.index == place2.index)) (eq-eqb place.rmb place2.rmb (is.rmb ∙ sym is2.rmb)) ∙ eq-eqb place.index place2.index e) ∙ other)

    by : rmb_address place.rmb ≡ rmb_address b.rmb → rmb_address place2.rmb ≡ rmb_address b.rmb → (place.index < place2.index) ⊎ (place2.index ≤ place.index) → (address_of size place n < address_of size place2 at) ⊎ (address_of size place2 at + length bytes ≤ address_of size place n)
    by e f (inl l) =
        let q : (place.index - 1) * size + size ≤ (place2.index - 1) * size = rounds-up (place.index - 1) (place2.index - 1) size some (omega (arith, l, is.low)) in
        inl (omega (arith, e, f, q, mod_below n size some))
    by e f (inr l) = elim (cases_lt place2.index place.index) [
      | inl m ↦
          let q : (place2.index - 1) * size + size ≤ (place.index - 1) * size = rounds-up (place2.index - 1) (place.index - 1) size some (omega (arith, m, is2.low)) in
          inr (omega (arith, e, f, q, long, fits))
      | inr m ↦ absurd (differ (omega (arith, l, m)))
    ]

-- the stream grows at its end, and its reader reads on
pub stand-grown : (size : ℕ) (place : Place) (b : Buffer) (from to from2 : ℕ) (out more : List ℕ) → from ≤ from2 → to ≤ length out → Stand size place from to out b → Stand size place from2 to (out ++ more) b
stand-grown size place b from to from2 out more on has stood n above below =
    stood n (omega (arith, above, on)) below ∙ sym (get_or_append_left out more 0 n (omega (arith, below, has)))
