-- A place in the stream, moved on by at most one element, is in the same round or in the next one.
use Rattle.std.proofs.Common.{◌≡◌, ◌≢◌, ◌⊎◌, ◌∙◌, ℕ, zero, suc, ◌+◌, ◌-◌, ◌*◌, ◌/◌, ◌%◌, ◌<◌, ◌≤◌, sym, ap, inl, inr, arith}
use Rattle.std.proofs.lemmas.Bool.{cases_eq}
use Rattle.smc_num.specs.declared.Cursor.{Cursor}
use Rattle.smc_num.specs.Numbers.{cursor_of, IsMovedOn}
use Rattle.std.proofs.lemmas.Nat.{div-add-mod', div-mul-add, mod-mul-add, le-div, div_below, mod_below}

-- within the round: the bytes moved on join the count
pub same_round-div : (size place n : ℕ) → place % size + n < size → (place + n) / size ≡ place / size
same_round-div size place n inside =
    let regrouped : place + n ≡ place / size * size + (place % size + n) = omega (arith, div-add-mod' place size) in
    ap (λ m. m / size) regrouped ∙ div-mul-add (place / size) size (place % size + n) inside

pub same_round-mod : (size place n : ℕ) → place % size + n < size → (place + n) % size ≡ place % size + n
same_round-mod size place n inside =
    let regrouped : place + n ≡ place / size * size + (place % size + n) = omega (arith, div-add-mod' place size) in
    ap (λ m. m % size) regrouped ∙ mod-mul-add (place / size) size (place % size + n) inside

-- two places at most one element apart are in one round, or in one and the next
pub rounds : (size from to : ℕ) → 0 < size → from ≤ to → to ≤ from + size → (to / size ≡ from / size) ⊎ (to / size ≡ from / size + 1)
rounds size from to some forward near =
    let low : from / size ≤ to / size = le-div (from / size) to size some (omega (arith, div-add-mod' from size)) in
    let high : to / size < from / size + 2 = div_below to size (from / size + 2) some (omega (arith, div-add-mod' from size, mod_below from size some)) in
    grind arith

-- places with one wrap are apart by their counts
pub one_wrap : (size from to : ℕ) → from ≤ to → to ≤ from + size → to / size % 65_536 ≡ from / size % 65_536 → from + (to % size - from % size) ≡ to
one_wrap zero from to forward near same =
    let equal : to ≡ from = omega arith in
    omega (arith, ap (λ n. n % 0) equal)
one_wrap (suc s) from to forward near same =
    elim (rounds (suc s) from to (omega arith) forward near) [
      | inl equal ↦ omega (arith, ap (λ q. q * suc s) equal, div-add-mod' from (suc s), div-add-mod' to (suc s))
      | inr next ↦ absurd (omega arith)
    ]

-- places with two wraps are apart by the rest of the element and the count in the next round
pub next_wrap : (size from to : ℕ) → from ≤ to → to ≤ from + size → to / size % 65_536 ≢ from / size % 65_536 → from + (size - from % size + to % size) ≡ to
next_wrap zero from to forward near other =
    let equal : to ≡ from = omega arith in
    absurd (other (ap (λ n. n / 0 % 65_536) equal))
next_wrap (suc s) from to forward near other =
    elim (rounds (suc s) from to (omega arith) forward near) [
      | inl equal ↦ absurd (other (ap (λ q. q % 65_536) equal))
      | inr next ↦ omega (arith, ap (λ q. q * suc s) next, div-add-mod' from (suc s), div-add-mod' to (suc s), mod_below from (suc s) (omega arith))
    ]

-- a cursor inside the element stands for a place
pub cursor_of-place : (size : ℕ) (cursor : Cursor) → cursor.wrap < 65_536 → cursor.count < size → cursor ≡ cursor_of size (cursor.wrap * size + cursor.count)
cursor_of-place size cursor short inside =
    let wrap : cursor.wrap ≡ (cursor.wrap * size + cursor.count) / size % 65_536 = omega (arith, div-mul-add cursor.wrap size cursor.count inside) in
    let count : cursor.count ≡ (cursor.wrap * size + cursor.count) % size = sym (mod-mul-add cursor.wrap size cursor.count inside) in
    λ i. record { wrap = wrap i; count = count i }

-- what counts as a cursor moved on at every place is moved on
pub moved_on : (size n : ℕ) (old new : Cursor) → old.wrap < 65_536 → old.count < size → n ≤ size → ((place : ℕ) → old ≡ cursor_of size place → new ≡ cursor_of size (place + n)) → IsMovedOn size old new
moved_on size n old new short inside within moves = record {
  from = old.wrap * size + old.count;
  to = old.wrap * size + old.count + n;
  starts = cursor_of-place size old short inside;
  ends = moves (old.wrap * size + old.count) (cursor_of-place size old short inside);
  forward = omega arith;
  near = omega arith;
}

-- cursors less than 65,536 rounds apart are those of one place only where they are equal
pub cursor_of-apart : (size from to : ℕ) → from ≤ to → to < from + 65_536 * size → cursor_of size from ≡ cursor_of size to → from ≡ to
cursor_of-apart zero from to forward near same = absurd (omega arith)
cursor_of-apart (suc s) from to forward near same =
    let some : 0 < suc s = omega arith in
    let low : from / suc s ≤ to / suc s = le-div (from / suc s) to (suc s) some (omega (arith, div-add-mod' from (suc s))) in
    let high : to / suc s < from / suc s + 65_537 = div_below to (suc s) (from / suc s + 65_537) some (omega (arith, div-add-mod' from (suc s), mod_below from (suc s) some)) in
    let wraps : from / suc s % 65_536 ≡ to / suc s % 65_536 = ap (λ c. c.wrap) same in
    let counts : from % suc s ≡ to % suc s = ap (λ c. c.count) same in
    elim (cases_eq (to / suc s) (from / suc s + 65_536)) [
      | inl full ↦ absurd (omega (arith, ap (λ q. q * suc s) full, div-add-mod' from (suc s), div-add-mod' to (suc s)))
      | inr short ↦
          let equal : from / suc s ≡ to / suc s = omega arith in
          omega (arith, ap (λ q. q * suc s) equal, div-add-mod' from (suc s), div-add-mod' to (suc s))
    ]
