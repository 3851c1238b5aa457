-- Beginnings of a list, and the longer of two.
use Rattle.std.proofs.Common.{◌≡◌, ℕ, ◌<◌, ◌≤◌, Bool, List, [], ◌∷◌, ◌++◌, length, true, false, sym, refl, ap, ap₂, ◌∙◌, subst, ⊎_elim, append_assoc, append-nil, length-append, Some, arith}
use Rattle.std.specs.Prelude.{if◌then◌else◌, nat_lt, slice_get}
use Rattle.turn_cell.specs.Lists.{StartsWith, added, longer, shorter}
use Rattle.turn_cell.specs.Places.{times, Below}
use Rattle.turn_cell.specs.Keeping.{once_below}
use Rattle.turn_cell.proofs.PlaceLemmas.{lt_tells, times-below, once_yes}

module _ {E : Type 0} where
  pub starts_itself : (xs : List E) → StartsWith xs xs
  starts_itself xs = ([], sym (append-nil xs))

  pub starts_longer : (log xs : List E) (e : E) → StartsWith log xs → StartsWith (log ++ e ∷ []) xs
  starts_longer log xs e s = (s.0 ++ e ∷ [], ap (λ ys. ys ++ e ∷ []) s.1 ∙ append_assoc xs s.0 (e ∷ []))

  pub starts-length : (log xs : List E) → StartsWith log xs → length xs ≤ length log
  starts-length log xs s = let e = ap (λ ys. length ys) s.1 in let a = length-append xs s.0 in omega (arith, e, a)

  -- of two beginnings of one list the shorter begins the longer
  pub starts_between : (log xs ys : List E) → StartsWith log xs → StartsWith log ys → length ys ≤ length xs → StartsWith xs ys
  starts_between log xs [] a b l = (xs, refl)
  starts_between log [] (y ∷ ys) a b l = absurd (omega arith)
  starts_between log (x ∷ xs) (y ∷ ys) a b l =
      let same : x ∷ (xs ++ a.0) ≡ y ∷ (ys ++ b.0) = sym a.1 ∙ b.1 in
      let r = starts_between (xs ++ a.0) xs ys (a.0, refl) (b.0, ap rest_of same) (omega (arith, l)) in
      (r.0, ap₂ (λ z zs. z ∷ zs) (ap (head_or x) same) r.1)
    where
      rest_of : List E → List E
      rest_of [] = []
      rest_of (z ∷ zs) = zs

      head_or : E → List E → E
      head_or d [] = d
      head_or d (z ∷ zs) = z

  -- what has every place of a list, and only places in what it has seen, has seen the list
  pub all_seen : (log xs rest : List E) (ps : List ℕ) → log ≡ xs ++ rest → Below (length xs) ps → ((p : ℕ) → times p ps ≡ once_below p (length log)) → log ≡ xs
  all_seen log xs [] ps is b each = is ∙ append-nil xs
  all_seen log xs (r ∷ rs) ps is b each =
      let more : length xs < length log = (let e = ap (λ ys. length ys) is in let a = length-append xs (r ∷ rs) in omega (arith, e, a)) in
      let one = each (length xs) ∙ once_yes (length xs) (length log) more in
      let none = times-below (length xs) (length xs) ps b (omega arith) in
      absurd (omega (arith, one, none))

  -- the entry behind the old ones
  pub added_is : (old new : List E) (e : E) → new ≡ old ++ e ∷ [] → added old new ≡ Some e
  added_is old new e more = ap (λ ys. slice_get ys (length old)) more ∙ there old
    where
      there : (xs : List E) → slice_get (xs ++ e ∷ []) (length xs) ≡ Some e
      there [] = refl
      there (x ∷ xs) = there xs

  pub length-longer_right : (xs ys : List E) → length xs < length ys → length (longer xs ys) ≡ length ys
  length-longer_right xs ys l = ⊎_elim (λ h. ap (λ b. length (if b then ys else xs)) h.0) (λ h. let a = h.1 in absurd (omega (arith, a, l))) (lt_tells (length xs) (length ys))

  pub length-longer_left : (xs ys : List E) → length ys ≤ length xs → length (longer xs ys) ≡ length xs
  length-longer_left xs ys l = ⊎_elim (λ h. let a = h.1 in absurd (omega (arith, a, l))) (λ h. ap (λ b. length (if b then ys else xs)) h.0) (lt_tells (length xs) (length ys))

  -- neither is longer than the longer
  pub longer_most : (xs ys : List E) → (length xs ≤ length (longer xs ys)) × (length ys ≤ length (longer xs ys))
  longer_most xs ys =
      ⊎_elim
      (λ h. let a = h.1 in let e = length-longer_right xs ys a in (omega (arith, a, e), omega (arith, e)))
      (λ h. let a = h.1 in let e = length-longer_left xs ys a in (omega (arith, e), omega (arith, a, e)))
      (lt_tells (length xs) (length ys))

  pub starts_either : (log xs ys : List E) (b : Bool) → StartsWith log xs → StartsWith log ys → StartsWith log (if b then ys else xs)
  starts_either log xs ys true s t = t
  starts_either log xs ys false s t = s

  -- where the shorter begins the longer, both do
  pub longer_starts : (xs ys : List E) → (length (shorter xs ys) ≤ length (longer xs ys) → StartsWith (longer xs ys) (shorter xs ys)) → StartsWith (longer xs ys) xs × StartsWith (longer xs ys) ys
  longer_starts xs ys h = by (nat_lt (length xs) (length ys)) less h
    where
      less : length (shorter xs ys) ≤ length (longer xs ys)
      less = ⊎_elim (λ h. subst (λ b. length (if b then xs else ys) ≤ length (if b then ys else xs)) (sym h.0) (let a = h.1 in omega arith)) (λ h. subst (λ b. length (if b then xs else ys) ≤ length (if b then ys else xs)) (sym h.0) h.1) (lt_tells (length xs) (length ys))

      by : (b : Bool) → length (if b then xs else ys) ≤ length (if b then ys else xs) → (length (if b then xs else ys) ≤ length (if b then ys else xs) → StartsWith (if b then ys else xs) (if b then xs else ys)) → StartsWith (if b then ys else xs) xs × StartsWith (if b then ys else xs) ys
      by true l k = (k l, starts_itself ys)
      by false l k = (starts_itself xs, k l)
