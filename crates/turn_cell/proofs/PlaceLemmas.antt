-- Lists of places: how often each stands in them, and that they rise.
use Rattle.std.proofs.Common.{◌≡◌, ℕ, zero, suc, ◌+◌, ◌<◌, ◌≤◌, ◌≢◌, ◌⊎◌, inl, inr, Bool, List, [], ◌∷◌, ◌++◌, true, false, sym, refl, ap, subst, ⊎_elim, arith}
use Rattle.std.specs.Prelude.{if◌then◌else◌, nat_lt, nat_eq}
use Rattle.std.proofs.lemmas.Bool.Decides.{leb_tells, eqb_tells}
use Rattle.turn_cell.specs.Places.{one_if, times, Above, Rising, Below, insert, merged, up_to}
use Rattle.turn_cell.specs.Keeping.{once_below}

-- the two answers of a test
pub eq_tells : (p x : ℕ) → ((nat_eq p x ≡ true) × (p ≡ x)) ⊎ ((nat_eq p x ≡ false) × (p ≢ x))
eq_tells p x = eqb_tells p x

pub lt_tells : (p n : ℕ) → ((nat_lt p n ≡ true) × (p < n)) ⊎ ((nat_lt p n ≡ false) × (n ≤ p))
lt_tells p n = ⊎_elim (λ h. inl (h.0, h.1)) (λ h. inr (h.0, let a = h.1 in omega arith)) (leb_tells (suc p) n)

one_yes : (p x : ℕ) → p ≡ x → one_if (nat_eq p x) ≡ 1
one_yes p x e = ⊎_elim (λ h. ap one_if h.0) (λ h. absurd (h.1 e)) (eq_tells p x)

one_no : (p x : ℕ) → p ≢ x → one_if (nat_eq p x) ≡ 0
one_no p x n = ⊎_elim (λ h. absurd (n h.1)) (λ h. ap one_if h.0) (eq_tells p x)

pub once_yes : (p n : ℕ) → p < n → once_below p n ≡ 1
once_yes p n l = ⊎_elim (λ h. ap one_if h.0) (λ h. let a = h.1 in absurd (omega arith)) (lt_tells p n)

once_no : (p n : ℕ) → n ≤ p → once_below p n ≡ 0
once_no p n l = ⊎_elim (λ h. let a = h.1 in absurd (omega arith)) (λ h. ap one_if h.0) (lt_tells p n)

pub once_small : (p n : ℕ) → once_below p n ≤ 1
once_small p n = ⊎_elim (λ h. let e = once_yes p n h.1 in omega (arith, e)) (λ h. let e = once_no p n h.1 in omega (arith, e)) (lt_tells p n)

-- one more place is below m than below n
pub once_step : (p n m : ℕ) → m ≡ n + 1 → once_below p m ≡ once_below p n + one_if (nat_eq p n)
once_step p n m is =
    ⊎_elim
    (λ h. let a = h.1 in let x = once_yes p n a in let y = once_yes p m (omega arith) in let z = one_no p n (λ e. omega arith) in omega (arith, x, y, z))
    (λ h. let a = h.1 in let x = once_no p n a in
    ⊎_elim
    (λ g. let e = g.1 in let y = once_yes p m (omega arith) in let z = one_yes p n e in omega (arith, x, y, z))
    (λ g. let ne = g.1 in let y = once_no p m (above ne a) in let z = one_no p n ne in omega (arith, x, y, z))
    (eq_tells p n))
    (lt_tells p n)
  where
    above : p ≢ n → n ≤ p → m ≤ p
    above ne a = ⊎_elim (λ h. let b = h.1 in absurd (ne (omega arith))) (λ h. h.1) (lt_tells p m)

pub times-append : (p : ℕ) (xs ys : List ℕ) → times p (xs ++ ys) ≡ times p xs + times p ys
times-append p [] ys = omega arith
times-append p (x ∷ xs) ys = let e = times-append p xs ys in omega (arith, e)

times-insert : (p y : ℕ) (xs : List ℕ) → times p (insert y xs) ≡ one_if (nat_eq p y) + times p xs
times-insert p y [] = refl
times-insert p y (x ∷ xs) = by (times-insert p y xs) (nat_lt y x)
  where
    by : times p (insert y xs) ≡ one_if (nat_eq p y) + times p xs → (b : Bool) → times p (if b then y ∷ x ∷ xs else x ∷ insert y xs) ≡ one_if (nat_eq p y) + times p (x ∷ xs)
    by e true = refl
    by e false = omega (arith, e)

pub times-merged : (p : ℕ) (xs ys : List ℕ) → times p (merged xs ys) ≡ times p xs + times p ys
times-merged p xs [] = omega arith
times-merged p xs (y ∷ ys) = let e = times-merged p (insert y xs) ys in let i = times-insert p y xs in omega (arith, e, i)

pub times-up_to : (p n : ℕ) → times p (up_to n) ≡ once_below p n
times-up_to p zero = sym (once_no p 0 (omega arith))
times-up_to p (suc n) = let e = times-up_to p n in let a = times-append p (up_to n) (n ∷ []) in let s = once_step p n (suc n) (omega arith) in omega (arith, e, a, s)

pub Below-more : (n m : ℕ) (xs : List ℕ) → n ≤ m → Below n xs → Below m xs
Below-more n m [] le b = tt
Below-more n m (x ∷ xs) le b = (let a = b.0 in omega arith, Below-more n m xs le b.1)

pub Below-push : (n m : ℕ) (xs : List ℕ) → Below n xs → m ≡ n + 1 → Below m (xs ++ n ∷ [])
Below-push n m [] b is = (omega arith, tt)
Below-push n m (x ∷ xs) b is = (let a = b.0 in omega arith, Below-push n m xs b.1 is)

Above-push : (x n : ℕ) (xs : List ℕ) → x < n → Above x xs → Above x (xs ++ n ∷ [])
Above-push x n [] l a = (l, tt)
Above-push x n (y ∷ ys) l a = (a.0, Above-push x n ys l a.1)

pub Rising-push : (n : ℕ) (xs : List ℕ) → Rising xs → Below n xs → Rising (xs ++ n ∷ [])
Rising-push n [] r b = (tt, tt)
Rising-push n (x ∷ xs) r b = (Above-push x n xs b.0 r.0, Rising-push n xs r.1 b.1)

pub Rising-up_to : (n : ℕ) → Rising (up_to n) × Below n (up_to n)
Rising-up_to zero = (tt, tt)
Rising-up_to (suc n) = let h = Rising-up_to n in (Rising-push n (up_to n) h.0 h.1, Below-push n (suc n) (up_to n) h.1 (omega arith))

Above-less : (y x : ℕ) (xs : List ℕ) → y < x → Above x xs → Above y xs
Above-less y x [] l a = tt
Above-less y x (z ∷ zs) l a = (let b = a.0 in omega arith, Above-less y x zs l a.1)

Above-insert : (x y : ℕ) (xs : List ℕ) → x < y → Above x xs → Above x (insert y xs)
Above-insert x y [] l a = (l, tt)
Above-insert x y (z ∷ zs) l a = by (nat_lt y z) (l, a) (a.0, Above-insert x y zs l a.1)
  where
    by : (b : Bool) → Above x (y ∷ z ∷ zs) → Above x (z ∷ insert y zs) → Above x (if b then y ∷ z ∷ zs else z ∷ insert y zs)
    by true s t = s
    by false s t = t

Below-insert : (n y : ℕ) (xs : List ℕ) → y < n → Below n xs → Below n (insert y xs)
Below-insert n y [] l b = (l, tt)
Below-insert n y (z ∷ zs) l b = by (nat_lt y z) (l, b) (b.0, Below-insert n y zs l b.1)
  where
    by : (b : Bool) → Below n (y ∷ z ∷ zs) → Below n (z ∷ insert y zs) → Below n (if b then y ∷ z ∷ zs else z ∷ insert y zs)
    by true s t = s
    by false s t = t

pub Below-merged : (n : ℕ) (xs ys : List ℕ) → Below n xs → Below n ys → Below n (merged xs ys)
Below-merged n xs [] b c = b
Below-merged n xs (y ∷ ys) b c = Below-merged n (insert y xs) ys (Below-insert n y xs c.0 b) c.1

Rising-insert : (y : ℕ) (xs : List ℕ) → Rising xs → times y xs ≡ 0 → Rising (insert y xs)
Rising-insert y [] r none = (tt, tt)
Rising-insert y (x ∷ xs) r none =
    ⊎_elim
    (λ h. subst (λ b. Rising (if b then y ∷ x ∷ xs else x ∷ insert y xs)) (sym h.0) ((h.1, Above-less y x xs h.1 r.0), r))
    (λ h. subst (λ b. Rising (if b then y ∷ x ∷ xs else x ∷ insert y xs)) (sym h.0) (Above-insert x y xs (apart h.1) r.0, Rising-insert y xs r.1 (omega (arith, none))))
    (lt_tells y x)
  where
    apart : x ≤ y → x < y
    apart le = ⊎_elim (λ g. let e = one_yes y x g.1 in absurd (omega (arith, none, e))) (λ g. let ne = g.1 in ⊎_elim (λ l. l.1) (λ l. let a = l.1 in absurd (ne (omega arith))) (lt_tells x y)) (eq_tells y x)

pub Rising-merged : (xs ys : List ℕ) → Rising xs → ((p : ℕ) → times p xs + times p ys ≤ 1) → Rising (merged xs ys)
Rising-merged xs [] r once = r
Rising-merged xs (y ∷ ys) r once =
    Rising-merged (insert y xs) ys
    (Rising-insert y xs r (let a = once y in let b = one_yes y y refl in omega (arith, a, b)))
    (λ p. let a = once p in let b = times-insert p y xs in omega (arith, a, b))

-- a place that lies outside stands nowhere
pub times-below : (p n : ℕ) (xs : List ℕ) → Below n xs → n ≤ p → times p xs ≡ 0
times-below p n [] b l = refl
times-below p n (x ∷ xs) b l = let e = times-below p n xs b.1 l in let z = one_no p x (λ e. let a = b.0 in omega arith) in omega (arith, e, z)

times-above : (p x : ℕ) (xs : List ℕ) → Above x xs → p ≤ x → times p xs ≡ 0
times-above p x [] a l = refl
times-above p x (y ∷ ys) a l = let e = times-above p x ys a.1 l in let z = one_no p y (λ e. let b = a.0 in omega arith) in omega (arith, e, z)

-- in a rising list no place stands twice
pub times-rising : (p : ℕ) (xs : List ℕ) → Rising xs → times p xs ≤ 1
times-rising p [] r = omega arith
times-rising p (x ∷ xs) r =
    ⊎_elim
    (λ h. let e = one_yes p x h.1 in let z = times-above p x xs r.0 (let s = h.1 in omega (arith, s)) in omega (arith, e, z))
    (λ h. let e = one_no p x h.1 in let i = times-rising p xs r.1 in omega (arith, e, i))
    (eq_tells p x)
