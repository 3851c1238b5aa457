-- Lists of messages and of snapshots whose counts rise: what a chain is, and that it goes on at its end.
use Rattle.std.proofs.Common.{◌≡◌, ◌∙◌, ℕ, ◌+◌, ◌<◌, ◌≤◌, ◌⊎◌, inl, inr, max, Bool, true, false, List, [], ◌∷◌, ◌++◌, length, drop, refl, ap, sym, true≢false, subst, arith, if◌then◌else◌, length-append, suc, zero}
use Rattle.std.specs.Prelude.{Some, None, is_some, unwrap_or}
use Rattle.smc_num.specs.Names.{head}
use Rattle.pipe_model.specs.declared.snapshot.Snapshot.{Snapshot}
use Rattle.pipe_model.specs.Ends.{Sent}
use Rattle.pipe_model.specs.Parts.{snapshots, TellsMore, Climbs, CountUp}

-- every message tells a number, a told count and a read count that do not pass these
abbrev pub Under : ℕ → ℕ → ℕ → List Sent → Type 0
Under number out rd [] = Unit {0}
Under number out rd (m ∷ ms) = (m.snapshot.number ≤ number) × (m.snapshot.told ≤ out) × (m.snapshot.read ≤ rd) × Under number out rd ms

-- from a taken number, read count and reach of told bytes on, numbers rise, read counts never fall, and told counts fall only in
-- an aborted snapshot
abbrev pub Rises : ℕ → ℕ → ℕ → Snapshot → Type 0
Rises number read reach s = (number < s.number) × (read ≤ s.read) × ((s.aborted ≡ true) ⊎ (reach ≤ s.told))

abbrev pub Ascends : ℕ → ℕ → ℕ → List Sent → Type 0
Ascends number read reach [] = Unit {0}
Ascends number read reach (m ∷ ms) =
    ((m.check ≡ true) × Ascends number read reach ms) ⊎ ((m.check ≡ false) × Rises number read reach m.snapshot × Ascends m.snapshot.number m.snapshot.read (max reach m.snapshot.told) ms)

pub under-more : (n n2 o o2 r r2 : ℕ) (ms : List Sent) → n ≤ n2 → o ≤ o2 → r ≤ r2 → Under n o r ms → Under n2 o2 r2 ms
under-more n n2 o o2 r r2 [] a b c u = tt
under-more n n2 o o2 r r2 (m ∷ ms) a b c u = (omega (arith, u.0, a), omega (arith, u.1, b), omega (arith, u.2, c), under-more n n2 o o2 r r2 ms a b c u.3)

pub under-append : (n o r : ℕ) (ms : List Sent) (m : Sent) → Under n o r ms → m.snapshot.number ≤ n → m.snapshot.told ≤ o → m.snapshot.read ≤ r → Under n o r (ms ++ m ∷ [])
under-append n o r [] m u a b c = (a, b, c, tt)
under-append n o r (k ∷ ms) m u a b c = (u.0, u.1, u.2, under-append n o r ms m u.3 a b c)

pub under-drop : (n o r i : ℕ) (ms : List Sent) → Under n o r ms → Under n o r (drop i ms)
under-drop n o r zero [] u = tt
under-drop n o r zero (m ∷ ms) u = u
under-drop n o r (suc i) [] u = tt
under-drop n o r (suc i) (m ∷ ms) u = under-drop n o r i ms u.3

rises-less : (number number2 read read2 reach reach2 : ℕ) (s : Snapshot) → number2 ≤ number → read2 ≤ read → reach2 ≤ reach → Rises number read reach s → Rises number2 read2 reach2 s
rises-less number number2 read read2 reach reach2 s n a b (l, c, inl d) = (omega arith, omega arith, inl d)
rises-less number number2 read read2 reach reach2 s n a b (l, c, inr d) = (omega arith, omega arith, inr (omega arith))

pub ascends-less : (number number2 read read2 reach reach2 : ℕ) (ms : List Sent) → number2 ≤ number → read2 ≤ read → reach2 ≤ reach → Ascends number read reach ms → Ascends number2 read2 reach2 ms
ascends-less number number2 read read2 reach reach2 [] n a b c = tt
ascends-less number number2 read read2 reach reach2 (m ∷ ms) n a b (inl c) = inl (c.0, ascends-less number number2 read read2 reach reach2 ms n a b c.1)
ascends-less number number2 read read2 reach reach2 (m ∷ ms) n a b (inr c) = inr (
  c.0,
  rises-less number number2 read read2 reach reach2 m.snapshot n a b c.1,
  ascends-less m.snapshot.number m.snapshot.number m.snapshot.read m.snapshot.read (max reach m.snapshot.told) (max reach2 m.snapshot.told) ms (omega arith) (omega arith) (omega arith) c.2,
)

-- what the messages after the first are past
pub ascends-tail : (number read reach : ℕ) (m : Sent) (ms : List Sent) → Ascends number read reach (m ∷ ms) → Ascends number read reach ms
ascends-tail number read reach m ms (inl c) = c.1
ascends-tail number read reach m ms (inr c) = let r = c.1 in ascends-less m.snapshot.number number m.snapshot.read read (max reach m.snapshot.told) reach ms (omega (arith, r.0)) r.1 (omega arith) c.2

-- a snapshot may follow that tells a greater number and reads no less than any before it, and tells no less or is aborted
pub ascends-append : (number read reach n o r : ℕ) (ms : List Sent) (m : Sent) → m.check ≡ false → Under n o r ms → number ≤ n → read ≤ r → reach ≤ o → Rises n r o m.snapshot → Ascends number read reach ms → Ascends number read reach (ms ++ m ∷ [])
ascends-append number read reach n o r [] m e u l a b c d = inr (e, rises-less n number r read o reach m.snapshot l a b c, tt)
ascends-append number read reach n o r (k ∷ ms) m e u l a b c (inl d) = inl (d.0, ascends-append number read reach n o r ms m e u.3 l a b c d.1)
ascends-append number read reach n o r (k ∷ ms) m e u l a b c (inr d) =
    let v = u.1 in
    inr (d.0, d.1, ascends-append k.snapshot.number k.snapshot.read (max reach k.snapshot.told) n o r ms m e u.3 u.0 u.2 (omega arith) c d.2)

snapshots-by : (b : Bool) (s : Snapshot) (ms ns : List Snapshot) (rest : List Snapshot) → ns ≡ ms ++ rest → (if b then ns else s ∷ ns) ≡ (if b then ms else s ∷ ms) ++ rest
snapshots-by true s ms ns rest e = e
snapshots-by false s ms ns rest e = ap (λ ss. s ∷ ss) e

pub snapshots-append : (ms : List Sent) (m : Sent) → m.check ≡ false → snapshots (ms ++ m ∷ []) ≡ snapshots ms ++ m.snapshot ∷ []
snapshots-append [] m e = ap (λ b. if b then [] else m.snapshot ∷ []) e
snapshots-append (k ∷ ms) m e = snapshots-by k.check k.snapshot (snapshots ms) (snapshots (ms ++ m ∷ [])) (m.snapshot ∷ []) (snapshots-append ms m e)

pub climbs-append : (first last s : Snapshot) (ss : List Snapshot) → TellsMore last s → Climbs first ss last → Climbs first (ss ++ s ∷ []) s
climbs-append first last s [] c f = (subst (λ (q : Snapshot). TellsMore q s) (sym f) c, refl)
climbs-append first last s (r ∷ ss) c f = (f.0, climbs-append r last s ss c f.1)

pub climbs-told : (first last : Snapshot) (ss : List Snapshot) → Climbs first ss last → (first.told ≤ last.told) × (first.read ≤ last.read) × (first.number ≤ last.number)
climbs-told first last [] f = subst (λ (q : Snapshot). (first.told ≤ q.told) × (first.read ≤ q.read) × (first.number ≤ q.number)) f (omega arith, omega arith, omega arith)
climbs-told first last (s ∷ ss) f =
    let c = f.0 in
    let d = climbs-told s last ss f.1 in
    (omega (arith, c.1, d.0), omega (arith, c.2, d.1), omega (arith, c.0, d.2))

pub counts-append : (n : ℕ) (ss : List Snapshot) (s : Snapshot) → s.number ≡ n + 1 → CountUp ss n → CountUp (ss ++ s ∷ []) (n + 1)
counts-append n [] s e h = (omega arith, tt)
counts-append n (r ∷ ss) s e h = let l : length (ss ++ s ∷ []) ≡ length ss + 1 = length-append ss (s ∷ []) in (omega (arith, h.0, l), counts-append n ss s e h.1)

next-suc : {X : Type 0} (i : ℕ) (xs : List X) → i < length xs → (x : X) × (drop i xs ≡ x ∷ drop (suc i) xs)
next-suc zero [] h = absurd (omega (arith, h))
next-suc zero (x ∷ xs) h = (x, refl)
next-suc (suc i) [] h = absurd (omega (arith, h))
next-suc (suc i) (x ∷ xs) h = next-suc i xs (omega arith)

-- the next one from a place on, where there is one, and the rest
pub next-of : {X : Type 0} (i : ℕ) (xs : List X) → i < length xs → (x : X) × (drop i xs ≡ x ∷ drop (i + 1) xs)
next-of i xs h =
    let n = next-suc i xs h in
    let e : suc i ≡ i + 1 = omega arith in
    (n.0, n.1 ∙ ap (λ j. n.0 ∷ drop j xs) e)

-- the same, where the next one is known
none-some : {X : Type 0} (x : X) → None ≡ Some x → false ≡ true
none-some x e = ap (λ o. is_some o) e

some-same : {X : Type 0} (x y : X) → Some x ≡ Some y → x ≡ y
some-same x y e = ap (λ o. unwrap_or o x) e

rest-suc : {X : Type 0} (i : ℕ) (xs : List X) (x : X) → head (drop i xs) ≡ Some x → drop i xs ≡ x ∷ drop (suc i) xs
rest-suc zero [] x e = absurd (true≢false (sym (none-some x e)))
rest-suc zero (y ∷ xs) x e = ap (λ z. z ∷ xs) (some-same y x e)
rest-suc (suc i) [] x e = absurd (true≢false (sym (none-some x e)))
rest-suc (suc i) (y ∷ xs) x e = rest-suc i xs x e

pub rest-of : {X : Type 0} (i : ℕ) (xs : List X) (x : X) → head (drop i xs) ≡ Some x → drop i xs ≡ x ∷ drop (i + 1) xs
rest-of i xs x e =
    let g : suc i ≡ i + 1 = omega arith in
    rest-suc i xs x e ∙ ap (λ j. x ∷ drop j xs) g
