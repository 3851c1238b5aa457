-- Messages whose bytes go on where those before them end, and snapshots that tell no more than what was taken.
use Rattle.std.proofs.Common.{◌≡◌, ◌∙◌, ℕ, ◌<◌, ◌≤◌, ◌⊎◌, inl, inr, Bool, true, false, List, [], ◌∷◌, ◌++◌, drop, refl, ap, sym, subst, arith, if◌then◌else◌, true≢false, suc, zero}
use Rattle.std.specs.Prelude.{is_some}
use Rattle.smc_num.specs.Names.{head}
use Rattle.pipe_model.specs.declared.snapshot.Snapshot.{Snapshot}
use Rattle.pipe_model.specs.Ends.{Sent}
use Rattle.pipe_model.specs.Parts.{snapshots, Climbs}

-- that the bytes of snapshots go on, without a hole, from a place to which bytes have come up to a last one
abbrev pub Joins : ℕ → List Sent → ℕ → Type 0
Joins reach [] last = last ≤ reach
Joins reach (m ∷ ms) last = (m.check ≡ false) × ((m.snapshot.aborted ≡ true) ⊎ (m.from ≤ reach)) × Joins m.snapshot.told ms last

-- the same behind a validation message, of which the taker misses nothing once it has taken the number
abbrev pub JoinsChecked : Snapshot → List Sent → ℕ → Type 0
JoinsChecked taken [] last = ⊥
JoinsChecked taken (m ∷ ms) last = (m.check ≡ true) × (m.snapshot.number ≤ taken.number → m.snapshot.told ≤ taken.told) × Joins m.snapshot.told ms last

abbrev pub Comes : Snapshot → List Sent → ℕ → Type 0
Comes taken queue last = Joins taken.told queue last ⊎ JoinsChecked taken queue last

-- that a snapshot, and each one behind it, tells no more than what was taken where its number was taken
abbrev pub Behind : Snapshot → Snapshot → List Snapshot → Type 0
Behind taken s [] = s.number ≤ taken.number → s.told ≤ taken.told
Behind taken s (r ∷ rs) = (s.number ≤ taken.number → s.told ≤ taken.told) × Behind taken r rs

-- bytes come further
pub joins-more : (reach reach2 last : ℕ) (ms : List Sent) → reach ≤ reach2 → Joins reach ms last → Joins reach2 ms last
joins-more reach reach2 last [] l j = omega arith
joins-more reach reach2 last (m ∷ ms) l (e, inl a, j) = (e, inl a, j)
joins-more reach reach2 last (m ∷ ms) l (e, inr a, j) = (e, inr (omega arith), j)

more-of : (reach last : ℕ) (m : Sent) → last ≤ reach → (m.snapshot.aborted ≡ true) ⊎ (m.from ≤ last) → (m.snapshot.aborted ≡ true) ⊎ (m.from ≤ reach)
more-of reach last m l (inl e) = inl e
more-of reach last m l (inr e) = inr (omega arith)

joins-append : (reach last : ℕ) (ms : List Sent) (m : Sent) → m.check ≡ false → (m.snapshot.aborted ≡ true) ⊎ (m.from ≤ last) → Joins reach ms last → Joins reach (ms ++ m ∷ []) m.snapshot.told
joins-append reach last [] m e f j = (e, more-of reach last m j f, omega arith)
joins-append reach last (k ∷ ms) m e f j = (j.0, j.1, joins-append k.snapshot.told last ms m e f j.2)

checked-append : (taken : Snapshot) (last : ℕ) (ms : List Sent) (m : Sent) → m.check ≡ false → (m.snapshot.aborted ≡ true) ⊎ (m.from ≤ last) → JoinsChecked taken ms last → JoinsChecked taken (ms ++ m ∷ []) m.snapshot.told
checked-append taken last [] m e f j = absurd j
checked-append taken last (k ∷ ms) m e f j = (j.0, j.1, joins-append k.snapshot.told last ms m e f j.2)

pub comes-append : (taken : Snapshot) (last : ℕ) (ms : List Sent) (m : Sent) → m.check ≡ false → (m.snapshot.aborted ≡ true) ⊎ (m.from ≤ last) → Comes taken ms last → Comes taken (ms ++ m ∷ []) m.snapshot.told
comes-append taken last ms m e f (inl j) = inl (joins-append taken.told last ms m e f j)
comes-append taken last ms m e f (inr j) = inr (checked-append taken last ms m e f j)

-- a snapshot lands
pub comes-snapshot : (taken : Snapshot) (last : ℕ) (m : Sent) (ms : List Sent) → m.check ≡ false → Comes taken (m ∷ ms) last → ((m.snapshot.aborted ≡ true) ⊎ (m.from ≤ taken.told)) × Joins m.snapshot.told ms last
comes-snapshot taken last m ms e (inl j) = (j.1, j.2)
comes-snapshot taken last m ms e (inr j) = absurd (true≢false (sym j.0 ∙ e))

-- a validation message lands, which names a number that was taken
pub comes-check : (taken : Snapshot) (last : ℕ) (m : Sent) (ms : List Sent) → m.check ≡ true → m.snapshot.number ≤ taken.number → Comes taken (m ∷ ms) last → Joins taken.told ms last
comes-check taken last m ms e n (inl j) = absurd (true≢false (sym e ∙ j.0))
comes-check taken last m ms e n (inr j) = joins-more m.snapshot.told taken.told last ms (j.1 n) j.2

-- a snapshot more is posted
pub behind-append : (taken s r : Snapshot) (ss : List Snapshot) → (r.number ≤ taken.number → r.told ≤ taken.told) → Behind taken s ss → Behind taken s (ss ++ r ∷ [])
behind-append taken s r [] f b = (b, f)
behind-append taken s r (q ∷ ss) f b = (b.0, behind-append taken q r ss f b.1)

pub behind-first : (taken s : Snapshot) (ss : List Snapshot) → Behind taken s ss → s.number ≤ taken.number → s.told ≤ taken.told
behind-first taken s [] b = b
behind-first taken s (r ∷ ss) b = b.0

pub behind-rest : (taken s r : Snapshot) (ss : List Snapshot) → Behind taken s (r ∷ ss) → Behind taken r ss
behind-rest taken s r ss b = b.1

-- one of the flight is taken
abbrev pub Has : Snapshot → List Snapshot → Type 0
Has s [] = ⊥
Has s (r ∷ rs) = (s ≡ r) ⊎ Has s rs

behind-later : (taken s last : Snapshot) (ss : List Snapshot) → taken.number < s.number → Climbs s ss last → Behind taken s ss
behind-later taken s last [] l c = λ e. absurd (omega (arith, e, l))
behind-later taken s last (r ∷ ss) l c = (λ e. absurd (omega (arith, e, l)), let m = c.0 in behind-later taken r last ss (omega (arith, l, m.0)) c.1)

behind-self : (s last : Snapshot) (ss : List Snapshot) → Climbs s ss last → Behind s s ss
behind-self s last [] c = λ e. omega arith
behind-self s last (r ∷ ss) c = (λ e. omega arith, let m = c.0 in behind-later s r last ss m.0 c.1)

pub climbs-has : (first s last : Snapshot) (ss : List Snapshot) → Climbs first ss last → Has s ss → first.told ≤ s.told
climbs-has first s last [] c h = absurd h
climbs-has first s last (r ∷ ss) c (inl e) = let m = c.0 in subst (λ (q : Snapshot). first.told ≤ q.told) (sym e) m.1
climbs-has first s last (r ∷ ss) c (inr h) = let m = c.0 in let n = climbs-has r s last ss c.1 h in omega (arith, m.1, n)

pub climbs-behind : (first s last : Snapshot) (ss : List Snapshot) → Climbs first ss last → Has s ss → Behind s first ss
climbs-behind first s last [] c h = absurd h
climbs-behind first s last (r ∷ ss) c (inl e) = let m = c.0 in subst (λ (q : Snapshot). Behind q first (r ∷ ss)) (sym e) (λ _. m.1, behind-self r last ss c.1)
climbs-behind first s last (r ∷ ss) c (inr h) = let l = climbs-has first s last (r ∷ ss) c (inr h) in (λ _. l, climbs-behind r s last ss c.1 h)

-- a snapshot that has not landed has not completed, so that it is in the flight
has-by : (b : Bool) (s r : Snapshot) (ss : List Snapshot) → Has s ss → Has s (if b then ss else r ∷ ss)
has-by true s r ss h = h
has-by false s r ss h = inr h

has-first : (b : Bool) (s : Snapshot) (ss : List Snapshot) → b ≡ false → Has s (if b then ss else s ∷ ss)
has-first true s ss e = absurd (true≢false e)
has-first false s ss e = inl refl

nothing-left : (l : ℕ) (m : Sent) (rest : List Sent) → drop l [] ≡ m ∷ rest → false ≡ true
nothing-left zero m rest e = ap (λ ms. is_some (head ms)) e
nothing-left (suc l) m rest e = ap (λ ms. is_some (head ms)) e

pub in-flight : (i l : ℕ) (ms : List Sent) (m : Sent) (rest : List Sent) → i ≤ l → drop l ms ≡ m ∷ rest → m.check ≡ false → Has m.snapshot (snapshots (drop i ms))
in-flight i l [] m rest o d e = absurd (true≢false (sym (nothing-left l m rest d)))
in-flight zero zero (n ∷ ms) m rest o d e = subst (λ ns. Has m.snapshot (snapshots ns)) (sym d) (has-first m.check m.snapshot (snapshots rest) e)
in-flight zero (suc l) (n ∷ ms) m rest o d e = has-by n.check m.snapshot n.snapshot (snapshots ms) (in-flight zero l ms m rest (omega arith) d e)
in-flight (suc i) zero (n ∷ ms) m rest o d e = absurd (omega (arith, o))
in-flight (suc i) (suc l) (n ∷ ms) m rest o d e = in-flight i l ms m rest (omega (arith, o)) d e
