-- Places that rise: their last one, one more, and those past a place.
use Rattle.std.proofs.Common.{◌≡◌, ◌∙◌, ℕ, ◌+◌, ◌-◌, ◌<◌, ◌≤◌, Bool, true, false, cond, List, [], ◌∷◌, ◌++◌, map, filter, nat_lt, refl, sym, ap, ap₂, subst, arith}
use Rattle.std.proofs.lemmas.Bool.{ltb-true, ltb-false, lt-ltb, le-ltb}
use Rattle.cdc_ring.specs.Rings.{Rises, last_from}

pub last-above : (from : ℕ) (places : List ℕ) (to : ℕ) → Rises from places to → from ≤ last_from from places
last-above from [] to rises = omega arith
last-above from (place ∷ places) to rises = omega (arith, rises.0, last-above place places to rises.1)

pub last-below : (from : ℕ) (places : List ℕ) (to : ℕ) → Rises from places to → last_from from places ≤ to
last-below from [] to rises = rises
last-below from (place ∷ places) to rises = last-below place places to rises.1

pub rises-further : (from : ℕ) (places : List ℕ) (to further : ℕ) → Rises from places to → to ≤ further → Rises from places further
rises-further from [] to further rises more = omega (arith, rises)
rises-further from (place ∷ places) to further rises more = (rises.0, rises-further place places to further rises.1 more)

pub rises-push : (from : ℕ) (places : List ℕ) (to : ℕ) → Rises from places to → last_from from places < to → Rises from (places ++ to ∷ []) to
rises-push from [] to rises above = (above, omega arith)
rises-push from (place ∷ places) to rises above = (rises.0, rises-push place places to rises.1 above)

-- those past a place, counted from there
abbrev pub past : ℕ → List ℕ → List ℕ
past n places = map (λ place. place - n) (filter (λ place. nat_lt n place) places)

past-kept : (n place : ℕ) (places : List ℕ) → n < place → past n (place ∷ places) ≡ (place - n) ∷ past n places
past-kept n place places above = ap (λ b. map (λ p. p - n) (cond b (place ∷ filter (λ p. nat_lt n p) places) (filter (λ p. nat_lt n p) places))) (lt-ltb n place above)

past-left : (n place : ℕ) (places : List ℕ) → place ≤ n → past n (place ∷ places) ≡ past n places
past-left n place places below = ap (λ b. map (λ p. p - n) (cond b (place ∷ filter (λ p. nat_lt n p) places) (filter (λ p. nat_lt n p) places))) (le-ltb n place below)

rises-all_past : (n from : ℕ) (places : List ℕ) (to : ℕ) → Rises from places to → n ≤ from → Rises (from - n) (past n places) (to - n)
rises-all_past n from [] to rises low = omega (arith, rises)
rises-all_past n from (place ∷ places) to rises low =
    let above : n < place = omega (arith, rises.0) in
    subst (λ ps. Rises (from - n) ps (to - n)) (sym (past-kept n place places above)) (omega (arith, rises.0), rises-all_past n place places to rises.1 (omega arith))

pub rises-past : (n from : ℕ) (places : List ℕ) (to : ℕ) → Rises from places to → from ≤ n → n ≤ to → Rises 0 (past n places) (to - n)
rises-past n from [] to rises low high = omega arith
rises-past n from (place ∷ places) to rises low high = by_test (nat_lt n place) refl (λ le. rises-past n place places to rises.1 le high)
  where
    by_test : (b : Bool) → nat_lt n place ≡ b → (place ≤ n → Rises 0 (past n places) (to - n)) → Rises 0 (past n (place ∷ places)) (to - n)
    by_test true above rest =
        let gt = ltb-true n place above in
        subst (λ ps. Rises 0 ps (to - n)) (sym (past-kept n place places gt)) (omega (arith, gt), rises-all_past n place places to rises.1 (omega (arith, gt)))
    by_test false below rest =
        let le = ltb-false n place below in
        subst (λ ps. Rises 0 ps (to - n)) (sym (past-left n place places le)) (rest le)

-- marks are places counted from the completed bytes
pub last-marks : (from mark : ℕ) (marks : List ℕ) → last_from (from + mark) (map (λ m. from + m) marks) ≡ from + last_from mark marks
last-marks from mark [] = refl
last-marks from mark (m ∷ marks) = last-marks from m marks

-- the places past one are those of the marks past it
pub places-past : (from n : ℕ) (marks : List ℕ) → filter (λ place. nat_lt (from + n) place) (map (λ m. from + m) marks) ≡ map (λ m. from + n + m) (past n marks)
places-past from n [] = refl
places-past from n (m ∷ marks) = by_test (nat_lt n m) refl (places-past from n marks)
  where
    rest : List ℕ
    rest = filter (λ place. nat_lt (from + n) place) (map (λ k. from + k) marks)

    by_test : (b : Bool) → nat_lt n m ≡ b → rest ≡ map (λ k. from + n + k) (past n marks) → filter (λ place. nat_lt (from + n) place) (map (λ k. from + k) (m ∷ marks)) ≡ map (λ k. from + n + k) (past n (m ∷ marks))
    by_test true above same =
        let gt = ltb-true n m above in
        ap (λ b. cond b ((from + m) ∷ rest) rest) (lt-ltb (from + n) (from + m) (omega (arith, gt)))
        ∙ ap₂ (λ (k : ℕ) (ks : List ℕ). k ∷ ks) (let e : from + m ≡ from + n + (m - n) = omega (arith, gt) in e) same
        ∙ ap (λ ps. map (λ k. from + n + k) ps) (sym (past-kept n m marks gt))
    by_test false below same =
        let le = ltb-false n m below in
        ap (λ b. cond b ((from + m) ∷ rest) rest) (le-ltb (from + n) (from + m) (omega (arith, le)))
        ∙ same
        ∙ ap (λ ps. map (λ k. from + n + k) ps) (sym (past-left n m marks le))

-- places that rise, moved on
pub rises_up : (by from : ℕ) (places : List ℕ) (to first last : ℕ) → first ≡ by + from → last ≡ by + to → Rises from places to → Rises first (map (λ p. by + p) places) last
rises_up by from [] to first last starts ends rises = omega (arith, rises)
rises_up by from (place ∷ places) to first last starts ends rises = (omega (arith, rises.0), rises_up by place places to (by + place) last refl ends rises.1)
