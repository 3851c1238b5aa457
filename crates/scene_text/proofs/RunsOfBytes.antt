-- The runs of bytes, as a printer comes by them from the left.
use Rattle.std.proofs.Common.{◌≡◌, ◌∙◌, ℕ, ◌+◌, ◌<◌, ◌==◌, Bool, true, false, if◌then◌else◌, List, [], ◌∷◌, ◌++◌, length, drop, get_or, codes, refl, sym, ap, arith, append_assoc}
use Rattle.std.specs.List.{join_by, flat_map}
use Rattle.std.proofs.lemmas.Bool.{eq-eqb, ne_eqb, cond-true, cond-false}
use Rattle.std.proofs.lemmas.List.{drop_more}
use Rattle.scene_text.specs.Spelling.{Run, run_with, runs, run_text}

-- so many of one byte in front of runs
abbrev pub add_run : ℕ → ℕ → List Run → List Run
add_run b n [] = (record { byte = b; count = n }) ∷ []
add_run b n (r ∷ rs) = if b == r.byte then (record { byte = b; count = r.count + n }) ∷ rs else (record { byte = b; count = n }) ∷ (r ∷ rs)

-- runs with commas between them
abbrev pub joined : List Run → List ℕ
joined rs = join_by run_text (codes ",") rs

-- a run of this byte
abbrev of_byte : ℕ → ℕ → Run
of_byte b n = record { byte = b; count = n }

again-at : (b n k : ℕ) (rs : List Run) → add_run b n (of_byte b k ∷ rs) ≡ of_byte b (k + n) ∷ rs
again-at b n k rs = cond-true (b == b) _ _ (eq-eqb b b refl)

again-by : (same : Bool) (b n : ℕ) (r : Run) (rs : List Run) →
    add_run b n (if same then of_byte b (r.count + 1) ∷ rs else of_byte b 1 ∷ (r ∷ rs)) ≡ (if same then of_byte b (r.count + (n + 1)) ∷ rs else of_byte b (n + 1) ∷ (r ∷ rs))
again-by true b n r rs = again-at b n (r.count + 1) rs ∙ (let e : r.count + 1 + n ≡ r.count + (n + 1) = omega arith in ap (λ k. of_byte b k ∷ rs) e)
again-by false b n r rs = again-at b n 1 (r ∷ rs) ∙ (let e : 1 + n ≡ n + 1 = omega arith in ap (λ k. of_byte b k ∷ (r ∷ rs)) e)

-- one more of the same byte
again : (b n : ℕ) (rs : List Run) → add_run b n (run_with b rs) ≡ add_run b (n + 1) rs
again b n [] = again-at b n 1 [] ∙ (let e : 1 + n ≡ n + 1 = omega arith in ap (λ k. of_byte b k ∷ []) e)
again b n (r ∷ rs) = again-by (b == r.byte) b n r rs

-- another byte ends the run
ended-at : (b n : ℕ) (r : Run) (rs : List Run) → (b == r.byte) ≡ false → joined (add_run b n (r ∷ rs)) ≡ run_text (of_byte b n) ++ (codes "," ++ joined (r ∷ rs))
ended-at b n r rs e =
    ap joined (cond-false (b == r.byte) _ _ e) ∙ ap (λ text. run_text (of_byte b n) ++ text) (append_assoc (codes ",") (run_text r) (flat_map (λ q. codes "," ++ run_text q) rs))

ended-by : (same : Bool) (b c n : ℕ) (r : Run) (rs : List Run) → (b == c) ≡ false →
    joined (add_run b n (if same then of_byte c (r.count + 1) ∷ rs else of_byte c 1 ∷ (r ∷ rs))) ≡ run_text (of_byte b n) ++ (codes "," ++ joined (if same then of_byte c (r.count + 1) ∷ rs else of_byte c 1 ∷ (r ∷ rs)))
ended-by true b c n r rs e = ended-at b n (of_byte c (r.count + 1)) rs e
ended-by false b c n r rs e = ended-at b n (of_byte c 1) (r ∷ rs) e

ended : (b c n : ℕ) (rs : List Run) → (b == c) ≡ false → joined (add_run b n (run_with c rs)) ≡ run_text (of_byte b n) ++ (codes "," ++ joined (run_with c rs))
ended b c n [] e = ended-at b n (of_byte c 1) [] e
ended b c n (r ∷ rs) e = ended-by (c == r.byte) b c n r rs e

with_one : (b : ℕ) (rs : List Run) → run_with b rs ≡ add_run b 1 rs
with_one b [] = refl
with_one b (r ∷ rs) = refl

-- what is to be printed stays the same when the next byte is that of the run
pub same_byte : (out start : List ℕ) (b c n i : ℕ) (rest : List ℕ) → i < length rest → get_or rest i 0 ≡ c → c ≡ b →
    out ++ joined (add_run b n (runs (drop i rest))) ≡ start →
    out ++ joined (add_run b (n + 1) (runs (drop (i + 1) rest))) ≡ start
same_byte out start b c n i rest l e f so_far =
    let front : runs (drop i rest) ≡ run_with b (runs (drop (i + 1) rest)) = ap runs (drop_more rest i 0 l) ∙ ap (λ x. run_with x (runs (drop (i + 1) rest))) (e ∙ f) in
    ap (λ rs. out ++ joined rs) (sym (ap (add_run b n) front ∙ again b n (runs (drop (i + 1) rest)))) ∙ so_far

-- and when it is another one, once the run and a comma are printed
pub other_byte : (out new start : List ℕ) (b c n i : ℕ) (rest : List ℕ) → i < length rest → get_or rest i 0 ≡ c → (c ≡ b → ⊥) →
    new ≡ (out ++ run_text (record { byte = b; count = n })) ++ codes "," →
    out ++ joined (add_run b n (runs (drop i rest))) ≡ start →
    new ++ joined (add_run c 1 (runs (drop (i + 1) rest))) ≡ start
other_byte out new start b c n i rest l e ne printed so_far =
    let rs : List Run = runs (drop (i + 1) rest) in
    let front : runs (drop i rest) ≡ run_with c rs = ap runs (drop_more rest i 0 l) ∙ ap (λ x. run_with x rs) e in
    ap (λ text. text ++ joined (add_run c 1 rs)) printed ∙ ap (λ qs. ((out ++ run_text (of_byte b n)) ++ codes ",") ++ joined qs) (sym (with_one c rs))
    ∙ append_assoc (out ++ run_text (of_byte b n)) (codes ",") (joined (run_with c rs)) ∙ append_assoc out (run_text (of_byte b n)) (codes "," ++ joined (run_with c rs))
    ∙ ap (λ text. out ++ text) (sym (ended b c n rs (ne_eqb b c (λ q. ne (sym q))))) ∙ ap (λ qs. out ++ joined (add_run b n qs)) (sym front) ∙ so_far

-- the two cases as a loop has them
pub next_same : (out out' start : List ℕ) (b b' n n' i : ℕ) (rest : List ℕ) → i < length rest → get_or rest i 0 ≡ b → out' ≡ out → b' ≡ b → n' ≡ n + 1 →
    out ++ joined (add_run b n (runs (drop i rest))) ≡ start →
    out' ++ joined (add_run b' n' (runs (drop (i + 1) rest))) ≡ start
next_same out out' start b b' n n' i rest l e o p q so_far =
    ap (λ text. text ++ joined (add_run b' n' (runs (drop (i + 1) rest)))) o ∙ ap (λ x. out ++ joined (add_run x n' (runs (drop (i + 1) rest)))) p ∙ ap (λ k. out ++ joined (add_run b k (runs (drop (i + 1) rest)))) q
    ∙ same_byte out start b (get_or rest i 0) n i rest l refl e so_far

pub next_other : (out out' start : List ℕ) (b b' n n' i : ℕ) (rest : List ℕ) → i < length rest → (get_or rest i 0 ≡ b → ⊥) →
    out' ≡ (out ++ run_text (record { byte = b; count = n })) ++ codes "," → b' ≡ get_or rest i 0 → n' ≡ 1 →
    out ++ joined (add_run b n (runs (drop i rest))) ≡ start →
    out' ++ joined (add_run b' n' (runs (drop (i + 1) rest))) ≡ start
next_other out out' start b b' n n' i rest l ne o p q so_far =
    ap (λ x. out' ++ joined (add_run x n' (runs (drop (i + 1) rest)))) p ∙ ap (λ k. out' ++ joined (add_run (get_or rest i 0) k (runs (drop (i + 1) rest)))) q
    ∙ other_byte out out' start b (get_or rest i 0) n i rest l refl ne o so_far
