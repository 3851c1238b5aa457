-- The runs of bytes, as a printer comes by them from the left.
use Rattle.std.proofs.Common.{◌≡◌, ◌∙◌, ℕ, ◌+◌, ◌<◌, ◌≤◌, ◌==◌, Bool, true, false, if◌then◌else◌, List, [], ◌∷◌, ◌++◌, length, drop, get_or, codes, Option, Result, refl, sym, ap, subst, arith, append_assoc, append-nil}
use Rattle.std.specs.List.{join_by, flat_map}
use Rattle.std.specs.Result.{IsErr}
use Rattle.std.proofs.lemmas.Bool.{eq-eqb, ne_eqb, cond-true, cond-false}
use Rattle.std.proofs.lemmas.List.{drop_more}
use Rattle.byte_port.specs.Pages.{Stands, Wrote}
use Rattle.byte_port.proofs.Paging.{Going, one_more, behind}
use Rattle.scene_text.specs.Spelling.{Run, run_with, runs, run_text}
use Rattle.smcr_calls.proofs.Putting.{broke_off, last_one, none_left}

-- so many of one byte in front of runs
abbrev pub add_run : ℕ → ℕ → List Run → List Run
add_run b n [] = (record { byte = b; count = n }) ∷ []
add_run b n (r ∷ rs) = if b == r.byte then (record { byte = b; count = r.count + n }) ∷ rs else (record { byte = b; count = n }) ∷ (r ∷ rs)

-- runs with commas between them
abbrev pub joined : List Run → List ℕ
joined rs = join_by run_text (codes ",") rs

-- a run of this byte
abbrev of_byte : ℕ → ℕ → Run
of_byte b n = record { byte = b; count = n }

again-at : (b n k : ℕ) (rs : List Run) → add_run b n (of_byte b k ∷ rs) ≡ of_byte b (k + n) ∷ rs
again-at b n k rs = cond-true (b == b) _ _ (eq-eqb b b refl)

again-by : (same : Bool) (b n : ℕ) (r : Run) (rs : List Run) →
    add_run b n (if same then of_byte b (r.count + 1) ∷ rs else of_byte b 1 ∷ (r ∷ rs)) ≡ (if same then of_byte b (r.count + (n + 1)) ∷ rs else of_byte b (n + 1) ∷ (r ∷ rs))
again-by true b n r rs = again-at b n (r.count + 1) rs ∙ (let e : r.count + 1 + n ≡ r.count + (n + 1) = omega arith in ap (λ k. of_byte b k ∷ rs) e)
again-by false b n r rs = again-at b n 1 (r ∷ rs) ∙ (let e : 1 + n ≡ n + 1 = omega arith in ap (λ k. of_byte b k ∷ (r ∷ rs)) e)

-- one more of the same byte
again : (b n : ℕ) (rs : List Run) → add_run b n (run_with b rs) ≡ add_run b (n + 1) rs
again b n [] = again-at b n 1 [] ∙ (let e : 1 + n ≡ n + 1 = omega arith in ap (λ k. of_byte b k ∷ []) e)
again b n (r ∷ rs) = again-by (b == r.byte) b n r rs

-- another byte ends the run
ended-at : (b n : ℕ) (r : Run) (rs : List Run) → (b == r.byte) ≡ false → joined (add_run b n (r ∷ rs)) ≡ run_text (of_byte b n) ++ (codes "," ++ joined (r ∷ rs))
ended-at b n r rs e =
    ap joined (cond-false (b == r.byte) _ _ e) ∙ ap (λ text. run_text (of_byte b n) ++ text) (append_assoc (codes ",") (run_text r) (flat_map (λ q. codes "," ++ run_text q) rs))

ended-by : (same : Bool) (b c n : ℕ) (r : Run) (rs : List Run) → (b == c) ≡ false →
    joined (add_run b n (if same then of_byte c (r.count + 1) ∷ rs else of_byte c 1 ∷ (r ∷ rs))) ≡ run_text (of_byte b n) ++ (codes "," ++ joined (if same then of_byte c (r.count + 1) ∷ rs else of_byte c 1 ∷ (r ∷ rs)))
ended-by true b c n r rs e = ended-at b n (of_byte c (r.count + 1)) rs e
ended-by false b c n r rs e = ended-at b n (of_byte c 1) (r ∷ rs) e

ended : (b c n : ℕ) (rs : List Run) → (b == c) ≡ false → joined (add_run b n (run_with c rs)) ≡ run_text (of_byte b n) ++ (codes "," ++ joined (run_with c rs))
ended b c n [] e = ended-at b n (of_byte c 1) [] e
ended b c n (r ∷ rs) e = ended-by (c == r.byte) b c n r rs e

with_one : (b : ℕ) (rs : List Run) → run_with b rs ≡ add_run b 1 rs
with_one b [] = refl
with_one b (r ∷ rs) = refl

module _ (b n i : ℕ) (rest : List ℕ) (l : i < length rest) where
  -- what is to be put stays the same when the next byte is that of the run
  pub same_byte : get_or rest i 0 ≡ b → joined (add_run b n (runs (drop i rest))) ≡ joined (add_run b (n + 1) (runs (drop (i + 1) rest)))
  same_byte e =
      let rs : List Run = runs (drop (i + 1) rest) in
      ap (λ qs. joined (add_run b n qs)) (ap runs (drop_more rest i 0 l) ∙ ap (λ x. run_with x rs) e) ∙ ap joined (again b n rs)

  -- and when it is another one, the run stands in front, and a comma
  pub other_byte : (get_or rest i 0 ≡ b → ⊥) → joined (add_run b n (runs (drop i rest))) ≡ (run_text (of_byte b n) ++ codes ",") ++ joined (add_run (get_or rest i 0) 1 (runs (drop (i + 1) rest)))
  other_byte ne =
      let c : ℕ = get_or rest i 0 in
      let rs : List Run = runs (drop (i + 1) rest) in
      ap (λ qs. joined (add_run b n qs)) (ap runs (drop_more rest i 0 l)) ∙ ended b c n rs (ne_eqb b c (λ q. ne (sym q)))
      ∙ ap (λ qs. run_text (of_byte b n) ++ (codes "," ++ joined qs)) (with_one c rs) ∙ sym (append_assoc (run_text (of_byte b n)) (codes ",") (joined (add_run c 1 rs)))

-- the two cases as a loop has them, after the first of which nothing more is on the page
module _ (a : Option (List ℕ)) (p text : List ℕ) (b : Option (List ℕ)) (q : List ℕ) (byte count i : ℕ) (rest : List ℕ) (l : i < length rest) (going : Going a p b q (joined (add_run byte count (runs (drop i rest)))) text) where
  pub next_same : (b2 : Option (List ℕ)) (q2 : List ℕ) (byte2 count2 : ℕ) → get_or rest i 0 ≡ byte → b2 ≡ b → q2 ≡ q → byte2 ≡ byte → count2 ≡ count + 1 →
      Going a p b2 q2 (joined (add_run byte2 count2 (runs (drop (i + 1) rest)))) text
  next_same b2 q2 byte2 count2 same e f g h =
      let now : joined (add_run byte count (runs (drop i rest))) ≡ joined (add_run byte2 count2 (runs (drop (i + 1) rest))) =
      same_byte byte count i rest l same ∙ ap (λ x. joined (add_run x (count + 1) (runs (drop (i + 1) rest)))) (sym g) ∙ ap (λ n. joined (add_run byte2 n (runs (drop (i + 1) rest)))) (sym h) in
      subst (λ o. Going a p o q2 (joined (add_run byte2 count2 (runs (drop (i + 1) rest)))) text) (sym e) (subst (λ zs. Going a p b zs (joined (add_run byte2 count2 (runs (drop (i + 1) rest)))) text) (sym f) (subst (λ zs. Going a p b q zs text) now going))

  module _ (other : get_or rest i 0 ≡ byte → ⊥) (c : Option (List ℕ)) (r : List ℕ) where
    -- a front of the run was put
    pub run_cut : {T E : Type 0} (result : Result T E) → IsErr result → Stands false b q c r (run_text (of_byte byte count)) → Wrote result a p c r text
    run_cut result failed s =
        broke_off a p b q (run_text (of_byte byte count)) text _ (codes "," ++ joined (add_run (get_or rest i 0) 1 (runs (drop (i + 1) rest)))) result c r failed going
        (other_byte byte count i rest l other ∙ append_assoc (run_text (of_byte byte count)) (codes ",") (joined (add_run (get_or rest i 0) 1 (runs (drop (i + 1) rest))))) s

    module _ (run : Stands true b q c r (run_text (of_byte byte count))) (d : Option (List ℕ)) (t : List ℕ) where
      -- or nothing of the comma behind it
      pub comma_cut : {T E : Type 0} (result : Result T E) → IsErr result → Stands false c r d t (codes ",") → Wrote result a p d t text
      comma_cut result failed s =
          broke_off a p b q (run_text (of_byte byte count) ++ codes ",") text _ (joined (add_run (get_or rest i 0) 1 (runs (drop (i + 1) rest)))) result d t failed going (other_byte byte count i rest l other)
          (behind b q false d t (run_text (of_byte byte count)) (codes ",") c r run s)

      pub next_other : (b2 : Option (List ℕ)) (q2 : List ℕ) (byte2 count2 : ℕ) → Stands true c r d t (codes ",") → b2 ≡ d → q2 ≡ t → byte2 ≡ get_or rest i 0 → count2 ≡ 1 →
          Going a p b2 q2 (joined (add_run byte2 count2 (runs (drop (i + 1) rest)))) text
      next_other b2 q2 byte2 count2 comma e f g h =
          let gone : Going a p d t (joined (add_run (get_or rest i 0) 1 (runs (drop (i + 1) rest)))) text =
          one_more a p b q _ text going d t (run_text (of_byte byte count) ++ codes ",") _ (other_byte byte count i rest l other) (behind b q true d t (run_text (of_byte byte count)) (codes ",") c r run comma) in
          let now : joined (add_run (get_or rest i 0) 1 (runs (drop (i + 1) rest))) ≡ joined (add_run byte2 count2 (runs (drop (i + 1) rest))) =
          ap (λ x. joined (add_run x 1 (runs (drop (i + 1) rest)))) (sym g) ∙ ap (λ n. joined (add_run byte2 n (runs (drop (i + 1) rest)))) (sym h) in
          subst (λ o. Going a p o q2 (joined (add_run byte2 count2 (runs (drop (i + 1) rest)))) text) (sym e) (subst (λ zs. Going a p d zs (joined (add_run byte2 count2 (runs (drop (i + 1) rest)))) text) (sym f) (subst (λ zs. Going a p d t zs text) now gone))

-- the last run
pub last_run : (a : Option (List ℕ)) (p text : List ℕ) (b : Option (List ℕ)) (q : List ℕ) (byte count i : ℕ) (rest : List ℕ) → length rest ≤ i → Going a p b q (joined (add_run byte count (runs (drop i rest)))) text →
    (whole : Bool) (c : Option (List ℕ)) (r : List ℕ) → Stands whole b q c r (run_text (of_byte byte count)) → Stands whole a p c r text
last_run a p text b q byte count i rest end going whole c r s =
    let one : joined (add_run byte count (runs (drop i rest))) ≡ run_text (of_byte byte count) = ap (λ bytes. joined (add_run byte count (runs bytes))) (none_left rest i end) ∙ append-nil (run_text (of_byte byte count)) in
    last_one a p b q (run_text (of_byte byte count)) text (subst (λ zs. Going a p b q zs text) one going) whole c r s
