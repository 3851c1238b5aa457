-- Bytes that are printed in runs are read as the same bytes.
use Rattle.std.proofs.Common.{◌≡◌, ◌∙◌, ℕ, ◌+◌, ◌*◌, ◌/◌, ◌%◌, ◌<◌, ◌≤◌, Bool, true, false, List, [], ◌∷◌, ◌++◌, length, map, Ok, cond, refl, ap, sym, add-one, arith}
use Rattle.std.specs.Prelude.{◌==◌, codes, replicate}
use Rattle.std.specs.List.{list_all, join_by, flat_map}
use Rattle.std.specs.Str.{bytes_eq}
use Rattle.std.specs.Char.{digit_value}
use Rattle.std.specs.Fmt.{decimal}
use Rattle.std.proofs.lemmas.Bool.{lt-ltb, eqb-true, ne_eqb}
use Rattle.std.proofs.lemmas.Bool.Decides.{nat_tests}
use Rattle.std.proofs.lemmas.List.{append-nil}
use Rattle.scene_text.specs.declared.words.Run.{Run}
use Rattle.scene_text.specs.Words.{◌>>=◌, star, comma, parts, byte_of, at_least_once, times_of, run_of, runs_from, runs_of, bytes_in}
use Rattle.scene_text.specs.Spelling.{Run as Printed, run_with, runs, hex_digit, hex_byte, run_text, bytes_text}
use Rattle.scene_text.proofs.ReadBack.Splits.{Each, differs, all-append, all-weaker, whole_part, first_part, is_plain, is_word_byte, plain_differs, plain_in_words, IsWord}
use Rattle.scene_text.proofs.ReadBack.Digits.{too_large, number_read, number_plain}

hex_is : (n : ℕ) → n < 16 → digit_value (hex_digit n) ≡ n
hex_is n h = grind (arith, nat_tests)

hex_plain : (n : ℕ) → n < 16 → is_plain (hex_digit n) ≡ true
hex_plain n h = grind (arith, nat_tests)

-- a byte in hexadecimal digits is read as the byte
byte_read : (b : ℕ) → b < 256 → byte_of (hex_digit (b / 16)) (hex_digit (b % 16)) ≡ Ok b
byte_read b h =
    let high : b / 16 < 16 = omega arith in
    let low : b % 16 < 16 = omega arith in
    let whole : b / 16 * 16 + b % 16 ≡ b = omega arith in
    rw (hex_is (b / 16) high, hex_is (b % 16) low, lt-ltb (b / 16) 16 high, lt-ltb (b % 16) 16 low) (ap Ok whole)

times_read : (n : ℕ) → 1 ≤ n → n < too_large → times_of (decimal n) ≡ Ok n
times_read n some few = ap at_least_once (number_read n few) ∙ rw (ne_eqb n 0 (λ z. omega arith)) refl

-- a printed run, as it is read
abbrev pub as_run : Printed → Run
as_run r = record { byte = r.byte; count = r.count }

-- a run of a byte, so many times at most
pub record IsRun (most : ℕ) (r : Printed) : Type 0 where
  pub byte : r.byte < 256
  pub some : 1 ≤ r.count
  pub few : r.count ≤ most

one_read : (b : ℕ) → b < 256 → run_of (hex_byte b) ≡ Ok (record { byte = b; count = 1 })
one_read b h = ap (λ r. r >>= λ byte. Ok (record { byte = byte; count = 1 })) (byte_read b h)

more_read : (b n : ℕ) → b < 256 → 1 ≤ n → n < too_large → run_of (hex_byte b ++ (codes "*" ++ decimal n)) ≡ Ok (record { byte = b; count = n })
more_read b n h some few =
    ap (λ r. r >>= λ byte. times_of (decimal n) >>= λ count. Ok (record { byte = byte; count = count })) (byte_read b h)
    ∙ ap (λ r. r >>= λ count. Ok (record { byte = b; count = count })) (times_read n some few)

module _ (most : ℕ) (low : most < too_large) where
  run_read : (r : Printed) → IsRun most r → run_of (run_text r) ≡ Ok (as_run r)
  run_read r h =
      let few = h.few in
      let by : (t : Bool) → (r.count == 1) ≡ t → run_of (cond t (hex_byte r.byte) (hex_byte r.byte ++ (codes "*" ++ decimal r.count))) ≡ Ok (as_run r) = λ t. elim t as (λ t. (r.count == 1) ≡ t → run_of (cond t (hex_byte r.byte) (hex_byte r.byte ++ (codes "*" ++ decimal r.count))) ≡ Ok (as_run r)) [
        | true ↦ λ e. one_read r.byte h.byte ∙ ap (λ n. Ok (record { byte = r.byte; count = n })) (sym (eqb-true r.count 1 e))
        | false ↦ λ e. more_read r.byte r.count h.byte h.some (omega arith)
      ] in
      by (r.count == 1) refl

  -- what passes letters, digits and a star passes a run
  module _ (p : ℕ → Bool) (plain : (b : ℕ) → is_plain b ≡ true → p b ≡ true) (of_star : p star ≡ true) where
    hex_passes : (b : ℕ) → b < 256 → list_all p (hex_byte b) ≡ true
    hex_passes b h = rw (plain (hex_digit (b / 16)) (hex_plain (b / 16) (omega arith)), plain (hex_digit (b % 16)) (hex_plain (b % 16) (omega arith))) refl

    star_passes : (n : ℕ) → n < too_large → list_all p (codes "*" ++ decimal n) ≡ true
    star_passes n h = rw (of_star, all-weaker is_plain p plain (decimal n) (number_plain n h)) refl

    run_passes : (r : Printed) → IsRun most r → list_all p (run_text r) ≡ true
    run_passes r h =
        let few = h.few in
        elim (r.count == 1) as (λ t. list_all p (cond t (hex_byte r.byte) (hex_byte r.byte ++ (codes "*" ++ decimal r.count))) ≡ true) [
          | true ↦ hex_passes r.byte h.byte
          | false ↦ all-append p (hex_byte r.byte) (codes "*" ++ decimal r.count) (hex_passes r.byte h.byte) (star_passes r.count (omega arith))
        ]

    module _ (of_comma : p comma ≡ true) where
      tail_passes : (rs : List Printed) → Each (IsRun most) rs → list_all p (flat_map (λ r. codes "," ++ run_text r) rs) ≡ true
      tail_passes [] h = refl
      tail_passes (r ∷ rs) h = rw of_comma (all-append p (run_text r) (flat_map (λ r. codes "," ++ run_text r) rs) (run_passes r h.0) (tail_passes rs h.1))

      runs_pass : (rs : List Printed) → Each (IsRun most) rs → list_all p (join_by run_text (codes ",") rs) ≡ true
      runs_pass [] h = refl
      runs_pass (r ∷ rs) h = all-append p (run_text r) (flat_map (λ r. codes "," ++ run_text r) rs) (run_passes r h.0) (tail_passes rs h.1)

  no_comma : (r : Printed) → IsRun most r → list_all (differs comma) (run_text r) ≡ true
  no_comma = run_passes (differs comma) (plain_differs comma (omega arith)) refl

  -- the parts between the commas are the runs
  items : (r : Printed) (rs : List Printed) → Each (IsRun most) (r ∷ rs) → parts comma (join_by run_text (codes ",") (r ∷ rs)) ≡ map run_text (r ∷ rs)
  items r [] h = ap (parts comma) (append-nil (run_text r)) ∙ whole_part comma (run_text r) (no_comma r h.0)
  items r (s ∷ rs) h = first_part comma (run_text r) (join_by run_text (codes ",") (s ∷ rs)) (no_comma r h.0) ∙ ap (λ more. run_text r ∷ more) (items s rs h.1)

  items_read : (rs : List Printed) → Each (IsRun most) rs → runs_from (map run_text rs) ≡ Ok (map as_run rs)
  items_read [] h = refl
  items_read (r ∷ rs) h =
      ap (λ run. run >>= λ run. runs_from (map run_text rs) >>= λ runs. Ok (run ∷ runs)) (run_read r h.0)
      ∙ ap (λ read. read >>= λ runs. Ok (as_run r ∷ runs)) (items_read rs h.1)

  begins : (r : Printed) → (rest : List ℕ) × (run_text r ≡ hex_digit (r.byte / 16) ∷ rest)
  begins r = elim (r.count == 1) as (λ t. (rest : List ℕ) × (cond t (hex_byte r.byte) (hex_byte r.byte ++ (codes "*" ++ decimal r.count)) ≡ hex_digit (r.byte / 16) ∷ rest)) [
    | true ↦ (_, refl)
    | false ↦ (_, refl)
  ]

  no_hyphen : (b : ℕ) (bs : List ℕ) → is_plain b ≡ true → bytes_eq (b ∷ bs) (codes "-") ≡ false
  no_hyphen b bs h =
      let e : (b == 45) ≡ false = grind (arith, nat_tests) in
      rw e refl

  runs_read : (rs : List Printed) → 0 < length rs → Each (IsRun most) rs → runs_of (join_by run_text (codes ",") rs) ≡ Ok (map as_run rs)
  runs_read [] some h = absurd (omega arith)
  runs_read (r ∷ rs) some h =
      let front = begins r in
      let byte = h.0.byte in
      let e : bytes_eq (run_text r ++ flat_map (λ r. codes "," ++ run_text r) rs) (codes "-") ≡ false =
      ap (λ t. bytes_eq (t ++ flat_map (λ r. codes "," ++ run_text r) rs) (codes "-")) front.1
      ∙ no_hyphen (hex_digit (r.byte / 16)) (front.0 ++ flat_map (λ r. codes "," ++ run_text r) rs) (hex_plain (r.byte / 16) (omega arith)) in
      ap (λ t. cond t (Ok []) (runs_from (parts comma (join_by run_text (codes ",") (r ∷ rs))))) e
      ∙ ap runs_from (items r rs h) ∙ items_read (r ∷ rs) h

each_weaker : (n m : ℕ) → n ≤ m → (rs : List Printed) → Each (IsRun n) rs → Each (IsRun m) rs
each_weaker n m more [] h = tt
each_weaker n m more (r ∷ rs) h = let first = h.0 in (record { byte = first.byte; some = first.some; few = omega arith }, each_weaker n m more rs h.1)

one_more : (n m b : ℕ) → n < m → b < 256 → (rs : List Printed) → Each (IsRun n) rs → Each (IsRun m) (run_with b rs)
one_more n m b more h [] k = (record { byte = h; some = omega arith; few = omega arith }, tt)
one_more n m b more h (r ∷ rs) k =
    let first = k.0 in
    elim (b == r.byte) as (λ t. Each (IsRun m) (cond t ((record { byte = b; count = r.count + 1 }) ∷ rs) ((record { byte = b; count = 1 }) ∷ (r ∷ rs)))) [
      | true ↦ (record { byte = h; some = omega arith; few = omega arith }, each_weaker n m (omega arith) rs k.1)
      | false ↦ (record { byte = h; some = omega arith; few = omega arith }, each_weaker n m (omega arith) (r ∷ rs) k)
    ]

runs_are : (bs : List ℕ) → Each (λ b. b < 256) bs → Each (IsRun (length bs)) (runs bs)
runs_are [] h = tt
runs_are (b ∷ bs) h = one_more (length bs) (length (b ∷ bs)) b (omega arith) h.0 (runs bs) (runs_are bs h.1)

some_run : (b : ℕ) (rs : List Printed) → 0 < length (run_with b rs)
some_run b [] = omega arith
some_run b (r ∷ rs) = elim (b == r.byte) as (λ t. 0 < length (cond t ((record { byte = b; count = r.count + 1 }) ∷ rs) ((record { byte = b; count = 1 }) ∷ (r ∷ rs)))) [ true ↦ omega arith | false ↦ omega arith ]

-- the bytes that runs are
abbrev spread : List Printed → List ℕ
spread rs = bytes_in (map as_run rs)

longer : (b n : ℕ) (rest : List ℕ) → replicate (n + 1) b ++ rest ≡ b ∷ (replicate n b ++ rest)
longer b n rest = rw add-one refl

spread_with : (b : ℕ) (rs : List Printed) → spread (run_with b rs) ≡ b ∷ spread rs
spread_with b [] = refl
spread_with b (r ∷ rs) =
    let by : (t : Bool) → (b == r.byte) ≡ t → spread (cond t ((record { byte = b; count = r.count + 1 }) ∷ rs) ((record { byte = b; count = 1 }) ∷ (r ∷ rs))) ≡ b ∷ spread (r ∷ rs) = λ t. elim t as (λ t. (b == r.byte) ≡ t → spread (cond t ((record { byte = b; count = r.count + 1 }) ∷ rs) ((record { byte = b; count = 1 }) ∷ (r ∷ rs))) ≡ b ∷ spread (r ∷ rs)) [
      | true ↦ λ e. longer b r.count (spread rs) ∙ ap (λ c. b ∷ (replicate r.count c ++ spread rs)) (eqb-true b r.byte e)
      | false ↦ λ e. refl
    ] in
    by (b == r.byte) refl

spread_runs : (bs : List ℕ) → spread (runs bs) ≡ bs
spread_runs [] = refl
spread_runs (b ∷ bs) = spread_with b (runs bs) ∙ ap (λ rest. b ∷ rest) (spread_runs bs)

-- the runs that printed bytes are read as
abbrev pub runs_back : List ℕ → List Run
runs_back bs = map as_run (runs bs)

pub bytes_back : (bs : List ℕ) → bytes_in (runs_back bs) ≡ bs
bytes_back bs = spread_runs bs

pub bytes_read : (bs : List ℕ) → length bs < too_large → Each (λ b. b < 256) bs → runs_of (bytes_text bs) ≡ Ok (runs_back bs)
bytes_read [] few h = refl
bytes_read (b ∷ bs) few h = runs_read (length (b ∷ bs)) few (runs (b ∷ bs)) (some_run b (runs bs)) (runs_are (b ∷ bs) h)

some_text : (most : ℕ) (rs : List Printed) → 0 < length rs → 0 < length (join_by run_text (codes ",") rs)
some_text most [] h = absurd (omega arith)
some_text most (r ∷ rs) h =
    elim (r.count == 1) as (λ t. 0 < length (cond t (hex_byte r.byte) (hex_byte r.byte ++ (codes "*" ++ decimal r.count)) ++ flat_map (λ r. codes "," ++ run_text r) rs)) [
      | true ↦ omega arith
      | false ↦ omega arith
    ]

pub bytes_word : (bs : List ℕ) → length bs < too_large → Each (λ b. b < 256) bs → IsWord (bytes_text bs)
bytes_word [] few h = record { some = omega arith; whole = refl }
bytes_word (b ∷ bs) few h = record {
  some = some_text 0 (runs (b ∷ bs)) (some_run b (runs bs));
  whole = runs_pass (length (b ∷ bs)) few is_word_byte plain_in_words refl refl (runs (b ∷ bs)) (runs_are (b ∷ bs) h);
}
