-- A text is shown line by line.
use Rattle.std.proofs.Common.{◌≡◌, ◌∙◌, ℕ, ◌+◌, ◌-◌, ◌≤◌, List, [], ◌∷◌, ◌++◌, length, take, drop, get_or, Result, Ok, Err, refl, ap, sym, arith, append_assoc}
use Rattle.std.specs.Prelude.{◌==◌}
use Rattle.std.specs.List.{slice_split, count_by}
use Rattle.std.specs.Str.Lines.{lines, lines_of_parts, strip_carriage_return}
use Rattle.std.proofs.lemmas.List.{take_all}
use Rattle.std.proofs.lemmas.List.Splits.{length-slice_split}
use Rattle.scene_text.specs.declared.faults.LineKind.{LineKind}
use Rattle.scene_text.specs.declared.faults.SceneFault.{SceneFault}
use Rattle.scene_text.specs.declared.faults.SceneFault.TheVariants.{NoMemory, BadLine, TooMany}
use Rattle.scene_text.specs.Words.{◌>>=◌, byte_of}
use Rattle.scene_text.specs.Grammar.{IsFault}
use Rattle.smcr_calls.specs.ShowLines.{bytes_of, after_line, at_line, after_lines}

-- bytes that were read, before those that are left
abbrev pub with_front : List ℕ → Result (List ℕ) LineKind → Result (List ℕ) LineKind
with_front front read = read >>= λ bytes. Ok (front ++ bytes)

one_more : (front : List ℕ) (byte : ℕ) (read : Result (List ℕ) LineKind) → with_front (front ++ (byte ∷ [])) read ≡ with_front front (read >>= λ bytes. Ok (byte ∷ bytes))
one_more front byte (Ok bytes) = ap Ok (append_assoc front (byte ∷ []) bytes)
one_more front byte (Err kind) = refl

whole_rest : (rest : List ℕ) (n : ℕ) → n ≡ length rest → take n rest ≡ rest
whole_rest rest n e = take_all n rest (omega (arith, e))

-- a byte that was read goes from the rest to the front
pub next_byte : (front new rest : List ℕ) (byte : ℕ) (wanted : Result (List ℕ) LineKind) → 2 ≤ length rest → Ok byte ≡ byte_of (get_or rest 0 0) (get_or rest 1 0) → new ≡ front ++ (byte ∷ []) →
    with_front front (bytes_of rest) ≡ wanted → with_front new (bytes_of (take (length rest - 2) (drop 2 rest))) ≡ wanted
next_byte front new [] byte wanted len read pushed so_far = absurd (omega (arith, len))
next_byte front new (high ∷ []) byte wanted len read pushed so_far = absurd (omega (arith, len))
next_byte front new (high ∷ low ∷ rest) byte wanted len read pushed so_far =
    let n : length (high ∷ low ∷ rest) - 2 ≡ length rest = omega arith in
    ap (λ xs. with_front new (bytes_of xs)) (whole_rest rest (length (high ∷ low ∷ rest) - 2) n) ∙ ap (λ xs. with_front xs (bytes_of rest)) pushed
    ∙ one_more front byte (bytes_of rest) ∙ ap (λ r. with_front front (r >>= λ b. bytes_of rest >>= λ bytes. Ok (b ∷ bytes))) read ∙ so_far

first_of_parts : (line : List ℕ) (parts : List (List ℕ)) (n : ℕ) → length parts ≡ n + 1 → lines_of_parts (line ∷ parts) ≡ strip_carriage_return line ∷ lines_of_parts parts
first_of_parts line [] n e = absurd (omega arith)
first_of_parts line (part ∷ parts) n e = refl

module _ (text line after : List ℕ) (cut : slice_split (λ b. b == 10) text ≡ line ∷ slice_split (λ b. b == 10) after) where
  -- the first line stands before the first line feed
  first_line : lines text ≡ strip_carriage_return line ∷ lines after
  first_line = ap lines_of_parts cut ∙ first_of_parts line (slice_split (λ b. b == 10) after) (count_by (λ b. b == 10) after) (length-slice_split (λ b. b == 10) after)

  module _ (read : List ℕ) (stripped : read ≡ strip_carriage_return line) (n : ℕ) (shown : List ℕ) (wanted : Result (List ℕ) SceneFault) (same : after_lines n (lines text) shown ≡ wanted) where
    begun : (at_line n (after_line read shown) >>= λ s. after_lines (n + 1) (lines after) s) ≡ wanted
    begun = ap (λ l. at_line n (after_line l shown) >>= λ s. after_lines (n + 1) (lines after) s) stripped ∙ ap (λ ls. after_lines n ls shown) (sym first_line) ∙ same

    -- what the other lines add to a line that was shown
    pub next_line : (then : List ℕ) → at_line n (after_line read shown) ≡ Ok then → after_lines (n + 1) (lines after) then ≡ wanted
    next_line then e = sym (ap (λ r. r >>= λ s. after_lines (n + 1) (lines after) s) e) ∙ begun

    refused : (fault : SceneFault) → at_line n (after_line read shown) ≡ Err fault → wanted ≡ Err fault
    refused fault e = sym begun ∙ ap (λ r. r >>= λ s. after_lines (n + 1) (lines after) s) e

    -- a line that is refused is the first
    pub bad_line : (fault : SceneFault) → IsFault fault (at_line n (after_line read shown)) → IsFault fault wanted
    bad_line NoMemory e = tt
    bad_line (BadLine l kind) e = refused (BadLine l kind) e
    bad_line (TooMany l limit) e = refused (TooMany l limit) e
