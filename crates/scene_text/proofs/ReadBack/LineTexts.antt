-- Lines that are printed are the lines of their text, and a line that says something is read by its words.
use Rattle.std.proofs.Common.{◌≡◌, ◌∙◌, ℕ, ◌+◌, ◌-◌, true, false, List, [], ◌∷◌, ◌++◌, length, take, Ok, Err, cond, refl, ap, zero, suc, append_assoc, arith}
use Rattle.std.specs.Prelude.{◌==◌, slice_index_or, codes}
use Rattle.std.specs.List.{slice_split, list_all, flat_map, count_by}
use Rattle.std.specs.Str.Lines.{lines, lines_of_parts, strip_carriage_return}
use Rattle.std.proofs.lemmas.Bool.{and_parts, not-true, cond-false}
use Rattle.std.proofs.lemmas.Bool.Decides.{nat_tests}
use Rattle.std.proofs.lemmas.List.Splits.{length-slice_split}
use Rattle.scene_text.specs.declared.faults.LineKind.TheVariants as kinds
use Rattle.scene_text.specs.declared.faults.LineFault.TheVariants.{Bad}
use Rattle.scene_text.specs.Words.{◌>>=◌, words_of}
use Rattle.scene_text.specs.Settings.{PlainDraft}
use Rattle.scene_text.specs.Grammar.{is_printable, is_passed_over, line_said, words_said, after_line, at_line, after_lines}
use Rattle.scene_text.specs.Printing.{ended_line}
use Rattle.scene_text.proofs.Reading.{first_of_parts}
use Rattle.scene_text.proofs.ReadBack.Splits.{Each, differs, all-append, all-weaker, first_part}

-- a line whose bytes are printable
abbrev pub IsPrintable : List ℕ → Type 0
IsPrintable line = list_all is_printable line ≡ true

no_line_feed : (b : ℕ) → is_printable b ≡ true → differs 10 b ≡ true
no_line_feed b h = grind (arith, nat_tests)

no_return : (b : ℕ) → is_printable b ≡ true → differs 13 b ≡ true
no_return b h = grind (arith, nat_tests)

-- no byte of such a line is a carriage return
at_each : (line : List ℕ) (i : ℕ) → list_all (differs 13) line ≡ true → differs 13 (slice_index_or line i 0) ≡ true
at_each [] i h = refl
at_each (b ∷ bs) zero h = (and_parts (differs 13 b) (list_all (differs 13) bs) h).0
at_each (b ∷ bs) (suc i) h = at_each bs i (and_parts (differs 13 b) (list_all (differs 13) bs) h).1

kept_whole : (line : List ℕ) → IsPrintable line → strip_carriage_return line ≡ line
kept_whole line h = cond-false _ (take (length line - 1) line) line (not-true _ (at_each line (length line - 1) (all-weaker is_printable (differs 13) no_return line h)))

-- the lines of the text of printable lines are these lines
pub lines_back : (ls : List (List ℕ)) → Each IsPrintable ls → lines (flat_map ended_line ls) ≡ ls
lines_back [] h = refl
lines_back (line ∷ ls) h =
    let rest = flat_map ended_line ls in
    ap lines (append_assoc line (10 ∷ []) rest)
    ∙ ap lines_of_parts (first_part 10 line rest (all-weaker is_printable (differs 10) no_line_feed line h.0))
    ∙ first_of_parts line (slice_split (λ b. b == 10) rest) (count_by (λ b. b == 10) rest) (length-slice_split (λ b. b == 10) rest)
    ∙ ap (λ l. l ∷ lines rest) (kept_whole line h.0)
    ∙ ap (λ more. line ∷ more) (lines_back ls h.1)

pub each-append : {X : Type 0} (P : X → Type 0) (xs ys : List X) → Each P xs → Each P ys → Each P (xs ++ ys)
each-append P [] ys h k = k
each-append P (x ∷ xs) ys h k = (h.0, each-append P xs ys h.1 k)

-- a word, a space and what follows are printable where both are
pub joined : (word rest : List ℕ) → IsPrintable word → IsPrintable rest → IsPrintable (word ++ (codes " " ++ rest))
joined word rest h k = all-append is_printable word (codes " " ++ rest) h k

-- a line that says something is read by its words
pub read_by_words : (line : List ℕ) (words : List (List ℕ)) (draft : PlainDraft) → is_passed_over line ≡ false → IsPrintable line → words_of line ≡ words → after_line line draft ≡ words_said words draft
read_by_words line words draft over printable e =
    ap (λ t. cond t (Ok draft) (line_said line draft)) over
    ∙ ap (λ t. cond t (words_said (words_of line) draft) (Err (Bad kinds.Char))) printable
    ∙ ap (λ ws. words_said ws draft) e

-- once a line is read, the next ones follow
pub then_lines : (n : ℕ) (line : List ℕ) (more : List (List ℕ)) (draft after : PlainDraft) → after_line line draft ≡ Ok after → after_lines n (line ∷ more) draft ≡ after_lines (n + 1) more after
then_lines n line more draft after e = ap (λ r. at_line n r >>= λ d. after_lines (n + 1) more d) e
