-- A text is read line by line: what each line keeps, all lines keep, and a scene stays within its limits.
use Rattle.std.proofs.Common.{◌≡◌, ◌∙◌, ℕ, ◌+◌, Bool, true, false, List, [], ◌∷◌, length, Option, Some, None, Result, Ok, Err, cond, refl, ap, sym, subst, arith}
use Rattle.std.specs.Prelude.{◌==◌, codes}
use Rattle.std.specs.List.{slice_split, count_by, list_all}
use Rattle.std.specs.Str.{bytes_eq}
use Rattle.std.specs.Str.Lines.{lines, lines_of_parts, strip_carriage_return}
use Rattle.std.proofs.lemmas.Bool.{ltb-false}
use Rattle.std.proofs.lemmas.List.Splits.{length-slice_split}
use Rattle.scene_text.specs.declared.faults.LineKind.{LineKind}
use Rattle.scene_text.specs.declared.faults.LineKind.TheVariants as kinds
use Rattle.scene_text.specs.declared.faults.LineFault.{LineFault}
use Rattle.scene_text.specs.declared.faults.LineFault.TheVariants.{Bad}
use Rattle.scene_text.specs.declared.faults.SceneFault.{SceneFault}
use Rattle.scene_text.specs.declared.faults.SceneFault.TheVariants.{NoMemory, BadLine, TooMany}
use Rattle.scene_text.specs.Words.{◌>>=◌, words_of}
use Rattle.scene_text.specs.Scenes.{PlainScene, limit_passed, unless_passed, within_limits, IsWithinLimits}
use Rattle.scene_text.specs.Settings.{PlainDraft, with_scene, set_said}
use Rattle.scene_text.specs.Commands.{command_of, row_of}
use Rattle.scene_text.specs.Grammar.{is_printable, is_passed_over, limited, line_done, words_said, after_line, at_line, after_lines, IsFault}
use Rattle.scene_text.proofs.Ranges.{Changes, bind_ok, with_scene_ok, set_changes}

none_chosen : (x y z : Bool) (a b c : ℕ) → cond x (Some a) (cond y (Some b) (cond z (Some c) None)) ≡ None → (x ≡ false) × (y ≡ false) × (z ≡ false)
none_chosen true y z a b c e = cc
none_chosen false true z a b c e = cc
none_chosen false false true a b c e = cc
none_chosen false false false a b c e = (refl, refl, refl)

none_passed : (scene : PlainScene) → limit_passed (length scene.names) (length scene.lines) (length scene.payload) ≡ None → IsWithinLimits scene
none_passed scene e =
    let each = none_chosen _ _ _ _ _ _ e in
    record { names = ltb-false _ _ each.0; lines = ltb-false _ _ each.1; payload = ltb-false _ _ each.2 }

pub not_passed : (passed : Option ℕ) (scene after : PlainScene) → unless_passed passed scene ≡ Ok after → (passed ≡ None) × (scene ≡ after)
not_passed None scene after e = (refl, cc)
not_passed (Some limit) scene after e = cc

within_limits_is : (scene after : PlainScene) → within_limits scene ≡ Ok after → IsWithinLimits after
within_limits_is scene after e =
    let kept = not_passed _ scene after e in
    subst IsWithinLimits kept.1 (none_passed scene kept.0)

limited_within : (said : Result PlainScene LineKind) (after : PlainScene) → limited said ≡ Ok after → IsWithinLimits after
limited_within (Ok more) after e = within_limits_is more after e
limited_within (Err kind) after e = cc

pub at_line_ok : (n : ℕ) (read : Result PlainDraft LineFault) (after : PlainDraft) → at_line n read ≡ Ok after → read ≡ Ok after
at_line_ok n (Ok draft) after e = cc
at_line_ok n (Err fault) after e = cc

-- what each line of a scene keeps, all lines keep
module _ (P : PlainScene → Type 0) (done : (word : List ℕ) (arguments : List (List ℕ)) (scene after : PlainScene) → line_done word arguments scene ≡ Ok after → P scene → P after) (sets : (scene after : PlainScene) → Changes scene after → P scene → P after) where
  which_keeps : (b : Bool) (word : List ℕ) (arguments : List (List ℕ)) (draft after : PlainDraft) → cond b (set_said arguments draft) (with_scene draft (line_done word arguments draft.scene)) ≡ Ok after → P draft.scene → P after.scene
  which_keeps true word arguments draft after e h = sets draft.scene after.scene (set_changes arguments draft after e) h
  which_keeps false word arguments draft after e h = done word arguments draft.scene after.scene (with_scene_ok draft _ after e) h

  words_keep : (words : List (List ℕ)) (draft after : PlainDraft) → words_said words draft ≡ Ok after → P draft.scene → P after.scene
  words_keep [] draft after e h = cc
  words_keep (word ∷ arguments) draft after e h = which_keeps (bytes_eq word (codes "set")) word arguments draft after e h

  said_keeps : (over printable : Bool) (words : List (List ℕ)) (draft after : PlainDraft) → cond over (Ok draft) (cond printable (words_said words draft) (Err (Bad kinds.Char))) ≡ Ok after → P draft.scene → P after.scene
  said_keeps true printable words draft after e h = let same : draft ≡ after = cc in subst (λ (d : PlainDraft). P d.scene) same h
  said_keeps false true words draft after e h = words_keep words draft after e h
  said_keeps false false words draft after e h = cc

  pub line_keeps : (n : ℕ) (line : List ℕ) (draft after : PlainDraft) → at_line n (after_line line draft) ≡ Ok after → P draft.scene → P after.scene
  line_keeps n line draft after e h = said_keeps (is_passed_over line) (list_all is_printable line) (words_of line) draft after (at_line_ok n _ after e) h

  pub lines_keep : (n : ℕ) (lines : List (List ℕ)) (draft after : PlainDraft) → after_lines n lines draft ≡ Ok after → P draft.scene → P after.scene
  lines_keep n [] draft after e h = let same : draft ≡ after = cc in subst (λ (d : PlainDraft). P d.scene) same h
  lines_keep n (line ∷ lines) draft after e h =
      let first = bind_ok (at_line n (after_line line draft)) (λ d. after_lines (n + 1) lines d) after e in
      lines_keep (n + 1) lines first.0 after first.2 (line_keeps n line draft first.0 first.1 h)

done_within : (word : List ℕ) (arguments : List (List ℕ)) (scene after : PlainScene) → line_done word arguments scene ≡ Ok after → IsWithinLimits scene → IsWithinLimits after
done_within word arguments scene after e h = limited_within (command_of word >>= λ command. row_of command arguments scene) after e

set_within : (scene after : PlainScene) → Changes scene after → IsWithinLimits scene → IsWithinLimits after
set_within scene after changes h = subst IsWithinLimits changes.same (record { names = h.names; lines = h.lines; payload = h.payload })

-- a line leaves a scene within its limits, and so do lines
pub line_within : (n : ℕ) (line : List ℕ) (draft after : PlainDraft) → at_line n (after_line line draft) ≡ Ok after → IsWithinLimits draft.scene → IsWithinLimits after.scene
line_within = line_keeps IsWithinLimits done_within set_within

pub lines_within : (n : ℕ) (lines : List (List ℕ)) (draft after : PlainDraft) → after_lines n lines draft ≡ Ok after → IsWithinLimits draft.scene → IsWithinLimits after.scene
lines_within = lines_keep IsWithinLimits done_within set_within

pub first_of_parts : (line : List ℕ) (parts : List (List ℕ)) (n : ℕ) → length parts ≡ n + 1 → lines_of_parts (line ∷ parts) ≡ strip_carriage_return line ∷ lines_of_parts parts
first_of_parts line [] n e = absurd (omega arith)
first_of_parts line (part ∷ parts) n e = refl

module _ (text line after : List ℕ) (cut : slice_split (λ b. b == 10) text ≡ line ∷ slice_split (λ b. b == 10) after) where
  -- the first line stands before the first line feed
  first_line : lines text ≡ strip_carriage_return line ∷ lines after
  first_line = ap lines_of_parts cut ∙ first_of_parts line (slice_split (λ b. b == 10) after) (count_by (λ b. b == 10) after) (length-slice_split (λ b. b == 10) after)

  module _ (read : List ℕ) (stripped : read ≡ strip_carriage_return line) (n : ℕ) (draft : PlainDraft) (wanted : Result PlainDraft SceneFault) (same : after_lines n (lines text) draft ≡ wanted) where
    begun : (at_line n (after_line read draft) >>= λ d. after_lines (n + 1) (lines after) d) ≡ wanted
    begun = ap (λ l. at_line n (after_line l draft) >>= λ d. after_lines (n + 1) (lines after) d) stripped ∙ ap (λ ls. after_lines n ls draft) (sym first_line) ∙ same

    pub next_line : (then : PlainDraft) → at_line n (after_line read draft) ≡ Ok then → after_lines (n + 1) (lines after) then ≡ wanted
    next_line then e = sym (ap (λ r. r >>= λ d. after_lines (n + 1) (lines after) d) e) ∙ begun

    refused : (fault : SceneFault) → at_line n (after_line read draft) ≡ Err fault → wanted ≡ Err fault
    refused fault e = sym begun ∙ ap (λ r. r >>= λ d. after_lines (n + 1) (lines after) d) e

    pub bad_line : (fault : SceneFault) → IsFault fault (at_line n (after_line read draft)) → IsFault fault wanted
    bad_line NoMemory e = tt
    bad_line (BadLine l kind) e = refused (BadLine l kind) e
    bad_line (TooMany l limit) e = refused (TooMany l limit) e
