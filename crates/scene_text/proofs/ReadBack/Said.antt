-- The lines of a scene that was read are the ones that its sayings give.
use Rattle.std.proofs.Common.{◌≡◌, ◌∙◌, ℕ, ◌+◌, ◌*◌, ◌<◌, ◌≤◌, Bool, true, false, List, [], ◌∷◌, ◌++◌, Some, Result, Ok, Err, cond, refl, ap, subst, zero, suc, arith}
use Rattle.std.specs.Prelude.{nat_lt, ◌==◌, replicate, codes}
use Rattle.std.specs.Str.{bytes_eq}
use Rattle.std.specs.Char.{digit_value}
use Rattle.std.proofs.lemmas.Bool.{and_parts, ltb-true}
use Rattle.smc_num.specs.declared.Side.{Side}
use Rattle.smc_num.specs.declared.Side.TheVariants.{A, B}
use Rattle.pipe_model.specs.Words.{rmbs_of, elements_of}
use Rattle.pipe_model.specs.Settings.{default_room}
use Rattle.scene_text.specs.declared.faults.LineKind.{LineKind}
use Rattle.scene_text.specs.declared.faults.LineKind.TheVariants as kinds
use Rattle.scene_text.specs.declared.commands.Command.{Command}
use Rattle.scene_text.specs.declared.shapes.Shape.{Shape}
use Rattle.scene_text.specs.declared.shapes.Shape.TheVariants.{Name, Count, EndBytes, EndNumber, NameSide, SlotSide}
use Rattle.scene_text.specs.declared.limits.TheConstants.{MOST_PUMP_STEPS, MOST_READ_BYTES, MOST_RMBS, MOST_ELEMENTS}
use Rattle.scene_text.specs.declared.words.Run.{Run}
use Rattle.scene_text.specs.Words.{◌>>=◌, NamedEnd, number_in, is_name, name_of, side_in, side_of, end_with, end_of, byte_of, times_of, run_with, run_of, runs_from, runs_of, run_bytes, bytes_in, parts, comma, star, point}
use Rattle.scene_text.specs.Scenes.{PlainScene, built_setup, empty_scene, IsSubnet, subnet_at, IsInRange}
use Rattle.scene_text.specs.Shapes.{Values, no_values, read_values}
use Rattle.scene_text.specs.Commands.{command_of, shape_of, says, row_of}
use Rattle.scene_text.specs.Settings.{PlainDraft, empty_draft}
use Rattle.scene_text.specs.Grammar.{limited, line_done, after_lines}
use Rattle.scene_text.proofs.Ranges.{Changes, IsFormed, bind_ok, chosen, number_in_range}
use Rattle.scene_text.proofs.Reading.{not_passed, lines_keep}
use Rattle.scene_text.proofs.ReadBack.Splits.{Each}
use Rattle.scene_text.proofs.ReadBack.LineTexts.{each-append}
use Rattle.scene_text.proofs.ReadBack.Sayings.{Saying, Body, empty_body, body, with_body, said, says_all, IsShaped, IsSayable}

-- a byte of two digits
byte_low : (high low b : ℕ) → byte_of high low ≡ Ok b → b < 256
byte_low high low b e =
    let both = chosen _ _ _ _ e in
    let digits = and_parts (nat_lt (digit_value high) 16) (nat_lt (digit_value low) 16) both.0 in
    let h : digit_value high < 16 = ltb-true (digit_value high) 16 digits.0 in
    let l : digit_value low < 16 = ltb-true (digit_value low) 16 digits.1 in
    let whole : digit_value high * 16 + digit_value low ≡ b = both.1 in
    below (digit_value high) (digit_value low) b h l whole
  where
    below : (m n b : ℕ) → m < 16 → n < 16 → m * 16 + n ≡ b → b < 256
    below m n b h l e = omega arith

more_low : (high low : ℕ) (times : List ℕ) (run : Run) → run_with high low times ≡ Ok run → run.byte < 256
more_low high low times run e =
    let first = bind_ok (byte_of high low) (λ byte. times_of times >>= λ count. let made : Result Run LineKind = Ok (record { byte = byte; count = count }) in made) run e in
    let second = bind_ok (times_of times) (λ count. let made : Result Run LineKind = Ok (record { byte = first.0; count = count }) in made) run first.2 in
    let is : first.0 ≡ run.byte = cc in
    subst (λ b. b < 256) is (byte_low high low first.0 first.1)

star_low : (b : Bool) (high low : ℕ) (times : List ℕ) (run : Run) → cond b (run_with high low times) (Err kinds.Bytes) ≡ Ok run → run.byte < 256
star_low true high low times run e = more_low high low times run e
star_low false high low times run e = cc

run_low : (item : List ℕ) (run : Run) → run_of item ≡ Ok run → run.byte < 256
run_low [] run e = cc
run_low (high ∷ []) run e = cc
run_low (high ∷ low ∷ []) run e =
    let first = bind_ok (byte_of high low) (λ byte. let made : Result Run LineKind = Ok (record { byte = byte; count = 1 }) in made) run e in
    let is : first.0 ≡ run.byte = cc in
    subst (λ b. b < 256) is (byte_low high low first.0 first.1)
run_low (high ∷ low ∷ b ∷ times) run e = star_low (b == star) high low times run e

each_time : (n b : ℕ) → b < 256 → Each (λ b. b < 256) (replicate n b)
each_time zero b h = tt
each_time (suc n) b h = (h, each_time n b h)

runs_low : (items : List (List ℕ)) (runs : List Run) → runs_from items ≡ Ok runs → Each (λ b. b < 256) (bytes_in runs)
runs_low [] runs e = let is : [] ≡ runs = cc in subst (λ (rs : List Run). Each (λ b. b < 256) (bytes_in rs)) is tt
runs_low (item ∷ items) runs e =
    let first = bind_ok (run_of item) (λ run. runs_from items >>= λ more. let made : Result (List Run) LineKind = Ok (run ∷ more) in made) runs e in
    let others = bind_ok (runs_from items) (λ more. let made : Result (List Run) LineKind = Ok (first.0 ∷ more) in made) runs first.2 in
    let is : first.0 ∷ others.0 ≡ runs = cc in
    subst (λ (rs : List Run). Each (λ b. b < 256) (bytes_in rs)) is (each-append (λ b. b < 256) (run_bytes first.0) (bytes_in others.0) (each_time first.0.count first.0.byte (run_low item first.0 first.1)) (runs_low items others.0 others.1))

which_low : (b : Bool) (items : List (List ℕ)) (runs : List Run) → cond b (Ok []) (runs_from items) ≡ Ok runs → Each (λ b. b < 256) (bytes_in runs)
which_low true items runs e = let is : [] ≡ runs = cc in subst (λ (rs : List Run). Each (λ b. b < 256) (bytes_in rs)) is tt
which_low false items runs e = runs_low items runs e

bytes_low : (word : List ℕ) (runs : List Run) → runs_of word ≡ Ok runs → Each (λ b. b < 256) (bytes_in runs)
bytes_low word runs e = which_low (bytes_eq word (codes "-")) (parts comma word) runs e

name_is : (word name : List ℕ) → name_of word ≡ Ok name → is_name name ≡ true
name_is word name e =
    let both = chosen (is_name word) word name kinds.Name e in
    subst (λ w. is_name w ≡ true) both.1 both.0

end_with_is : (letter : ℕ) (name : List ℕ) (end : NamedEnd) → end_with letter name ≡ Ok end → is_name end.name ≡ true
end_with_is letter name end e =
    let first = bind_ok (side_of letter) (λ side. name_of name >>= λ name. let made : Result NamedEnd LineKind = Ok (record { side = side; name = name }) in made) end e in
    let second = bind_ok (name_of name) (λ name. let made : Result NamedEnd LineKind = Ok (record { side = first.0; name = name }) in made) end first.2 in
    let is : second.0 ≡ end.name = cc in
    subst (λ n. is_name n ≡ true) is (name_is name second.0 second.1)

point_is : (b : Bool) (letter : ℕ) (name : List ℕ) (end : NamedEnd) → cond b (end_with letter name) (Err kinds.Side) ≡ Ok end → is_name end.name ≡ true
point_is true letter name end e = end_with_is letter name end e
point_is false letter name end e = cc

end_is : (word : List ℕ) (end : NamedEnd) → end_of word ≡ Ok end → is_name end.name ≡ true
end_is [] end e = cc
end_is (letter ∷ []) end e = cc
end_is (letter ∷ b ∷ name) end e = point_is (b == point) letter name end e

-- what a line's words are read as has the line's shape
shaped : (shape : Shape) (links : ℕ) (words : List (List ℕ)) (v : Values) → read_values shape links words ≡ Ok v → links ≡ 1 → IsShaped shape v
shaped Name links (word ∷ []) v e one =
    let name = bind_ok (name_of word) (λ name. let made : Result Values LineKind = Ok (record no_values { name = Some name }) in made) v e in
    let same : record no_values { name = Some name.0 } ≡ v = cc in
    (name.0, name_is word name.0 name.1, same)
shaped Count links (word ∷ []) v e one =
    let count = bind_ok (number_in 1 MOST_PUMP_STEPS word) (λ count. let made : Result Values LineKind = Ok (record no_values { number = count }) in made) v e in
    let range = number_in_range 1 MOST_PUMP_STEPS word count.0 count.1 in
    let same : record no_values { number = count.0 } ≡ v = cc in
    (count.0, range.0, range.1, same)
shaped EndBytes links (word ∷ bytes ∷ []) v e one =
    let end = bind_ok (end_of word) (λ end. runs_of bytes >>= λ runs. let made : Result Values LineKind = Ok (record no_values { name = Some end.name; side = end.side; bytes = bytes_in runs }) in made) v e in
    let runs = bind_ok (runs_of bytes) (λ runs. let made : Result Values LineKind = Ok (record no_values { name = Some end.0.name; side = end.0.side; bytes = bytes_in runs }) in made) v end.2 in
    let same : record no_values { name = Some end.0.name; side = end.0.side; bytes = bytes_in runs.0 } ≡ v = cc in
    (end.0, end_is word end.0 end.1, bytes_in runs.0, bytes_low bytes runs.0 runs.1, same)
shaped EndNumber links (word ∷ number ∷ []) v e one =
    let end = bind_ok (end_of word) (λ end. number_in 0 MOST_READ_BYTES number >>= λ len. let made : Result Values LineKind = Ok (record no_values { name = Some end.name; side = end.side; number = len }) in made) v e in
    let len = bind_ok (number_in 0 MOST_READ_BYTES number) (λ len. let made : Result Values LineKind = Ok (record no_values { name = Some end.0.name; side = end.0.side; number = len }) in made) v end.2 in
    let same : record no_values { name = Some end.0.name; side = end.0.side; number = len.0 } ≡ v = cc in
    (end.0, end_is word end.0 end.1, len.0, (number_in_range 0 MOST_READ_BYTES number len.0 len.1).1, same)
shaped NameSide links (word ∷ side ∷ []) v e one =
    let name = bind_ok (name_of word) (λ name. side_in side >>= λ dir. let made : Result Values LineKind = Ok (record no_values { name = Some name; side = dir }) in made) v e in
    let dir = bind_ok (side_in side) (λ dir. let made : Result Values LineKind = Ok (record no_values { name = Some name.0; side = dir }) in made) v name.2 in
    let same : record no_values { name = Some name.0; side = dir.0 } ≡ v = cc in
    (name.0, name_is word name.0 name.1, dir.0, same)
shaped SlotSide links (word ∷ side ∷ []) v e one =
    let slot = bind_ok (number_in 1 links word) (λ slot. side_in side >>= λ dir. let made : Result Values LineKind = Ok (record no_values { side = dir; slot = slot }) in made) v e in
    let range = number_in_range 1 links word slot.0 slot.1 in
    let low = range.0 in
    let high = range.1 in
    let dir = bind_ok (side_in side) (λ dir. let made : Result Values LineKind = Ok (record no_values { side = dir; slot = slot.0 }) in made) v slot.2 in
    let same : record no_values { side = dir.0; slot = slot.0 } ≡ v = cc in
    (slot.0, low, omega arith, dir.0, same)
shaped Name links [] v e one = cc
shaped Name links (a ∷ b ∷ more) v e one = cc
shaped Count links [] v e one = cc
shaped Count links (a ∷ b ∷ more) v e one = cc
shaped EndBytes links [] v e one = cc
shaped EndBytes links (a ∷ []) v e one = cc
shaped EndBytes links (a ∷ b ∷ c ∷ more) v e one = cc
shaped EndNumber links [] v e one = cc
shaped EndNumber links (a ∷ []) v e one = cc
shaped EndNumber links (a ∷ b ∷ c ∷ more) v e one = cc
shaped NameSide links [] v e one = cc
shaped NameSide links (a ∷ []) v e one = cc
shaped NameSide links (a ∷ b ∷ c ∷ more) v e one = cc
shaped SlotSide links [] v e one = cc
shaped SlotSide links (a ∷ []) v e one = cc
shaped SlotSide links (a ∷ b ∷ c ∷ more) v e one = cc

-- a line says something, and that is all that it does
pub record Says (scene after : PlainScene) : Type 0 where
  pub saying : Saying
  pub sayable : IsSayable saying
  pub same : with_body scene (said saying (body scene)) ≡ after

row_says : (command : Command) (words : List (List ℕ)) (scene after : PlainScene) → row_of command words scene ≡ Ok after → scene.setup.links ≡ 1 → Says scene after
row_says command words scene after e one =
    let read = bind_ok (read_values (shape_of command) scene.setup.links words) (λ v. let made : Result PlainScene LineKind = Ok (says command v scene) in made) after e in
    let same : says command read.0 scene ≡ after = cc in
    record { saying = record { command = command; values = read.0 }; sayable = shaped (shape_of command) scene.setup.links words read.0 read.1 one; same = same }

-- all that a scene holds was said, line by line
pub record IsSpoken (scene : PlainScene) : Type 0 where
  pub settings : IsInRange scene.setup scene.room
  pub formed : IsFormed scene.setup
  pub actors : scene.actors ≡ []
  pub sayings : List Saying
  pub sayable : Each IsSayable sayings
  pub all : says_all sayings empty_body ≡ body scene

said_last : (ss : List Saying) (s : Saying) (b : Body) → says_all (ss ++ s ∷ []) b ≡ said s (says_all ss b)
said_last [] s b = refl
said_last (r ∷ ss) s b = said_last ss s (said r b)

more_spoken : (scene after : PlainScene) → Says scene after → IsSpoken scene → IsSpoken after
more_spoken scene after more spoken = subst IsSpoken more.same (record {
  settings = spoken.settings;
  formed = spoken.formed;
  actors = spoken.actors;
  sayings = spoken.sayings ++ more.saying ∷ [];
  sayable = each-append IsSayable spoken.sayings (more.saying ∷ []) spoken.sayable (more.sayable, tt);
  all = said_last spoken.sayings more.saying empty_body ∙ ap (said more.saying) spoken.all;
})

limited_spoken : (read : Result PlainScene LineKind) (after : PlainScene) → ((more : PlainScene) → read ≡ Ok more → IsSpoken more) → limited read ≡ Ok after → IsSpoken after
limited_spoken (Ok more) after keeps e = subst IsSpoken (not_passed _ more after e).1 (keeps more refl)
limited_spoken (Err kind) after keeps e = cc

row_spoken : (word : List ℕ) (arguments : List (List ℕ)) (scene after : PlainScene) → (command_of word >>= λ command. row_of command arguments scene) ≡ Ok after → IsSpoken scene → IsSpoken after
row_spoken word arguments scene after e spoken =
    let command = bind_ok (command_of word) (λ command. row_of command arguments scene) after e in
    more_spoken scene after (row_says command.0 arguments scene after command.2 spoken.formed.links) spoken

done_spoken : (word : List ℕ) (arguments : List (List ℕ)) (scene after : PlainScene) → line_done word arguments scene ≡ Ok after → IsSpoken scene → IsSpoken after
done_spoken word arguments scene after e spoken = limited_spoken (command_of word >>= λ command. row_of command arguments scene) after (λ more read. row_spoken word arguments scene more read spoken) e

set_spoken : (scene after : PlainScene) → Changes scene after → IsSpoken scene → IsSpoken after
set_spoken scene after changes spoken = subst IsSpoken changes.same (record { settings = changes.ranged spoken.settings; formed = changes.formed spoken.formed; actors = spoken.actors; sayings = spoken.sayings; sayable = spoken.sayable; all = spoken.all })

-- the defaults are in their ranges
default_subnet : (x : Side) → IsSubnet (subnet_at built_setup x)
default_subnet A = (omega arith, refl)
default_subnet B = (omega arith, refl)

default_rmbs : (x : Side) → (1 ≤ rmbs_of built_setup x) × (rmbs_of built_setup x ≤ MOST_RMBS)
default_rmbs A = (omega arith, omega arith)
default_rmbs B = (omega arith, omega arith)

default_elements : (x : Side) → (1 ≤ elements_of built_setup x) × (elements_of built_setup x ≤ MOST_ELEMENTS)
default_elements A = (omega arith, omega arith)
default_elements B = (omega arith, omega arith)

defaults : IsInRange built_setup default_room
defaults = record { subnet = default_subnet; links = refl; size = omega arith; rmbs = default_rmbs; elements = default_elements; depth = (omega arith, omega arith); number = (omega arith, omega arith); sockets = (omega arith, omega arith); entries = (omega arith, omega arith); bytes = (omega arith, omega arith) }

low_address : (x : Side) → (subnet_at built_setup x).0 < 4294967296
low_address A = omega arith
low_address B = omega arith

empty_spoken : IsSpoken empty_scene
empty_spoken = record { settings = defaults; formed = record { capable = refl; subnet = refl; rmbs = refl; elements = refl; addresses = low_address; links = refl }; actors = refl; sayings = []; sayable = tt; all = refl }

-- so is a scene that lines gave
pub lines_spoken : (lines : List (List ℕ)) (draft : PlainDraft) → after_lines 1 lines empty_draft ≡ Ok draft → IsSpoken draft.scene
lines_spoken lines draft e = lines_keep IsSpoken done_spoken set_spoken 1 lines empty_draft draft e empty_spoken
