-- The grammar of scenes.
-- A reader learns here which texts are scenes, what each line does, and which line is refused for what.
use Rattle.std.specs.Prelude.{◌≡◌, ℕ, ◌+◌, ◌==◌, ◌&&◌, ◌||◌, nat_le, Bool, true, List, [], ◌∷◌, codes, Result, Ok, Err, MatchResult, if◌then◌else◌}
use Rattle.std.specs.List.{list_all}
use Rattle.std.specs.Str.{bytes_eq}
use Rattle.std.specs.Str.Lines.{lines}
use Rattle.scene_text.specs.declared.faults.LineKind.{LineKind}
use Rattle.scene_text.specs.declared.faults.LineKind.TheVariants as kinds
use Rattle.scene_text.specs.declared.faults.LineFault.{LineFault}
use Rattle.scene_text.specs.declared.faults.LineFault.TheVariants.{NoMemory, Bad, Passes}
use Rattle.scene_text.specs.declared.faults.SceneFault.{SceneFault}
use Rattle.scene_text.specs.declared.faults.SceneFault.TheVariants as faults
use Rattle.scene_text.specs.declared.scenes.Scene.{Scene}
use Rattle.scene_text.specs.declared.settings.Draft.{Draft}
use Rattle.scene_text.specs.Words.{◌>>=◌, words_of}
use Rattle.scene_text.specs.Scenes.{PlainScene, plain, within_limits, with_sockets}
use Rattle.scene_text.specs.Commands.{command_of, row_of}
use Rattle.scene_text.specs.Settings.{PlainDraft, plain_draft, empty_draft, with_scene, set_said}

-- a byte that a line may have
abbrev pub is_printable : ℕ → Bool
is_printable b = nat_le 32 b && nat_le b 126

-- a line that says nothing: it begins with `#`, or holds at most spaces
abbrev pub is_passed_over : List ℕ → Bool
is_passed_over [] = true
is_passed_over (b ∷ bs) = (b == 35) || list_all (λ c. c == 32) (b ∷ bs)

-- the limits of a scene are tested once a line has no other fault
abbrev pub limited : Result PlainScene LineKind → Result PlainScene LineFault
limited (Ok scene) = within_limits scene
limited (Err kind) = Err (Bad kind)

-- a line whose first word is not `set`
abbrev pub line_done : List ℕ → List (List ℕ) → PlainScene → Result PlainScene LineFault
line_done word arguments scene = limited (command_of word >>= λ command. row_of command arguments scene)

-- the words of a line
abbrev pub words_said : List (List ℕ) → PlainDraft → Result PlainDraft LineFault
words_said [] draft = Err (Bad kinds.Word)
words_said (word ∷ arguments) draft = if bytes_eq word (codes "set") then set_said arguments draft else with_scene draft (line_done word arguments draft.scene)

-- what a line says
abbrev pub line_said : List ℕ → PlainDraft → Result PlainDraft LineFault
line_said line draft = if list_all is_printable line then words_said (words_of line) draft else Err (Bad kinds.Char)

-- the draft after one more line
abbrev pub after_line : List ℕ → PlainDraft → Result PlainDraft LineFault
after_line line draft = if is_passed_over line then Ok draft else line_said line draft

-- the fault of the line with number n
abbrev pub fault_at : ℕ → LineFault → SceneFault
fault_at n NoMemory = faults.NoMemory
fault_at n (Bad kind) = faults.BadLine n kind
fault_at n (Passes limit) = faults.TooMany n limit

-- the draft after that line
abbrev pub at_line : ℕ → Result PlainDraft LineFault → Result PlainDraft SceneFault
at_line n (Ok draft) = Ok draft
at_line n (Err fault) = Err (fault_at n fault)

-- the draft after more lines, of which the first has number n
abbrev pub after_lines : ℕ → List (List ℕ) → PlainDraft → Result PlainDraft SceneFault
after_lines n [] draft = Ok draft
after_lines n (line ∷ more) draft = at_line n (after_line line draft) >>= λ after. after_lines (n + 1) more after

-- The scene that a text is, or the fault of its first line that is refused. A line ends at a line
-- feed or with the text, and a carriage return right before a line feed is no part of it.
abbrev pub scene_of : List ℕ → Result PlainScene SceneFault
scene_of text = after_lines 1 (lines text) empty_draft >>= λ draft. Ok (with_sockets draft.scene)

-- this is the fault that there is, unless memory ran out
abbrev pub IsFault : {X : Type 0} → SceneFault → Result X SceneFault → Type 0
IsFault faults.NoMemory wanted = Unit {0}
IsFault (faults.BadLine line kind) wanted = wanted ≡ Err (faults.BadLine line kind)
IsFault (faults.TooMany line limit) wanted = wanted ≡ Err (faults.TooMany line limit)

-- what was read, seen by view, is what there is to read, unless memory ran out
abbrev pub IsReadAs : {X Y : Type 0} → (X → Y) → Result X SceneFault → Result Y SceneFault → Type 0
IsReadAs view read wanted = MatchResult read (λ x. wanted ≡ Ok (view x)) (λ fault. IsFault fault wanted)

abbrev pub IsDrafted : Result Draft SceneFault → Result PlainDraft SceneFault → Type 0
IsDrafted read wanted = IsReadAs plain_draft read wanted

abbrev pub IsRead : Result Scene SceneFault → Result PlainScene SceneFault → Type 0
IsRead read wanted = IsReadAs plain read wanted
