-- What holds of each word that a line may begin with. A later word owes no row here: the last row of each lemma is tried for it.
use Rattle.std.proofs.Common.{◌≡◌, ℕ, ◌+◌, ◌<◌, ◌≤◌, false, List, [], ◌++◌, length, Ok, refl, arith}
use Rattle.std.specs.Prelude.{◌==◌, codes}
use Rattle.std.specs.List.{before_first}
use Rattle.std.specs.Str.{bytes_eq}
use Rattle.std.specs.Fmt.{decimal}
use Rattle.pipe_model.specs.declared.setup.Setup.{Setup}
use Rattle.scene_text.specs.declared.commands.Command.{Command}
use Rattle.scene_text.specs.declared.commands.Command.TheVariants.{Open}
use Rattle.scene_text.specs.declared.limits.TheConstants.{MOST_PUMP_STEPS}
use Rattle.scene_text.specs.declared.shapes.Shape.{Shape}
use Rattle.scene_text.specs.declared.shapes.Shape.TheVariants.{Name, Count, EndBytes, EndNumber, NameSide, SlotSide}
use Rattle.scene_text.specs.Words.{space}
use Rattle.scene_text.specs.Scenes.{WhatFits}
use Rattle.scene_text.specs.Shapes.{Values, no_values}
use Rattle.scene_text.specs.Commands.{command_of, shape_of, what_of}
use Rattle.scene_text.specs.Grammar.{is_passed_over}
use Rattle.scene_text.specs.Spelling.{side_text, bytes_text, name_text, payload_part}
use Rattle.scene_text.specs.Printing.{what_line}
use Rattle.scene_text.proofs.ReadBack.Splits.{IsWord}

-- the word of a command, as its lines begin with it
abbrev pub word_of : Command → List ℕ
word_of command = before_first (λ b. b == space) (what_line [] [] (what_of command no_values 0 0))

-- values of a shape as they are spelled behind the word, with the name and the bytes that they name
abbrev pub values_text : Shape → Values → List ℕ → List ℕ → List ℕ
values_text Name v name bytes = codes " " ++ name
values_text Count v name bytes = codes " " ++ decimal v.number
values_text EndBytes v name bytes = codes " " ++ ((side_text v.side ++ (codes "." ++ name)) ++ (codes " " ++ bytes_text bytes))
values_text EndNumber v name bytes = codes " " ++ ((side_text v.side ++ (codes "." ++ name)) ++ (codes " " ++ decimal v.number))
values_text NameSide v name bytes = codes " " ++ (name ++ (codes " " ++ side_text v.side))
values_text SlotSide v name bytes = codes " " ++ (decimal v.slot ++ (codes " " ++ side_text v.side))

-- what is done is spelled as its word and its values
pub line_spelled : (command : Command) (v : Values) (s at : ℕ) (names : List (List ℕ)) (payload : List ℕ) → what_line names payload (what_of command v s at) ≡ word_of command ++ values_text (shape_of command) v (name_text names s) (payload_part payload at (length v.bytes))
line_spelled Open v s at names payload = refl
line_spelled _ v s at names payload = refl

pub word_found : (command : Command) → command_of (word_of command) ≡ Ok command
word_found Open = refl
word_found _ = refl

pub first_word : (command : Command) → IsWord (word_of command)
first_word Open = record { some = omega arith; whole = refl }
first_word _ = record { some = omega arith; whole = refl }

pub sets_nothing : (command : Command) → bytes_eq (word_of command) (codes "set") ≡ false
sets_nothing Open = refl
sets_nothing _ = refl

pub says_something : (command : Command) (rest : List ℕ) → is_passed_over (word_of command ++ rest) ≡ false
says_something Open rest = refl
says_something _ rest = refl

-- what a world takes of values of a shape, where the socket has number s and the bytes lie from `at` on
abbrev pub FitsShape : Shape → Setup → ℕ → Values → ℕ → ℕ → Type 0
FitsShape Name setup payload v s at = s < setup.sockets
FitsShape Count setup payload v s at = (1 ≤ v.number) × (v.number ≤ MOST_PUMP_STEPS)
FitsShape EndBytes setup payload v s at = (s < setup.sockets) × (at + length v.bytes ≤ payload)
FitsShape EndNumber setup payload v s at = s < setup.sockets
FitsShape NameSide setup payload v s at = s < setup.sockets
FitsShape SlotSide setup payload v s at = v.slot ≡ 1

pub word_fits : (command : Command) (setup : Setup) (payload : ℕ) (v : Values) (s at : ℕ) → FitsShape (shape_of command) setup payload v s at → WhatFits setup payload (what_of command v s at)
word_fits Open setup payload v s at h = h
word_fits _ setup payload v s at h = h
