-- What `show` answers.
-- A reader learns here which lines tell a message, what bytes they tell, and which line is refused
-- for what.
use Rattle.std.specs.Prelude.{◌≡◌, ℕ, ◌+◌, ◌==◌, List, [], ◌∷◌, ◌++◌, length, codes, Result, Ok, Err, if◌then◌else◌}
use Rattle.std.specs.List.{list_all}
use Rattle.std.specs.Str.{bytes_eq}
use Rattle.std.specs.Str.Lines.{lines}
use Rattle.scene_text.specs.declared.faults.LineKind.{LineKind}
use Rattle.scene_text.specs.declared.faults.LineKind.TheVariants as kinds
use Rattle.scene_text.specs.declared.faults.LineFault.{LineFault}
use Rattle.scene_text.specs.declared.faults.LineFault.TheVariants.{NoMemory, Bad, Passes}
use Rattle.scene_text.specs.declared.faults.SceneFault.{SceneFault}
use Rattle.scene_text.specs.declared.faults.SceneFault.TheVariants as faults
use Rattle.scene_text.specs.Words.{◌>>=◌, map_ok, byte_of, words_of}
use Rattle.scene_text.specs.Grammar.{is_printable, is_passed_over}
use Rattle.clc_wire.specs.declared.message.ClcMessage.{ClcMessage}
use Rattle.clc_wire.specs.declared.fault.ClcFault.{ClcFault}
use Rattle.clc_wire.specs.Clc.{clc_front}
use Rattle.llc_wire.specs.Llc.{llc_read}
use Rattle.cdc_wire.specs.Cdc.{cdc_read}
use Rattle.smcr_calls.specs.declared.show.Protocol.{Protocol}
use Rattle.smcr_calls.specs.declared.show.Protocol.TheVariants.{Clc, Llc, Cdc}
use Rattle.smcr_calls.specs.declared.show.Reading.{Reading}
use Rattle.smcr_calls.specs.declared.show.Reading.TheVariants as readings
use Rattle.smcr_calls.specs.declared.top.Status.TheVariants as statuses
use Rattle.smcr_calls.specs.Answers.{Answer, refusal_text}
use Rattle.smcr_calls.specs.ShowText.{clc_line, llc_line, cdc_line}

-- the protocol that a line's first word names
abbrev pub protocol_of : List ℕ → Result Protocol LineKind
protocol_of word =
    if bytes_eq word (codes "clc") then Ok Clc
    else if bytes_eq word (codes "llc") then Ok Llc
    else if bytes_eq word (codes "cdc") then Ok Cdc
    else Err kinds.Word

-- the bytes that hexadecimal digits of either case spell, two a byte
abbrev pub bytes_of : List ℕ → Result (List ℕ) LineKind
bytes_of [] = Ok []
bytes_of (digit ∷ []) = Err kinds.Bytes
bytes_of (high ∷ low ∷ digits) = do
  byte ← byte_of high low
  bytes ← bytes_of digits
  Ok (byte ∷ bytes)

-- the 44 bytes that an LLC or a CDC message has
abbrev pub frame_of : List ℕ → Result (List ℕ) LineKind
frame_of bytes = if length bytes == 44 then Ok bytes else Err kinds.Bytes

-- the CLC message at the front of bytes
abbrev pub clc_message : List ℕ → Result ClcMessage ClcFault
clc_message bytes = map_ok (λ read. read.0) (clc_front bytes)

-- the line of the message that bytes are in a protocol
abbrev pub message_line : Protocol → List ℕ → Result (List ℕ) LineKind
message_line Clc bytes = Ok (clc_line (clc_message bytes))
message_line Llc bytes = frame_of bytes >>= λ frame. Ok (llc_line (llc_read frame))
message_line Cdc bytes = frame_of bytes >>= λ frame. Ok (cdc_line (cdc_read frame))

-- a protocol and its arguments, of which there is one
abbrev pub row_line : Protocol → List (List ℕ) → Result (List ℕ) LineKind
row_line protocol (digits ∷ []) = bytes_of digits >>= λ bytes. message_line protocol bytes
row_line protocol _ = Err kinds.Count

-- the words of a line
abbrev pub words_line : List (List ℕ) → Result (List ℕ) LineKind
words_line [] = Err kinds.Word
words_line (word ∷ arguments) = protocol_of word >>= λ protocol. row_line protocol arguments

-- what a line that isn't passed over is shown as
abbrev pub shown : List ℕ → Result (List ℕ) LineKind
shown line = if list_all is_printable line then words_line (words_of line) else Err kinds.Char

-- a text and what is shown behind it
abbrev pub behind : List ℕ → Result (List ℕ) LineKind → Result (List ℕ) LineKind
behind text more = more >>= λ line. Ok (text ++ line)

-- the text after one more line
abbrev pub after_line : List ℕ → List ℕ → Result (List ℕ) LineKind
after_line line text = if is_passed_over line then Ok text else behind text (shown line)

-- the same for the line with this number
abbrev pub at_line : ℕ → Result (List ℕ) LineKind → Result (List ℕ) SceneFault
at_line n (Ok text) = Ok text
at_line n (Err kind) = Err (faults.BadLine n kind)

-- the text after more lines, of which the first has number n, or the first refusal
abbrev pub after_lines : ℕ → List (List ℕ) → List ℕ → Result (List ℕ) SceneFault
after_lines n [] text = Ok text
after_lines n (line ∷ more) text = at_line n (after_line line text) >>= λ after. after_lines (n + 1) more after

-- the whole text, or the line that says which line is refused, and for what
abbrev pub lines_answer : Result (List ℕ) SceneFault → Answer
lines_answer (Ok text) = record { status = statuses.Ok; text = text }
lines_answer (Err fault) = record { status = statuses.Refused; text = refusal_text fault }

-- What an input to `show` is answered. A line ends at a line feed or with the text, and a carriage
-- return right before a line feed is no part of it.
abbrev pub show_answer : List ℕ → Answer
show_answer input = lines_answer (after_lines 1 (lines input) [])

-- a text is what it has to be, unless memory ran out
abbrev pub Leaves : {X : Type 0} → Result X LineFault → List ℕ → Result (List ℕ) LineKind → Type 0
Leaves (Ok x) text wanted = wanted ≡ Ok text
Leaves (Err NoMemory) text wanted = Unit {0}
Leaves (Err (Bad kind)) text wanted = wanted ≡ Err kind
Leaves (Err (Passes limit)) text wanted = ⊥

-- the line of a message that was read, or of what is wrong with its bytes
abbrev pub reading_text : Reading → List ℕ
reading_text (readings.Clc read) = clc_line read
reading_text (readings.Llc read) = llc_line read
reading_text (readings.Cdc read) = cdc_line read
