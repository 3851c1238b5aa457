-- How bytes, numbers, names and events are spelled.
-- A reader learns here the one spelling of each word of a scene or a history.
use Rattle.std.specs.Prelude.{ℕ, ◌+◌, ◌/◌, ◌%◌, ◌==◌, nat_lt, List, [], ◌∷◌, ◌++◌, codes, take, drop, slice_index_or, if◌then◌else◌}
use Rattle.std.specs.List.{join_by}
use Rattle.std.specs.Fmt.{decimal}
use Rattle.smc_num.specs.declared.Side.{Side}
use Rattle.smc_num.specs.declared.Side.TheVariants.{A, B}
use Rattle.pipe_model.specs.declared.event.End.{End}
use Rattle.pipe_model.specs.declared.event.Event.{Event}
use Rattle.pipe_model.specs.declared.event.Event.TheVariants.{Open, Raw, Write, Read, Finish, Close, Abort, Await, Clc, Deliver, Complete, Swallow, Cut, Heal, Report, Move, Grow, Test, Trim}

-- a run of one byte: the byte, and how many there are
pub record Run : Type 0 where
  pub byte : ℕ
  pub count : ℕ

-- one byte more in front: it lengthens the first run, or begins one
abbrev pub run_with : ℕ → List Run → List Run
run_with b [] = (record { byte = b; count = 1 }) ∷ []
run_with b (r ∷ rs) = if b == r.byte then (record { byte = b; count = r.count + 1 }) ∷ rs else (record { byte = b; count = 1 }) ∷ (r ∷ rs)

-- the longest runs of one byte, from the left
abbrev pub runs : List ℕ → List Run
runs [] = []
runs (b ∷ bs) = run_with b (runs bs)

-- a hexadecimal digit in lower case
abbrev pub hex_digit : ℕ → ℕ
hex_digit n = if nat_lt n 10 then n + 48 else n + 87

-- a byte in two hexadecimal digits
abbrev pub hex_byte : ℕ → List ℕ
hex_byte b = hex_digit (b / 16) ∷ hex_digit (b % 16) ∷ []

-- a run: its byte, and its length where that is 2 or more
abbrev pub run_text : Run → List ℕ
run_text r = if r.count == 1 then hex_byte r.byte else hex_byte r.byte ++ (codes "*" ++ decimal r.count)

-- bytes in runs, with commas between them; a hyphen for none
abbrev pub bytes_text : List ℕ → List ℕ
bytes_text [] = codes "-"
bytes_text (b ∷ bs) = join_by run_text (codes ",") (runs (b ∷ bs))

abbrev pub side_text : Side → List ℕ
side_text A = codes "A"
side_text B = codes "B"

-- the name of a socket by its number
abbrev pub name_text : List (List ℕ) → ℕ → List ℕ
name_text names s = slice_index_or names s []

-- a side, a point and the socket's name
abbrev pub end_text : List (List ℕ) → End → List ℕ
end_text names e = side_text e.side ++ (codes "." ++ name_text names e.s)

-- the bytes of the payload that an event names
abbrev pub payload_part : List ℕ → ℕ → ℕ → List ℕ
payload_part payload at len = take len (drop at payload)

-- an event as a line of a scene, in its one spelling
abbrev pub event_text : List (List ℕ) → List ℕ → Event → List ℕ
event_text names payload (Open s) = codes "open " ++ name_text names s
event_text names payload (Raw s at len) = codes "raw " ++ (name_text names s ++ (codes " " ++ bytes_text (payload_part payload at len)))
event_text names payload (Write end at len) = codes "write " ++ (end_text names end ++ (codes " " ++ bytes_text (payload_part payload at len)))
event_text names payload (Read end len) = codes "read " ++ (end_text names end ++ (codes " " ++ decimal len))
event_text names payload (Finish end) = codes "finish " ++ end_text names end
event_text names payload (Close end) = codes "close " ++ end_text names end
event_text names payload (Abort end) = codes "abort " ++ end_text names end
event_text names payload (Await end) = codes "await " ++ end_text names end
event_text names payload (Clc s dir) = codes "clc " ++ (name_text names s ++ (codes " " ++ side_text dir))
event_text names payload (Deliver slot dir) = codes "deliver " ++ (decimal slot ++ (codes " " ++ side_text dir))
event_text names payload (Complete slot dir) = codes "complete " ++ (decimal slot ++ (codes " " ++ side_text dir))
event_text names payload (Swallow slot dir) = codes "swallow " ++ (decimal slot ++ (codes " " ++ side_text dir))
event_text names payload (Cut slot) = codes "cut " ++ decimal slot
event_text names payload (Heal slot) = codes "heal " ++ decimal slot
event_text names payload (Report side slot) = codes "report " ++ (side_text side ++ (codes " " ++ decimal slot))
event_text names payload (Move end) = codes "move " ++ end_text names end
event_text names payload Grow = codes "grow"
event_text names payload (Test side slot) = codes "test " ++ (side_text side ++ (codes " " ++ decimal slot))
event_text names payload (Trim side) = codes "trim " ++ side_text side
