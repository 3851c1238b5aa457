-- The words that lines begin with.
-- A reader learns here which words there are, which shape each has, and what each makes of the values behind it.
use Rattle.std.specs.Prelude.{ℕ, List, [], ◌∷◌, ◌++◌, length, codes, Option, Some, None, Result, Ok, Err, if◌then◌else◌}
use Rattle.std.specs.Str.{bytes_eq}
use Rattle.pipe_model.specs.declared.event.Event.TheVariants as events
use Rattle.scene_text.specs.declared.commands.Command.{Command}
use Rattle.scene_text.specs.declared.commands.Command.TheVariants.{Open, Pump, Write, Read, Clc, Deliver, Complete}
use Rattle.scene_text.specs.declared.faults.LineKind.{LineKind}
use Rattle.scene_text.specs.declared.faults.LineKind.TheVariants as kinds
use Rattle.scene_text.specs.declared.scenes.SceneWhat.{SceneWhat}
use Rattle.scene_text.specs.declared.scenes.SceneWhat.TheVariants as whats
use Rattle.scene_text.specs.declared.shapes.Shape.{Shape}
use Rattle.scene_text.specs.declared.shapes.Shape.TheVariants.{Name, Count, EndBytes, EndNumber, NameSide, SlotSide}
use Rattle.scene_text.specs.Words.{◌>>=◌}
use Rattle.scene_text.specs.Scenes.{PlainScene, socket_of, mentioned}
use Rattle.scene_text.specs.Shapes.{Values, read_values}

-- the words, and what they stand for
abbrev pub command_of : List ℕ → Result Command LineKind
command_of word =
    if bytes_eq word (codes "open") then Ok Open
    else if bytes_eq word (codes "pump") then Ok Pump
    else if bytes_eq word (codes "write") then Ok Write
    else if bytes_eq word (codes "read") then Ok Read
    else if bytes_eq word (codes "clc") then Ok Clc
    else if bytes_eq word (codes "deliver") then Ok Deliver
    else if bytes_eq word (codes "complete") then Ok Complete
    else Err kinds.Word

-- the shape of each
abbrev pub shape_of : Command → Shape
shape_of Open = Name
shape_of Pump = Count
shape_of Write = EndBytes
shape_of Read = EndNumber
shape_of Clc = NameSide
shape_of Deliver = SlotSide
shape_of Complete = SlotSide

-- What each makes of its values, where the socket has number s and the bytes lie from `at` on. An event names its socket by
-- number, and the bytes that it writes by where they lie in the payload.
abbrev pub what_of : Command → Values → ℕ → ℕ → SceneWhat
what_of Open v s at = whats.One (events.Open s)
what_of Pump v s at = whats.Pump v.number
what_of Write v s at = whats.One (events.Write (record { side = v.side; s = s }) at (length v.bytes))
what_of Read v s at = whats.One (events.Read (record { side = v.side; s = s }) v.number)
what_of Clc v s at = whats.One (events.Clc s v.side)
what_of Deliver v s at = whats.One (events.Deliver v.slot v.side)
what_of Complete v s at = whats.One (events.Complete v.slot v.side)

-- the names after a line, and the number of the socket that it names
abbrev pub names_after : Option (List ℕ) → List (List ℕ) → List (List ℕ)
names_after None names = names
names_after (Some name) names = mentioned names name

abbrev pub number_named : Option (List ℕ) → List (List ℕ) → ℕ
number_named None names = 0
number_named (Some name) names = socket_of names name

-- what a line makes of a scene: it mentions a name, adds bytes to the payload, and is one line more
abbrev pub says : Command → Values → PlainScene → PlainScene
says command v scene = record scene {
  names = names_after v.name scene.names;
  lines = scene.lines ++ (record { what = what_of command v (number_named v.name scene.names) (length scene.payload) }) ∷ [];
  payload = scene.payload ++ v.bytes;
}

-- the words behind a line's first, and what they make of a scene
abbrev pub row_of : Command → List (List ℕ) → PlainScene → Result PlainScene LineKind
row_of command words scene = do
  values ← read_values (shape_of command) scene.setup.links words
  Ok (says command values scene)
