-- What is said at a line of a scene, and what a scene holds after it.
use Rattle.std.proofs.Common.{◌≡◌, ◌∙◌, ℕ, ◌<◌, ◌≤◌, true, false, List, [], ◌∷◌, ◌++◌, length, Option, Some, None, cond, refl, ap, sym, append_assoc, append-nil, arith}
use Rattle.std.specs.Prelude.{nat_lt}
use Rattle.std.proofs.lemmas.List.{length-append}
use Rattle.smc_num.specs.declared.Side.{Side}
use Rattle.scene_text.specs.declared.commands.Command.{Command}
use Rattle.scene_text.specs.declared.limits.TheConstants.{MOST_NAMES, MOST_EVENT_LINES, MOST_PAYLOAD_BYTES, MOST_PUMP_STEPS, MOST_READ_BYTES}
use Rattle.scene_text.specs.declared.scenes.SceneLine.{SceneLine}
use Rattle.scene_text.specs.declared.shapes.Shape.{Shape}
use Rattle.scene_text.specs.declared.shapes.Shape.TheVariants.{Name, Count, EndBytes, EndNumber, NameSide, SlotSide}
use Rattle.scene_text.specs.Words.{is_name, NamedEnd}
use Rattle.scene_text.specs.Scenes.{PlainScene, socket_of, mentioned}
use Rattle.scene_text.specs.Shapes.{Values, no_values}
use Rattle.scene_text.specs.Commands.{shape_of, what_of, names_after, number_named}
use Rattle.scene_text.proofs.ReadBack.Splits.{Each}

-- the word of a line and the values behind it
pub record Saying : Type 0 where
  pub command : Command
  pub values : Values

-- what lines make: names, lines and payload
pub record Body : Type 0 where
  pub names : List (List ℕ)
  pub lines : List SceneLine
  pub payload : List ℕ

abbrev pub empty_body : Body
empty_body = record { names = []; lines = []; payload = [] }

abbrev pub body : PlainScene → Body
body scene = record { names = scene.names; lines = scene.lines; payload = scene.payload }

abbrev pub with_body : PlainScene → Body → PlainScene
with_body scene b = record scene { names = b.names; lines = b.lines; payload = b.payload }

abbrev pub line_of : Saying → Body → SceneLine
line_of s b = record { what = what_of s.command s.values (number_named s.values.name b.names) (length b.payload) }

abbrev pub said : Saying → Body → Body
said s b = record { names = names_after s.values.name b.names; lines = b.lines ++ line_of s b ∷ []; payload = b.payload ++ s.values.bytes }

abbrev pub says_all : List Saying → Body → Body
says_all [] b = b
says_all (s ∷ ss) b = says_all ss (said s b)

-- the values are some that a line of this shape has: names are names, numbers are in their ranges, and there is one slot
abbrev pub IsShaped : Shape → Values → Type 0
IsShaped Name v = (name : List ℕ) × (is_name name ≡ true) × (record no_values { name = Some name } ≡ v)
IsShaped Count v = (count : ℕ) × (1 ≤ count) × (count ≤ MOST_PUMP_STEPS) × (record no_values { number = count } ≡ v)
IsShaped EndBytes v = (end : NamedEnd) × (is_name end.name ≡ true) × (bytes : List ℕ) × Each (λ b. b < 256) bytes × (record no_values { name = Some end.name; side = end.side; bytes = bytes } ≡ v)
IsShaped EndNumber v = (end : NamedEnd) × (is_name end.name ≡ true) × (len : ℕ) × (len ≤ MOST_READ_BYTES) × (record no_values { name = Some end.name; side = end.side; number = len } ≡ v)
IsShaped NameSide v = (name : List ℕ) × (is_name name ≡ true) × (dir : Side) × (record no_values { name = Some name; side = dir } ≡ v)
IsShaped SlotSide v = (slot : ℕ) × (1 ≤ slot) × (slot ≤ 1) × (dir : Side) × (record no_values { side = dir; slot = slot } ≡ v)

abbrev pub IsSayable : Saying → Type 0
IsSayable s = IsShaped (shape_of s.command) s.values

-- no limit is passed
pub record IsWithin (b : Body) : Type 0 where
  pub names : length b.names ≤ MOST_NAMES
  pub lines : length b.lines ≤ MOST_EVENT_LINES
  pub payload : length b.payload ≤ MOST_PAYLOAD_BYTES

-- a list begins with another
abbrev pub Begins : {X : Type 0} → List X → List X → Type 0
Begins {X} xs ys = (more : List X) × (ys ≡ xs ++ more)

begins_itself : {X : Type 0} (xs : List X) → Begins xs xs
begins_itself xs = ([], sym (append-nil xs))

begins_longer : {X : Type 0} (xs ys zs : List X) → Begins xs ys → Begins ys zs → Begins xs zs
begins_longer xs ys zs p q = (p.0 ++ q.0, q.1 ∙ ap (λ (l : List _). l ++ q.0) p.1 ∙ append_assoc xs p.0 q.0)

pub begins_length : {X : Type 0} (xs ys : List X) → Begins xs ys → length xs ≤ length ys
begins_length xs ys p = let e = ap length p.1 ∙ length-append xs p.0 in omega arith

mentioned_begins : (names : List (List ℕ)) (name : List ℕ) → Begins names (mentioned names name)
mentioned_begins names name = elim (nat_lt (socket_of names name) (length names)) as (λ t. Begins names (cond t names (names ++ name ∷ []))) [
  | true ↦ begins_itself names
  | false ↦ (name ∷ [], refl)
]

names_begin : (name : Option (List ℕ)) (names : List (List ℕ)) → Begins names (names_after name names)
names_begin None names = begins_itself names
names_begin (Some name) names = mentioned_begins names name

pub all_names : (ss : List Saying) (b : Body) → Begins b.names (says_all ss b).names
all_names [] b = begins_itself b.names
all_names (s ∷ ss) b = begins_longer b.names (names_after s.values.name b.names) (says_all ss (said s b)).names (names_begin s.values.name b.names) (all_names ss (said s b))

pub all_payload : (ss : List Saying) (b : Body) → Begins b.payload (says_all ss b).payload
all_payload [] b = begins_itself b.payload
all_payload (s ∷ ss) b = begins_longer b.payload (b.payload ++ s.values.bytes) (says_all ss (said s b)).payload (s.values.bytes, refl) (all_payload ss (said s b))

-- the lines that sayings make
abbrev pub made : List Saying → Body → List SceneLine
made [] b = []
made (s ∷ ss) b = line_of s b ∷ made ss (said s b)

pub all_lines : (ss : List Saying) (b : Body) → (says_all ss b).lines ≡ b.lines ++ made ss b
all_lines [] b = sym (append-nil b.lines)
all_lines (s ∷ ss) b = all_lines ss (said s b) ∙ append_assoc b.lines (line_of s b ∷ []) (made ss (said s b))

pub within_before : (ss : List Saying) (b : Body) → IsWithin (says_all ss b) → IsWithin b
within_before ss b h =
    let names = begins_length b.names (says_all ss b).names (all_names ss b) in
    let payload = begins_length b.payload (says_all ss b).payload (all_payload ss b) in
    let lines = ap length (all_lines ss b) ∙ length-append b.lines (made ss b) in
    let few = h.names in
    let short = h.lines in
    let small = h.payload in
    record { names = omega arith; lines = omega arith; payload = omega arith }
