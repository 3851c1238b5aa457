-- How a scene is printed.
-- A reader learns here the one spelling of a scene: all its settings in their order, then its lines.
use Rattle.std.specs.Prelude.{ℕ, ◌/◌, ◌%◌, Bool, false, List, [], ◌∷◌, ◌++◌, codes, map, String, string_bytes, slice_index_or, if◌then◌else◌}
use Rattle.std.specs.List.{flat_map}
use Rattle.std.specs.Fmt.{decimal}
use Rattle.smc_num.specs.declared.Side.{Side}
use Rattle.smc_num.specs.declared.Side.TheVariants.{A, B}
use Rattle.smc_num.specs.Names.{at_side}
use Rattle.pipe_model.specs.declared.setup.Setup.{Setup}
use Rattle.pipe_model.specs.declared.setup.Room.{Room}
use Rattle.scene_text.specs.declared.print.SettingLine.{SettingLine}
use Rattle.scene_text.specs.declared.print.SettingLine.TheVariants.{OfSide, OfBoth}
use Rattle.scene_text.specs.declared.scenes.SceneLine.{SceneLine}
use Rattle.scene_text.specs.declared.scenes.SceneWhat.{SceneWhat}
use Rattle.scene_text.specs.declared.scenes.SceneWhat.TheVariants.{One, Pump}
use Rattle.scene_text.specs.declared.settings.SideSetting.{SideSetting}
use Rattle.scene_text.specs.declared.settings.SideSetting.TheVariants.{Capable, Subnet, Rmbs, Elements}
use Rattle.scene_text.specs.declared.settings.SharedSetting.{SharedSetting}
use Rattle.scene_text.specs.declared.settings.SharedSetting.TheVariants.{Size, Depth, Number, Entries, Bytes}
use Rattle.scene_text.specs.Spelling.{side_text, event_text}
use Rattle.scene_text.specs.Scenes.{PlainScene}

-- names by their bytes
abbrev pub names_of : {A : Type 0} → List (String A) → List (List ℕ)
names_of names = map string_bytes names

abbrev pub answer_text : Bool → List ℕ
answer_text yes_said = if yes_said then codes "yes" else codes "no"

-- an address: its four bytes, the highest first, with points between them
abbrev pub address_text : ℕ → List ℕ
address_text n = decimal (n / 256 / 256 / 256) ++ (codes "." ++ (decimal (n / 256 / 256 % 256) ++ (codes "." ++ (decimal (n / 256 % 256) ++ (codes "." ++ decimal (n % 256))))))

-- a subnet: its address, a slash and the length of its prefix
abbrev pub subnet_text : ℕ × ℕ → List ℕ
subnet_text net = address_text net.0 ++ (codes "/" ++ decimal net.1)

-- the names of the settings
abbrev pub side_word : SideSetting → List ℕ
side_word Capable = codes "capable"
side_word Subnet = codes "subnet"
side_word Rmbs = codes "rmbs"
side_word Elements = codes "elements"

abbrev pub shared_word : SharedSetting → List ℕ
shared_word Size = codes "size"
shared_word Depth = codes "depth"
shared_word Number = codes "number"
shared_word Entries = codes "entries"
shared_word Bytes = codes "bytes"

-- the part of a pair that is a side's
abbrev pub part_of : {X : Type 0} → X → List X → Side → X
part_of default pair x = at_side x (slice_index_or pair 0 default) (slice_index_or pair 1 default)

-- what a setting of a side is set to, as a word
abbrev pub side_value_text : SideSetting → Side → Setup → List ℕ
side_value_text Capable x setup = answer_text (part_of false setup.capable x)
side_value_text Subnet x setup = subnet_text (part_of (0, 0) setup.subnet x)
side_value_text Rmbs x setup = decimal (part_of 0 setup.rmbs x)
side_value_text Elements x setup = decimal (part_of 0 setup.elements x)

-- the same of a setting that both sides have in common
abbrev pub shared_value_text : SharedSetting → Setup → Room → List ℕ
shared_value_text Size setup room = decimal setup.size_code
shared_value_text Depth setup room = decimal setup.depth
shared_value_text Number setup room = decimal setup.number
shared_value_text Entries setup room = decimal room.entries
shared_value_text Bytes setup room = decimal room.bytes

-- the line that sets a setting of a side
abbrev pub side_line : SideSetting → Side → Setup → List ℕ
side_line setting x setup = codes "set " ++ (side_word setting ++ (codes " " ++ (side_text x ++ (codes " " ++ side_value_text setting x setup))))

-- the line that sets a setting that both sides have in common
abbrev pub shared_line : SharedSetting → Setup → Room → List ℕ
shared_line setting setup room = codes "set " ++ (shared_word setting ++ (codes " " ++ shared_value_text setting setup room))

-- the line of a setting
abbrev pub setting_line : Setup → Room → SettingLine → List ℕ
setting_line setup room (OfSide setting x) = side_line setting x setup
setting_line setup room (OfBoth setting) = shared_line setting setup room

-- all settings in their order, A's before B's; there is none of the slots, whose word is not built
abbrev pub all_settings : List SettingLine
all_settings =
    OfSide Capable A ∷ OfSide Capable B ∷ OfSide Subnet A ∷ OfSide Subnet B ∷ OfBoth Size ∷ OfSide Rmbs A ∷ OfSide Rmbs B
    ∷ OfSide Elements A ∷ OfSide Elements B ∷ OfBoth Depth ∷ OfBoth Number ∷ OfBoth Entries ∷ OfBoth Bytes ∷ []

-- what is done at a line, in its one spelling
abbrev pub what_line : List (List ℕ) → List ℕ → SceneWhat → List ℕ
what_line names payload (One event) = event_text names payload event
what_line names payload (Pump count) = codes "pump " ++ decimal count

-- a line with its line feed
abbrev pub ended_line : List ℕ → List ℕ
ended_line line = line ++ codes "\n"

-- these settings, line by line
abbrev pub settings_text : Setup → Room → List SettingLine → List ℕ
settings_text setup room settings = flat_map (λ setting. ended_line (setting_line setup room setting)) settings

-- what is done, line by line
abbrev pub lines_text : List (List ℕ) → List ℕ → List SceneLine → List ℕ
lines_text names payload lines = flat_map (λ line. ended_line (what_line names payload line.what)) lines

-- the text of a scene: all its settings, then what is done
abbrev pub scene_text_of : PlainScene → List ℕ
scene_text_of scene = settings_text scene.setup scene.room all_settings ++ lines_text scene.names scene.payload scene.lines
