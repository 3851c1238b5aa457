-- The settings of a scene.
-- A reader learns here how a setting is named, what it may be set to, and that it is set at most once and before all else.
use Rattle.std.specs.Prelude.{ℕ, ◌==◌, false, List, [], ◌∷◌, ◌++◌, length, codes, slice_index_or, Result, Ok, Err, if◌then◌else◌}
use Rattle.std.specs.List.{list_any}
use Rattle.std.specs.Str.{bytes_eq}
use Rattle.smc_num.specs.declared.Side.{Side}
use Rattle.smc_num.specs.declared.Side.TheVariants.{A, B}
use Rattle.smc_num.specs.Names.{at_side}
use Rattle.pipe_model.specs.declared.setup.Setup.{Setup}
use Rattle.pipe_model.specs.declared.setup.Room.{Room}
use Rattle.scene_text.specs.declared.faults.LineKind.{LineKind}
use Rattle.scene_text.specs.declared.faults.LineKind.TheVariants as kinds
use Rattle.scene_text.specs.declared.faults.LineFault.{LineFault}
use Rattle.scene_text.specs.declared.faults.LineFault.TheVariants.{Bad}
use Rattle.scene_text.specs.declared.limits.TheConstants.{MOST_SIZE_CODE, MOST_RMBS, MOST_ELEMENTS, MOST_DEPTH, MOST_NUMBER, MOST_ENTRIES, MOST_BYTES}
use Rattle.scene_text.specs.declared.settings.SideSetting.{SideSetting}
use Rattle.scene_text.specs.declared.settings.SideSetting.TheVariants.{Capable, Subnet, Rmbs, Elements}
use Rattle.scene_text.specs.declared.settings.SharedSetting.{SharedSetting}
use Rattle.scene_text.specs.declared.settings.SharedSetting.TheVariants.{Size, Depth, Number, Entries, Bytes}
use Rattle.scene_text.specs.declared.settings.SettingName.{SettingName}
use Rattle.scene_text.specs.declared.settings.SettingName.TheVariants.{OfSide, OfBoth}
use Rattle.scene_text.specs.declared.settings.Draft.{Draft}
use Rattle.scene_text.specs.Words.{◌>>=◌, side_in, answer_of, number_in, subnet_of}
use Rattle.scene_text.specs.Scenes.{PlainScene, plain, empty_scene}

-- the setting of this name
abbrev pub setting_named : List ℕ → Result SettingName LineKind
setting_named word =
    if bytes_eq word (codes "capable") then Ok (OfSide Capable)
    else if bytes_eq word (codes "subnet") then Ok (OfSide Subnet)
    else if bytes_eq word (codes "size") then Ok (OfBoth Size)
    else if bytes_eq word (codes "rmbs") then Ok (OfSide Rmbs)
    else if bytes_eq word (codes "elements") then Ok (OfSide Elements)
    else if bytes_eq word (codes "depth") then Ok (OfBoth Depth)
    else if bytes_eq word (codes "number") then Ok (OfBoth Number)
    else if bytes_eq word (codes "entries") then Ok (OfBoth Entries)
    else if bytes_eq word (codes "bytes") then Ok (OfBoth Bytes)
    else Err kinds.Word

-- the places of the settings among all that can be set
abbrev pub side_place : SideSetting → Side → ℕ
side_place Capable x = at_side x 0 1
side_place Subnet x = at_side x 2 3
side_place Rmbs x = at_side x 4 5
side_place Elements x = at_side x 6 7

abbrev pub shared_place : SharedSetting → ℕ
shared_place Size = 8
shared_place Depth = 9
shared_place Number = 10
shared_place Entries = 11
shared_place Bytes = 12

-- a pair of A's value and B's with another value at a side; the default is never seen
abbrev pub pair_with : {X : Type 0} → X → Side → X → List X → List X
pair_with default A value pair = value ∷ slice_index_or pair 1 default ∷ []
pair_with default B value pair = slice_index_or pair 0 default ∷ value ∷ []

-- a scene of another setup, of another room
abbrev pub with_setup : Setup → PlainScene → PlainScene
with_setup setup scene = record scene { setup = setup }

abbrev pub with_room : Room → PlainScene → PlainScene
with_room room scene = record scene { room = room }

-- a scene in which a setting of a side is set to what a word says
abbrev pub side_value : SideSetting → Side → List ℕ → PlainScene → Result PlainScene LineKind
side_value Capable x word scene = answer_of word >>= λ yes. Ok (with_setup (record scene.setup { capable = pair_with false x yes scene.setup.capable }) scene)
side_value Subnet x word scene = subnet_of word >>= λ net. Ok (with_setup (record scene.setup { subnet = pair_with (0, 0) x net scene.setup.subnet }) scene)
side_value Rmbs x word scene = number_in 1 MOST_RMBS word >>= λ n. Ok (with_setup (record scene.setup { rmbs = pair_with 0 x n scene.setup.rmbs }) scene)
side_value Elements x word scene = number_in 1 MOST_ELEMENTS word >>= λ n. Ok (with_setup (record scene.setup { elements = pair_with 0 x n scene.setup.elements }) scene)

-- the same of a setting that both sides have in common
abbrev pub shared_value : SharedSetting → List ℕ → PlainScene → Result PlainScene LineKind
shared_value Size word scene = number_in 0 MOST_SIZE_CODE word >>= λ n. Ok (with_setup (record scene.setup { size_code = n }) scene)
shared_value Depth word scene = number_in 1 MOST_DEPTH word >>= λ n. Ok (with_setup (record scene.setup { depth = n }) scene)
shared_value Number word scene = number_in 1 MOST_NUMBER word >>= λ n. Ok (with_setup (record scene.setup { number = n }) scene)
shared_value Entries word scene = number_in 1 MOST_ENTRIES word >>= λ n. Ok (with_room (record scene.room { entries = n }) scene)
shared_value Bytes word scene = number_in 1 MOST_BYTES word >>= λ n. Ok (with_room (record scene.room { bytes = n }) scene)

-- a scene of which more is read: what the lines so far say, and the places of the settings that were named
pub record PlainDraft : Type 0 where
  pub scene : PlainScene
  pub named : List ℕ

-- what the definitions see of a draft
abbrev pub plain_draft : Draft → PlainDraft
plain_draft draft = record { scene = plain draft.scene; named = draft.named.items }

-- the draft of a text without lines
abbrev pub empty_draft : PlainDraft
empty_draft = record { scene = empty_scene; named = [] }

-- a fault of words is one of their line
abbrev pub or_bad : {X : Type 0} → Result X LineKind → Result X LineFault
or_bad (Ok x) = Ok x
or_bad (Err kind) = Err (Bad kind)

-- a draft that goes on with this scene
abbrev pub with_scene : PlainDraft → Result PlainScene LineFault → Result PlainDraft LineFault
with_scene draft (Ok scene) = Ok (record draft { scene = scene })
with_scene draft (Err fault) = Err fault

-- settings stand before all other lines
abbrev pub before_lines : PlainDraft → Result (Unit {0}) LineFault
before_lines draft = if length draft.scene.lines == 0 then Ok tt else Err (Bad kinds.Order)

-- each is named at most once
abbrev pub named_once : ℕ → PlainDraft → Result PlainDraft LineFault
named_once place draft = if list_any (λ p. p == place) draft.named then Err (Bad kinds.Again) else Ok (record draft { named = draft.named ++ place ∷ [] })

-- `set SETTING SIDE VALUE`
abbrev pub side_row : SideSetting → List ℕ → List ℕ → PlainDraft → Result PlainDraft LineFault
side_row setting side value draft = do
  front ← before_lines draft
  x ← or_bad (side_in side)
  draft ← named_once (side_place setting x) draft
  with_scene draft (or_bad (side_value setting x value draft.scene))

-- `set SETTING VALUE`
abbrev pub shared_row : SharedSetting → List ℕ → PlainDraft → Result PlainDraft LineFault
shared_row setting value draft = do
  front ← before_lines draft
  draft ← named_once (shared_place setting) draft
  with_scene draft (or_bad (shared_value setting value draft.scene))

-- what the words behind a setting's name make of a draft
abbrev pub set_row : SettingName → List (List ℕ) → PlainDraft → Result PlainDraft LineFault
set_row (OfSide setting) (side ∷ value ∷ []) draft = side_row setting side value draft
set_row (OfBoth setting) (value ∷ []) draft = shared_row setting value draft
set_row _ _ draft = Err (Bad kinds.Count)

-- what the words behind `set` make of it
abbrev pub set_said : List (List ℕ) → PlainDraft → Result PlainDraft LineFault
set_said [] draft = Err (Bad kinds.Count)
set_said (word ∷ words) draft = or_bad (setting_named word) >>= λ setting. set_row setting words draft
