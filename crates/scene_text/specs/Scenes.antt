-- What a scene is, and what its lines do to it.
-- A reader learns here how names are numbered, where the bytes of a write lie, and what a scene may hold.
use Rattle.std.specs.Prelude.{◌≡◌, ℕ, ◌-◌, ◌^◌, ◌%◌, ◌≤◌, max, nat_lt, List, [], ◌∷◌, ◌++◌, length, map, Option, Some, None, Result, Ok, Err, String, string_bytes, slice_index_or, if◌then◌else◌}
use Rattle.std.specs.List.{position_or_len, All}
use Rattle.std.specs.Str.{bytes_eq}
use Rattle.indexmap.specs.IndexMap.{IndexMap, keys}
use Rattle.smc_num.specs.declared.Side.{Side}
use Rattle.smc_num.specs.Names.{at_side}
use Rattle.pipe_model.specs.declared.setup.Setup.{Setup}
use Rattle.pipe_model.specs.declared.setup.Room.{Room}
use Rattle.pipe_model.specs.Settings.{default_setup, default_room}
use Rattle.pipe_model.specs.Words.{rmbs_of, elements_of}
use Rattle.pipe_model.specs.Fits.{Fits}
use Rattle.scene_text.specs.declared.faults.LineFault.{LineFault}
use Rattle.scene_text.specs.declared.faults.LineFault.TheVariants.{NoMemory, Bad, Passes}
use Rattle.scene_text.specs.declared.limits.TheConstants.{MOST_NAMES, MOST_EVENT_LINES, MOST_PAYLOAD_BYTES, MOST_PUMP_STEPS, MOST_PREFIX_BITS, MOST_SIZE_CODE, MOST_RMBS, MOST_ELEMENTS, MOST_DEPTH, MOST_NUMBER, MOST_ENTRIES, MOST_BYTES}
use Rattle.scene_text.specs.declared.scenes.SceneWhat.{SceneWhat}
use Rattle.scene_text.specs.declared.scenes.SceneWhat.TheVariants.{One, Pump}
use Rattle.scene_text.specs.declared.scenes.SceneLine.{SceneLine}
use Rattle.scene_text.specs.declared.scenes.Scene.{Scene}

-- a scene as plain values
pub record PlainScene : Type 0 where
  pub setup : Setup
  pub room : Room
  pub names : List (List ℕ)
  pub actors : List (List ℕ)
  pub lines : List SceneLine
  pub payload : List ℕ

-- the names that a map holds, in their order
abbrev pub names_in : {A H : Type 0} → IndexMap (String A) (Unit {0}) H → List (List ℕ)
names_in names = map string_bytes (keys names)

-- what the definitions see of a scene
abbrev pub plain : Scene → PlainScene
plain scene = record {
  setup = scene.setup;
  room = scene.room;
  names = names_in scene.names;
  actors = map string_bytes scene.actors.items;
  lines = scene.lines.items;
  payload = scene.payload.items;
}

-- the setup of a scene that sets nothing: the default one, but with the one slot and the one RMB a side that are built. It goes as
-- more is built
abbrev pub built_setup : Setup
built_setup = record default_setup { links = 1; rmbs = 1 ∷ 1 ∷ [] }

-- the scene of a text without lines
abbrev pub empty_scene : PlainScene
empty_scene = record { setup = built_setup; room = default_room; names = []; actors = []; lines = []; payload = [] }

-- the number of a socket: where its name stands, or where it goes
abbrev pub socket_of : List (List ℕ) → List ℕ → ℕ
socket_of names name = position_or_len (bytes_eq name) names

-- the names in the order of their first mention, this one among them
abbrev pub mentioned : List (List ℕ) → List ℕ → List (List ℕ)
mentioned names name = if nat_lt (socket_of names name) (length names) then names else names ++ name ∷ []

-- a scene that mentions a name
abbrev pub with_name : List ℕ → PlainScene → PlainScene
with_name name scene = record scene { names = mentioned scene.names name }

-- as many sockets as names, but at least one
abbrev pub with_sockets : PlainScene → PlainScene
with_sockets scene = record scene { setup = record scene.setup { sockets = max 1 (length scene.names) } }

-- the first limit that so many names, event lines and payload bytes pass
abbrev pub limit_passed : ℕ → ℕ → ℕ → Option ℕ
limit_passed names lines bytes = if nat_lt MOST_NAMES names then Some MOST_NAMES else if nat_lt MOST_EVENT_LINES lines then Some MOST_EVENT_LINES else if nat_lt MOST_PAYLOAD_BYTES bytes then Some MOST_PAYLOAD_BYTES else None

-- the value where no limit is passed
abbrev pub unless_passed : {X : Type 0} → Option ℕ → X → Result X LineFault
unless_passed None x = Ok x
unless_passed (Some limit) x = Err (Passes limit)

-- a scene, unless it passes a limit
abbrev pub within_limits : PlainScene → Result PlainScene LineFault
within_limits scene = unless_passed (limit_passed (length scene.names) (length scene.lines) (length scene.payload)) scene

-- what was made is what is to be made, unless memory ran out
abbrev pub Makes : {X Y : Type 0} → Result X LineFault → Y → Result Y LineFault → Type 0
Makes (Ok x) made wanted = wanted ≡ Ok made
Makes (Err NoMemory) made wanted = Unit {0}
Makes (Err (Bad kind)) made wanted = wanted ≡ Err (Bad kind)
Makes (Err (Passes limit)) made wanted = wanted ≡ Err (Passes limit)

-- no limit is passed
pub record IsWithinLimits (scene : PlainScene) : Type 0 where
  pub names : length scene.names ≤ MOST_NAMES
  pub lines : length scene.lines ≤ MOST_EVENT_LINES
  pub payload : length scene.payload ≤ MOST_PAYLOAD_BYTES

-- what a world of this setup takes at a line, where the payload has so many bytes
abbrev pub WhatFits : Setup → ℕ → SceneWhat → Type 0
WhatFits setup bytes (One event) = Fits setup bytes event
WhatFits setup bytes (Pump count) = (1 ≤ count) × (count ≤ MOST_PUMP_STEPS)

-- the same of the line
abbrev pub LineFits : Setup → ℕ → SceneLine → Type 0
LineFits setup bytes line = WhatFits setup bytes line.what

-- a subnet: no bit is set behind the prefix
abbrev pub IsSubnet : ℕ × ℕ → Type 0
IsSubnet net = (net.1 ≤ MOST_PREFIX_BITS) × (net.0 % 2 ^ (MOST_PREFIX_BITS - net.1) ≡ 0)

-- the subnet of a side
abbrev pub subnet_at : Setup → Side → ℕ × ℕ
subnet_at setup x = at_side x (slice_index_or setup.subnet 0 (0, 0)) (slice_index_or setup.subnet 1 (0, 0))

-- each setting is in its range
pub record IsInRange (setup : Setup) (room : Room) : Type 0 where
  pub subnet : (x : Side) → IsSubnet (subnet_at setup x)
  pub links : setup.links ≡ 1
  pub size : setup.size_code ≤ MOST_SIZE_CODE
  pub rmbs : (x : Side) → (1 ≤ rmbs_of setup x) × (rmbs_of setup x ≤ MOST_RMBS)
  pub elements : (x : Side) → (1 ≤ elements_of setup x) × (elements_of setup x ≤ MOST_ELEMENTS)
  pub depth : (1 ≤ setup.depth) × (setup.depth ≤ MOST_DEPTH)
  pub number : (1 ≤ setup.number) × (setup.number ≤ MOST_NUMBER)
  pub sockets : (1 ≤ setup.sockets) × (setup.sockets ≤ MOST_NAMES)
  pub entries : (1 ≤ room.entries) × (room.entries ≤ MOST_ENTRIES)
  pub bytes : (1 ≤ room.bytes) × (room.bytes ≤ MOST_BYTES)

-- A scene that a world takes: each setting is in its range, there is a socket for each name, and each
-- line fits the setup.
pub record IsSound (scene : PlainScene) : Type 0 where
  pub limits : IsWithinLimits scene
  pub settings : IsInRange scene.setup scene.room
  pub sockets : length scene.names ≤ scene.setup.sockets
  pub lines : All (LineFits scene.setup (length scene.payload)) scene.lines
