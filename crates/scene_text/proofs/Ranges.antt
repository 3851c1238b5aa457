-- A setting that is set stays in its range, and nothing else changes.
use Rattle.std.proofs.Common.{◌≡◌, ℕ, ◌+◌, ◌*◌, ◌-◌, ◌^◌, ◌%◌, ◌<◌, ◌≤◌, Bool, true, false, List, [], ◌∷◌, Result, Ok, Err, cond, refl, ap, sym, subst, arith}
use Rattle.std.specs.Prelude.{not, nat_le, ◌==◌, ◌&&◌, slice_index_or}
use Rattle.std.proofs.lemmas.Bool.{eqb-true, leb-true, and_parts}
use Rattle.smc_num.specs.declared.Side.{Side}
use Rattle.smc_num.specs.declared.Side.TheVariants.{A, B}
use Rattle.smc_num.specs.Names.{at_side}
use Rattle.pipe_model.specs.declared.setup.Setup.{Setup}
use Rattle.pipe_model.specs.declared.setup.Room.{Room}
use Rattle.scene_text.specs.declared.faults.LineKind.{LineKind}
use Rattle.scene_text.specs.declared.faults.LineKind.TheVariants as kinds
use Rattle.scene_text.specs.declared.faults.LineFault.{LineFault}
use Rattle.scene_text.specs.declared.faults.LineFault.TheVariants.{Bad}
use Rattle.scene_text.specs.declared.limits.TheConstants.{MOST_PREFIX_BITS, MOST_SIZE_CODE, MOST_RMBS, MOST_ELEMENTS, MOST_DEPTH, MOST_NUMBER, MOST_ENTRIES, MOST_BYTES}
use Rattle.scene_text.specs.declared.settings.SideSetting.{SideSetting}
use Rattle.scene_text.specs.declared.settings.SideSetting.TheVariants as sides
use Rattle.scene_text.specs.declared.settings.SharedSetting.{SharedSetting}
use Rattle.scene_text.specs.declared.settings.SharedSetting.TheVariants as shared
use Rattle.scene_text.specs.declared.settings.SettingName.{SettingName}
use Rattle.scene_text.specs.declared.settings.SettingName.TheVariants.{OfSide, OfBoth}
use Rattle.scene_text.specs.Words.{◌>>=◌, number_of, number_in, side_in, answer_of, as_subnet, address_with, address_in, address_of, has_host_bits, subnet_with, subnet_in, subnet_of, parts, point, slash}
use Rattle.scene_text.specs.Scenes.{PlainScene, IsSubnet, subnet_at, IsInRange}
use Rattle.scene_text.specs.Settings.{setting_named, side_place, shared_place, pair_with, with_setup, with_room, side_value, shared_value, PlainDraft, or_bad, with_scene, before_lines, named_once, set_row, set_said}

pub bind_ok : {E X Y : Type 0} (r : Result X E) (f : X → Result Y E) (y : Y) → (r >>= f) ≡ Ok y → (x : X) × (r ≡ Ok x) × (f x ≡ Ok y)
bind_ok (Ok x) f y e = (x, refl, e)
bind_ok (Err d) f y e = cc

pub chosen : {E X : Type 0} (b : Bool) (x y : X) (e : E) → cond b (Ok x) (Err e) ≡ Ok y → (b ≡ true) × (x ≡ y)
chosen true x y e h = (refl, cc)
chosen false x y e h = cc

not_refused : {E X : Type 0} (b : Bool) (x y : X) (e : E) → cond (not b) (Err e) (Ok x) ≡ Ok y → (b ≡ true) × (x ≡ y)
not_refused true x y e h = (refl, cc)
not_refused false x y e h = cc

pub number_in_range : (least most : ℕ) (word : List ℕ) (n : ℕ) → number_in least most word ≡ Ok n → (least ≤ n) × (n ≤ most)
number_in_range least most word n e =
    let read = bind_ok (number_of word) (λ m. cond (nat_le least m && nat_le m most) (Ok m) (Err kinds.Range)) n e in
    let within = chosen _ _ _ _ read.2 in
    let both = and_parts _ _ within.0 in
    let low : least ≤ read.0 = leb-true _ _ both.0 in
    let high : read.0 ≤ most = leb-true _ _ both.1 in
    (omega arith, omega arith)

as_subnet_ok : (read : Result ℕ LineKind) (n : ℕ) → as_subnet read ≡ Ok n → read ≡ Ok n
as_subnet_ok (Ok m) n e = e
as_subnet_ok (Err kind) n e = cc

subnet_with_ok : (address prefix : List ℕ) (net : ℕ × ℕ) → subnet_with address prefix ≡ Ok net → IsSubnet net
subnet_with_ok address prefix net e =
    let first = bind_ok (address_of address) (λ n. as_subnet (number_in 0 MOST_PREFIX_BITS prefix) >>= λ p. cond (has_host_bits n p) (Err kinds.Subnet) (Ok (n, p))) net e in
    let second = bind_ok (as_subnet (number_in 0 MOST_PREFIX_BITS prefix)) (λ p. cond (has_host_bits first.0 p) (Err kinds.Subnet) (Ok (first.0, p))) net first.2 in
    let few = number_in_range 0 MOST_PREFIX_BITS prefix second.0 (as_subnet_ok _ _ second.1) in
    let whole = not_refused (first.0 % 2 ^ (MOST_PREFIX_BITS - second.0) == 0) (first.0, second.0) net kinds.Subnet second.2 in
    subst IsSubnet whole.1 (few.1, eqb-true _ _ whole.0)

subnet_in_ok : (found : List (List ℕ)) (net : ℕ × ℕ) → subnet_in found ≡ Ok net → IsSubnet net
subnet_in_ok [] net e = cc
subnet_in_ok (address ∷ []) net e = cc
subnet_in_ok (address ∷ prefix ∷ []) net e = subnet_with_ok address prefix net e
subnet_in_ok (address ∷ prefix ∷ other ∷ more) net e = cc

subnet_ok : (word : List ℕ) (net : ℕ × ℕ) → subnet_of word ≡ Ok net → IsSubnet net
subnet_ok word net e = subnet_in_ok (parts slash word) net e

module _ (most : ℕ) where
  part_low : (word : List ℕ) (n : ℕ) → as_subnet (number_in 0 most word) ≡ Ok n → n ≤ most
  part_low word n e = (number_in_range 0 most word n (as_subnet_ok _ _ e)).1

address_with_low : (a b c d : List ℕ) (n : ℕ) → address_with a b c d ≡ Ok n → n < 4294967296
address_with_low a b c d n e =
    let first = bind_ok (as_subnet (number_in 0 255 a)) (λ a. as_subnet (number_in 0 255 b) >>= λ b. as_subnet (number_in 0 255 c) >>= λ c. as_subnet (number_in 0 255 d) >>= λ d. Ok (((a * 256 + b) * 256 + c) * 256 + d)) n e in
    let second = bind_ok (as_subnet (number_in 0 255 b)) (λ b. as_subnet (number_in 0 255 c) >>= λ c. as_subnet (number_in 0 255 d) >>= λ d. Ok (((first.0 * 256 + b) * 256 + c) * 256 + d)) n first.2 in
    let third = bind_ok (as_subnet (number_in 0 255 c)) (λ c. as_subnet (number_in 0 255 d) >>= λ d. Ok (((first.0 * 256 + second.0) * 256 + c) * 256 + d)) n second.2 in
    let fourth = bind_ok (as_subnet (number_in 0 255 d)) (λ d. let made : Result ℕ LineKind = Ok (((first.0 * 256 + second.0) * 256 + third.0) * 256 + d) in made) n third.2 in
    let w = part_low 255 a first.0 first.1 in
    let x = part_low 255 b second.0 second.1 in
    let y = part_low 255 c third.0 third.1 in
    let z = part_low 255 d fourth.0 fourth.1 in
    let whole : ((first.0 * 256 + second.0) * 256 + third.0) * 256 + fourth.0 ≡ n = cc in
    omega arith

address_in_low : (found : List (List ℕ)) (n : ℕ) → address_in found ≡ Ok n → n < 4294967296
address_in_low [] n e = cc
address_in_low (a ∷ []) n e = cc
address_in_low (a ∷ b ∷ []) n e = cc
address_in_low (a ∷ b ∷ c ∷ []) n e = cc
address_in_low (a ∷ b ∷ c ∷ d ∷ []) n e = address_with_low a b c d n e
address_in_low (a ∷ b ∷ c ∷ d ∷ other ∷ more) n e = cc

subnet_with_low : (address prefix : List ℕ) (net : ℕ × ℕ) → subnet_with address prefix ≡ Ok net → net.0 < 4294967296
subnet_with_low address prefix net e =
    let first = bind_ok (address_of address) (λ n. as_subnet (number_in 0 MOST_PREFIX_BITS prefix) >>= λ p. cond (has_host_bits n p) (Err kinds.Subnet) (Ok (n, p))) net e in
    let second = bind_ok (as_subnet (number_in 0 MOST_PREFIX_BITS prefix)) (λ p. cond (has_host_bits first.0 p) (Err kinds.Subnet) (Ok (first.0, p))) net first.2 in
    let whole = not_refused (first.0 % 2 ^ (MOST_PREFIX_BITS - second.0) == 0) (first.0, second.0) net kinds.Subnet second.2 in
    subst (λ (net : ℕ × ℕ). net.0 < 4294967296) whole.1 (address_in_low (parts point address) first.0 first.1)

subnet_in_low : (found : List (List ℕ)) (net : ℕ × ℕ) → subnet_in found ≡ Ok net → net.0 < 4294967296
subnet_in_low [] net e = cc
subnet_in_low (address ∷ []) net e = cc
subnet_in_low (address ∷ prefix ∷ []) net e = subnet_with_low address prefix net e
subnet_in_low (address ∷ prefix ∷ other ∷ more) net e = cc

subnet_low : (word : List ℕ) (net : ℕ × ℕ) → subnet_of word ≡ Ok net → net.0 < 4294967296
subnet_low word net e = subnet_in_low (parts slash word) net e

-- what is true of each side's value stays so where another such value is set
module _ {X : Type 0} (P : X → Type 0) (default value : X) (pair : List X) (good : P value) (each : (x : Side) → P (at_side x (slice_index_or pair 0 default) (slice_index_or pair 1 default))) where
  pair_keeps : (at x : Side) → P (at_side x (slice_index_or (pair_with default at value pair) 0 default) (slice_index_or (pair_with default at value pair) 1 default))
  pair_keeps A A = good
  pair_keeps A B = each B
  pair_keeps B A = each A
  pair_keeps B B = good

module _ {X : Type 0} (default : X) where
  -- a list of two values, A's and B's
  abbrev pub IsPair : List X → Type 0
  IsPair pair = pair ≡ slice_index_or pair 0 default ∷ slice_index_or pair 1 default ∷ []

  pair_with_is : (at : Side) (value : X) (pair : List X) → IsPair (pair_with default at value pair)
  pair_with_is A value pair = refl
  pair_with_is B value pair = refl

-- what of a setup is not said by the range of a setting: the pairs have two values, an address has 32 bits, and there is one slot
pub record IsFormed (setup : Setup) : Type 0 where
  pub capable : IsPair false setup.capable
  pub subnet : IsPair (0, 0) setup.subnet
  pub rmbs : IsPair 0 setup.rmbs
  pub elements : IsPair 0 setup.elements
  pub addresses : (x : Side) → (subnet_at setup x).0 < 4294967296
  pub links : setup.links ≡ 1

-- a scene with other settings, which are in their ranges as those before were
pub record Changes (scene after : PlainScene) : Type 0 where
  pub setup : Setup
  pub room : Room
  pub same : record scene { setup = setup; room = room } ≡ after
  pub ranged : IsInRange scene.setup scene.room → IsInRange setup room
  pub formed : IsFormed scene.setup → IsFormed setup

side_changes : (setting : SideSetting) (at : Side) (word : List ℕ) (scene after : PlainScene) → side_value setting at word scene ≡ Ok after → Changes scene after
side_changes sides.Capable at word scene after e =
    let read = bind_ok (answer_of word) (λ yes. Ok (with_setup (record scene.setup { capable = pair_with false at yes scene.setup.capable }) scene)) after e in
    let same : with_setup (record scene.setup { capable = pair_with false at read.0 scene.setup.capable }) scene ≡ after = cc in
    record { setup = record scene.setup { capable = pair_with false at read.0 scene.setup.capable }; room = scene.room; same = same; ranged = λ h. record { subnet = h.subnet; links = h.links; size = h.size; rmbs = h.rmbs; elements = h.elements; depth = h.depth; number = h.number; sockets = h.sockets; entries = h.entries; bytes = h.bytes }; formed = λ h. record { capable = pair_with_is false at read.0 scene.setup.capable; subnet = h.subnet; rmbs = h.rmbs; elements = h.elements; addresses = h.addresses; links = h.links } }
side_changes sides.Subnet at word scene after e =
    let read = bind_ok (subnet_of word) (λ net. Ok (with_setup (record scene.setup { subnet = pair_with (0, 0) at net scene.setup.subnet }) scene)) after e in
    let same : with_setup (record scene.setup { subnet = pair_with (0, 0) at read.0 scene.setup.subnet }) scene ≡ after = cc in
    record { setup = record scene.setup { subnet = pair_with (0, 0) at read.0 scene.setup.subnet }; room = scene.room; same = same; ranged = λ h. record { subnet = pair_keeps IsSubnet (0, 0) read.0 scene.setup.subnet (subnet_ok word read.0 read.1) h.subnet at; links = h.links; size = h.size; rmbs = h.rmbs; elements = h.elements; depth = h.depth; number = h.number; sockets = h.sockets; entries = h.entries; bytes = h.bytes }; formed = λ h. record { capable = h.capable; subnet = pair_with_is (0, 0) at read.0 scene.setup.subnet; rmbs = h.rmbs; elements = h.elements; addresses = pair_keeps (λ (net : ℕ × ℕ). net.0 < 4294967296) (0, 0) read.0 scene.setup.subnet (subnet_low word read.0 read.1) h.addresses at; links = h.links } }
side_changes sides.Rmbs at word scene after e =
    let read = bind_ok (number_in 1 MOST_RMBS word) (λ n. Ok (with_setup (record scene.setup { rmbs = pair_with 0 at n scene.setup.rmbs }) scene)) after e in
    let same : with_setup (record scene.setup { rmbs = pair_with 0 at read.0 scene.setup.rmbs }) scene ≡ after = cc in
    record { setup = record scene.setup { rmbs = pair_with 0 at read.0 scene.setup.rmbs }; room = scene.room; same = same; ranged = λ h. record { subnet = h.subnet; links = h.links; size = h.size; rmbs = pair_keeps (λ n. (1 ≤ n) × (n ≤ MOST_RMBS)) 0 read.0 scene.setup.rmbs (number_in_range 1 MOST_RMBS word read.0 read.1) h.rmbs at; elements = h.elements; depth = h.depth; number = h.number; sockets = h.sockets; entries = h.entries; bytes = h.bytes }; formed = λ h. record { capable = h.capable; subnet = h.subnet; rmbs = pair_with_is 0 at read.0 scene.setup.rmbs; elements = h.elements; addresses = h.addresses; links = h.links } }
side_changes sides.Elements at word scene after e =
    let read = bind_ok (number_in 1 MOST_ELEMENTS word) (λ n. Ok (with_setup (record scene.setup { elements = pair_with 0 at n scene.setup.elements }) scene)) after e in
    let same : with_setup (record scene.setup { elements = pair_with 0 at read.0 scene.setup.elements }) scene ≡ after = cc in
    record { setup = record scene.setup { elements = pair_with 0 at read.0 scene.setup.elements }; room = scene.room; same = same; ranged = λ h. record { subnet = h.subnet; links = h.links; size = h.size; rmbs = h.rmbs; elements = pair_keeps (λ n. (1 ≤ n) × (n ≤ MOST_ELEMENTS)) 0 read.0 scene.setup.elements (number_in_range 1 MOST_ELEMENTS word read.0 read.1) h.elements at; depth = h.depth; number = h.number; sockets = h.sockets; entries = h.entries; bytes = h.bytes }; formed = λ h. record { capable = h.capable; subnet = h.subnet; rmbs = h.rmbs; elements = pair_with_is 0 at read.0 scene.setup.elements; addresses = h.addresses; links = h.links } }

shared_changes : (setting : SharedSetting) (word : List ℕ) (scene after : PlainScene) → shared_value setting word scene ≡ Ok after → Changes scene after
shared_changes shared.Size word scene after e =
    let read = bind_ok (number_in 0 MOST_SIZE_CODE word) (λ n. Ok (with_setup (record scene.setup { size_code = n }) scene)) after e in
    let same : with_setup (record scene.setup { size_code = read.0 }) scene ≡ after = cc in
    record { setup = record scene.setup { size_code = read.0 }; room = scene.room; same = same; ranged = λ h. record { subnet = h.subnet; links = h.links; size = (number_in_range 0 MOST_SIZE_CODE word read.0 read.1).1; rmbs = h.rmbs; elements = h.elements; depth = h.depth; number = h.number; sockets = h.sockets; entries = h.entries; bytes = h.bytes }; formed = λ h. record { capable = h.capable; subnet = h.subnet; rmbs = h.rmbs; elements = h.elements; addresses = h.addresses; links = h.links } }
shared_changes shared.Depth word scene after e =
    let read = bind_ok (number_in 1 MOST_DEPTH word) (λ n. Ok (with_setup (record scene.setup { depth = n }) scene)) after e in
    let same : with_setup (record scene.setup { depth = read.0 }) scene ≡ after = cc in
    record { setup = record scene.setup { depth = read.0 }; room = scene.room; same = same; ranged = λ h. record { subnet = h.subnet; links = h.links; size = h.size; rmbs = h.rmbs; elements = h.elements; depth = number_in_range 1 MOST_DEPTH word read.0 read.1; number = h.number; sockets = h.sockets; entries = h.entries; bytes = h.bytes }; formed = λ h. record { capable = h.capable; subnet = h.subnet; rmbs = h.rmbs; elements = h.elements; addresses = h.addresses; links = h.links } }
shared_changes shared.Number word scene after e =
    let read = bind_ok (number_in 1 MOST_NUMBER word) (λ n. Ok (with_setup (record scene.setup { number = n }) scene)) after e in
    let same : with_setup (record scene.setup { number = read.0 }) scene ≡ after = cc in
    record { setup = record scene.setup { number = read.0 }; room = scene.room; same = same; ranged = λ h. record { subnet = h.subnet; links = h.links; size = h.size; rmbs = h.rmbs; elements = h.elements; depth = h.depth; number = number_in_range 1 MOST_NUMBER word read.0 read.1; sockets = h.sockets; entries = h.entries; bytes = h.bytes }; formed = λ h. record { capable = h.capable; subnet = h.subnet; rmbs = h.rmbs; elements = h.elements; addresses = h.addresses; links = h.links } }
shared_changes shared.Entries word scene after e =
    let read = bind_ok (number_in 1 MOST_ENTRIES word) (λ n. Ok (with_room (record scene.room { entries = n }) scene)) after e in
    let same : with_room (record scene.room { entries = read.0 }) scene ≡ after = cc in
    record { setup = scene.setup; room = record scene.room { entries = read.0 }; same = same; ranged = λ h. record { subnet = h.subnet; links = h.links; size = h.size; rmbs = h.rmbs; elements = h.elements; depth = h.depth; number = h.number; sockets = h.sockets; entries = number_in_range 1 MOST_ENTRIES word read.0 read.1; bytes = h.bytes }; formed = λ h. record { capable = h.capable; subnet = h.subnet; rmbs = h.rmbs; elements = h.elements; addresses = h.addresses; links = h.links } }
shared_changes shared.Bytes word scene after e =
    let read = bind_ok (number_in 1 MOST_BYTES word) (λ n. Ok (with_room (record scene.room { bytes = n }) scene)) after e in
    let same : with_room (record scene.room { bytes = read.0 }) scene ≡ after = cc in
    record { setup = scene.setup; room = record scene.room { bytes = read.0 }; same = same; ranged = λ h. record { subnet = h.subnet; links = h.links; size = h.size; rmbs = h.rmbs; elements = h.elements; depth = h.depth; number = h.number; sockets = h.sockets; entries = h.entries; bytes = number_in_range 1 MOST_BYTES word read.0 read.1 }; formed = λ h. record { capable = h.capable; subnet = h.subnet; rmbs = h.rmbs; elements = h.elements; addresses = h.addresses; links = h.links } }

or_bad_ok : {X : Type 0} (read : Result X LineKind) (x : X) → or_bad read ≡ Ok x → read ≡ Ok x
or_bad_ok (Ok y) x e = cc
or_bad_ok (Err kind) x e = cc

pub with_scene_ok : (draft : PlainDraft) (made : Result PlainScene LineFault) (after : PlainDraft) → with_scene draft made ≡ Ok after → made ≡ Ok after.scene
with_scene_ok draft (Ok scene) after e = let same : record draft { scene = scene } ≡ after = cc in ap (λ (d : PlainDraft). let made : Result PlainScene LineFault = Ok d.scene in made) same
with_scene_ok draft (Err fault) after e = cc

named_scene : (place : ℕ) (b : Bool) (draft after : PlainDraft) (named : List ℕ) → cond b (Err (Bad kinds.Again)) (Ok (record draft { named = named })) ≡ Ok after → draft.scene ≡ after.scene
named_scene place true draft after named e = cc
named_scene place false draft after named e = let same : record draft { named = named } ≡ after = cc in ap (λ (d : PlainDraft). d.scene) same

row_changes : (setting : SettingName) (words : List (List ℕ)) (draft after : PlainDraft) → set_row setting words draft ≡ Ok after → Changes draft.scene after.scene
row_changes (OfSide setting) (side ∷ value ∷ []) draft after e =
    let front = bind_ok (before_lines draft) (λ t. or_bad (side_in side) >>= λ x. named_once (side_place setting x) draft >>= λ d. with_scene d (or_bad (side_value setting x value d.scene))) after e in
    let at = bind_ok (or_bad (side_in side)) (λ x. named_once (side_place setting x) draft >>= λ d. with_scene d (or_bad (side_value setting x value d.scene))) after front.2 in
    let named = bind_ok (named_once (side_place setting at.0) draft) (λ d. with_scene d (or_bad (side_value setting at.0 value d.scene))) after at.2 in
    let set = or_bad_ok _ _ (with_scene_ok named.0 _ after named.2) in
    subst (λ scene. Changes scene after.scene) (sym (named_scene (side_place setting at.0) _ draft named.0 _ named.1)) (side_changes setting at.0 value named.0.scene after.scene set)
row_changes (OfBoth setting) (value ∷ []) draft after e =
    let front = bind_ok (before_lines draft) (λ t. named_once (shared_place setting) draft >>= λ d. with_scene d (or_bad (shared_value setting value d.scene))) after e in
    let named = bind_ok (named_once (shared_place setting) draft) (λ d. with_scene d (or_bad (shared_value setting value d.scene))) after front.2 in
    let set = or_bad_ok _ _ (with_scene_ok named.0 _ after named.2) in
    subst (λ scene. Changes scene after.scene) (sym (named_scene (shared_place setting) _ draft named.0 _ named.1)) (shared_changes setting value named.0.scene after.scene set)
row_changes (OfSide setting) [] draft after e = cc
row_changes (OfSide setting) (a ∷ []) draft after e = cc
row_changes (OfSide setting) (a ∷ b ∷ c ∷ more) draft after e = cc
row_changes (OfBoth setting) [] draft after e = cc
row_changes (OfBoth setting) (a ∷ b ∷ more) draft after e = cc

-- a line that sets something
pub set_changes : (words : List (List ℕ)) (draft after : PlainDraft) → set_said words draft ≡ Ok after → Changes draft.scene after.scene
set_changes [] draft after e = cc
set_changes (word ∷ words) draft after e =
    let setting = bind_ok (or_bad (setting_named word)) (λ setting. set_row setting words draft) after e in
    row_changes setting.0 words draft after setting.2
