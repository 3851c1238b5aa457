-- A scene that is read is one that a world takes.
use Rattle.std.proofs.Common.{◌≡◌, ℕ, ◌-◌, ◌^◌, ◌%◌, ◌≤◌, Bool, true, false, Option, Some, None, refl, arith}
use Rattle.std.specs.Prelude.{◌==◌, ◌&&◌, nat_le}
use Rattle.std.proofs.lemmas.Bool.{le-leb, eq-eqb}
use Rattle.smc_num.specs.declared.Side.TheVariants.{A, B}
use Rattle.pipe_model.specs.declared.setup.Setup.{Setup}
use Rattle.pipe_model.specs.declared.setup.Room.{Room}
use Rattle.pipe_model.specs.Words.{rmbs_of}
use Rattle.scene_text.specs.Scenes.{IsSubnet, IsInRange}
use Rattle.trace_laws.specs.Codes.{HasCodes}
use Rattle.world_core.specs.declared.settings.Field.{Field}
use Rattle.world_core.specs.declared.settings.Field.TheVariants as fields
use Rattle.world_core.specs.declared.settings.BadField.{BadField}
use Rattle.world_core.specs.Settings.{within, is_subnet, or_bad, bad_field}

both : (a b : Bool) → a ≡ true → b ≡ true → (a && b) ≡ true
both true b p q = q
both false b p q = cc

in_range : (low high n : ℕ) → (low ≤ n) × (n ≤ high) → within low high n ≡ true
in_range low high n h = both (nat_le low n) (nat_le n high) (le-leb low n h.0) (le-leb n high h.1)

a_subnet : (net : ℕ × ℕ) → IsSubnet net → is_subnet net ≡ true
a_subnet net h = both (nat_le net.1 32) (net.0 % 2 ^ (32 - net.1) == 0) (le-leb net.1 32 h.0) (eq-eqb (net.0 % 2 ^ (32 - net.1)) 0 h.1)

only : (n : ℕ) → (1 ≤ n) × (n ≤ 1) → (n == 1) ≡ true
only n h = let low = h.0 in let high = h.1 in eq-eqb n 1 (omega arith)

-- a good field leaves it to those behind it
next : (field : Field) (value : ℕ) (good : Bool) (later : Option BadField) → good ≡ true → later ≡ None → or_bad field value good later ≡ None
next field value true later e h = h
next field value false later e h = cc

-- settings within their ranges are those of a world
pub world_takes : (setup : Setup) (room : Room) → IsInRange setup room → bad_field setup room ≡ None
world_takes setup room h =
    next (fields.Subnet A) _ _ _ (a_subnet _ (h.subnet A)) (
    next (fields.Subnet B) _ _ _ (a_subnet _ (h.subnet B)) (
    next fields.Links _ _ _ (eq-eqb setup.links 1 h.links) (
    next fields.Size _ _ _ (le-leb setup.size_code 5 h.size) (
    next (fields.Rmbs A) _ _ _ (only (rmbs_of setup A) (h.rmbs A)) (
    next (fields.Rmbs B) _ _ _ (only (rmbs_of setup B) (h.rmbs B)) (
    next (fields.Elements A) _ _ _ (in_range 1 32 _ (h.elements A)) (
    next (fields.Elements B) _ _ _ (in_range 1 32 _ (h.elements B)) (
    next fields.Depth _ _ _ (only setup.depth h.depth) (
    next fields.Number _ _ _ (in_range 1 65535 _ h.number) (
    next fields.Sockets _ _ _ (in_range 1 256 _ h.sockets) (
    next fields.Entries _ _ _ (in_range 1 262144 _ h.entries) (
    next fields.Bytes _ _ _ (in_range 1 67108864 _ h.bytes) refl))))))))))))

-- so no field is named
pub none_is_bad : (setup : Setup) (room : Room) → IsInRange setup room → (bad : BadField) → bad_field setup room ≡ Some bad → ⊥
none_is_bad setup room h bad e = let none = world_takes setup room h in cc

-- and messages have room for their codes
pub has_codes : (setup : Setup) (room : Room) → IsInRange setup room → HasCodes setup
has_codes setup room h = record { links = (let one = h.links in omega (arith, one)); size = (let few = h.size in omega (arith, few)) }
