-- What the test of the settings gives: each is in its range.
use Rattle.std.specs.Prelude.{◌≡◌, ◌≤◌, ◌<◌, ℕ, ◌+◌, ◌*◌, ◌^◌, ◌==◌, nat_le, length, List, Bool, true, false, Option, None}
use Rattle.std.proofs.Common.{refl, arith, eqb-true}
use Rattle.std.proofs.lemmas.Bool.Decides.{nat_tests}
use Rattle.smc_num.specs.declared.Side.{Side}
use Rattle.smc_num.specs.declared.Side.TheVariants.{A, B}
use Rattle.pipe_model.specs.declared.setup.Setup.{Setup}
use Rattle.pipe_model.specs.declared.setup.Room.{Room}
use Rattle.pipe_model.specs.Words.{rmbs_of, elements_of}
use Rattle.side_core.specs.Setups.{IsSet}
use Rattle.world_core.specs.declared.settings.Field.{Field}
use Rattle.world_core.specs.declared.settings.BadField.{BadField}
use Rattle.world_core.specs.declared.settings.Field.TheVariants.{Subnet, Links, Size, Rmbs, Elements, Depth, Number, Sockets, Entries, Bytes}
use Rattle.world_core.specs.Settings.{within, or_bad, bad_field, is_subnet, subnet_of}
use Rattle.world_core.specs.Played.{IsOneLink}
use Rattle.world_core.specs.Hosts.{IsWorldSet}
use Rattle.world_core.proofs.Plain.{and-both}
use Rattle.std.proofs.lemmas.Bool.{leb-true}

-- a field in its range, and what comes after it
passed : (field : Field) (value : ℕ) (good : Bool) (later : Option BadField) → or_bad field value good later ≡ None → (good ≡ true) × (later ≡ None)
passed field value true later e = (refl, e)
passed field value false later e = absurd (cc)

in-range : (low high n : ℕ) → within low high n ≡ true → (low ≤ n) × (n ≤ high)
in-range low high n e = let b = and-both (nat_le low n) (nat_le n high) e in let l = b.0 in let h = b.1 in (grind (arith, nat_tests, l), grind (arith, nat_tests, h))

-- the fields from one on
abbrev from_bytes : Setup → Room → Option BadField
from_bytes setup room = or_bad Bytes room.bytes (within 1 67108864 room.bytes) None

abbrev from_entries : Setup → Room → Option BadField
from_entries setup room = or_bad Entries room.entries (within 1 262144 room.entries) (from_bytes setup room)

abbrev from_sockets : Setup → Room → Option BadField
from_sockets setup room = or_bad Sockets setup.sockets (within 1 256 setup.sockets) (from_entries setup room)

abbrev from_number : Setup → Room → Option BadField
from_number setup room = or_bad Number setup.number (within 1 65535 setup.number) (from_sockets setup room)

abbrev from_depth : Setup → Room → Option BadField
from_depth setup room = or_bad Depth setup.depth (setup.depth == 1) (from_number setup room)

abbrev from_elements_b : Setup → Room → Option BadField
from_elements_b setup room = or_bad (Elements B) (elements_of setup B) (within 1 32 (elements_of setup B)) (from_depth setup room)

abbrev from_elements_a : Setup → Room → Option BadField
from_elements_a setup room = or_bad (Elements A) (elements_of setup A) (within 1 32 (elements_of setup A)) (from_elements_b setup room)

abbrev from_rmbs_b : Setup → Room → Option BadField
from_rmbs_b setup room = or_bad (Rmbs B) (rmbs_of setup B) (rmbs_of setup B == 1) (from_elements_a setup room)

abbrev from_rmbs_a : Setup → Room → Option BadField
from_rmbs_a setup room = or_bad (Rmbs A) (rmbs_of setup A) (rmbs_of setup A == 1) (from_rmbs_b setup room)

abbrev from_size : Setup → Room → Option BadField
from_size setup room = or_bad Size setup.size_code (nat_le setup.size_code 5) (from_rmbs_a setup room)

abbrev from_links : Setup → Room → Option BadField
from_links setup room = or_bad Links setup.links (setup.links == 1) (from_size setup room)

abbrev from_b : Setup → Room → Option BadField
from_b setup room = or_bad (Subnet B) ((subnet_of setup B).0 * 256 + (subnet_of setup B).1) (is_subnet (subnet_of setup B)) (from_links setup room)

-- all settings are in their ranges
pub record AreGood (setup : Setup) (room : Room) : Type 0 where
  pub one : IsOneLink setup
  pub set : (x : Side) → IsSet setup x
  pub entries : room.entries ≤ 2 ^ 18
  pub bytes : room.bytes ≤ 2 ^ 26

pub good : (setup : Setup) (room : Room) → bad_field setup room ≡ None → AreGood setup room
good setup room e =
    let a = passed (Subnet A) ((subnet_of setup A).0 * 256 + (subnet_of setup A).1) (is_subnet (subnet_of setup A)) (from_b setup room) e in
    let b = passed (Subnet B) ((subnet_of setup B).0 * 256 + (subnet_of setup B).1) (is_subnet (subnet_of setup B)) (from_links setup room) a.1 in
    let links = passed Links setup.links (setup.links == 1) (from_size setup room) b.1 in
    let size = passed Size setup.size_code (nat_le setup.size_code 5) (from_rmbs_a setup room) links.1 in
    let rmbs_a = passed (Rmbs A) (rmbs_of setup A) (rmbs_of setup A == 1) (from_rmbs_b setup room) size.1 in
    let rmbs_b = passed (Rmbs B) (rmbs_of setup B) (rmbs_of setup B == 1) (from_elements_a setup room) rmbs_a.1 in
    let elements_a = passed (Elements A) (elements_of setup A) (within 1 32 (elements_of setup A)) (from_elements_b setup room) rmbs_b.1 in
    let elements_b = passed (Elements B) (elements_of setup B) (within 1 32 (elements_of setup B)) (from_depth setup room) elements_a.1 in
    let depth = passed Depth setup.depth (setup.depth == 1) (from_number setup room) elements_b.1 in
    let number = passed Number setup.number (within 1 65535 setup.number) (from_sockets setup room) depth.1 in
    let sockets = passed Sockets setup.sockets (within 1 256 setup.sockets) (from_entries setup room) number.1 in
    let entries = passed Entries room.entries (within 1 262144 room.entries) (from_bytes setup room) sockets.1 in
    let bytes = passed Bytes room.bytes (within 1 67108864 room.bytes) None entries.1 in
    let links_is : setup.links ≡ 1 = eqb-true _ _ links.0 in
    let depth_is : setup.depth ≡ 1 = eqb-true _ _ depth.0 in
    let rmbs_a_is : rmbs_of setup A ≡ 1 = eqb-true _ _ rmbs_a.0 in
    let rmbs_b_is : rmbs_of setup B ≡ 1 = eqb-true _ _ rmbs_b.0 in
    let ea = in-range 1 32 (elements_of setup A) elements_a.0 in
    let eb = in-range 1 32 (elements_of setup B) elements_b.0 in
    let n = in-range 1 65535 setup.number number.0 in
    let s = in-range 1 256 setup.sockets sockets.0 in
    let r = in-range 1 262144 room.entries entries.0 in
    let t = in-range 1 67108864 room.bytes bytes.0 in
    let most : setup.number < 2 ^ 16 = let h = n.1 in omega (arith, h) in
    let deep : setup.depth ≤ 8 = omega (arith, depth_is) in
    let some : 1 ≤ setup.depth = omega (arith, depth_is) in
    record {
      one = record { links = links_is; rmbs_a = rmbs_a_is; rmbs_b = rmbs_b_is; elements_a = ea.0; elements_b = eb.0; depth = some; number = n.0 };
      set = sides (record { links = links_is; rmbs = rmbs_a_is; peers = rmbs_b_is; elements = ea.0; few = ea.1; size = leb-true setup.size_code 5 size.0; depth = deep; number = n.0; most = most; sockets = s.1 })
          (record { links = links_is; rmbs = rmbs_b_is; peers = rmbs_a_is; elements = eb.0; few = eb.1; size = leb-true setup.size_code 5 size.0; depth = deep; number = n.0; most = most; sockets = s.1 });
      entries = r.1;
      bytes = t.1;
    }
  where
    sides : IsSet setup A → IsSet setup B → (x : Side) → IsSet setup x
    sides p q A = p
    sides p q B = q

pub world-set : (setup : Setup) (room : Room) (payload : List ℕ) → bad_field setup room ≡ None → length payload < 2 ^ 32 → IsWorldSet setup payload
world-set setup room payload e few = let g = good setup room e in record { one = g.one; set = g.set; payload_few = few }
