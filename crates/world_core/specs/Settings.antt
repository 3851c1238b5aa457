-- Which settings a world takes.
-- A reader learns here each field's range, and which field is named where some are outside theirs.
use Rattle.std.specs.Prelude.{ℕ, ◌+◌, ◌*◌, ◌^◌, ◌-◌, ◌%◌, ◌==◌, ◌&&◌, nat_le, Bool, if◌then◌else◌, Option, Some, None, slice_index_or}
use Rattle.smc_num.specs.declared.Side.{Side}
use Rattle.smc_num.specs.declared.Side.TheVariants.{A, B}
use Rattle.smc_num.specs.Names.{at_side}
use Rattle.pipe_model.specs.declared.setup.Setup.{Setup}
use Rattle.pipe_model.specs.declared.setup.Room.{Room}
use Rattle.pipe_model.specs.Words.{rmbs_of, elements_of}
use Rattle.world_core.specs.declared.settings.Field.{Field}
use Rattle.world_core.specs.declared.settings.Field.TheVariants.{Subnet, Links, Size, Rmbs, Elements, Depth, Number, Sockets, Entries, Bytes}
use Rattle.world_core.specs.declared.settings.BadField.{BadField}

-- whether a number is in a range
abbrev pub within : ℕ → ℕ → ℕ → Bool
within low high n = nat_le low n && nat_le n high

-- whether an address and a prefix length are a subnet: no host bit is set
abbrev pub is_subnet : ℕ × ℕ → Bool
is_subnet net = nat_le net.1 32 && (net.0 % 2 ^ (32 - net.1) == 0)

-- the subnet of a side
abbrev pub subnet_of : Setup → Side → ℕ × ℕ
subnet_of setup x = at_side x (slice_index_or setup.subnet 0 (0, 0)) (slice_index_or setup.subnet 1 (0, 0))

-- a field, and all that come after it: the first that is outside its range is named
abbrev pub or_bad : Field → ℕ → Bool → Option BadField → Option BadField
or_bad field value good later = if good then later else Some (record { field = field; value = value })

-- the fields of the subnets and of the links
abbrev pub or_bad_link : Setup → Option BadField → Option BadField
or_bad_link setup later =
    or_bad (Subnet A) ((subnet_of setup A).0 * 256 + (subnet_of setup A).1) (is_subnet (subnet_of setup A)) (
    or_bad (Subnet B) ((subnet_of setup B).0 * 256 + (subnet_of setup B).1) (is_subnet (subnet_of setup B)) (
    or_bad Links setup.links (setup.links == 1) (
    or_bad Size setup.size_code (nat_le setup.size_code 5) later)))

-- those of the RMBs and their elements
abbrev pub or_bad_rmb : Setup → Option BadField → Option BadField
or_bad_rmb setup later =
    or_bad (Rmbs A) (rmbs_of setup A) (rmbs_of setup A == 1) (
    or_bad (Rmbs B) (rmbs_of setup B) (rmbs_of setup B == 1) (
    or_bad (Elements A) (elements_of setup A) (within 1 32 (elements_of setup A)) (
    or_bad (Elements B) (elements_of setup B) (within 1 32 (elements_of setup B)) later)))

-- those of the connections, and the room
abbrev pub bad_count : Setup → Room → Option BadField
bad_count setup room =
    or_bad Depth setup.depth (setup.depth == 1) (
    or_bad Number setup.number (within 1 65535 setup.number) (
    or_bad Sockets setup.sockets (within 1 256 setup.sockets) (
    or_bad Entries room.entries (within 1 262144 room.entries) (
    or_bad Bytes room.bytes (within 1 67108864 room.bytes) None))))

-- the first field outside its range, A before B; one link, one RMB a side and one snapshot under way are built
abbrev pub bad_field : Setup → Room → Option BadField
bad_field setup room = or_bad_link setup (or_bad_rmb setup (bad_count setup room))
