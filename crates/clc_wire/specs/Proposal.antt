-- Proposal.
use Rattle.std.specs.Prelude.{◌≡◌, ◌<◌, ◌+◌, ◌*◌, ◌^◌, ℕ, false, nat_le, List, [], ◌∷◌, ◌++◌, length, slice_index, Result, Ok, Err, if◌then◌else◌}
use Rattle.byteorder.specs.Endian.{big_bytes}
use Rattle.field_cases.specs.Fields.{number_at, bytes_at}
use Rattle.clc_wire.specs.declared.fault.ClcFault.{ClcFault}
use Rattle.clc_wire.specs.declared.fault.ClcFault.TheVariants.{BadLength}
use Rattle.clc_wire.specs.declared.header.Kind.TheVariants.{Proposal as ProposalKind}
use Rattle.clc_wire.specs.declared.proposal.Proposal.{Proposal}
use Rattle.clc_wire.specs.Header.{eye_catcher, header_bytes}

-- the fields have the widths of their types
-- after RFC 7609, A.2.2
abbrev pub IsProposal : Proposal → Type 0
IsProposal p = (length p.peer ≡ 8) × (length p.gid ≡ 16) × (length p.mac ≡ 6) × (p.subnet < 2 ^ 32)

-- the one spelling of a Proposal: nothing stands before the IP area, and there is no IPv6 prefix
-- after RFC 7609, A.2.2
unfoldable pub proposal_bytes : Proposal → List ℕ
proposal_bytes p =
    header_bytes ProposalKind false ++ p.peer ++ p.gid ++ p.mac ++ big_bytes 2 0
    ++ big_bytes 4 p.subnet ++ p.prefix ∷ [] ++ big_bytes 2 0 ++ 0 ∷ [] ++ eye_catcher

-- where the IP area begins: the field at 38 says how many bytes stand before it
-- after RFC 7609, A.2.2
abbrev pub area_of : List ℕ → ℕ
area_of bytes = 40 + number_at 2 38 bytes

-- the number of IPv6 prefixes
-- after RFC 7609, A.2.2
abbrev pub prefixes_of : List ℕ → ℕ
prefixes_of bytes = slice_index bytes (area_of bytes + 7)

-- the fields at their places
-- after RFC 7609, A.2.2
abbrev pub proposal_fields : List ℕ → Proposal
proposal_fields bytes = record {
  peer = bytes_at 8 8 bytes;
  gid = bytes_at 16 16 bytes;
  mac = bytes_at 6 32 bytes;
  subnet = number_at 4 (area_of bytes) bytes;
  prefix = slice_index bytes (area_of bytes + 4);
  v6 = prefixes_of bytes;
}

-- the fields of a message of this length: 8 bytes of IP area, 17 for each prefix, and the trailer
-- have to fit
-- after RFC 7609, A.2.2; the fault is ours
unfoldable pub proposal_at : ℕ → List ℕ → Result Proposal ClcFault
proposal_at len bytes =
    if nat_le (area_of bytes + 8 + 17 * prefixes_of bytes + 4) len then Ok (proposal_fields bytes) else Err (BadLength len)
