-- ADD LINK: MAC, two reserved bytes, GID, queue pair number, link number, MTU code in the low four bits of a byte, packet
-- sequence number, and eight reserved bytes. The low four bits of the second byte are the reason where it is rejected,
-- and else reserved.
use Rattle.std.specs.Prelude.{◌≡◌, ℕ, ◌%◌, ◌+◌, Bool, true, List, [], ◌∷◌, ◌++◌, length, slice_index, if◌then◌else◌}
use Rattle.byteorder.specs.Endian.{big_bytes}
use Rattle.field_cases.specs.Fields.{zeros, number_at, bytes_at}
use Rattle.llc_wire.specs.declared.LlcMessage.{LlcMessage}
use Rattle.llc_wire.specs.declared.LlcMessage.TheVariants.{AddLink}
use Rattle.llc_wire.specs.Frame.{frame, flag, is_set}

-- the reason where it is rejected, and else none
-- after RFC 7609, A.3, ADD LINK
abbrev pub reason_where : Bool → ℕ → ℕ
reason_where rejected reason = if rejected then reason else 0

-- its bytes, around what stands in the reserved places and bits
-- after RFC 7609, A.3, ADD LINK
abbrev pub add_link_around : (second flags : ℕ) (two : List ℕ) (mtu_byte : ℕ) (rest mac gid : List ℕ) (qp link psn : ℕ) → List ℕ
add_link_around second flags two mtu_byte rest mac gid qp link psn =
    frame 2 second flags ((((((mac ++ two) ++ gid) ++ big_bytes 3 qp) ++ link ∷ []) ++ mtu_byte ∷ []) ++ big_bytes 3 psn) ++ rest

-- its one spelling
-- after RFC 7609, A.3, ADD LINK, where `psn` is the initial packet sequence number; ours: it carries the group's
-- number, since the fabric in memory has no packet sequence
abbrev pub add_link_bytes : (reply rejected : Bool) (reason : ℕ) (mac gid : List ℕ) (qp link mtu psn : ℕ) → List ℕ
add_link_bytes reply rejected reason mac gid qp link mtu psn =
    add_link_around (reason_where rejected reason) (flag reply 0x80 + flag rejected 0x40) (zeros 2) mtu (zeros 8) mac gid qp link psn

-- bytes spell it, whatever the reserved ones hold
-- after RFC 7609, A.3, ADD LINK; ours: what reserved bytes hold is passed over
pub record SpellsAddLink (bytes : List ℕ) (reply rejected : Bool) (reason : ℕ) (mac gid : List ℕ) (qp link mtu psn : ℕ) : Type 0 where
  pub second : ℕ
  pub flags : ℕ
  pub two : List ℕ
  pub mtu_byte : ℕ
  pub rest : List ℕ
  pub reply_flag : is_set 0x80 flags ≡ reply
  pub rejected_flag : is_set 0x40 flags ≡ rejected
  pub reason_bits : rejected ≡ true → second % 16 ≡ reason
  pub mtu_bits : mtu_byte % 16 ≡ mtu
  pub two_length : length two ≡ 2
  pub rest_length : length rest ≡ 8
  pub are : bytes ≡ add_link_around second flags two mtu_byte rest mac gid qp link psn

-- its fields by their places
-- after RFC 7609, A.3, ADD LINK
abbrev pub add_link_at : List ℕ → LlcMessage
add_link_at bytes =
    AddLink (is_set 0x80 (slice_index bytes 3)) (is_set 0x40 (slice_index bytes 3))
    (reason_where (is_set 0x40 (slice_index bytes 3)) (slice_index bytes 2 % 16))
    (bytes_at 6 4 bytes) (bytes_at 16 12 bytes) (number_at 3 28 bytes) (slice_index bytes 31) (slice_index bytes 32 % 16) (number_at 3 33 bytes)
