-- Accept and Confirm.
use Rattle.std.specs.Prelude.{◌≡◌, ◌<◌, ◌+◌, ◌*◌, ◌/◌, ◌%◌, ◌^◌, ℕ, Bool, List, [], ◌∷◌, ◌++◌, length, slice_index}
use Rattle.byteorder.specs.Endian.{big_bytes}
use Rattle.field_cases.specs.Fields.{number_at, bytes_at}
use Rattle.clc_wire.specs.declared.header.Kind.{Kind}
use Rattle.clc_wire.specs.declared.offer.Offer.{Offer}
use Rattle.clc_wire.specs.Header.{eye_catcher, header_bytes}

-- the fields of 24 and of 4 bits fit
-- after RFC 7609, A.2.3 and A.2.4
abbrev pub OfferFits : Offer → Type 0
OfferFits o = (o.qp < 2 ^ 24) × (o.size < 16) × (o.mtu < 16) × (o.psn < 2 ^ 24)

-- the fields have the widths of their types
-- after RFC 7609, A.2.3 and A.2.4
abbrev pub IsOffer : Offer → Type 0
IsOffer o = (length o.peer ≡ 8) × (length o.gid ≡ 16) × (length o.mac ≡ 6) × (o.key < 2 ^ 32) × (o.token < 2 ^ 32) × (o.address < 2 ^ 64)

-- the one spelling of an Accept or a Confirm
-- after RFC 7609, A.2.3 and A.2.4, where `psn` is the initial packet sequence number; ours: it carries the
-- group's number, since the fabric in memory has no packet sequence
unfoldable pub offer_bytes : Kind → Offer → List ℕ
offer_bytes kind o =
    header_bytes kind o.first ++ o.peer ++ o.gid ++ o.mac ++ big_bytes 3 o.qp ++ big_bytes 4 o.key ++ o.index ∷ []
    ++ big_bytes 4 o.token ++ (o.size * 16 + o.mtu) ∷ [] ++ 0 ∷ [] ++ big_bytes 8 o.address ++ 0 ∷ [] ++ big_bytes 3 o.psn
    ++ eye_catcher

-- the fields at their places
-- after RFC 7609, A.2.3 and A.2.4
unfoldable pub offer_at : Bool → List ℕ → Offer
offer_at first bytes = record {
  first = first;
  peer = bytes_at 8 8 bytes;
  gid = bytes_at 16 16 bytes;
  mac = bytes_at 6 32 bytes;
  qp = number_at 3 38 bytes;
  key = number_at 4 41 bytes;
  index = slice_index bytes 45;
  token = number_at 4 46 bytes;
  size = slice_index bytes 50 / 16;
  mtu = slice_index bytes 50 % 16;
  address = number_at 8 52 bytes;
  psn = number_at 3 61 bytes;
}
