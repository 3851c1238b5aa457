-- Decline.
use Rattle.std.specs.Prelude.{◌≡◌, ◌<◌, ◌^◌, ℕ, Bool, List, ◌++◌, length}
use Rattle.byteorder.specs.Endian.{big_bytes}
use Rattle.field_cases.specs.Fields.{number_at, bytes_at}
use Rattle.clc_wire.specs.declared.header.Kind.TheVariants.{Decline}
use Rattle.clc_wire.specs.declared.refusal.Refusal.{Refusal}
use Rattle.clc_wire.specs.Header.{eye_catcher, header_bytes}

-- the fields have the widths of their types
-- after RFC 7609, A.2.5
abbrev pub IsRefusal : Refusal → Type 0
IsRefusal r = (length r.peer ≡ 8) × (r.diagnosis < 2 ^ 32)

-- the one spelling of a Decline
-- after RFC 7609, A.2.5
unfoldable pub refusal_bytes : Refusal → List ℕ
refusal_bytes r = header_bytes Decline r.out ++ r.peer ++ big_bytes 4 r.diagnosis ++ big_bytes 4 0 ++ eye_catcher

-- the fields at their places
-- after RFC 7609, A.2.5
unfoldable pub refusal_at : Bool → List ℕ → Refusal
refusal_at out bytes = record { out = out; peer = bytes_at 8 8 bytes; diagnosis = number_at 4 16 bytes }
