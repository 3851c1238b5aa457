-- The header and the trailer of CLC messages.
use Rattle.std.specs.Prelude.{ℕ, ◌+◌, ◌-◌, ◌/◌, ◌%◌, ◌==◌, ◌&&◌, nat_eq, nat_le, Bool, true, List, [], ◌∷◌, ◌++◌, drop, slice_index, Result, Ok, Err, if◌then◌else◌}
use Rattle.std.specs.List.{starts_with}
use Rattle.byteorder.specs.Endian.{big_bytes}
use Rattle.field_cases.specs.Fields.{number_at}
use Rattle.clc_wire.specs.declared.fault.ClcFault.{ClcFault}
use Rattle.clc_wire.specs.declared.fault.ClcFault.TheVariants.{Short, BadEye, BadType, BadLength, BadVersion, BadTrailer}
use Rattle.clc_wire.specs.declared.header.Kind.{Kind}
use Rattle.clc_wire.specs.declared.header.Kind.TheVariants.{Proposal, Accept, Confirm, Decline}
use Rattle.clc_wire.specs.declared.header.Header.{Header}
use Rattle.clc_wire.specs.Reading.{◌>>=◌, field}

-- the eye catcher
-- after RFC 7609, A.2
abbrev pub eye_catcher : List ℕ
eye_catcher = 0xe2 ∷ 0xd4 ∷ 0xc3 ∷ 0xd9 ∷ []

-- the type byte
-- after RFC 7609, A.2
abbrev pub code_of : Kind → ℕ
code_of Proposal = 1
code_of Accept = 2
code_of Confirm = 3
code_of Decline = 4

-- the type that a byte names
-- after RFC 7609, A.2; the fault is ours
abbrev pub kind_of : ℕ → Result Kind ClcFault
kind_of code =
    if code == 1 then Ok Proposal else
    if code == 2 then Ok Accept else
    if code == 3 then Ok Confirm else
    if code == 4 then Ok Decline else Err (BadType code)

-- the length of a message, as it is written
-- after RFC 7609, A.2
abbrev pub written_length : Kind → ℕ
written_length Proposal = 52
written_length Accept = 68
written_length Confirm = 68
written_length Decline = 28

-- whether a message of this type may have this length
-- after RFC 7609, A.2; ours: a Proposal has at most 1,024 bytes
abbrev pub allows : Kind → ℕ → Bool
allows Proposal len = nat_le 52 len && nat_le len 1024
allows Accept len = len == 68
allows Confirm len = len == 68
allows Decline len = len == 28

-- the header: eye catcher, type, length, and version 1 in four bits before the mark
-- after RFC 7609, A.2
abbrev pub header_bytes : Kind → Bool → List ℕ
header_bytes kind mark = eye_catcher ++ code_of kind ∷ [] ++ big_bytes 2 (written_length kind) ++ (if mark then 0x18 else 0x10) ∷ []

-- one byte of the eye catcher
-- after RFC 7609, A.2; the order of faults is ours
abbrev pub eye_byte_at : ℕ → ℕ → List ℕ → Result (Unit {0}) ClcFault
eye_byte_at place wanted bytes = field bytes (place + 1) (slice_index bytes place == wanted) (BadEye place) (tt {0})

-- the eye catcher, byte by byte from this place on
-- after RFC 7609, A.2; the order of faults is ours
abbrev pub eye_at : ℕ → List ℕ → List ℕ → Result (Unit {0}) ClcFault
eye_at place [] bytes = Ok (tt {0})
eye_at place (wanted ∷ more) bytes = eye_byte_at place wanted bytes >>= λ _. eye_at (place + 1) more bytes

-- the type
-- after RFC 7609, A.2; the order of faults is ours
abbrev pub kind_at : List ℕ → Result Kind ClcFault
kind_at bytes = field bytes 5 true Short (slice_index bytes 4) >>= kind_of

-- the length of the whole message
-- after RFC 7609, A.2; the order of faults is ours
abbrev pub length_at : Kind → List ℕ → Result ℕ ClcFault
length_at kind bytes = let len : ℕ = number_at 2 5 bytes in field bytes 7 (allows kind len) (BadLength len) len

-- the version, which is 1, and the mark
-- after RFC 7609, A.2; the order of faults is ours
abbrev pub mark_at : List ℕ → Result Bool ClcFault
mark_at bytes = let version : ℕ = slice_index bytes 7 / 16 in field bytes 8 (version == 1) (BadVersion version) (slice_index bytes 7 / 8 % 2 == 1)

-- the header of a message whose bytes are all there
-- after RFC 7609, A.2; the order of faults is ours
abbrev pub header_at : List ℕ → Result Header ClcFault
header_at bytes = do
  eye ← eye_at 0 eye_catcher bytes
  kind ← kind_at bytes
  len ← length_at kind bytes
  mark ← mark_at bytes
  field bytes len true Short (record { kind = kind; length = len; mark = mark })

-- the eye catcher at the end of a message of this length
-- after RFC 7609, A.2; the order of faults is ours
abbrev pub trailer_at : ℕ → List ℕ → Result (Unit {0}) ClcFault
trailer_at len bytes = if starts_with nat_eq (drop (len - 4) bytes) eye_catcher then Ok (tt {0}) else Err BadTrailer
