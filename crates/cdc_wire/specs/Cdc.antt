-- CDC messages: 44 bytes, of which 22 are reserved.
use Rattle.std.specs.Prelude.{◌≡◌, ◌==◌, ◌+◌, ◌<◌, ◌^◌, ℕ, List, [], ◌∷◌, ◌++◌, length, slice_index, Result, Ok, Err, if◌then◌else◌}
use Rattle.byteorder.specs.Endian.{big_bytes}
use Rattle.smc_num.specs.declared.Cursor.{Cursor}
use Rattle.field_cases.specs.Fields.{zeros, number_at}
use Rattle.cdc_wire.specs.declared.CdcMessage.{CdcMessage}
use Rattle.cdc_wire.specs.declared.CdcFault.{CdcFault}
use Rattle.cdc_wire.specs.declared.CdcFault.TheVariants.{BadType, BadLength}

-- the bytes of a cursor, behind its two reserved bytes
-- after RFC 7609, A.4
abbrev pub cursor_bytes : List ℕ → Cursor → List ℕ
cursor_bytes reserved cursor = (reserved ++ big_bytes 2 cursor.wrap) ++ big_bytes 4 cursor.count

-- the bytes of a message, around what stands in the reserved places
-- after RFC 7609, A.4
abbrev pub bytes_around : List ℕ → List ℕ → List ℕ → CdcMessage → List ℕ
bytes_around first second last m =
    ((((254 ∷ 44 ∷ (big_bytes 2 m.number ++ big_bytes 4 m.token)) ++ cursor_bytes first m.told) ++ cursor_bytes second m.read)
    ++ m.producer ∷ m.state ∷ []) ++ last

-- the one spelling of a message: reserved bytes are 0
-- after RFC 7609, A.4
abbrev pub cdc_bytes : CdcMessage → List ℕ
cdc_bytes m = bytes_around (zeros 2) (zeros 2) (zeros 18) m

-- bytes spell a message, whatever the reserved ones hold
-- after RFC 7609, A.4; ours: what reserved bytes hold is passed over
pub record IsSpelling (bytes : List ℕ) (m : CdcMessage) : Type 0 where
  pub first : List ℕ
  pub second : List ℕ
  pub last : List ℕ
  pub first_two : length first ≡ 2
  pub second_two : length second ≡ 2
  pub last_eighteen : length last ≡ 18
  pub are : bytes ≡ bytes_around first second last m

-- the fields have the widths of their types
-- after RFC 7609, A.4
pub record IsMessage (m : CdcMessage) : Type 0 where
  pub number : m.number < 2 ^ 16
  pub token : m.token < 2 ^ 32
  pub told_wrap : m.told.wrap < 2 ^ 16
  pub told_count : m.told.count < 2 ^ 32
  pub read_wrap : m.read.wrap < 2 ^ 16
  pub read_count : m.read.count < 2 ^ 32

-- the cursor whose reserved bytes stand at a place
-- after RFC 7609, A.4
abbrev pub cursor_at : ℕ → List ℕ → Cursor
cursor_at place bytes = record { wrap = number_at 2 (place + 2) bytes; count = number_at 4 (place + 4) bytes }

-- the fields of a message by their places
-- after RFC 7609, A.4
abbrev pub fields_of : List ℕ → CdcMessage
fields_of bytes = record {
  number = number_at 2 2 bytes;
  token = number_at 4 4 bytes;
  told = cursor_at 8 bytes;
  read = cursor_at 16 bytes;
  producer = slice_index bytes 24;
  state = slice_index bytes 25;
}

-- the message that the bytes spell, or the first fault by place
-- after RFC 7609, A.4; the faults are ours
abbrev pub cdc_read : List ℕ → Result CdcMessage CdcFault
cdc_read bytes =
    if slice_index bytes 0 == 254 then (if slice_index bytes 1 == 44 then Ok (fields_of bytes) else Err (BadLength (slice_index bytes 1)))
    else Err (BadType (slice_index bytes 0))
