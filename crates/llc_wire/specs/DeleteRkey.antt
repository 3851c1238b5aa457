-- DELETE RKEY: count, error mask, two reserved bytes, eight keys, and four reserved bytes.
use Rattle.std.specs.Prelude.{◌≡◌, ℕ, ◌+◌, ◌*◌, nat_lt, Bool, List, ◌∷◌, ◌++◌, length, map, flat_map, slice_index, Result, Ok, Err, if◌then◌else◌}
use Rattle.std.specs.List.{range_with_len}
use Rattle.byteorder.specs.Endian.{big_bytes}
use Rattle.field_cases.specs.Fields.{zeros, number_at}
use Rattle.llc_wire.specs.declared.LlcMessage.{LlcMessage}
use Rattle.llc_wire.specs.declared.LlcMessage.TheVariants.{DeleteRkey}
use Rattle.llc_wire.specs.declared.LlcFault.{LlcFault}
use Rattle.llc_wire.specs.declared.LlcFault.TheVariants.{BadCount}
use Rattle.llc_wire.specs.Frame.{frame, flag, is_set}

-- the bytes of keys, one after another
-- after RFC 7609, A.3, DELETE RKEY
abbrev pub keys_bytes : List ℕ → List ℕ
keys_bytes keys = flat_map (big_bytes 4) keys

-- the keys at their places
-- after RFC 7609, A.3, DELETE RKEY
abbrev pub keys_at : List ℕ → List ℕ
keys_at bytes = map (λ i. number_at 4 (8 + 4 * i) bytes) (range_with_len 0 8)

-- its bytes, around what stands in the reserved places
-- after RFC 7609, A.3, DELETE RKEY
abbrev pub delete_rkey_around : (second flags : ℕ) (two rest : List ℕ) (count mask : ℕ) (keys : List ℕ) → List ℕ
delete_rkey_around second flags two rest count mask keys = frame 9 second flags ((count ∷ mask ∷ two) ++ keys_bytes keys) ++ rest

-- its one spelling
-- after RFC 7609, A.3, DELETE RKEY
abbrev pub delete_rkey_bytes : (reply negative : Bool) (count mask : ℕ) (keys : List ℕ) → List ℕ
delete_rkey_bytes reply negative count mask keys = delete_rkey_around 0 (flag reply 0x80 + flag negative 0x20) (zeros 2) (zeros 4) count mask keys

-- bytes spell it, whatever the reserved ones hold
-- after RFC 7609, A.3, DELETE RKEY; ours: what reserved bytes hold is passed over
pub record SpellsDeleteRkey (bytes : List ℕ) (reply negative : Bool) (count mask : ℕ) (keys : List ℕ) : Type 0 where
  pub second : ℕ
  pub flags : ℕ
  pub two : List ℕ
  pub rest : List ℕ
  pub reply_flag : is_set 0x80 flags ≡ reply
  pub negative_flag : is_set 0x20 flags ≡ negative
  pub two_length : length two ≡ 2
  pub rest_length : length rest ≡ 4
  pub are : bytes ≡ delete_rkey_around second flags two rest count mask keys

-- its fields by their places
-- after RFC 7609, A.3, DELETE RKEY
abbrev pub delete_rkey_at : List ℕ → LlcMessage
delete_rkey_at bytes = DeleteRkey (is_set 0x80 (slice_index bytes 3)) (is_set 0x20 (slice_index bytes 3)) (slice_index bytes 4) (slice_index bytes 5) (keys_at bytes)

-- the message, or the fault of its count
-- after RFC 7609, A.3, DELETE RKEY; the fault is ours
abbrev pub delete_rkey_read : List ℕ → Result LlcMessage LlcFault
delete_rkey_read bytes = if nat_lt 8 (slice_index bytes 4) then Err (BadCount (slice_index bytes 4)) else Ok (delete_rkey_at bytes)
