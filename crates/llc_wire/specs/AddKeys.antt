-- ADD LINK CONTINUATION: link number, count, two reserved bytes, two new keys, and four reserved bytes. A new key has the
-- reference key, the key for the new link, and the address there.
use Rattle.std.specs.Prelude.{◌≡◌, ℕ, ◌+◌, ◌<◌, ◌^◌, nat_lt, Bool, List, [], ◌∷◌, ◌++◌, length, slice_index, slice_index_or, Result, Ok, Err, if◌then◌else◌}
use Rattle.byteorder.specs.Endian.{big_bytes}
use Rattle.field_cases.specs.Fields.{zeros, number_at}
use Rattle.llc_wire.specs.declared.LlcMessage.{LlcMessage}
use Rattle.llc_wire.specs.declared.LlcMessage.TheVariants.{AddKeys}
use Rattle.llc_wire.specs.declared.LlcFault.{LlcFault}
use Rattle.llc_wire.specs.declared.LlcFault.TheVariants.{BadCount}
use Rattle.llc_wire.specs.declared.NewKey.{NewKey}
use Rattle.llc_wire.specs.Frame.{frame, flag, is_set}

-- an entry that is not in use
-- ours: the RFC does not say what an unused entry holds
abbrev pub no_new_key : NewKey
no_new_key = record { reference = 0; fresh = 0; address = 0 }

-- the bytes of a new key
-- after RFC 7609, A.3, ADD LINK CONTINUATION
abbrev pub new_key_bytes : NewKey → List ℕ
new_key_bytes key = (big_bytes 4 key.reference ++ big_bytes 4 key.fresh) ++ big_bytes 8 key.address

-- the new key at a place
-- after RFC 7609, A.3, ADD LINK CONTINUATION
abbrev pub new_key_at : ℕ → List ℕ → NewKey
new_key_at place bytes = record { reference = number_at 4 place bytes; fresh = number_at 4 (place + 4) bytes; address = number_at 8 (place + 8) bytes }

-- the widths of its fields
-- after RFC 7609, A.3, ADD LINK CONTINUATION
pub record IsNewKey (key : NewKey) : Type 0 where
  pub reference : key.reference < 2 ^ 32
  pub fresh : key.fresh < 2 ^ 32
  pub address : key.address < 2 ^ 64

-- its bytes, around what stands in the reserved places
-- after RFC 7609, A.3, ADD LINK CONTINUATION
abbrev pub add_keys_around : (second flags : ℕ) (two rest : List ℕ) (link count : ℕ) (keys : List NewKey) → List ℕ
add_keys_around second flags two rest link count keys =
    frame 3 second flags (((link ∷ count ∷ two) ++ new_key_bytes (slice_index_or keys 0 no_new_key)) ++ new_key_bytes (slice_index_or keys 1 no_new_key)) ++ rest

-- its one spelling
-- after RFC 7609, A.3, ADD LINK CONTINUATION
abbrev pub add_keys_bytes : (reply : Bool) (link count : ℕ) (keys : List NewKey) → List ℕ
add_keys_bytes reply link count keys = add_keys_around 0 (flag reply 0x80) (zeros 2) (zeros 4) link count keys

-- bytes spell it, whatever the reserved ones hold
-- after RFC 7609, A.3, ADD LINK CONTINUATION; ours: what reserved bytes hold is passed over
pub record SpellsAddKeys (bytes : List ℕ) (reply : Bool) (link count : ℕ) (keys : List NewKey) : Type 0 where
  pub second : ℕ
  pub flags : ℕ
  pub two : List ℕ
  pub rest : List ℕ
  pub reply_flag : is_set 0x80 flags ≡ reply
  pub two_length : length two ≡ 2
  pub rest_length : length rest ≡ 4
  pub are : bytes ≡ add_keys_around second flags two rest link count keys

-- its fields by their places
-- after RFC 7609, A.3, ADD LINK CONTINUATION
abbrev pub add_keys_at : List ℕ → LlcMessage
add_keys_at bytes =
    AddKeys (is_set 0x80 (slice_index bytes 3)) (slice_index bytes 4) (slice_index bytes 5) (new_key_at 8 bytes ∷ new_key_at 24 bytes ∷ [])

-- the message, or the fault of its count
-- after RFC 7609, A.3, ADD LINK CONTINUATION; the fault is ours
abbrev pub add_keys_read : List ℕ → Result LlcMessage LlcFault
add_keys_read bytes = if nat_lt 2 (slice_index bytes 5) then Err (BadCount (slice_index bytes 5)) else Ok (add_keys_at bytes)
