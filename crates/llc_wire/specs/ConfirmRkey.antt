-- CONFIRM RKEY: three tokens and a reserved byte. A token has a number, a key and an address. The first token is for the
-- link that carries the message, and its number is how many other links have tokens; the number of another token is
-- that of its link.
use Rattle.std.specs.Prelude.{◌≡◌, ℕ, ◌+◌, ◌<◌, ◌^◌, nat_lt, Bool, List, [], ◌∷◌, ◌++◌, length, slice_index, slice_index_or, Result, Ok, Err, if◌then◌else◌}
use Rattle.byteorder.specs.Endian.{big_bytes}
use Rattle.field_cases.specs.Fields.{zeros, number_at}
use Rattle.llc_wire.specs.declared.LlcMessage.{LlcMessage}
use Rattle.llc_wire.specs.declared.LlcMessage.TheVariants.{ConfirmRkey}
use Rattle.llc_wire.specs.declared.LlcFault.{LlcFault}
use Rattle.llc_wire.specs.declared.LlcFault.TheVariants.{BadCount}
use Rattle.llc_wire.specs.declared.KeyToken.{KeyToken}
use Rattle.llc_wire.specs.Frame.{frame, flag, is_set}

-- an entry that is not in use
-- ours: the RFC does not say what an unused entry holds
abbrev pub no_token : KeyToken
no_token = record { number = 0; key = 0; address = 0 }

-- the bytes of a token under a number
-- after RFC 7609, A.3, CONFIRM RKEY
abbrev pub token_bytes : ℕ → KeyToken → List ℕ
token_bytes number token = (number ∷ [] ++ big_bytes 4 token.key) ++ big_bytes 8 token.address

-- the token at a place
-- after RFC 7609, A.3, CONFIRM RKEY
abbrev pub token_at : ℕ → List ℕ → KeyToken
token_at place bytes = record { number = slice_index bytes place; key = number_at 4 (place + 1) bytes; address = number_at 8 (place + 5) bytes }

-- the widths of its fields
-- after RFC 7609, A.3, CONFIRM RKEY
pub record IsToken (token : KeyToken) : Type 0 where
  pub key : token.key < 2 ^ 32
  pub address : token.address < 2 ^ 64

-- its bytes, around what stands in the reserved places
-- after RFC 7609, A.3, CONFIRM RKEY
abbrev pub confirm_rkey_around : (second flags : ℕ) (rest : List ℕ) (others : ℕ) (tokens : List KeyToken) → List ℕ
confirm_rkey_around second flags rest others tokens =
    frame 6 second flags
    ((token_bytes others (slice_index_or tokens 0 no_token) ++ token_bytes (slice_index_or tokens 1 no_token).number (slice_index_or tokens 1 no_token))
    ++ token_bytes (slice_index_or tokens 2 no_token).number (slice_index_or tokens 2 no_token)) ++ rest

-- its one spelling
-- after RFC 7609, A.3, CONFIRM RKEY
abbrev pub confirm_rkey_bytes : (reply retry negative : Bool) (others : ℕ) (tokens : List KeyToken) → List ℕ
confirm_rkey_bytes reply retry negative others tokens =
    confirm_rkey_around 0 (flag reply 0x80 + flag negative 0x20 + flag retry 0x10) (zeros 1) others tokens

-- bytes spell it, whatever the reserved ones hold
-- after RFC 7609, A.3, CONFIRM RKEY; ours: what reserved bytes hold is passed over
pub record SpellsConfirmRkey (bytes : List ℕ) (reply retry negative : Bool) (others : ℕ) (tokens : List KeyToken) : Type 0 where
  pub second : ℕ
  pub flags : ℕ
  pub rest : List ℕ
  pub reply_flag : is_set 0x80 flags ≡ reply
  pub retry_flag : is_set 0x10 flags ≡ retry
  pub negative_flag : is_set 0x20 flags ≡ negative
  pub rest_length : length rest ≡ 1
  pub are : bytes ≡ confirm_rkey_around second flags rest others tokens

-- its fields by their places
-- after RFC 7609, A.3, CONFIRM RKEY
abbrev pub confirm_rkey_at : List ℕ → LlcMessage
confirm_rkey_at bytes =
    ConfirmRkey (is_set 0x80 (slice_index bytes 3)) (is_set 0x10 (slice_index bytes 3)) (is_set 0x20 (slice_index bytes 3))
    (slice_index bytes 4) (token_at 4 bytes ∷ token_at 17 bytes ∷ token_at 30 bytes ∷ [])

-- the message, or the fault of its count
-- after RFC 7609, A.3, CONFIRM RKEY; the fault is ours
abbrev pub confirm_rkey_read : List ℕ → Result LlcMessage LlcFault
confirm_rkey_read bytes = if nat_lt 2 (slice_index bytes 4) then Err (BadCount (slice_index bytes 4)) else Ok (confirm_rkey_at bytes)
