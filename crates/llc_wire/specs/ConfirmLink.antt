-- CONFIRM LINK: MAC, GID, queue pair number, link number, link user id, how many links there will be, and nine reserved
-- bytes.
use Rattle.std.specs.Prelude.{◌≡◌, ℕ, Bool, List, [], ◌∷◌, ◌++◌, length, slice_index}
use Rattle.byteorder.specs.Endian.{big_bytes}
use Rattle.field_cases.specs.Fields.{zeros, number_at, bytes_at}
use Rattle.llc_wire.specs.declared.LlcMessage.{LlcMessage}
use Rattle.llc_wire.specs.declared.LlcMessage.TheVariants.{ConfirmLink}
use Rattle.llc_wire.specs.Frame.{frame, flag, is_set}

-- its bytes, around what stands in the reserved places
-- after RFC 7609, A.3, CONFIRM LINK
abbrev pub confirm_link_around : (second flags : ℕ) (rest mac gid : List ℕ) (qp link user most : ℕ) → List ℕ
confirm_link_around second flags rest mac gid qp link user most =
    frame 1 second flags (((((mac ++ gid) ++ big_bytes 3 qp) ++ link ∷ []) ++ big_bytes 4 user) ++ most ∷ []) ++ rest

-- its one spelling
-- after RFC 7609, A.3, CONFIRM LINK
abbrev pub confirm_link_bytes : (reply : Bool) (mac gid : List ℕ) (qp link user most : ℕ) → List ℕ
confirm_link_bytes reply mac gid qp link user most = confirm_link_around 0 (flag reply 0x80) (zeros 9) mac gid qp link user most

-- bytes spell it, whatever the reserved ones hold
-- after RFC 7609, A.3, CONFIRM LINK; ours: what reserved bytes hold is passed over
pub record SpellsConfirmLink (bytes : List ℕ) (reply : Bool) (mac gid : List ℕ) (qp link user most : ℕ) : Type 0 where
  pub second : ℕ
  pub flags : ℕ
  pub rest : List ℕ
  pub reply_flag : is_set 0x80 flags ≡ reply
  pub rest_length : length rest ≡ 9
  pub are : bytes ≡ confirm_link_around second flags rest mac gid qp link user most

-- its fields by their places
-- after RFC 7609, A.3, CONFIRM LINK
abbrev pub confirm_link_at : List ℕ → LlcMessage
confirm_link_at bytes =
    ConfirmLink (is_set 0x80 (slice_index bytes 3)) (bytes_at 6 4 bytes) (bytes_at 16 10 bytes) (number_at 3 26 bytes)
    (slice_index bytes 29) (number_at 4 30 bytes) (slice_index bytes 34)
