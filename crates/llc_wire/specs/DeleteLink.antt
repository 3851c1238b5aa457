-- DELETE LINK: link number, reason, and 35 reserved bytes.
use Rattle.std.specs.Prelude.{◌≡◌, ℕ, ◌+◌, Bool, List, [], ◌∷◌, ◌++◌, length, slice_index}
use Rattle.byteorder.specs.Endian.{big_bytes}
use Rattle.field_cases.specs.Fields.{zeros, number_at}
use Rattle.llc_wire.specs.declared.LlcMessage.{LlcMessage}
use Rattle.llc_wire.specs.declared.LlcMessage.TheVariants.{DeleteLink}
use Rattle.llc_wire.specs.Frame.{frame, flag, is_set}

-- its bytes, around what stands in the reserved places
-- after RFC 7609, A.3, DELETE LINK
abbrev pub delete_link_around : (second flags : ℕ) (rest : List ℕ) (link reason : ℕ) → List ℕ
delete_link_around second flags rest link reason = frame 4 second flags ((link ∷ []) ++ big_bytes 4 reason) ++ rest

-- its one spelling
-- after RFC 7609, A.3, DELETE LINK
abbrev pub delete_link_bytes : (reply all orderly : Bool) (link reason : ℕ) → List ℕ
delete_link_bytes reply all orderly link reason =
    delete_link_around 0 (flag reply 0x80 + flag all 0x40 + flag orderly 0x20) (zeros 35) link reason

-- bytes spell it, whatever the reserved ones hold
-- after RFC 7609, A.3, DELETE LINK; ours: what reserved bytes hold is passed over
pub record SpellsDeleteLink (bytes : List ℕ) (reply all orderly : Bool) (link reason : ℕ) : Type 0 where
  pub second : ℕ
  pub flags : ℕ
  pub rest : List ℕ
  pub reply_flag : is_set 0x80 flags ≡ reply
  pub all_flag : is_set 0x40 flags ≡ all
  pub orderly_flag : is_set 0x20 flags ≡ orderly
  pub rest_length : length rest ≡ 35
  pub are : bytes ≡ delete_link_around second flags rest link reason

-- its fields by their places
-- after RFC 7609, A.3, DELETE LINK
abbrev pub delete_link_at : List ℕ → LlcMessage
delete_link_at bytes =
    DeleteLink (is_set 0x80 (slice_index bytes 3)) (is_set 0x40 (slice_index bytes 3)) (is_set 0x20 (slice_index bytes 3))
    (slice_index bytes 4) (number_at 4 5 bytes)
