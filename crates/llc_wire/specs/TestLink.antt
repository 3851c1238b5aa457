-- TEST LINK: 16 bytes that the answer repeats, and 24 reserved bytes.
use Rattle.std.specs.Prelude.{◌≡◌, ℕ, Bool, List, ◌++◌, length, slice_index}
use Rattle.field_cases.specs.Fields.{zeros, bytes_at}
use Rattle.llc_wire.specs.declared.LlcMessage.{LlcMessage}
use Rattle.llc_wire.specs.declared.LlcMessage.TheVariants.{TestLink}
use Rattle.llc_wire.specs.Frame.{frame, flag, is_set}

-- its bytes, around what stands in the reserved places
-- after RFC 7609, A.3, TEST LINK
abbrev pub test_link_around : (second flags : ℕ) (rest test : List ℕ) → List ℕ
test_link_around second flags rest test = frame 7 second flags test ++ rest

-- its one spelling
-- after RFC 7609, A.3, TEST LINK
abbrev pub test_link_bytes : (reply : Bool) (test : List ℕ) → List ℕ
test_link_bytes reply test = test_link_around 0 (flag reply 0x80) (zeros 24) test

-- bytes spell it, whatever the reserved ones hold
-- after RFC 7609, A.3, TEST LINK; ours: what reserved bytes hold is passed over
pub record SpellsTestLink (bytes : List ℕ) (reply : Bool) (test : List ℕ) : Type 0 where
  pub second : ℕ
  pub flags : ℕ
  pub rest : List ℕ
  pub reply_flag : is_set 0x80 flags ≡ reply
  pub rest_length : length rest ≡ 24
  pub are : bytes ≡ test_link_around second flags rest test

-- its fields by their places
-- after RFC 7609, A.3, TEST LINK
abbrev pub test_link_at : List ℕ → LlcMessage
test_link_at bytes = TestLink (is_set 0x80 (slice_index bytes 3)) (bytes_at 16 4 bytes)
