-- LLC messages: how each is spelled, and what bytes spell.
use Rattle.std.specs.Prelude.{◌≡◌, ◌<◌, ◌≤◌, ◌^◌, ◌==◌, ℕ, Bool, false, List, [], ◌∷◌, length, All, slice_index, slice_index_or, Result, Ok, Err, if◌then◌else◌}
use Rattle.std.specs.List.{list_any}
use Rattle.llc_wire.specs.declared.LlcMessage.{LlcMessage}
use Rattle.llc_wire.specs.declared.LlcMessage.TheVariants.{ConfirmLink, AddLink, AddKeys, DeleteLink, ConfirmRkey, TestLink, DeleteRkey}
use Rattle.llc_wire.specs.declared.LlcFault.{LlcFault}
use Rattle.llc_wire.specs.declared.LlcFault.TheVariants.{BadType, BadLength}
use Rattle.llc_wire.specs.ConfirmLink.{confirm_link_bytes, SpellsConfirmLink, confirm_link_at}
use Rattle.llc_wire.specs.AddLink.{add_link_bytes, SpellsAddLink, add_link_at}
use Rattle.llc_wire.specs.AddKeys.{add_keys_bytes, SpellsAddKeys, add_keys_read, IsNewKey}
use Rattle.llc_wire.specs.DeleteLink.{delete_link_bytes, SpellsDeleteLink, delete_link_at}
use Rattle.llc_wire.specs.ConfirmRkey.{confirm_rkey_bytes, SpellsConfirmRkey, confirm_rkey_read, IsToken, no_token}
use Rattle.llc_wire.specs.TestLink.{test_link_bytes, SpellsTestLink, test_link_at}
use Rattle.llc_wire.specs.DeleteRkey.{delete_rkey_bytes, SpellsDeleteRkey, delete_rkey_read}

-- the fields that have fewer bits than their types fit them
-- after RFC 7609, A.3
abbrev pub Fits : LlcMessage → Type 0
Fits (ConfirmLink reply mac gid qp link user most) = qp < 2 ^ 24
Fits (AddLink reply rejected reason mac gid qp link mtu psn) = (reason < 16) × (qp < 2 ^ 24) × (mtu < 16) × (psn < 2 ^ 24)
Fits _ = Unit {0}

-- the fields have the lengths and widths of their types
-- after RFC 7609, A.3
abbrev pub IsMessage : LlcMessage → Type 0
IsMessage (ConfirmLink reply mac gid qp link user most) = (length mac ≡ 6) × (length gid ≡ 16) × (user < 2 ^ 32)
IsMessage (AddLink reply rejected reason mac gid qp link mtu psn) = (length mac ≡ 6) × (length gid ≡ 16)
IsMessage (AddKeys reply link count keys) = (length keys ≡ 2) × All IsNewKey keys
IsMessage (DeleteLink reply all orderly link reason) = reason < 2 ^ 32
IsMessage (ConfirmRkey reply retry negative others tokens) = (length tokens ≡ 3) × All IsToken tokens
IsMessage (TestLink reply test) = length test ≡ 16
IsMessage (DeleteRkey reply negative count mask keys) = (length keys ≡ 8) × All (λ key. key < 2 ^ 32) keys

-- it counts no more than it has room for, has a reason only where it rejects, and its first token the number that it must
-- after RFC 7609, A.3; ours: the continuation of CONFIRM RKEY is not known
abbrev pub IsReadable : LlcMessage → Type 0
IsReadable (AddLink reply rejected reason mac gid qp link mtu psn) = rejected ≡ false → reason ≡ 0
IsReadable (AddKeys reply link count keys) = count ≤ 2
IsReadable (ConfirmRkey reply retry negative others tokens) = (others ≤ 2) × ((slice_index_or tokens 0 no_token).number ≡ others)
IsReadable (DeleteRkey reply negative count mask keys) = count ≤ 8
IsReadable _ = Unit {0}

-- the one spelling of a message
-- after RFC 7609, A.3
abbrev pub llc_bytes : LlcMessage → List ℕ
llc_bytes (ConfirmLink reply mac gid qp link user most) = confirm_link_bytes reply mac gid qp link user most
llc_bytes (AddLink reply rejected reason mac gid qp link mtu psn) = add_link_bytes reply rejected reason mac gid qp link mtu psn
llc_bytes (AddKeys reply link count keys) = add_keys_bytes reply link count keys
llc_bytes (DeleteLink reply all orderly link reason) = delete_link_bytes reply all orderly link reason
llc_bytes (ConfirmRkey reply retry negative others tokens) = confirm_rkey_bytes reply retry negative others tokens
llc_bytes (TestLink reply test) = test_link_bytes reply test
llc_bytes (DeleteRkey reply negative count mask keys) = delete_rkey_bytes reply negative count mask keys

-- bytes spell a message, whatever the reserved bytes and bits hold
-- after RFC 7609, A.3; ours: what reserved bytes hold is passed over
abbrev pub IsSpelling : List ℕ → LlcMessage → Type 0
IsSpelling bytes (ConfirmLink reply mac gid qp link user most) = SpellsConfirmLink bytes reply mac gid qp link user most
IsSpelling bytes (AddLink reply rejected reason mac gid qp link mtu psn) = SpellsAddLink bytes reply rejected reason mac gid qp link mtu psn
IsSpelling bytes (AddKeys reply link count keys) = SpellsAddKeys bytes reply link count keys
IsSpelling bytes (DeleteLink reply all orderly link reason) = SpellsDeleteLink bytes reply all orderly link reason
IsSpelling bytes (ConfirmRkey reply retry negative others tokens) = SpellsConfirmRkey bytes reply retry negative others tokens
IsSpelling bytes (TestLink reply test) = SpellsTestLink bytes reply test
IsSpelling bytes (DeleteRkey reply negative count mask keys) = SpellsDeleteRkey bytes reply negative count mask keys

-- whether a byte is the type of a message
-- after RFC 7609, A.3; ours: type 8, the continuation of CONFIRM RKEY, is not known
abbrev pub is_llc_type : ℕ → Bool
is_llc_type kind = list_any (λ t. kind == t) (1 ∷ 2 ∷ 3 ∷ 4 ∷ 6 ∷ 7 ∷ 9 ∷ [])

-- the message of a type, or the fault of its count
-- after RFC 7609, A.3
abbrev pub message_at : ℕ → List ℕ → Result LlcMessage LlcFault
message_at kind bytes =
    if kind == 1 then Ok (confirm_link_at bytes) else
    if kind == 2 then Ok (add_link_at bytes) else
    if kind == 3 then add_keys_read bytes else
    if kind == 4 then Ok (delete_link_at bytes) else
    if kind == 6 then confirm_rkey_read bytes else
    if kind == 7 then Ok (test_link_at bytes) else delete_rkey_read bytes

-- the message that the bytes spell, or the first fault: of the type, of the length, of the count
-- after RFC 7609, A.3; the order of faults is ours
abbrev pub llc_read : List ℕ → Result LlcMessage LlcFault
llc_read bytes =
    if is_llc_type (slice_index bytes 0)
    then (if slice_index bytes 1 == 44 then message_at (slice_index bytes 0) bytes else Err (BadLength (slice_index bytes 1)))
    else Err (BadType (slice_index bytes 0))
