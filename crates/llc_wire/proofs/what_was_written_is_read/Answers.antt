use Rattle.std.proofs.Common.{◌≡◌, List, ℕ, Ok}
use Rattle.llc_wire.specs.declared.LlcMessage.{LlcMessage}
use Rattle.llc_wire.specs.declared.LlcMessage.TheVariants.{ConfirmLink, AddLink, AddKeys, DeleteLink, ConfirmRkey, TestLink, DeleteRkey}
use Rattle.llc_wire.specs.Llc.{Fits, IsMessage, IsReadable, IsSpelling, llc_bytes, llc_read}
use Rattle.llc_wire.proofs.LinkMessages.{confirm_link_written, confirm_link_read, add_link_written, add_link_read, delete_link_written, delete_link_read, test_link_written, test_link_read}
use Rattle.llc_wire.proofs.KeyMessages.{add_keys_written, add_keys_read_back, confirm_rkey_written, confirm_rkey_read_back, delete_rkey_written, delete_rkey_read_back}
use Rattle.llc_wire.proofs.what_was_written_is_read.Goals as goal

-- message by message
written : (m : LlcMessage) → IsMessage m → Fits m → IsSpelling (llc_bytes m) m
written (ConfirmLink reply mac gid qp link user most) w f = confirm_link_written reply mac gid qp link user most
written (AddLink reply rejected reason mac gid qp link mtu psn) w f = add_link_written reply rejected reason mac gid qp link mtu psn f.0 f.2
written (AddKeys reply link count keys) w f = add_keys_written reply link count keys
written (DeleteLink reply all orderly link reason) w f = delete_link_written reply all orderly link reason
written (ConfirmRkey reply retry negative others tokens) w f = confirm_rkey_written reply retry negative others tokens
written (TestLink reply test) w f = test_link_written reply test
written (DeleteRkey reply negative count mask keys) w f = delete_rkey_written reply negative count mask keys

read : (m : LlcMessage) (bytes : List ℕ) → IsMessage m → Fits m → IsReadable m → IsSpelling bytes m → llc_read bytes ≡ Ok m
read (ConfirmLink reply mac gid qp link user most) bytes w f r s = confirm_link_read bytes reply mac gid qp link user most w.0 w.1 f w.2 s
read (AddLink reply rejected reason mac gid qp link mtu psn) bytes w f r s = add_link_read bytes reply rejected reason mac gid qp link mtu psn w.0 w.1 f.1 f.3 r s
read (AddKeys reply link count keys) bytes w f r s = add_keys_read_back bytes reply link count keys w.0 w.1 r s
read (DeleteLink reply all orderly link reason) bytes w f r s = delete_link_read bytes reply all orderly link reason w s
read (ConfirmRkey reply retry negative others tokens) bytes w f r s = confirm_rkey_read_back bytes reply retry negative others tokens w.0 w.1 r.0 r.1 s
read (TestLink reply test) bytes w f r s = test_link_read bytes reply test w s
read (DeleteRkey reply negative count mask keys) bytes w f r s = delete_rkey_read_back bytes reply negative count mask keys w.0 w.1 r s

pub returns-clause-written : goal.returns-clause-written
returns-clause-written c = written

pub returns-clause-read : goal.returns-clause-read
returns-clause-read c = read
