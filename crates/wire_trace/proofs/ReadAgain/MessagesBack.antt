-- Spellings of messages are read as their messages.
use Rattle.std.proofs.Common.{◌≡◌, ◌∙◌, ℕ, ◌<◌, ◌^◌, List, [], Option, Some, None, Ok, refl, sym, ap, arith, append-nil, if◌then◌else◌}
use Rattle.std.specs.Prelude.{option_map, unwrap_or, IfSome}
use Rattle.std.proofs.lemmas.Slice.Eq.{bytes_eq-Decides}
use Rattle.std.proofs.lemmas.Bool.{and_left, ne_eqb}
use Rattle.byteorder.specs.Numbers.{big_number-reads_back}
use Rattle.smc_num.specs.declared.Side.{Side}
use Rattle.smc_num.specs.declared.Side.TheVariants.{A, B}
use Rattle.smc_num.specs.declared.LinkId.{LinkId}
use Rattle.smc_num.specs.Names.{no_link}
use Rattle.clc_wire.specs.declared.message.ClcMessage.{ClcMessage}
use Rattle.clc_wire.specs.Clc as clc
use Rattle.clc_wire.proofs.ReadsBack.{message_back}
use Rattle.llc_wire.specs.declared.LlcMessage.{LlcMessage}
use Rattle.llc_wire.specs.declared.LlcMessage.TheVariants.{ConfirmLink, AddLink, AddKeys, DeleteLink, ConfirmRkey, TestLink, DeleteRkey}
use Rattle.llc_wire.specs.Llc as llc
use Rattle.llc_wire.proofs.LinkMessages.{confirm_link_written, confirm_link_read, add_link_written, add_link_read, delete_link_written, delete_link_read, test_link_written, test_link_read}
use Rattle.llc_wire.proofs.KeyMessages.{add_keys_written, add_keys_read_back, confirm_rkey_written, confirm_rkey_read_back, delete_rkey_written, delete_rkey_read_back}
use Rattle.cdc_wire.specs.declared.CdcMessage.{CdcMessage}
use Rattle.cdc_wire.specs.Cdc as cdc
use Rattle.cdc_wire.proofs.Reading.{read_back, written_is_spelling}
use Rattle.pipe_model.specs.declared.post.Post.{Post}
use Rattle.pipe_model.specs.declared.post.Post.TheVariants.{Write, Cdc, Llc, Clc}
use Rattle.pipe_model.specs.declared.post.PostRef.{PostRef}
use Rattle.wire_trace.specs.Messages.{message_bytes, write_bytes, side_code, side_of, link_named, head_for, if_spelled, clc_if, clc_in, llc_if, llc_in, cdc_if, cdc_in, write_in, post_in}
use Rattle.wire_trace.specs.Traced.{IsLink, IsTold}

-- the one spelling is told from no other bytes
spelled_back : {M : Type 0} (spelling : M → List ℕ) (m : M) → if_spelled spelling (spelling m) m ≡ Some m
spelled_back spelling m = ap (λ b. if b then Some m else None) ((bytes_eq-Decides (spelling m) (spelling m)).1 refl)

clc_back : (m : ClcMessage) → clc.IsMessage m → clc.Fits m → clc.HasNoPrefix m → clc_in (clc.clc_bytes m) ≡ Some m
clc_back m w f none =
    ap (clc_if (clc.clc_bytes m)) (ap clc.clc_front (sym (append-nil (clc.clc_bytes m))) ∙ message_back m [] w f none) ∙ spelled_back clc.clc_bytes m

llc_read_back : (m : LlcMessage) → llc.IsMessage m → llc.Fits m → llc.IsReadable m → llc.llc_read (llc.llc_bytes m) ≡ Ok m
llc_read_back (ConfirmLink reply mac gid qp link user most) w f r = confirm_link_read _ reply mac gid qp link user most w.0 w.1 f w.2 (confirm_link_written reply mac gid qp link user most)
llc_read_back (AddLink reply rejected reason mac gid qp link mtu psn) w f r = add_link_read _ reply rejected reason mac gid qp link mtu psn w.0 w.1 f.1 f.3 r (add_link_written reply rejected reason mac gid qp link mtu psn f.0 f.2)
llc_read_back (AddKeys reply link count keys) w f r = add_keys_read_back _ reply link count keys w.0 w.1 r (add_keys_written reply link count keys)
llc_read_back (DeleteLink reply all orderly link reason) w f r = delete_link_read _ reply all orderly link reason w (delete_link_written reply all orderly link reason)
llc_read_back (ConfirmRkey reply retry negative others tokens) w f r = confirm_rkey_read_back _ reply retry negative others tokens w.0 w.1 r.0 r.1 (confirm_rkey_written reply retry negative others tokens)
llc_read_back (TestLink reply test) w f r = test_link_read _ reply test w (test_link_written reply test)
llc_read_back (DeleteRkey reply negative count mask keys) w f r = delete_rkey_read_back _ reply negative count mask keys w.0 w.1 r (delete_rkey_written reply negative count mask keys)

llc_back : (m : LlcMessage) → llc.IsMessage m → llc.Fits m → llc.IsReadable m → llc_in (llc.llc_bytes m) ≡ Some m
llc_back m w f r = ap (llc_if (llc.llc_bytes m)) (llc_read_back m w f r) ∙ spelled_back llc.llc_bytes m

cdc_back : (m : CdcMessage) → cdc.IsMessage m → cdc_in (cdc.cdc_bytes m) ≡ Some m
cdc_back m w = ap (cdc_if (cdc.cdc_bytes m)) (read_back m (cdc.cdc_bytes m) w (written_is_spelling m)) ∙ spelled_back cdc.cdc_bytes m

pub side_back : (from : Side) → side_of (side_code from) ≡ from
side_back A = refl
side_back B = refl

link_back : (link : Option LinkId) → IfSome link IsLink → link_named (unwrap_or link no_link) ≡ link
link_back None h = refl
link_back (Some link) h = ap (λ b. if b then None else Some link) (and_left _ _ (and_left _ _ (ne_eqb link.slot 0 (λ e. absurd (omega (arith, e, h.slot_low))))))

write_back : (at : PostRef) (from : Side) (link : LinkId) (key address len : ℕ) (size : ℕ) → key < 2 ^ 32 → address < 2 ^ 64 → len < 2 ^ 32
    → write_in (head_for at (Write from link key address len) size) (write_bytes key address len) ≡ Write from link key address len
write_back at from link key address len size k a l i =
    Write (side_back from i) link (big_number-reads_back 4 key [] k i) (big_number-reads_back 8 address [] a i) (big_number-reads_back 4 len [] l i)

-- a post is read again of the bytes behind its head
pub post_back : (at : PostRef) (post : Post) (size : ℕ) → IsTold post → post_in (head_for at post size) (message_bytes post) ≡ Some post
unfolding post_in
post_back at (Write from link key address len) size t = ap Some (write_back at from link key address len size t.1 t.2 t.3)
post_back at (Cdc from link m) size t =
    ap (option_map (λ m. Cdc (side_of (side_code from)) link m)) (cdc_back m t.1) ∙ ap (λ x. Some (Cdc x link m)) (side_back from)
post_back at (Llc from link m) size t =
    ap (option_map (λ m. Llc (side_of (side_code from)) link m)) (llc_back m t.1 t.2 t.3) ∙ ap (λ x. Some (Llc x link m)) (side_back from)
post_back at (Clc from s link m) size t =
    ap (option_map (λ m. Clc (side_of (side_code from)) s (link_named (unwrap_or link no_link)) m)) (clc_back m t.2 t.3 t.4)
    ∙ (λ i. Some (Clc (side_back from i) s (link_back link t.1 i) m))
