use Rattle.std.proofs.Common.{◌≡◌, ◌∙◌, ◌%◌, ap, drop, lit≤}
use Rattle.std.specs.Prelude.{slice_index}
use Rattle.byteorder.specs.Numbers.{big_from-take}
use Rattle.field_cases.specs.Fields.{number_at}
use Rattle.llc_wire.specs.declared.LlcMessage.TheVariants.{AddLink}
use Rattle.llc_wire.specs.AddLink.{reason_where}
use Rattle.llc_wire.specs.Frame.{is_set}
use Rattle.llc_wire.proofs.add_link.read.Goals as goal

-- field by field
pub returns : goal.returns
returns c =
    let bytes = c.args.bytes.now in
    let reason : c.reason_where.result ≡ reason_where (is_set 0x40 (slice_index bytes 3)) (slice_index bytes 2 % 16) = c.reason_where.ensures ∙ ap (λ b. reason_where b (slice_index bytes 2 % 16)) c.has-rejected.ensures in
    let qp : c.get.result ≡ number_at 3 28 bytes = c.get.ensures ∙ big_from-take 0 3 16 (drop 28 bytes) (lit≤ tt) in
    let psn : c.get-2.result ≡ number_at 3 33 bytes = c.get-2.ensures ∙ big_from-take 0 3 11 (drop 33 bytes) (lit≤ tt) in
    λ i. AddLink (c.has.ensures i) (c.has-rejected.ensures i) (reason i) (c.mac_at.ensures i) (c.gid_at.ensures i) (qp i) (slice_index bytes 31) (slice_index bytes 32 % 16) (psn i)
