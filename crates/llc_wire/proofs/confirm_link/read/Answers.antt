use Rattle.std.proofs.Common.{◌≡◌, ◌∙◌, drop, lit≤}
use Rattle.std.specs.Prelude.{slice_index}
use Rattle.byteorder.specs.Numbers.{big_from-take}
use Rattle.field_cases.specs.Fields.{number_at}
use Rattle.llc_wire.specs.declared.LlcMessage.TheVariants.{ConfirmLink}
use Rattle.llc_wire.proofs.confirm_link.read.Goals as goal

-- field by field
pub returns : goal.returns
returns c =
    let bytes = c.args.bytes.now in
    let qp : c.get.result ≡ number_at 3 26 bytes = c.get.ensures ∙ big_from-take 0 3 18 (drop 26 bytes) (lit≤ tt) in
    let user : c.get-2.result ≡ number_at 4 30 bytes = c.get-2.ensures ∙ big_from-take 0 4 14 (drop 30 bytes) (lit≤ tt) in
    λ i. ConfirmLink (c.has.ensures i) (c.mac_at.ensures i) (c.gid_at.ensures i) (qp i) (slice_index bytes 29) (user i) (slice_index bytes 34)
