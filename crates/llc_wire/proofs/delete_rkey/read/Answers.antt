use Rattle.std.proofs.Common.{◌≡◌, ◌∙◌, ◌≤◌, ℕ, [], ◌∷◌, Ok, Err, drop, sym, ap, lit≤, nat_lt, false, if◌then◌else◌}
use Rattle.std.specs.Prelude.{slice_index}
use Rattle.std.proofs.lemmas.Bool.{le-ltb}
use Rattle.byteorder.specs.Numbers.{big_from-take}
use Rattle.llc_wire.specs.declared.LlcMessage.TheVariants.{DeleteRkey}
use Rattle.llc_wire.specs.declared.LlcFault.TheVariants.{BadCount}
use Rattle.llc_wire.specs.DeleteRkey.{delete_rkey_at}
use Rattle.llc_wire.proofs.delete_rkey.read.Goals as goal

-- the count fits, and then field by field
pub returns : goal.returns
returns c =
    let bytes = c.args.bytes.now in
    let fits : nat_lt 8 (slice_index bytes 4) ≡ false = le-ltb 8 (slice_index bytes 4) c.if-count-gt-MOST.false in
    let key = λ (place rest : ℕ) (fits : 4 ≤ rest). big_from-take 0 4 rest (drop place bytes) fits in
    let k0 = c.get.ensures ∙ key 8 36 (lit≤ tt) in
    let k1 = c.get-2.ensures ∙ key 12 32 (lit≤ tt) in
    let k2 = c.get-3.ensures ∙ key 16 28 (lit≤ tt) in
    let k3 = c.get-4.ensures ∙ key 20 24 (lit≤ tt) in
    let k4 = c.get-5.ensures ∙ key 24 20 (lit≤ tt) in
    let k5 = c.get-6.ensures ∙ key 28 16 (lit≤ tt) in
    let k6 = c.get-7.ensures ∙ key 32 12 (lit≤ tt) in
    let k7 = c.get-8.ensures ∙ key 36 8 (lit≤ tt) in
    (λ i. Ok (DeleteRkey (c.has.ensures i) (c.has-2.ensures i) (slice_index bytes 4) (slice_index bytes 5) (k0 i ∷ k1 i ∷ k2 i ∷ k3 i ∷ k4 i ∷ k5 i ∷ k6 i ∷ k7 i ∷ [])))
    ∙ sym (ap (λ b. if b then Err (BadCount (slice_index bytes 4)) else Ok (delete_rkey_at bytes)) fits)
