use Rattle.std.proofs.Common.{◌≡◌, ◌∙◌, ℕ, ◌+◌, ◌-◌, length, min, sym, ap, subst, rules}
use Rattle.std.specs.Prelude.{max}
use Rattle.circular_buffer.specs.Buffer.{Buffer}
use Rattle.cdc_ring.specs.Rings.{accepts}
use Rattle.cdc_ring.specs.Kept.{Kept, IsKept, Represents}
use Rattle.cdc_ring.proofs.Standing.{kept-accepted, accepted_more}
use Rattle.cdc_ring.proofs.SendRing.accept.Goals as goal

pub invariant_of-self : goal.invariant_of-self
invariant_of-self c =
    let r = c.self.inside in
    let k : Kept = record { size = r.size; completed = r.completed; bytes = r.bytes.items; marks = r.marks.items; acked = r.acked; unread = r.unread } in
    let count : c.min-count.result ≡ min (length c.args.bytes.now) (k.size - max (length k.bytes) k.unread) = search rules in (
      ap (λ b. b.capacity) c.append.ensures ∙ c.self.invariant.0,
      subst (λ (b : Buffer ℕ). IsKept (record k { bytes = b.items; unread = k.unread + c.min-count.result })) (sym c.append.ensures) (kept-accepted k c.args.bytes.now c.min-count.result c.self.invariant.1 count),
    )

pub returns-clause-ring : goal.returns-clause-ring
returns-clause-ring c = λ ring stands.
    let r = c.self.inside in
    let k : Kept = record { size = r.size; completed = r.completed; bytes = r.bytes.items; marks = r.marks.items; acked = r.acked; unread = r.unread } in
    let count : c.min-count.result ≡ min (length c.args.bytes.now) (k.size - max (length k.bytes) k.unread) = search rules in
    subst (λ (b : Buffer ℕ). Represents (record k { bytes = b.items; unread = k.unread + c.min-count.result }) (accepts c.args.bytes.now ring)) (sym c.append.ensures) (accepted_more k c.args.bytes.now c.min-count.result c.self.invariant.1 count ring (subst (λ v. Represents v ring) (sym c.self.view_is) stands))
