use Rattle.std.proofs.Common.{◌≡◌, ◌∙◌, ℕ, ◌+◌, ◌≤◌, List, length, drop, sym, ap, subst, arith, rules}
use Rattle.circular_buffer.specs.Buffer.{Buffer, buffer}
use Rattle.cdc_ring.specs.Rings.{completes}
use Rattle.cdc_ring.specs.Kept.{Kept, IsKept, Represents}
use Rattle.cdc_ring.proofs.Standing.{kept-completed, completed_more, cursor_inside, cursor_rounds}
use Rattle.cdc_ring.proofs.SendRing.complete.Goals as goal

pub invariant_of-self : goal.invariant_of-self
invariant_of-self c =
    let r = c.self.inside in
    let k : Kept = record { size = r.size; completed = r.completed; bytes = r.bytes.items; marks = r.marks.items; acked = r.acked; unread = r.unread } in
    let n = c.ahead_of-count.result in
    let q = c.requires in
    let stands : Represents k q.ring = subst (λ v. Represents v q.ring) (sym c.self.view_is) q.stands in
    let moved : q.ring.completed + n ≡ q.place = search rules in
    let within : n ≤ length k.bytes = omega (arith, moved, q.to, ap length stands.bytes) in
    let rest : c.truncate_front.new.self ≡ buffer (drop n k.bytes) r.bytes.capacity = search rules in
    let inside = cursor_inside q.ring.size c.args.cursor q.place (omega (arith, stands.whole.some, stands.size)) q.spelled in (
      ap (λ b. b.capacity) rest ∙ c.self.invariant.0,
      subst (λ (b : Buffer ℕ). IsKept (record k { completed = c.args.cursor; bytes = b.items; marks = c.marks_past-self-inside.result.items })) (sym rest)
          (subst (λ (ms : List ℕ). IsKept (record k { completed = c.args.cursor; bytes = drop n k.bytes; marks = ms })) (sym c.marks_past-self-inside.ensures) (kept-completed k n c.args.cursor c.self.invariant.1 within (cursor_rounds q.ring.size c.args.cursor q.place q.spelled) (omega (arith, inside, stands.size)))),
    )

pub returns : goal.returns
returns c = λ ring place stands spelled from to.
    let r = c.self.inside in
    let k : Kept = record { size = r.size; completed = r.completed; bytes = r.bytes.items; marks = r.marks.items; acked = r.acked; unread = r.unread } in
    let n = c.ahead_of-count.result in
    let here : Represents k ring = subst (λ v. Represents v ring) (sym c.self.view_is) stands in
    let moved : ring.completed + n ≡ place = search rules in
    let within : n ≤ length k.bytes = omega (arith, moved, to, ap length here.bytes) in
    let rest : c.truncate_front.new.self ≡ buffer (drop n k.bytes) r.bytes.capacity = search rules in
    subst (λ (b : Buffer ℕ). Represents (record k { completed = c.args.cursor; bytes = b.items; marks = c.marks_past-self-inside.result.items }) (completes place ring)) (sym rest)
    (subst (λ (ms : List ℕ). Represents (record k { completed = c.args.cursor; bytes = drop n k.bytes; marks = ms }) (completes place ring)) (sym c.marks_past-self-inside.ensures) (completed_more k n c.args.cursor c.self.invariant.1 ring place here spelled moved to))
