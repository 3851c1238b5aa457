use Rattle.std.proofs.Common.{◌≡◌, ◌∙◌, false, true, sym, subst}
use Rattle.conn_end.specs.Kept.{Kept}
use Rattle.conn_end.specs.Arrivals.{Lands}
use Rattle.conn_end.proofs.Arriving.{checks_is, whole_validated, validated, landed_whole, landed}
use Rattle.conn_end.proofs.ConnEnd.take_cdc.Goals as goal

pub invariant_of-self : goal.invariant_of-self
invariant_of-self c =
    let x = c.self.inside in
    whole_validated x.size x.ring x.accepted x.course c.validate.new.self c.args.message.now.number c.self.invariant c.validate.ensures.rest c.validate.ensures.end

pub returns-then-checks-clause-end : goal.returns-then-checks-clause-end
returns-then-checks-clause-end c = λ h sent lands going.
    let x = c.self.inside in
    let k : Kept = record { size = x.size; first = x.first; token = x.token; owes = x.owes_check; ring = x.ring; accepted = x.accepted; course = x.course } in
    let here : Lands k c.args.message.now c.args.plain.now h sent = subst (λ (v : Kept). Lands v c.args.message.now c.args.plain.now h sent) (sym c.self.view_is) lands in
    let checks : sent.check ≡ true = sym (checks_is x.size c.args.message.now c.args.plain.now sent here.spelling) ∙ sym c.checks.ensures ∙ c.if-checks.true in
    validated k c.args.message.now c.args.plain.now h sent c.validate.new.self here checks going c.validate.ensures.rest c.validate.ensures.end

pub invariant_of-self-2 : goal.invariant_of-self-2
invariant_of-self-2 c =
    let x = c.self.inside in
    let q = c.requires in
    let k : Kept = record { size = x.size; first = x.first; token = x.token; owes = x.owes_check; ring = x.ring; accepted = x.accepted; course = x.course } in
    let here : Lands k c.args.message.now c.args.plain.now q.end q.sent = subst (λ (v : Kept). Lands v c.args.message.now c.args.plain.now q.end q.sent) (sym c.self.view_is) q.lands in
    let fresh : q.sent.check ≡ false = sym (checks_is x.size c.args.message.now c.args.plain.now q.sent here.spelling) ∙ sym c.checks.ensures ∙ c.if-checks.false in
    landed_whole k c.args.message.now c.args.plain.now q.end q.sent here fresh c.acked.new.self c.take.new.self c.acked.ensures c.take.ensures.rest c.take.ensures.end

pub returns-clause-end : goal.returns-clause-end
returns-clause-end c = λ h sent lands going.
    let x = c.self.inside in
    let k : Kept = record { size = x.size; first = x.first; token = x.token; owes = x.owes_check; ring = x.ring; accepted = x.accepted; course = x.course } in
    let here : Lands k c.args.message.now c.args.plain.now h sent = subst (λ (v : Kept). Lands v c.args.message.now c.args.plain.now h sent) (sym c.self.view_is) lands in
    let fresh : sent.check ≡ false = sym (checks_is x.size c.args.message.now c.args.plain.now sent here.spelling) ∙ sym c.checks.ensures ∙ c.if-checks.false in
    landed k c.args.message.now c.args.plain.now h sent here fresh c.acked.new.self c.take.new.self going c.acked.ensures c.take.ensures.rest c.take.ensures.end
