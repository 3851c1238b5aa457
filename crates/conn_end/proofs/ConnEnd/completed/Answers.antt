use Rattle.std.proofs.Common.{◌≡◌, ◌∙◌, false, sym, subst}
use Rattle.conn_end.specs.Kept.{Kept}
use Rattle.conn_end.specs.Arrivals.{Completes}
use Rattle.conn_end.proofs.Arriving.{checks_is, done_requires, done_whole, done}
use Rattle.conn_end.proofs.ConnEnd.completed.Goals as goal

pub complete-requires : goal.complete-requires
complete-requires c =
    let x = c.self.inside in
    let q = c.requires in
    let k : Kept = record { size = x.size; first = x.first; token = x.token; owes = x.owes_check; ring = x.ring; accepted = x.accepted; course = x.course } in
    let here : Completes k c.args.message.now c.args.plain.now q.end q.sent = subst (λ (v : Kept). Completes v c.args.message.now c.args.plain.now q.end q.sent) (sym c.self.view_is) q.completes in
    let fresh : q.sent.check ≡ false = sym (checks_is x.size c.args.message.now c.args.plain.now q.sent here.spelling) ∙ sym c.checks.ensures ∙ c.if-not-checks.true in
    done_requires k c.args.message.now c.args.plain.now q.end q.sent here fresh

pub invariant_of-self : goal.invariant_of-self
invariant_of-self c =
    let x = c.self.inside in
    let q = c.requires in
    let k : Kept = record { size = x.size; first = x.first; token = x.token; owes = x.owes_check; ring = x.ring; accepted = x.accepted; course = x.course } in
    let here : Completes k c.args.message.now c.args.plain.now q.end q.sent = subst (λ (v : Kept). Completes v c.args.message.now c.args.plain.now q.end q.sent) (sym c.self.view_is) q.completes in
    let fresh : q.sent.check ≡ false = sym (checks_is x.size c.args.message.now c.args.plain.now q.sent here.spelling) ∙ sym c.checks.ensures ∙ c.if-not-checks.true in
    done_whole k c.args.message.now c.args.plain.now q.end q.sent here fresh c.complete.new.self c.complete-then-not-checks.new.self c.complete.ensures c.complete-then-not-checks.ensures

pub returns-then-not-checks-clause-end : goal.returns-then-not-checks-clause-end
returns-then-not-checks-clause-end c = λ h sent completes.
    let x = c.self.inside in
    let k : Kept = record { size = x.size; first = x.first; token = x.token; owes = x.owes_check; ring = x.ring; accepted = x.accepted; course = x.course } in
    let here : Completes k c.args.message.now c.args.plain.now h sent = subst (λ (v : Kept). Completes v c.args.message.now c.args.plain.now h sent) (sym c.self.view_is) completes in
    let fresh : sent.check ≡ false = sym (checks_is x.size c.args.message.now c.args.plain.now sent here.spelling) ∙ sym c.checks.ensures ∙ c.if-not-checks.true in
    done k c.args.message.now c.args.plain.now h sent here fresh c.complete.new.self c.complete-then-not-checks.new.self c.complete.ensures c.complete-then-not-checks.ensures
