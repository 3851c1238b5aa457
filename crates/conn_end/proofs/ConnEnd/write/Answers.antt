use Rattle.std.proofs.Common.{◌≡◌, ◌∙◌, ◌+◌, ℕ, min, length, true, sym, ap, subst}
use Rattle.conn_end.specs.Kept.{Kept, ring_of, Represents}
use Rattle.pipe_model.specs.Ends.{Half}
use Rattle.pipe_model.specs.Closing.{cause_of}
use Rattle.pipe_model.specs.Calls.{Writes, accepts, is_ended}
use Rattle.conn_end.specs.declared.answers.EndReply.{EndReply}
use Rattle.conn_end.specs.declared.answers.EndReply.TheVariants.{Wrote, Ended}
use Rattle.conn_end.specs.Told.{Answers}
use Rattle.conn_end.proofs.Ends.{Stands, came}
use Rattle.conn_end.proofs.Writing.{nil_is, takes_none, window_is, written, write_answers, ended_answers, nothing_answers}
use Rattle.conn_end.proofs.ConnEnd.write.Goals as goal

pub returns-then-is_ended-clause-end : goal.returns-then-is_ended-clause-end
returns-then-is_ended-clause-end c = λ h stands.
    let x = c.self.inside in
    let s : Stands x.size x.ring x.accepted x.course h = subst (λ (v : Kept). Represents v h) (sym c.self.view_is) stands in
    let ended : is_ended h ≡ true = ap is_ended (sym (came x.size x.ring x.accepted x.course h s)) ∙ sym (c.is_ended.ensures h) ∙ c.if-is_ended.true in
    subst (λ (g : Half). Represents c.args.self.now g) (sym (takes_none c.args.self.now.size c.args.bytes.now h ended)) stands

pub returns-then-is_ended-clause-told : goal.returns-then-is_ended-clause-told
returns-then-is_ended-clause-told c = λ h.
    let x = c.self.inside in
    subst (λ (v : Kept). Represents v h → Answers v.size (Writes c.args.bytes.now) h Ended) c.self.view_is (λ (s : Stands x.size x.ring x.accepted x.course h).
    ended_answers x.size c.args.bytes.now h (ap cause_of (sym s.phase) ∙ sym c.cause.ensures ∙ c.in_default.is)
    (ap is_ended (sym (came x.size x.ring x.accepted x.course h s)) ∙ sym (c.is_ended.ensures h) ∙ c.if-is_ended.true))

pub returns-then-is_empty-clause-told : goal.returns-then-is_empty-clause-told
returns-then-is_empty-clause-told c = λ h.
    let x = c.self.inside in
    subst (λ (v : Kept). Represents v h → Answers v.size (Writes c.args.bytes.now) h (Wrote 0)) c.self.view_is (λ (s : Stands x.size x.ring x.accepted x.course h).
    nothing_answers x.size c.args.bytes.now h (ap cause_of (sym s.phase) ∙ sym c.cause.ensures ∙ c.in_default.is)
    (ap is_ended (sym (came x.size x.ring x.accepted x.course h s)) ∙ sym (c.is_ended.ensures h) ∙ c.if-is_ended.false)
    (sym (nil_is c.args.bytes.now) ∙ sym c.is_empty.ensures ∙ c.if-is_empty.true))

pub returns-clause-end : goal.returns-clause-end
returns-clause-end c = λ h stands.
    let x = c.self.inside in
    let s : Stands x.size x.ring x.accepted x.course h = subst (λ (v : Kept). Represents v h) (sym c.self.view_is) stands in
    subst (λ (n : ℕ). Stands x.size c.accept-count.new.self (x.accepted + c.accept-count.result) x.course (accepts n c.args.bytes.now h)) (ap (λ (v : Kept). v.size) c.self.view_is)
    (written x.size x.ring c.accept-count.new.self x.accepted c.accept-count.result x.course c.args.bytes.now h s
    (sym c.cause.ensures ∙ c.in_default.is) (sym (c.is_ended.ensures h) ∙ c.if-is_ended.false)
    (c.accept-count.ensures.count (ring_of x.size x.ring.bytes x.course) s.whole.ring) (c.accept-count.ensures.ring (ring_of x.size x.ring.bytes x.course) s.whole.ring))

pub returns-clause-told : goal.returns-clause-told
returns-clause-told c = λ h.
    let x = c.self.inside in
    subst (λ (v : Kept). Represents v h → Answers v.size (Writes c.args.bytes.now) h c.wrote.result) c.self.view_is (λ (s : Stands x.size x.ring x.accepted x.course h).
    subst (λ (r : EndReply). Answers x.size (Writes c.args.bytes.now) h r) (sym c.wrote.ensures)
    (write_answers x.size c.accept-count.result c.args.bytes.now h (ap cause_of (sym s.phase) ∙ sym c.cause.ensures ∙ c.in_default.is)
    (ap is_ended (sym (came x.size x.ring x.accepted x.course h s)) ∙ sym (c.is_ended.ensures h) ∙ c.if-is_ended.false)
    (sym (nil_is c.args.bytes.now) ∙ sym c.is_empty.ensures ∙ c.if-is_empty.false)
    (c.accept-count.ensures.count (ring_of x.size x.ring.bytes x.course) s.whole.ring ∙ ap (λ w. min (length c.args.bytes.now) w) (window_is x.size x.ring x.accepted x.course h s))))
