use Rattle.std.proofs.Common.{◌∙◌, [], sym, ap, subst}
use Rattle.conn_end.specs.Kept.{Kept, Course, at_course, Represents}
use Rattle.pipe_model.specs.Ends.{Half}
use Rattle.pipe_model.specs.Ends.{fresh}
use Rattle.pipe_model.specs.Closing.{cause_of}
use Rattle.pipe_model.specs.Parts.{is_shut}
use Rattle.pipe_model.specs.Calls.{Closes, closes}
use Rattle.conn_end.specs.declared.closing.Step.TheVariants.{Close}
use Rattle.conn_end.specs.Told.{Answers}
use Rattle.conn_end.proofs.Phases.{open_before_close, close_is, step_placed}
use Rattle.conn_end.proofs.Ends.{Stands, answers, after, whole_phase}
use Rattle.conn_end.proofs.ConnEnd.close.Goals as goal

pub invariant_of-self : goal.invariant_of-self
invariant_of-self c =
    let x = c.self.inside in
    whole_phase x.size x.ring x.accepted x.course c.close.new.self c.self.invariant c.close.ensures.rest (λ o. open_before_close x.course.phase (at_course x.course (fresh 1)) (ap (λ (q : Half). is_shut q.phase) (sym (c.close.ensures.end (fresh 1))) ∙ o))

pub returns-clause-end : goal.returns-clause-end
returns-clause-end c = λ h stands.
    let x = c.self.inside in
    let s : Stands x.size x.ring x.accepted x.course h = subst (λ (v : Kept). Represents v h) (sym c.self.view_is) stands in
    after x.size x.ring x.accepted x.course c.close.new.self h closes s
    (whole_phase x.size x.ring x.accepted x.course c.close.new.self c.self.invariant c.close.ensures.rest (λ o. open_before_close x.course.phase (at_course x.course (fresh 1)) (ap (λ (q : Half). is_shut q.phase) (sym (c.close.ensures.end (fresh 1))) ∙ o)))
    (ap (λ (d : Course). d.fin) c.close.ensures.rest) (c.close.ensures.end h)

pub returns-clause-told : goal.returns-clause-told
returns-clause-told c = λ h.
    let x = c.self.inside in
    subst (λ (v : Kept). Represents v h → Answers v.size Closes h c.told-reply.result) c.self.view_is (λ (s : Stands x.size x.ring x.accepted x.course h).
    answers x.size Closes c.told-reply.result x.ring x.accepted x.course h s
    (λ peer_out. c.told-reply.ensures x.course.read peer_out ∙ close_is x.size (at_course x.course h) peer_out (cause_of x.course.phase))
    (step_placed x.size x.course.read c.told-reply.result Close (cause_of x.course.phase) x.course.phase (c.told-reply.ensures x.course.read [])))
