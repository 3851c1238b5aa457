use Rattle.std.proofs.Common.{sym, ap, subst}
use Rattle.conn_end.specs.Kept.{Kept, Course, Represents}
use Rattle.pipe_model.specs.Calls.{Reads, reads}
use Rattle.conn_end.specs.Told.{Answers}
use Rattle.conn_end.proofs.Ends.{Stands, answers, after, whole_read}
use Rattle.conn_end.proofs.ConnEnd.read.Goals as goal

pub returns-clause-end : goal.returns-clause-end
returns-clause-end c = λ h stands.
    let x = c.self.inside in
    let s : Stands x.size x.ring x.accepted x.course h = subst (λ (v : Kept). Represents v h) (sym c.self.view_is) stands in
    after x.size x.ring x.accepted x.course c.read.new.self h (reads c.args.len) s
    (whole_read x.size x.ring x.accepted x.course c.read.new.self s.whole c.read.ensures.rest c.read.ensures.told)
    (ap (λ (d : Course). d.fin) c.read.ensures.rest) (c.read.ensures.end h)

pub returns-clause-told : goal.returns-clause-told
returns-clause-told c = λ h.
    let x = c.self.inside in
    subst (λ (v : Kept). Represents v h → Answers v.size (Reads c.args.len) h c.would_read-reply.result) c.self.view_is
    (λ (s : Stands x.size x.ring x.accepted x.course h). answers x.size (Reads c.args.len) c.would_read-reply.result x.ring x.accepted x.course h s (c.would_read-reply.ensures.told h) c.would_read-reply.ensures.place)
