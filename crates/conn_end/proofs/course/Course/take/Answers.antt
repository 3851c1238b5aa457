use Rattle.std.proofs.Common.{◌≡◌, ◌∙◌, subst}
use Rattle.pipe_model.specs.Ends.{Half, takes_snapshot}
use Rattle.conn_end.specs.Kept.{Course, at_course}
use Rattle.conn_end.proofs.Arriving.{takes_aborted}
use Rattle.conn_end.proofs.course.Course.take.Goals as goal

pub returns-then-s-clause-end : goal.returns-then-s-clause-end
returns-then-s-clause-end c = λ h.
    let x = c.self.inside in
    let q : Half = at_course (record { depth = x.depth; read = x.read; taken = x.taken; fin = x.fin; last = x.last; number = x.number; flight = x.flight.items; phase = x.phase; finished = x.finished }) h in
    subst (λ (v : Course). ◌≡◌ {A = Half} (at_course c.strike.new.self h) (takes_snapshot c.args.s (at_course v h))) c.self.view_is (c.strike.ensures.end h ∙ takes_aborted c.args.s q c.if-s.true)
