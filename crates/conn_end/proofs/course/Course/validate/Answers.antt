use Rattle.std.proofs.Common.{◌∙◌, sym, ap}
use Rattle.conn_end.specs.Kept.{Course, at_course}
use Rattle.smc_num.specs.Numbers.{wire_number}
use Rattle.conn_end.proofs.Arriving.{validates_gap}
use Rattle.conn_end.proofs.course.Course.validate.Goals as goal

pub returns-clause-end : goal.returns-clause-end
returns-clause-end c = λ h.
    c.strike.ensures.end h ∙ sym (validates_gap c.args.told c.wire-taken.result (at_course c.args.self.now h) c.ranges.told.fits
    (c.wire-taken.ensures ∙ ap (λ (v : Course). wire_number v.taken.number) c.self.view_is) (sym c.behind.ensures.circle ∙ c.if-not-behind.false))
