use Rattle.std.proofs.Common.{◌∙◌, sym, ap, subst}
use Rattle.conn_end.specs.Kept.{Kept, Course, Represents}
use Rattle.pipe_model.specs.Ends.{Half}
use Rattle.pipe_model.specs.Ends.{fresh, strikes}
use Rattle.pipe_model.specs.Parts.{is_shut}
use Rattle.conn_end.proofs.Phases.{open_before_strike}
use Rattle.conn_end.proofs.Ends.{Stands, after, whole_phase, phase_only}
use Rattle.conn_end.proofs.ConnEnd.reset.Goals as goal

pub invariant_of-self-in_default : goal.invariant_of-self-in_default
invariant_of-self-in_default c =
    let x = c.self.inside in
    whole_phase x.size x.ring x.accepted x.course c.strike.new.self c.self.invariant (phase_only x.course c.strike.new.self c.strike.ensures.rest)
    (λ o. open_before_strike c.args.cause x.course.phase (ap is_shut (sym (ap (λ (q : Half). q.phase) (c.strike.ensures.end (fresh 1)))) ∙ o))

pub returns-in_default : goal.returns-in_default
returns-in_default c =
    let x = c.self.inside in record {
      group = λ h stands is. absurd (c.in_default.not-NoLiveLink h.link.group is);
      other = λ h stands no.
          let s : Stands x.size x.ring x.accepted x.course h = subst (λ (v : Kept). Represents v h) (sym c.self.view_is) stands in
          after x.size x.ring x.accepted x.course c.strike.new.self h (strikes c.args.cause) s (invariant_of-self-in_default c) (ap (λ (d : Course). d.fin) c.strike.ensures.rest) (c.strike.ensures.end h);
      terms = record {
        size = ap (λ (v : Kept). v.size) c.self.view_is;
        depth = ap (λ (d : Course). d.depth) c.strike.ensures.rest ∙ ap (λ (v : Kept). v.course.depth) c.self.view_is;
        first = ap (λ (v : Kept). v.first) c.self.view_is;
        token = ap (λ (v : Kept). v.token) c.self.view_is;
      };
      owes = ap (λ (v : Kept). v.owes) c.self.view_is;
    }
