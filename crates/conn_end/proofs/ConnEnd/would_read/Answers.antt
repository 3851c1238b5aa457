use Rattle.std.proofs.Common.{subst}
use Rattle.conn_end.specs.Kept.{Kept, Represents}
use Rattle.pipe_model.specs.Calls.{Reads}
use Rattle.conn_end.specs.Told.{Answers}
use Rattle.conn_end.proofs.Ends.{Stands, answers}
use Rattle.conn_end.proofs.ConnEnd.would_read.Goals as goal

pub returns : goal.returns
returns c = λ h.
    let x = c.self.inside in
    subst (λ (v : Kept). Represents v h → Answers v.size (Reads c.args.len) h c.would_read.result) c.self.view_is
    (λ (s : Stands x.size x.ring x.accepted x.course h). answers x.size (Reads c.args.len) c.would_read.result x.ring x.accepted x.course h s (c.would_read.ensures.told h) c.would_read.ensures.place)
