use Rattle.pipe_model.specs.Ends.{comes_up}
use Rattle.side_core.proofs.record.Record.rise.Goals as goal

pub returns-clause-end : goal.returns-clause-end
returns-clause-end c = λ h stands live. c.post_due.ensures.end (comes_up c.args.self.now.route.link h) stands live
