use Rattle.side_core.proofs.Ends.{works_start}
use Rattle.side_core.proofs.taking.start.Goals as goal

-- src/taking.rt:100:1
pub returns-clause-works : goal.returns-clause-works
returns-clause-works c = λ m works. works_start c.args.desk.now c.lend-element.new.self c.args.connections.now c.begin.new.self m c.args.s c.args.link c.lend-element.result c.requires.free.socket c.lend-element.ensures.element c.lend-element.ensures.desk c.begin.ensures.begins works
