use Rattle.std.proofs.Common.{◌++◌, sym, ◌∙◌, ap}
use Rattle.side_core.proofs.Ends.{works_rises, route_within}
use Rattle.side_core.proofs.Managers.{rising}
use Rattle.side_core.proofs.taking.rise.Goals as goal

-- src/taking.rt:248:1
pub returns-clause-works : goal.returns-clause-works
returns-clause-works c = λ m works. let up = rising c.args.s c.args.desk.now c.args.connections.now m c.in-Some.route c.way-way.result works (sym c.route.ensures ∙ c.in-Some.is) c.way-way.ensures in works_rises c.args.desk.now c.args.connections.now c.rise.new.self m c.args.s (route_within c.args.s c.args.connections.now c.in-Some.route (sym c.route.ensures ∙ c.in-Some.is)) (c.rise.ensures.end m.records works.records up.way_is) works

-- src/taking.rt:248:1
pub returns-clause-posts : goal.returns-clause-posts
returns-clause-posts c = λ m works. let up = rising c.args.s c.args.desk.now c.args.connections.now m c.in-Some.route c.way-way.result works (sym c.route.ensures ∙ c.in-Some.is) c.way-way.ensures in c.rise.ensures.posts m.records works.records up.way_is ∙ ap (λ ps. c.args.posts.now.items ++ ps) up.posts
