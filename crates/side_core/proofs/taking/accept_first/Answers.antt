use Rattle.std.proofs.Common.{◌+◌, true, subst, ap, ◌∙◌, sym}
use Rattle.side_core.specs.Desk.{first_link, lends_next}
use Rattle.smc_num.specs.Links.{live_links}
use Rattle.side_core.specs.Manager.{Works}
use Rattle.side_core.specs.Taking.{accepts}
use Rattle.side_core.specs.Taking.{with_desk}
use Rattle.side_core.specs.Desk.{begins_group, next_place, new_offer}
use Rattle.smc_num.specs.Links.{live_links}
use Rattle.side_core.proofs.Ends.{works_desk}
use Rattle.side_core.proofs.Elements.{accept_post}
use Rattle.side_core.proofs.taking.accept_first.Goals as goal

-- src/taking.rt:110:1
pub returns-clause-works : goal.returns-clause-works
returns-clause-works c = λ m works. subst (λ l. Works c.start.new.desk c.start.new.connections (accepts c.args.s true l m)) (c.first_link-link.ensures ∙ ap (first_link c.args.paths.now) works.desk) (c.start.ensures.works (with_desk (λ x. begins_group c.args.s c.first_link-link.result (next_place x).rmb x) m) (works_desk c.args.desk.now c.begin-offer.new.self c.args.connections.now m (λ x. begins_group c.args.s c.first_link-link.result (next_place x).rmb x) c.begin-offer.ensures.desk (sym (ap live_links c.begin-offer.ensures.quiet)) works))

-- src/taking.rt:110:1
pub returns-clause-posts : goal.returns-clause-posts
returns-clause-posts c = λ m works. accept_post c.args.posts.now.items c.push_clc.new.posts.items c.args.s c.start.new.desk.side c.begin-offer.result true c.first_link-link.result (first_link c.args.paths.now m.desk) m c.push_clc.ensures (ap (λ d. d.side) (c.start.ensures.desk ∙ ap (lends_next c.args.s) c.begin-offer.ensures.desk ∙ ap (λ d. lends_next c.args.s (begins_group c.args.s c.first_link-link.result (next_place d).rmb d)) works.desk)) (c.first_link-link.ensures ∙ ap (first_link c.args.paths.now) works.desk) (c.begin-offer.ensures.offer ∙ ap (λ n. new_offer true c.first_link-link.result (n + 1) c.args.desk.now) (c.tokens.ensures ∙ works.records.tokens) ∙ ap (new_offer true c.first_link-link.result (m.records.tokens + 1)) works.desk)
