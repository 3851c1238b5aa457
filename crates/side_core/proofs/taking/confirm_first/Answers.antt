use Rattle.std.proofs.Common.{◌≤◌, ◌<◌, ◌+◌, true, ◌∙◌, subst, ap, sym}
use Rattle.side_core.specs.Desk.{lends_next}
use Rattle.smc_num.specs.Links.{live_links}
use Rattle.side_core.specs.Taking.{starts}
use Rattle.side_core.specs.Taking.{with_desk, starts}
use Rattle.side_core.specs.Desk.{begins_group, makes_link, learns_offer, next_place, new_offer}
use Rattle.smc_num.specs.Links.{live_links}
use Rattle.side_core.proofs.Ends.{works_desk, works_hears}
use Rattle.side_core.proofs.Managers.{started_facts}
use Rattle.side_core.proofs.Elements.{confirm_post}
use Rattle.side_core.proofs.taking.confirm_first.Goals as goal

-- src/taking.rt:178:5
pub aim-requires-clause-there : goal.aim-requires-clause-there
aim-requires-clause-there c = (started_facts c.args.s c.args.offer.now.token c.args.link c.args.connections.now c.start.new.connections (with_desk (λ x. learns_offer c.args.link c.args.offer.now (makes_link c.args.link (begins_group c.args.s c.args.link (next_place x).rmb x))) c.requires.working.plain) c.requires.working.works.records c.requires.can.none c.requires.can.socket c.requires.heard.new (c.start.ensures.works (with_desk (λ x. learns_offer c.args.link c.args.offer.now (makes_link c.args.link (begins_group c.args.s c.args.link (next_place x).rmb x))) c.requires.working.plain) (works_desk c.args.desk.now c.learn.new.self c.args.connections.now c.requires.working.plain (λ x. learns_offer c.args.link c.args.offer.now (makes_link c.args.link (begins_group c.args.s c.args.link (next_place x).rmb x))) (c.learn.ensures ∙ ap (learns_offer c.args.link c.args.offer.now) (c.make_link.ensures ∙ ap (makes_link c.args.link) c.begin-own.ensures.desk)) (sym (ap live_links c.begin-own.ensures.quiet)) c.requires.working.works)).records).there_is

-- src/taking.rt:178:5
pub aim-requires-clause-alone : goal.aim-requires-clause-alone
aim-requires-clause-alone c = (started_facts c.args.s c.args.offer.now.token c.args.link c.args.connections.now c.start.new.connections (with_desk (λ x. learns_offer c.args.link c.args.offer.now (makes_link c.args.link (begins_group c.args.s c.args.link (next_place x).rmb x))) c.requires.working.plain) c.requires.working.works.records c.requires.can.none c.requires.can.socket c.requires.heard.new (c.start.ensures.works (with_desk (λ x. learns_offer c.args.link c.args.offer.now (makes_link c.args.link (begins_group c.args.s c.args.link (next_place x).rmb x))) c.requires.working.plain) (works_desk c.args.desk.now c.learn.new.self c.args.connections.now c.requires.working.plain (λ x. learns_offer c.args.link c.args.offer.now (makes_link c.args.link (begins_group c.args.s c.args.link (next_place x).rmb x))) (c.learn.ensures ∙ ap (learns_offer c.args.link c.args.offer.now) (c.make_link.ensures ∙ ap (makes_link c.args.link) c.begin-own.ensures.desk)) (sym (ap live_links c.begin-own.ensures.quiet)) c.requires.working.works)).records).alone

-- src/taking.rt:178:5
pub aim-requires-clause-most : goal.aim-requires-clause-most
aim-requires-clause-most c = subst (λ n. c.args.offer.now.token ≤ n) (sym (started_facts c.args.s c.args.offer.now.token c.args.link c.args.connections.now c.start.new.connections (with_desk (λ x. learns_offer c.args.link c.args.offer.now (makes_link c.args.link (begins_group c.args.s c.args.link (next_place x).rmb x))) c.requires.working.plain) c.requires.working.works.records c.requires.can.none c.requires.can.socket c.requires.heard.new (c.start.ensures.works (with_desk (λ x. learns_offer c.args.link c.args.offer.now (makes_link c.args.link (begins_group c.args.s c.args.link (next_place x).rmb x))) c.requires.working.plain) (works_desk c.args.desk.now c.learn.new.self c.args.connections.now c.requires.working.plain (λ x. learns_offer c.args.link c.args.offer.now (makes_link c.args.link (begins_group c.args.s c.args.link (next_place x).rmb x))) (c.learn.ensures ∙ ap (learns_offer c.args.link c.args.offer.now) (c.make_link.ensures ∙ ap (makes_link c.args.link) c.begin-own.ensures.desk)) (sym (ap live_links c.begin-own.ensures.quiet)) c.requires.working.works)).records).sockets) c.requires.heard.within

-- src/taking.rt:157:1
pub returns-clause-works : goal.returns-clause-works
returns-clause-works c = λ m works. works_hears c.start.new.desk c.start.new.connections c.aim.new.self (starts c.args.s c.args.link (with_desk (λ x. learns_offer c.args.link c.args.offer.now (makes_link c.args.link (begins_group c.args.s c.args.link (next_place x).rmb x))) m)) c.args.s c.args.offer.now (subst (λ n. c.args.s < n) (sym (started_facts c.args.s c.args.offer.now.token c.args.link c.args.connections.now c.start.new.connections (with_desk (λ x. learns_offer c.args.link c.args.offer.now (makes_link c.args.link (begins_group c.args.s c.args.link (next_place x).rmb x))) c.requires.working.plain) c.requires.working.works.records c.requires.can.none c.requires.can.socket c.requires.heard.new (c.start.ensures.works (with_desk (λ x. learns_offer c.args.link c.args.offer.now (makes_link c.args.link (begins_group c.args.s c.args.link (next_place x).rmb x))) c.requires.working.plain) (works_desk c.args.desk.now c.learn.new.self c.args.connections.now c.requires.working.plain (λ x. learns_offer c.args.link c.args.offer.now (makes_link c.args.link (begins_group c.args.s c.args.link (next_place x).rmb x))) (c.learn.ensures ∙ ap (learns_offer c.args.link c.args.offer.now) (c.make_link.ensures ∙ ap (makes_link c.args.link) c.begin-own.ensures.desk)) (sym (ap live_links c.begin-own.ensures.quiet)) c.requires.working.works)).records).sockets) c.requires.can.socket) c.aim.ensures (c.start.ensures.works (with_desk (λ x. learns_offer c.args.link c.args.offer.now (makes_link c.args.link (begins_group c.args.s c.args.link (next_place x).rmb x))) m) (works_desk c.args.desk.now c.learn.new.self c.args.connections.now m (λ x. learns_offer c.args.link c.args.offer.now (makes_link c.args.link (begins_group c.args.s c.args.link (next_place x).rmb x))) (c.learn.ensures ∙ ap (learns_offer c.args.link c.args.offer.now) (c.make_link.ensures ∙ ap (makes_link c.args.link) c.begin-own.ensures.desk)) (sym (ap live_links c.begin-own.ensures.quiet)) works))

-- src/taking.rt:157:1
pub returns-clause-posts : goal.returns-clause-posts
returns-clause-posts c = λ m works. confirm_post c.args.posts.now.items c.push_clc.new.posts.items c.args.s c.start.new.desk.side c.begin-own.result true c.args.link m c.push_clc.ensures (ap (λ d. d.side) (c.start.ensures.desk ∙ ap (lends_next c.args.s) (c.learn.ensures ∙ ap (learns_offer c.args.link c.args.offer.now) (c.make_link.ensures ∙ ap (makes_link c.args.link) c.begin-own.ensures.desk)) ∙ ap (λ x. lends_next c.args.s (learns_offer c.args.link c.args.offer.now (makes_link c.args.link (begins_group c.args.s c.args.link (next_place x).rmb x)))) works.desk)) (c.begin-own.ensures.offer ∙ ap (λ n. new_offer true c.args.link (n + 1) c.args.desk.now) (c.tokens.ensures ∙ works.records.tokens) ∙ ap (new_offer true c.args.link (m.records.tokens + 1)) works.desk)
