use Rattle.std.proofs.Common.{◌++◌, ◌≤◌, ◌<◌, ◌^◌, ◌+◌, false, subst, sym, ◌∙◌, ap, append_assoc}
use Rattle.side_core.specs.Desk.{lends_next}
use Rattle.side_core.specs.Acting.{risen_at}
use Rattle.side_core.specs.Taking.{starts, hears}
use Rattle.side_core.specs.Taking.{hears, starts}
use Rattle.side_core.specs.Desk.{new_offer}
use Rattle.side_core.specs.Acting.{risen_at}
use Rattle.side_core.proofs.Ends.{works_hears}
use Rattle.side_core.proofs.Managers.{started_facts, may_rise_new}
use Rattle.side_core.proofs.Elements.{confirm_post}
use Rattle.side_core.proofs.taking.confirm_later.Goals as goal

-- src/taking.rt:201:5
pub aim-requires-clause-there : goal.aim-requires-clause-there
aim-requires-clause-there c = (started_facts c.args.s c.args.offer.now.token c.args.link c.args.connections.now c.start.new.connections c.requires.working.plain c.requires.working.works.records c.requires.can.none c.requires.can.socket c.requires.heard.new (c.start.ensures.works c.requires.working.plain c.requires.working.works).records).there_is

-- src/taking.rt:201:5
pub aim-requires-clause-alone : goal.aim-requires-clause-alone
aim-requires-clause-alone c = (started_facts c.args.s c.args.offer.now.token c.args.link c.args.connections.now c.start.new.connections c.requires.working.plain c.requires.working.works.records c.requires.can.none c.requires.can.socket c.requires.heard.new (c.start.ensures.works c.requires.working.plain c.requires.working.works).records).alone

-- src/taking.rt:201:5
pub aim-requires-clause-most : goal.aim-requires-clause-most
aim-requires-clause-most c = subst (λ n. c.args.offer.now.token ≤ n) (sym (started_facts c.args.s c.args.offer.now.token c.args.link c.args.connections.now c.start.new.connections c.requires.working.plain c.requires.working.works.records c.requires.can.none c.requires.can.socket c.requires.heard.new (c.start.ensures.works c.requires.working.plain c.requires.working.works).records).sockets) c.requires.heard.within

-- src/taking.rt:203:5
pub rise-requires-clause-there : goal.rise-requires-clause-there
rise-requires-clause-there c = (may_rise_new c.args.s c.args.link c.args.offer.now c.aim.new.self c.requires.working.plain (subst (λ n. c.args.s < n) c.requires.working.works.records.sockets c.requires.can.socket) c.requires.heard.rmb (subst (λ t. t.number < 2 ^ 63) c.requires.working.works.records.terms c.requires.working.number) (works_hears c.start.new.desk c.start.new.connections c.aim.new.self (starts c.args.s c.args.link c.requires.working.plain) c.args.s c.args.offer.now (subst (λ n. c.args.s < n) (sym (started_facts c.args.s c.args.offer.now.token c.args.link c.args.connections.now c.start.new.connections c.requires.working.plain c.requires.working.works.records c.requires.can.none c.requires.can.socket c.requires.heard.new (c.start.ensures.works c.requires.working.plain c.requires.working.works).records).sockets) c.requires.can.socket) c.aim.ensures (c.start.ensures.works c.requires.working.plain c.requires.working.works)).records).peer

-- src/taking.rt:203:5
pub rise-requires-clause-sound : goal.rise-requires-clause-sound
rise-requires-clause-sound c = (may_rise_new c.args.s c.args.link c.args.offer.now c.aim.new.self c.requires.working.plain (subst (λ n. c.args.s < n) c.requires.working.works.records.sockets c.requires.can.socket) c.requires.heard.rmb (subst (λ t. t.number < 2 ^ 63) c.requires.working.works.records.terms c.requires.working.number) (works_hears c.start.new.desk c.start.new.connections c.aim.new.self (starts c.args.s c.args.link c.requires.working.plain) c.args.s c.args.offer.now (subst (λ n. c.args.s < n) (sym (started_facts c.args.s c.args.offer.now.token c.args.link c.args.connections.now c.start.new.connections c.requires.working.plain c.requires.working.works.records c.requires.can.none c.requires.can.socket c.requires.heard.new (c.start.ensures.works c.requires.working.plain c.requires.working.works).records).sockets) c.requires.can.socket) c.aim.ensures (c.start.ensures.works c.requires.working.plain c.requires.working.works)).records).sound

-- src/taking.rt:183:1
pub returns-clause-works : goal.returns-clause-works
returns-clause-works c = λ m works. c.rise.ensures.works (hears c.args.s c.args.offer.now (starts c.args.s c.args.link m)) (works_hears c.start.new.desk c.start.new.connections c.aim.new.self (starts c.args.s c.args.link m) c.args.s c.args.offer.now (subst (λ n. c.args.s < n) (sym (started_facts c.args.s c.args.offer.now.token c.args.link c.args.connections.now c.start.new.connections c.requires.working.plain c.requires.working.works.records c.requires.can.none c.requires.can.socket c.requires.heard.new (c.start.ensures.works c.requires.working.plain c.requires.working.works).records).sockets) c.requires.can.socket) c.aim.ensures (c.start.ensures.works m works))

-- src/taking.rt:183:1
pub returns-clause-posts : goal.returns-clause-posts
returns-clause-posts c = λ m works. c.rise.ensures.posts (hears c.args.s c.args.offer.now (starts c.args.s c.args.link m)) (works_hears c.start.new.desk c.start.new.connections c.aim.new.self (starts c.args.s c.args.link m) c.args.s c.args.offer.now (subst (λ n. c.args.s < n) (sym (started_facts c.args.s c.args.offer.now.token c.args.link c.args.connections.now c.start.new.connections c.requires.working.plain c.requires.working.works.records c.requires.can.none c.requires.can.socket c.requires.heard.new (c.start.ensures.works c.requires.working.plain c.requires.working.works).records).sockets) c.requires.can.socket) c.aim.ensures (c.start.ensures.works m works)) ∙ ap (λ ps. ps ++ risen_at c.args.s (hears c.args.s c.args.offer.now (starts c.args.s c.args.link m))) (confirm_post c.args.posts.now.items c.push_clc.new.posts.items c.args.s c.start.new.desk.side c.offer-own.result false c.args.link m c.push_clc.ensures (ap (λ d. d.side) (c.start.ensures.desk ∙ ap (lends_next c.args.s) works.desk)) (c.offer-own.ensures ∙ ap (λ n. new_offer false c.args.link (n + 1) c.args.desk.now) (c.tokens.ensures ∙ works.records.tokens) ∙ ap (new_offer false c.args.link (m.records.tokens + 1)) works.desk)) ∙ append_assoc c.args.posts.now.items _ _
