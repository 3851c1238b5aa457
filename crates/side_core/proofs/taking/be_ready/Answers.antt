use Rattle.std.proofs.Common.{refl, ◌≡◌, ◌++◌, ◌∷◌, false, [], subst, cond, sym}
use Rattle.side_core.specs.Desk.{pair_at}
use Rattle.side_core.specs.Acting.{risen_at}
use Rattle.pipe_model.specs.declared.post.Post.TheVariants.{Llc}
use Rattle.pipe_model.specs.Messages.{confirm_link}
use Rattle.side_core.specs.Manager.{Works}
use Rattle.side_core.specs.Taking.{rises_at, hears}
use Rattle.side_core.specs.Taking.{with_desk, hears, rises_at}
use Rattle.side_core.specs.Desk.{learns_offer}
use Rattle.side_core.specs.Acting.{risen_at}
use Rattle.side_core.proofs.Ends.{works_desk, works_hears, some_there, some_within}
use Rattle.side_core.proofs.Managers.{may_rise_heard}
use Rattle.side_core.proofs.taking.be_ready.Goals as goal

-- src/taking.rt:231:5
pub rise-requires-clause-there : goal.rise-requires-clause-there
rise-requires-clause-there c = (may_rise_heard c.args.s c.args.offer.now c.args.connections.now c.aim-2.new.self c.requires.working.plain.records c.requires.working.works.records (c.aim-2.ensures c.requires.working.plain.records c.requires.working.works.records) (some_there c.args.s c.args.connections.now _ c.requires.route) c.requires.heard.rmb c.requires.sound).peer

-- src/taking.rt:231:5
pub rise-requires-clause-sound : goal.rise-requires-clause-sound
rise-requires-clause-sound c = (may_rise_heard c.args.s c.args.offer.now c.args.connections.now c.aim-2.new.self c.requires.working.plain.records c.requires.working.works.records (c.aim-2.ensures c.requires.working.plain.records c.requires.working.works.records) (some_there c.args.s c.args.connections.now _ c.requires.route) c.requires.heard.rmb c.requires.sound).sound

-- src/taking.rt:208:1
pub returns-clause-works : goal.returns-clause-works
returns-clause-works c = λ m works. subst (λ b. Works c.args.desk.now c.rise.new.connections (cond b (hears c.args.s c.args.offer.now (with_desk (learns_offer c.args.link c.args.offer.now) m)) (rises_at c.args.s (hears c.args.s c.args.offer.now m)))) (sym c.if-offer.false) (c.rise.ensures.works (hears c.args.s c.args.offer.now m) (works_hears c.args.desk.now c.args.connections.now c.aim-2.new.self m c.args.s c.args.offer.now (some_within c.args.s c.args.connections.now (some_there c.args.s c.args.connections.now _ c.requires.route)) c.aim-2.ensures works))

-- src/taking.rt:208:1
pub returns-clause-posts : goal.returns-clause-posts
returns-clause-posts c = λ m works. subst (λ b. c.rise.new.posts.items ≡ c.args.posts.now.items ++ (cond b (Llc m.desk.side c.args.link (confirm_link m.desk.setup m.desk.side false c.args.link (pair_at c.args.link.slot m.desk)) ∷ []) [] ++ cond b [] (risen_at c.args.s (hears c.args.s c.args.offer.now m)))) (sym c.if-offer.false) (c.rise.ensures.posts (hears c.args.s c.args.offer.now m) (works_hears c.args.desk.now c.args.connections.now c.aim-2.new.self m c.args.s c.args.offer.now (some_within c.args.s c.args.connections.now (some_there c.args.s c.args.connections.now _ c.requires.route)) c.aim-2.ensures works))

-- src/taking.rt
pub returns-then-offer-clause-works : goal.returns-then-offer-clause-works
returns-then-offer-clause-works c = λ m works. subst (λ b. Works c.learn.new.self c.aim.new.self (cond b (hears c.args.s c.args.offer.now (with_desk (learns_offer c.args.link c.args.offer.now) m)) (rises_at c.args.s (hears c.args.s c.args.offer.now m)))) (sym c.if-offer.true)
    (works_hears c.learn.new.self c.args.connections.now c.aim.new.self (with_desk (learns_offer c.args.link c.args.offer.now) m) c.args.s c.args.offer.now (some_within c.args.s c.args.connections.now (some_there c.args.s c.args.connections.now _ c.requires.route)) c.aim.ensures
    (works_desk c.args.desk.now c.learn.new.self c.args.connections.now m (learns_offer c.args.link c.args.offer.now) c.learn.ensures refl works))
