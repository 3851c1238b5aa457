use Rattle.std.proofs.Common.{◌≡◌, ◌++◌, subst, sym, ◌∙◌, ap}
use Rattle.side_core.specs.Manager.{Works}
use Rattle.side_core.specs.Taking.{by_verdict, verdict_posts, verdict_risen}
use Rattle.pipe_model.specs.declared.verdict.ClcStep.TheVariants.{SendAccept}
use Rattle.side_core.proofs.taking.carry_out.Goals as goal

-- src/taking.rt:333:1
pub returns-in-SendAccept-true-clause-works : goal.returns-in-SendAccept-true-clause-works
returns-in-SendAccept-true-clause-works c = λ m works. subst (λ step. Works c.accept_first.new.desk c.accept_first.new.connections (by_verdict c.args.s c.args.message.now c.args.link c.args.paths.now m step)) (sym (c.in-SendAccept-true.is ∙ ap SendAccept c.in-SendAccept-true.first-test)) (c.accept_first.ensures.works m works)

-- src/taking.rt:333:1
pub returns-in-SendAccept-false-clause-works : goal.returns-in-SendAccept-false-clause-works
returns-in-SendAccept-false-clause-works c = λ m works. subst (λ step. Works c.accept_later.new.desk c.accept_later.new.connections (by_verdict c.args.s c.args.message.now c.args.link c.args.paths.now m step)) (sym (c.in-SendAccept-false.is ∙ ap SendAccept c.in-SendAccept-false.first-test)) (c.accept_later.ensures.works m c.args.paths.now works)

-- src/taking.rt:333:1
pub returns-in-SendAccept-false-clause-posts : goal.returns-in-SendAccept-false-clause-posts
returns-in-SendAccept-false-clause-posts c = λ m works. subst (λ step. c.accept_later.new.posts.items ≡ c.args.posts.now.items ++ (verdict_posts c.args.s c.args.message.now c.args.link c.args.paths.now m step ++ verdict_risen c.args.s c.args.message.now c.args.link m step)) (sym (c.in-SendAccept-false.is ∙ ap SendAccept c.in-SendAccept-false.first-test)) (c.accept_later.ensures.posts m c.args.paths.now works)
