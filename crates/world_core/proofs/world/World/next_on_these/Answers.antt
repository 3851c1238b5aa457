-- The sockets are looked at one after another.
use Rattle.std.proofs.Common.{◌∙◌, sym, refl}
use Rattle.world_core.specs.Steps.{does_something, socket_events, told_by}
use Rattle.world_core.proofs.NextEvents.{found-here, found-later, found-nowhere}
use Rattle.world_core.proofs.world.World.next_on_these.Goals as goal

pub loop-s-init : goal.loop-s-init
loop-s-init c = refl

pub returns-in-Some-clause-first : goal.returns-in-Some-clause-first
returns-in-Some-clause-first c = found-here (λ event. does_something (told_by c.args.self.now event)) socket_events c.args.sockets.now c.loop-s.s-index c.in-Some.event c.loop-s-test.true c.loop-s.invariant (sym c.next_on.ensures.first ∙ c.in-Some.is)

pub loop-s-preserved : goal.loop-s-preserved
loop-s-preserved c = found-later (λ event. does_something (told_by c.args.self.now event)) socket_events c.args.sockets.now c.loop-s.s-index c.loop-s-test.true c.loop-s.invariant (sym c.next_on.ensures.first ∙ c.in_default.is)

pub returns-clause-first : goal.returns-clause-first
returns-clause-first c = found-nowhere (λ event. does_something (told_by c.args.self.now event)) socket_events c.args.sockets.now c.loop-s.s-index c.loop-s-test.false c.loop-s.invariant
