-- The host that takes is that of the other side.
use Rattle.std.proofs.Common.{ap, refl, subst, sym}
use Rattle.smc_num.specs.declared.Side.TheVariants.{A, B}
use Rattle.pipe_model.specs.declared.event.Event.TheVariants.{Clc}
use Rattle.world_core.specs.Hosts.{IsPlayedBy, past_of}
use Rattle.world_core.proofs.HostsSwapped.{at_b, turned}
use Rattle.world_core.proofs.events.take_from.Goals as goal

pub take-requires-clause-hosts : goal.take-requires-clause-hosts
take-requires-clause-hosts c = let at = c.args.moment in (A, turned at.setup.now at.payload.now (past_of at) at.heard c.args.a.now c.args.b.now c.requires.hosts)

pub take-requires-in-B-clause-hosts : goal.take-requires-in-B-clause-hosts
take-requires-in-B-clause-hosts c = (B, c.requires.hosts)

pub returns-in-A : goal.returns-in-A
returns-in-A c =
    let at = c.args.moment in
    at_b at (Clc c.args.s c.args.dir) (Clc c.args.s A) _ _ B _ _ (ap (λ y. Clc c.args.s y) c.in-A.is) refl (c.take.ensures A (turned at.setup.now at.payload.now (past_of at) at.heard c.args.a.now c.args.b.now c.requires.hosts))

pub returns-in-B : goal.returns-in-B
returns-in-B c =
    let t = c.take-in-B in
    subst (λ y. IsPlayedBy c.args.moment (Clc c.args.s y) t.result t.new.posts.items A t.new.own t.new.theirs) (sym c.in-B.is) (t.ensures B c.requires.hosts)
