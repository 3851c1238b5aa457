-- The host of the side that posted lands it at the other.
use Rattle.std.proofs.Common.{ap, refl, subst, sym}
use Rattle.smc_num.specs.declared.Side.TheVariants.{A, B}
use Rattle.pipe_model.specs.declared.event.Event.TheVariants.{Deliver}
use Rattle.world_core.specs.Hosts.{IsPlayedBy, past_of}
use Rattle.world_core.proofs.HostsSwapped.{at_b, turned}
use Rattle.world_core.proofs.events.land_from.Goals as goal

pub deliver-requires-clause-hosts : goal.deliver-requires-clause-hosts
deliver-requires-clause-hosts c = (A, c.requires.hosts)

pub deliver-requires-in-B-clause-hosts : goal.deliver-requires-in-B-clause-hosts
deliver-requires-in-B-clause-hosts c = let at = c.args.moment in (B, turned at.setup.now at.payload.now (past_of at) at.heard c.args.a.now c.args.b.now c.requires.hosts)

pub returns-in-A : goal.returns-in-A
returns-in-A c =
    let t = c.deliver in
    subst (λ y. IsPlayedBy c.args.moment (Deliver c.args.slot y) t.result t.new.posts.items A t.new.own t.new.theirs) (sym c.in-A.is) (t.ensures A c.requires.hosts)

pub returns-in-B : goal.returns-in-B
returns-in-B c =
    let at = c.args.moment in
    at_b at (Deliver c.args.slot c.args.dir) (Deliver c.args.slot B) _ _ B _ _ (ap (λ y. Deliver c.args.slot y) c.in-B.is) refl (c.deliver-in-B.ensures B (turned at.setup.now at.payload.now (past_of at) at.heard c.args.a.now c.args.b.now c.requires.hosts))
