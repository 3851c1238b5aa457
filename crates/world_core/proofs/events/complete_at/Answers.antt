-- The host of the side that posted completes it.
use Rattle.std.proofs.Common.{ap, refl, subst, sym}
use Rattle.smc_num.specs.declared.Side.TheVariants.{A, B}
use Rattle.pipe_model.specs.declared.event.Event.TheVariants.{Complete}
use Rattle.world_core.specs.Hosts.{IsPlayedBy, past_of}
use Rattle.world_core.proofs.HostsSwapped.{at_b, turned}
use Rattle.world_core.proofs.events.complete_at.Goals as goal

pub complete-requires-clause-hosts : goal.complete-requires-clause-hosts
complete-requires-clause-hosts c = (A, c.args.b.now, c.requires.hosts)

pub complete-requires-in-B-clause-hosts : goal.complete-requires-in-B-clause-hosts
complete-requires-in-B-clause-hosts c = let at = c.args.moment in (B, c.args.a.now, turned at.setup.now at.payload.now (past_of at) at.heard c.args.a.now c.args.b.now c.requires.hosts)

pub returns-in-A : goal.returns-in-A
returns-in-A c =
    let t = c.complete in
    subst (λ y. IsPlayedBy c.args.moment (Complete c.args.slot y) t.result t.new.posts.items A t.new.own c.args.b.now) (sym c.in-A.is) (t.ensures A c.args.b.now c.requires.hosts)

pub returns-in-B : goal.returns-in-B
returns-in-B c =
    let at = c.args.moment in
    at_b at (Complete c.args.slot c.args.dir) (Complete c.args.slot B) _ _ B _ _ (ap (λ y. Complete c.args.slot y) c.in-B.is) refl (c.complete-in-B.ensures B c.args.a.now (turned at.setup.now at.payload.now (past_of at) at.heard c.args.a.now c.args.b.now c.requires.hosts))
