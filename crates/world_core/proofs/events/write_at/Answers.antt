-- The host of the end writes.
use Rattle.std.proofs.Common.{refl, subst, sym}
use Rattle.pipe_model.specs.declared.event.Event.TheVariants.{Write}
use Rattle.world_core.specs.Hosts.{AreHosts, IsPlayedBy, past_of}
use Rattle.world_core.proofs.HostsSwapped.{at_b, turned}
use Rattle.world_core.proofs.events.write_at.Goals as goal

pub write-requires-clause-hosts : goal.write-requires-clause-hosts
write-requires-clause-hosts c = (c.args.b.now, subst (λ x. AreHosts c.args.moment x c.args.a.now c.args.b.now) (sym c.in-A.is) c.requires.hosts)

pub write-requires-in-B-clause-hosts : goal.write-requires-in-B-clause-hosts
write-requires-in-B-clause-hosts c =
    let at = c.args.moment in
    (c.args.a.now, subst (λ x. AreHosts at x c.args.b.now c.args.a.now) (sym c.in-B.is) (turned at.setup.now at.payload.now (past_of at) at.heard c.args.a.now c.args.b.now c.requires.hosts))

pub returns-in-A : goal.returns-in-A
returns-in-A c =
    let t = c.write in
    let e = c.args.end in
    subst (λ x. IsPlayedBy c.args.moment (Write e c.args.at c.args.len) t.result t.new.posts.items x t.new.own c.args.b.now) c.in-A.is
    (t.ensures c.args.b.now (subst (λ x. AreHosts c.args.moment x c.args.a.now c.args.b.now) (sym c.in-A.is) c.requires.hosts))

pub returns-in-B : goal.returns-in-B
returns-in-B c =
    let at = c.args.moment in
    let event = Write c.args.end c.args.at c.args.len in
    at_b at event event _ _ c.args.end.side _ _ refl c.in-B.is
    (c.write-in-B.ensures c.args.a.now (subst (λ x. AreHosts at x c.args.b.now c.args.a.now) (sym c.in-B.is) (turned at.setup.now at.payload.now (past_of at) at.heard c.args.a.now c.args.b.now c.requires.hosts)))
