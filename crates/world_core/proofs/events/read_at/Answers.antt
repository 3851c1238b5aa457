-- The host of the end reads.
use Rattle.std.proofs.Common.{refl, subst, sym}
use Rattle.pipe_model.specs.declared.event.Event.TheVariants.{Read}
use Rattle.world_core.specs.Hosts.{AreHosts, IsPlayedBy, past_of}
use Rattle.world_core.proofs.HostsSwapped.{at_b, turned}
use Rattle.world_core.proofs.events.read_at.Goals as goal

pub read-requires-clause-hosts : goal.read-requires-clause-hosts
read-requires-clause-hosts c = subst (λ x. AreHosts c.args.moment x c.args.a.now c.args.b.now) (sym c.in-A.is) c.requires.hosts

pub read-requires-in-B-clause-hosts : goal.read-requires-in-B-clause-hosts
read-requires-in-B-clause-hosts c =
    let at = c.args.moment in
    subst (λ x. AreHosts at x c.args.b.now c.args.a.now) (sym c.in-B.is) (turned at.setup.now at.payload.now (past_of at) at.heard c.args.a.now c.args.b.now c.requires.hosts)

pub returns-in-A-clause-played : goal.returns-in-A-clause-played
returns-in-A-clause-played c =
    let r = c.read in
    subst (λ x. IsPlayedBy c.args.moment (Read c.args.end c.args.len) r.result r.new.posts.items x r.new.own r.new.theirs) c.in-A.is r.ensures.played

pub returns-in-B-clause-played : goal.returns-in-B-clause-played
returns-in-B-clause-played c = at_b c.args.moment (Read c.args.end c.args.len) (Read c.args.end c.args.len) _ _ c.args.end.side _ _ refl c.in-B.is c.read-in-B.ensures.played
