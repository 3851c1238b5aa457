use Rattle.std.proofs.Common.{sym}
use Rattle.smc_num.specs.Names.{other}
use Rattle.pipe_model.specs.declared.event.Event.TheVariants.{Clc}
use Rattle.world_core.specs.Hosts.{past_of}
use Rattle.world_core.proofs.HostsOn.{plays-at, few-past}
use Rattle.world_core.proofs.TakingsAfter.{nothing-due}
use Rattle.world_core.proofs.handshake.take.Goals as goal

pub returns-in-None : goal.returns-in-None
returns-in-None c = λ dir hosts.
    let at = c.args.moment in
    plays-at at (Clc c.args.s dir) _ c.args.posts.now.items (other dir) c.args.own.now c.args.theirs.now
    (nothing-due at.setup.now at.payload.now (past_of at) at.heard c.args.s dir c.args.own.now c.args.theirs.now hosts c.requires.socket c.args.moment.paths.now c.requires.paths (few-past at c.requires.few)
    (sym c.in-None.ensures) c.args.posts.now.items c.requires.none)
