use Rattle.std.proofs.Common.{List, subst, sym}
use Rattle.pipe_model.specs.declared.event.Event.TheVariants.{Deliver}
use Rattle.pipe_model.specs.declared.post.Post.{Post}
use Rattle.pipe_model.specs.declared.reply.Reply.TheVariants.{Landed}
use Rattle.world_core.specs.Hosts.{IsPlayedBy}
use Rattle.world_core.proofs.LandingCases.{not-clc}
use Rattle.world_core.proofs.link.land.Goals as goal

pub unreachable-requires : goal.unreachable-requires
unreachable-requires c = not-clc c.args.moment c.requires.landed.0 c.args.landed c.args.own.now c.args.theirs.now c.requires.landed.1 c.requires.few c.in-Clc.from c.in-Clc.s c.in-Clc.link c.in-Clc.message c.in-Clc.is

pub returns-in-Write : goal.returns-in-Write
returns-in-Write c = λ x landed.
    let at = c.args.landed.at in
    subst (λ (ps : List Post). IsPlayedBy c.args.moment (Deliver 1 x) (Landed at) ps x c.args.own.now c.land_write.new.theirs) (sym c.requires.none) (c.land_write.ensures c.args.moment x landed c.requires.few)

pub returns-in-Cdc : goal.returns-in-Cdc
returns-in-Cdc c = λ x landed. c.land_cdc.ensures x c.args.own.now landed
