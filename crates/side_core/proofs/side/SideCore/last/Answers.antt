use Rattle.std.proofs.Common.{◌∙◌, sym}
use Rattle.side_core.proofs.Sockets.{aimer_there}
use Rattle.side_core.proofs.side.SideCore.last.Goals as goal

pub last-requires : goal.last-requires
last-requires c = aimer_there c.args.token c.in-Some.s c.self.inside.connections (sym c.aimer.ensures ∙ c.in-Some.is)
