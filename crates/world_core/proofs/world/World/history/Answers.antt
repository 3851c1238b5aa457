-- A world's history is lawful.
use Rattle.std.proofs.Common.{subst}
use Rattle.pipe_model.specs.Lawful.{IsLawful}
use Rattle.world_core.specs.Steps.{Seen}
use Rattle.world_core.proofs.LawfulWorlds.{history_is_lawful, world_is_lawful}
use Rattle.world_core.proofs.world.World.history.Goals as goal

pub returns-clause-lawful : goal.returns-clause-lawful
returns-clause-lawful c =
    let v = c.self.inside in
    let w : Seen = record { setup = v.setup; payload = v.payload.items; room = v.room; history = v.history.items; heard = v.heard.items } in
    subst (λ (u : Seen). IsLawful u.setup u.payload u.history u.heard) c.self.view_is (history_is_lawful w (world_is_lawful w v.a v.b v.opened.items v.paths.items _ _ _ c.self.invariant))
