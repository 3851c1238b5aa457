-- The link's posts come before the sockets.
use Rattle.std.proofs.Common.{◌∙◌, sym}
use Rattle.std.specs.List.{flat_map}
use Rattle.smc_num.specs.Names.{up_to}
use Rattle.world_core.specs.Steps.{does_something, slot_events, socket_events, opening_order, past, told_by}
use Rattle.world_core.proofs.NextEvents.{found-first, found-second}
use Rattle.world_core.proofs.world.World.next.Goals as goal

pub returns-in-Some-clause-first : goal.returns-in-Some-clause-first
returns-in-Some-clause-first c =
    let w = c.args.self.now in
    found-first (λ event. does_something (told_by w event)) (flat_map slot_events (up_to w.setup.links)) (flat_map socket_events (opening_order (past w))) c.in-Some.event (sym c.in-Some.is ∙ c.next_on_link.ensures.first)

pub returns-in-None-clause-first : goal.returns-in-None-clause-first
returns-in-None-clause-first c =
    let w = c.args.self.now in
    found-second (λ event. does_something (told_by w event)) (flat_map slot_events (up_to w.setup.links)) (flat_map socket_events (opening_order (past w))) _ (sym c.in-None.is ∙ c.next_on_link.ensures.first) c.next_on_sockets.ensures.first
