-- A post lands or completes, on the one slot.
use Rattle.std.proofs.Common.{subst}
use Rattle.world_core.specs.Leaving.{IsLeaving}
use Rattle.world_core.proofs.OnlyReads.{lands-or-completes}
use Rattle.world_core.proofs.events.move_on.Goals as goal

pub land_from-requires-clause-slot : goal.land_from-requires-clause-slot
land_from-requires-clause-slot c = subst (λ event. IsLeaving event) c.in-Deliver.is c.requires.moves

pub complete_at-requires-clause-slot : goal.complete_at-requires-clause-slot
complete_at-requires-clause-slot c = subst (λ event. IsLeaving event) c.in-Complete.is c.requires.moves

pub unreachable-requires : goal.unreachable-requires
unreachable-requires c = lands-or-completes c.args.event c.requires.moves c.in_default.not-Deliver c.in_default.not-Complete
