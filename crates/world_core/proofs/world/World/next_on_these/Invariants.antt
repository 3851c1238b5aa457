-- What is left to look at gives the same as all.
use Rattle.std.specs.Prelude.{◌≡◌, drop}
use Rattle.std.specs.List.{find, flat_map}
use Rattle.world_core.specs.Steps.{does_something, socket_events, told_by}
use Rattle.world_core.proofs.world.World.next_on_these.Given as goal

abbrev pub invariant-loop-s : goal.invariant-loop-s
invariant-loop-s l = find (λ event. does_something (told_by l.self event)) (flat_map socket_events (drop l.s-index l.sockets)) ≡ find (λ event. does_something (told_by l.self event)) (flat_map socket_events l.sockets)
