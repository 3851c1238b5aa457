use Rattle.wait_set.specs.Search.{Asked, NoneReady}
use Rattle.wait_set.proofs.search.first_ready.Given as goal

-- the members so far were asked, and none of them is ready
abbrev pub invariant-loop-at : goal.invariant-loop-at
invariant-loop-at l = record { asked : Asked l.members l.at l.initial.look l.look; none_ready : NoneReady l.members l.at l.look }
