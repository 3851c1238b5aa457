use Rattle.turn_cell.specs.Lists.{added}
use Rattle.turn_cell.proofs.steps.make_call.Given as goal

-- the entry that the call added
abbrev pub ghosts-raise_count : goal.ghosts-raise_count
ghosts-raise_count g a = record { entry = added (g.M.Machine.list a.before.value) (g.M.Machine.list a.machine.now) }
