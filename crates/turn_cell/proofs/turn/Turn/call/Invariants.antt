use Rattle.std.proofs.Common.{◌≡◌, ◌≤◌, ◌⊎◌}
use Rattle.turn_cell.specs.Calls.{IsLater}
use Rattle.turn_cell.proofs.turn.Turn.call.Given as goal

abbrev pub invariant-loop : goal.invariant-loop
invariant-loop g l =
    (goal.iterator-loop g).can_next l.iterator' × (goal.iterator-loop g).is_finite l.iterator'
    × (l.waiting ≡ l.fn.call) × (l.pass ≡ record l.fn.pass { met = l.pass.met; tries = l.pass.tries }) × (l.fn.pass.tries ≤ l.pass.tries)
    × ((l.pass.met ≡ l.fn.pass.met) ⊎ IsLater l.fn.pass.last l.pass.met)
