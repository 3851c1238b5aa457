use Rattle.std.proofs.Common.{◌≡◌, ◌<◌, ℕ, IsSome}
use Rattle.wait_set.specs.Waiting.{waiting_at}
use Rattle.smcr_tests.proofs.wait_set_tests.pick_often.Given as goal

-- the look is of the board, and so are the members
abbrev pub invariant-loop : goal.invariant-loop
invariant-loop l = record { board : l.look.board ≡ l.board; places : (p : ℕ) → IsSome (waiting_at l.set.members p) → p < l.board.words }
