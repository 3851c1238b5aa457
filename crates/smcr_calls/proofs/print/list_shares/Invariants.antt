use Rattle.std.proofs.Common.{◌≡◌, ◌++◌, drop}
use Rattle.smcr_calls.specs.Shares.{shares_of}
use Rattle.smcr_calls.proofs.print.list_shares.Given as goal

-- the shares so far and those of the rest are all
abbrev pub invariant-loop-entry : goal.invariant-loop-entry
invariant-loop-entry l = l.shares.items ++ shares_of (drop l.entry-index l.history) ≡ shares_of l.history
