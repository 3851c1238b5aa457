use Rattle.std.proofs.Common.{◌≡◌, ◌++◌, drop}
use Rattle.scene_text.specs.Words.{bytes_in}
use Rattle.scene_text.proofs.scenes.push_runs.Given as goal

-- the bytes so far and those of the rest are all
abbrev pub invariant-loop-run : goal.invariant-loop-run
invariant-loop-run l = l.bytes.items ++ bytes_in (drop l.run-index l.runs) ≡ l.fn.bytes.items ++ bytes_in l.runs
