use Rattle.std.proofs.Common.{◌≡◌, ◌+◌, ◌≤◌, length, drop}
use Rattle.scene_text.specs.Words.{bytes_in}
use Rattle.scene_text.proofs.scenes.count_of.Given as goal

-- the bytes so far and those of the rest are all
abbrev pub invariant-loop-run : goal.invariant-loop-run
invariant-loop-run l = record {
  all : l.count + length (bytes_in (drop l.run-index l.runs)) ≡ length (bytes_in l.runs);
  few : l.count ≤ l.most;
}
