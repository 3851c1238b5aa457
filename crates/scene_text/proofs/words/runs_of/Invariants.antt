use Rattle.std.proofs.Common.{◌≡◌, length}
use Rattle.scene_text.specs.Words.{parts, comma, runs_from}
use Rattle.scene_text.proofs.Runs.{with_front}
use Rattle.scene_text.proofs.words.runs_of.Given as goal

-- the runs so far and those of the rest are those of the word
abbrev pub invariant-loop-item : goal.invariant-loop-item
invariant-loop-item l = with_front l.runs.items (runs_from (parts comma l.rest)) ≡ runs_from (parts comma l.fn.word)

abbrev pub decreases-loop-item : goal.decreases-loop-item
decreases-loop-item l = length l.rest
