use Rattle.std.proofs.Common.{◌≡◌, ◌+◌, ◌≤◌, length}
use Rattle.std.specs.List.{flat_map}
use Rattle.std.specs.Str.Lines.{lines}
use Rattle.smcr_calls.specs.ShowLines.{after_lines, reading_text}
use Rattle.smcr_calls.proofs.show.read_lines.Given as goal

-- what the rest adds to the text of the messages so far is what the input adds to the text before
abbrev pub invariant-loop-line : goal.invariant-loop-line
invariant-loop-line l = record {
  same : after_lines (l.number + 1) (lines l.rest) (flat_map reading_text l.readings.items) ≡ after_lines 1 (lines l.fn.text) (flat_map reading_text l.fn.readings.items);
  counted : l.number + length l.rest ≤ length l.fn.text;
}

abbrev pub decreases-loop-line : goal.decreases-loop-line
decreases-loop-line l = length l.rest
