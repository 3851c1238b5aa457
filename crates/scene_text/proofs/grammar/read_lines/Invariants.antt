use Rattle.std.proofs.Common.{◌≡◌, ◌+◌, ◌≤◌, length}
use Rattle.std.specs.Str.Lines.{lines}
use Rattle.scene_text.specs.Scenes.{IsWithinLimits}
use Rattle.scene_text.specs.Settings.{plain_draft, empty_draft}
use Rattle.scene_text.specs.Grammar.{after_lines}
use Rattle.scene_text.proofs.grammar.read_lines.Given as goal

-- what the rest makes of the draft so far is what the text makes of the empty one
abbrev pub invariant-loop-line : goal.invariant-loop-line
invariant-loop-line l = record {
  same : after_lines (l.number + 1) (lines l.rest) (plain_draft l.draft) ≡ after_lines 1 (lines l.fn.bytes) empty_draft;
  counted : l.number + length l.rest ≤ length l.fn.bytes;
  within : IsWithinLimits (plain_draft l.draft).scene;
}

abbrev pub decreases-loop-line : goal.decreases-loop-line
decreases-loop-line l = length l.rest
