use Rattle.std.proofs.Common.{◌≡◌, ◌++◌, drop}
use Rattle.scene_text.specs.Printing.{settings_text}
use Rattle.scene_text.proofs.print.push_settings.Given as goal

-- the lines so far and those of the rest are all
abbrev pub invariant-loop-line : goal.invariant-loop-line
invariant-loop-line l = l.out.items ++ settings_text l.setup l.room (drop l.line-index l.lines) ≡ l.fn.out.items ++ settings_text l.setup l.room l.lines
