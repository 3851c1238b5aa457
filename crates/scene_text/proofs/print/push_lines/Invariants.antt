use Rattle.std.proofs.Common.{◌≡◌, ◌++◌, drop}
use Rattle.scene_text.specs.Printing.{names_of, lines_text}
use Rattle.scene_text.proofs.print.push_lines.Given as goal

-- the lines so far and those of the rest are all
abbrev pub invariant-loop-line : goal.invariant-loop-line
invariant-loop-line l = l.out.items ++ lines_text (names_of l.names) l.payload (drop l.line-index l.lines) ≡ l.fn.out.items ++ lines_text (names_of l.names) l.payload l.lines
