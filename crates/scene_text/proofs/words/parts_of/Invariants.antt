use Rattle.std.proofs.Common.{◌≡◌, ◌++◌, length, map}
use Rattle.scene_text.specs.Words.{parts}
use Rattle.scene_text.proofs.words.parts_of.Given as goal

-- the parts so far and those of the rest are those of the text
abbrev pub invariant-loop-part : goal.invariant-loop-part
invariant-loop-part l = map (λ p. p.now) l.found.items ++ parts l.mark l.rest ≡ parts l.mark l.fn.text

abbrev pub decreases-loop-part : goal.decreases-loop-part
decreases-loop-part l = length l.rest
