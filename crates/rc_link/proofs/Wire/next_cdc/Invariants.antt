use Rattle.std.proofs.Common.{◌≡◌, map}
use Rattle.rc_link.specs.Wire.{next_cdc}
use Rattle.rc_link.proofs.Wire.next_cdc.Given as goal

-- what is left has the same next CDC message as all
abbrev pub invariant-loop-item : goal.invariant-loop-item
invariant-loop-item l = next_cdc (map (λ c. c.post) l.item-iterator) ≡ next_cdc (map (λ c. c.post) l.self.waiting)
