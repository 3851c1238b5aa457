use Rattle.std.proofs.Common.{◌∙◌, sym, ap, ◌∷◌, Some}
use Rattle.atomic_table.specs.Table.{rest}
use Rattle.turn_cell.proofs.steps.make_call.Goals as goal

pub exchange-requires : goal.exchange-requires
exchange-requires g c = let held = c.requires.machine in (c.requires.table.same, (Some held.0, held.1 ∙ ap (λ r. (0, Some held.0) ∷ r) (sym (ap rest held.1))))
