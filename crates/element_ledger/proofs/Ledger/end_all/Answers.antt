use Rattle.std.proofs.Common.{◌∙◌, map, ap}
use Rattle.element_ledger.proofs.Changes.{freed_places}
use Rattle.element_ledger.proofs.Ledger.end_all.Goals as goal

pub invariant_of-self : goal.invariant_of-self
invariant_of-self c = (ap (λ rs. map (λ r. r.place) rs) c.free_all.ensures ∙ freed_places c.self.inside.rows.items ∙ c.self.invariant.0, c.self.invariant.1, c.self.invariant.2)
