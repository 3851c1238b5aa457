use Rattle.std.proofs.Common.{◌∙◌, map, ap}
use Rattle.element_ledger.specs.declared.rows.Change.TheVariants.{GivenBack}
use Rattle.element_ledger.specs.Lendings.{place_of}
use Rattle.element_ledger.proofs.Changes.{changed_places}
use Rattle.element_ledger.proofs.Ledger.give_back.Goals as goal

pub invariant_of-self : goal.invariant_of-self
invariant_of-self c = (ap (λ rs. map (λ r. r.place) rs) c.change_at.ensures ∙ changed_places (place_of c.args.e) GivenBack c.self.inside.rows.items ∙ c.self.invariant.0, c.self.invariant.1, c.self.invariant.2)
