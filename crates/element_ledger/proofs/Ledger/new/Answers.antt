use Rattle.std.proofs.Common.{◌∙◌, map, ap, arith}
use Rattle.smc_num.specs.Places.{all_places}
use Rattle.element_ledger.proofs.Changes.{fresh_places}
use Rattle.element_ledger.proofs.Ledger.new.Goals as goal

pub invariant_of-result : goal.invariant_of-result
invariant_of-result c = (ap (λ rs. map (λ r. r.place) rs) c.in_ok-rows.ensures ∙ fresh_places (all_places c.args.rmbs c.args.elements), omega arith, omega arith)
