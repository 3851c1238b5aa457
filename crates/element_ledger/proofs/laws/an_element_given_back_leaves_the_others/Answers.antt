use Rattle.std.proofs.Common.{refl}
use Rattle.element_ledger.specs.Lendings.{freed, place_of}
use Rattle.element_ledger.proofs.Once.{others_stay}
use Rattle.element_ledger.proofs.laws.an_element_given_back_leaves_the_others.Goals as goal

pub returns : goal.returns
returns c = λ rows e other apart. others_stay (place_of e) freed other rows (λ r. refl) apart
