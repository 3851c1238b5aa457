use Rattle.element_ledger.specs.Lendings.{place_of}
use Rattle.element_ledger.proofs.Once.{gone_is_freed}
use Rattle.element_ledger.proofs.laws.both_ends_go_and_the_element_is_freed.Goals as goal

pub returns : goal.returns
returns c = λ rows e. gone_is_freed (place_of e) rows
