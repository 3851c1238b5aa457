use Rattle.std.proofs.Common.{not}
use Rattle.element_ledger.specs.Lendings.{is_lent}
use Rattle.element_ledger.proofs.Once.{are_apart, stands_once}
use Rattle.element_ledger.proofs.laws.the_first_free_element_stands_once.Goals as goal

pub returns : goal.returns
returns c = λ v r ledger free. stands_once (λ q. not (is_lent q)) v.rows r (are_apart v ledger) free
