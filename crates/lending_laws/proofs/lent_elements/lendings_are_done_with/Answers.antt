use Rattle.lending_laws.proofs.Lendings.{lending-laws}
use Rattle.lending_laws.proofs.lent_elements.lendings_are_done_with.Goals as goal

pub returns : goal.returns
returns c = lending-laws
