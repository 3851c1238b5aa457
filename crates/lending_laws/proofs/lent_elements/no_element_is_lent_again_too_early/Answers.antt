use Rattle.lending_laws.proofs.Lendings.{relending}
use Rattle.lending_laws.proofs.lent_elements.no_element_is_lent_again_too_early.Goals as goal

pub returns : goal.returns
returns c = relending
