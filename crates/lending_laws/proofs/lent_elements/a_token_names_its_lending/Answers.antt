use Rattle.lending_laws.proofs.Lendings.{names-record}
use Rattle.lending_laws.proofs.lent_elements.a_token_names_its_lending.Goals as goal

pub returns : goal.returns
returns c = names-record
