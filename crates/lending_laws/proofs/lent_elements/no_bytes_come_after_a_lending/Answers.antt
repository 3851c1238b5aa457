use Rattle.lending_laws.proofs.Lendings.{no-old-bytes}
use Rattle.lending_laws.proofs.lent_elements.no_bytes_come_after_a_lending.Goals as goal

pub returns : goal.returns
returns c = no-old-bytes
