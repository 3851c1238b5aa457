use Rattle.link_laws.proofs.Keys.{keys-in}
use Rattle.link_laws.proofs.key_numbers.keys_are_in_range.Goals as goal

pub returns : goal.returns
returns c = keys-in
