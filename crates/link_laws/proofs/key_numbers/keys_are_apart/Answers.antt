use Rattle.link_laws.proofs.Keys.{keys-are}
use Rattle.link_laws.proofs.key_numbers.keys_are_apart.Goals as goal

pub returns : goal.returns
returns c = keys-are
