use Rattle.lending_laws.proofs.Known.{all-known}
use Rattle.lending_laws.proofs.bound_keys.keys_are_known.Goals as goal

pub returns : goal.returns
returns c = λ setup payload x past m owed. (all-known setup payload past m owed).keys x
