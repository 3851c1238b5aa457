use Rattle.lending_laws.proofs.Keys.{are-bound}
use Rattle.lending_laws.proofs.bound_keys.keys_are_bound.Goals as goal

pub returns : goal.returns
returns c = are-bound
