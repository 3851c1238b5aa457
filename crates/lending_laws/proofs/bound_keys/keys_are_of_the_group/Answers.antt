use Rattle.lending_laws.proofs.Keys.{of-groups}
use Rattle.lending_laws.proofs.bound_keys.keys_are_of_the_group.Goals as goal

pub returns : goal.returns
returns c = of-groups
