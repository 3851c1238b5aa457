use Rattle.lending_laws.proofs.Keys.{are-freed}
use Rattle.lending_laws.proofs.bound_keys.free_numbers_are_done_with.Goals as goal

pub returns : goal.returns
returns c = are-freed
