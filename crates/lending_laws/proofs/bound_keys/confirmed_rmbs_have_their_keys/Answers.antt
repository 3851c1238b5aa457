use Rattle.lending_laws.proofs.Known.{all-covered}
use Rattle.lending_laws.proofs.bound_keys.confirmed_rmbs_have_their_keys.Goals as goal

pub returns : goal.returns
returns c = all-covered
