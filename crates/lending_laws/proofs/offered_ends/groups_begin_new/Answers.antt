use Rattle.std.proofs.Common.{◌∷◌}
use Rattle.lending_laws.proofs.Ends.{begins-new}
use Rattle.link_laws.proofs.Joined.{flows-of}
use Rattle.lending_laws.proofs.offered_ends.groups_begin_new.Goals as goal

pub returns : goal.returns
returns c = λ setup payload e past m. begins-new setup payload e past m (flows-of setup payload (e ∷ past) m)
