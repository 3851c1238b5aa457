use Rattle.std.proofs.Common.{◌∷◌}
use Rattle.lending_laws.proofs.Ends.{lives-on}
use Rattle.link_laws.proofs.Joined.{flows-of}
use Rattle.lending_laws.proofs.offered_ends.ends_come_up_on_live_links.Goals as goal

pub returns : goal.returns
returns c = λ setup payload e past m. lives-on setup payload e past m (flows-of setup payload (e ∷ past) m)
