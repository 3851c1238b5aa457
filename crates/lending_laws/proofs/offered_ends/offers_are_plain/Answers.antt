use Rattle.lending_laws.proofs.Lendings.{plain-offers}
use Rattle.lending_laws.proofs.Ends.{own-all}
use Rattle.link_laws.proofs.Waiting.{with-of}
use Rattle.link_laws.proofs.Joined.{flows-of}
use Rattle.lending_laws.proofs.offered_ends.offers_are_plain.Goals as goal

pub returns : goal.returns
returns c = λ setup payload past m known. plain-offers setup payload past m (own-all setup payload past (flows-of setup payload past m)) (with-of setup payload past m known)
