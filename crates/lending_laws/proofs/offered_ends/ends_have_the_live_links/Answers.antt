use Rattle.lending_laws.proofs.Ends.{has-live, all-begin}
use Rattle.link_laws.proofs.Joined.{flows-of}
use Rattle.lending_laws.proofs.offered_ends.ends_have_the_live_links.Goals as goal

pub returns : goal.returns
returns c = λ setup payload past m. let f = flows-of setup payload past m in has-live setup payload past m f (all-begin setup payload past m f)
