use Rattle.link_laws.proofs.Lasting.{one-of-both}
use Rattle.link_laws.proofs.Joined.{flows-of}
use Rattle.link_laws.proofs.lost_links.a_link_stands_or_was_lost.Goals as goal

pub returns : goal.returns
returns c = λ setup payload past m. one-of-both setup payload past m (flows-of setup payload past m)
