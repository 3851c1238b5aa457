-- The end for which a first link goes live waits for it.
mod Awaits
mod ComingUp
mod FirstWaits
mod Landed
-- an establishment, by its kind
pub use Rattle.link_laws.proofs.Waiting.ComingUp.{by-kind}
-- what an entry makes stand is new
pub use Rattle.link_laws.proofs.Waiting.FirstWaits.{grows-of}
-- and its ends wait
pub use Rattle.link_laws.proofs.Waiting.FirstWaits.{all-awaited}
-- what is owed with each entry
pub use Rattle.link_laws.proofs.Waiting.FirstWaits.{with-of}
-- what is known of a message that lands at a side
pub use Rattle.link_laws.proofs.Waiting.Landed.{HasLanded}
-- what lands with an entry
pub use Rattle.link_laws.proofs.Waiting.Landed.{has-landed}
-- it is what was under way of its kind
pub use Rattle.link_laws.proofs.Waiting.Landed.{landed-under}
