-- Of every history that the definitions make: what a side asks about, tells and offers of its keys is bound there; so what its peer has learnt is, but for what the answers to key requests owe.
mod AskFacts
mod Calm
mod Covering
mod FirstKeys
mod FirstOffers
mod FlowsMade
mod Made
mod Owed
mod Requesting
mod Telling
mod ToldMade
-- after every history each confirmed RMB has its keys, whatever the answers to key requests owe
pub use Rattle.lending_laws.proofs.Known.Covering.{all-covered}
-- the keys of a side that offers in first contact
pub use Rattle.lending_laws.proofs.Known.FirstKeys.{begun-keys}
-- all that is claimed of the keys of a side, of every history that the definitions make and whose key requests are answered as they should be
pub use Rattle.lending_laws.proofs.Known.Made.{all-known}
