-- All that the agreement of wires and pipes wants of offers, links and ends.
mod All
mod Begins
mod Comes
mod Live
-- after a history and with each of its entries
pub use Rattle.lending_laws.proofs.Ends.All.{all-plain}
-- what a side's offer of first contact is: the next group at B, and at either side there was no group
pub use Rattle.lending_laws.proofs.Ends.Begins.{begins-b}
-- no side has a group beyond those that B has begun
pub use Rattle.lending_laws.proofs.Ends.Begins.{at-most}
-- a side begins a group only where it has none, and none that has ended there
pub use Rattle.lending_laws.proofs.Ends.Begins.{begins-new}
-- and so over every history
pub use Rattle.lending_laws.proofs.Ends.Begins.{all-begin}
-- what offers nothing posts no offer; and how A begins a group
pub use Rattle.lending_laws.proofs.Ends.Begins.{none-free, none-data, begins-a}
-- the offers of both sides on a socket are of the same kind of contact
pub use Rattle.lending_laws.proofs.Ends.Comes.{same-first}
-- `comes` and `lasts`
pub use Rattle.lending_laws.proofs.Ends.Comes.{lives-on}
-- before each entry B is sound
pub use Rattle.lending_laws.proofs.Ends.Live.{own-all}
-- an end comes up while its side is in the group of the offer
pub use Rattle.lending_laws.proofs.Ends.Live.{up-in-group}
-- an end in any group, up or not, has the live links of its side just while the side is in the group
pub use Rattle.lending_laws.proofs.Ends.Live.{has-live-in}
-- an end that is up is in the group of its offer, which its side is in, or which has ended there
pub use Rattle.lending_laws.proofs.Ends.Live.{up-in}
-- `live`
pub use Rattle.lending_laws.proofs.Ends.Live.{has-live}
