-- First contact through every event: its three rows, the offers on sockets, the count of groups; and what it owes to links and flows.
mod Beyond
mod Changes
mod Counted
mod Delivered
mod Elsewhere
mod Fewest
mod FirstSlot
mod Handled
mod Messages
mod Offers
mod Openings
mod OtherLandings
mod Others
mod Owing
mod Peers
mod Reflows
mod Rows
mod Same
mod Step
mod TakenAtA
mod TakenAtB
mod Verdicts
-- nothing happens on a socket with an entry, but that an end may be established or lose its group
pub use Rattle.link_laws.proofs.Contact.Changes.{IsSame}
-- what a side says of its new offer in later contact: its group was begun; and B is beyond first contact in it, the link live there
pub use Rattle.link_laws.proofs.Contact.Changes.{IsLaterOffer}
-- something happens on a socket with an entry, but not of first contact
pub use Rattle.link_laws.proofs.Contact.Changes.{IsMoved}
-- what an entry does to the two sides, where no side comes into a group
pub use Rattle.link_laws.proofs.Contact.Changes.{Moves}
-- what is the same on the socket of one of the three, too
pub use Rattle.link_laws.proofs.Contact.Changes.{IsKept}
-- B takes the Proposal and begins a group
pub use Rattle.link_laws.proofs.Contact.Changes.{IsBeginning}
-- what an entry is
pub use Rattle.link_laws.proofs.Contact.Changes.{Kind, Plain, Begins, Joins, Readies}
-- an Accept of first contact can be taken in its row alone
pub use Rattle.link_laws.proofs.Contact.Offers.{offered-row}
-- the link that A joins on is the next of its slot
pub use Rattle.link_laws.proofs.Contact.Offers.{joined-next}
-- whether a step makes a link
pub use Rattle.link_laws.proofs.Contact.OtherLandings.{is_new}
-- what a step that makes none does to the links of its side
pub use Rattle.link_laws.proofs.Contact.OtherLandings.{acted}
-- a landing that is not of the link flow does nothing to a side in first contact but to end its group, and posts nothing of the link flow there
pub use Rattle.link_laws.proofs.Contact.OtherLandings.{IsHarmless}
-- a message that is not of the link flow establishes no end and does no harm to first contact
pub use Rattle.link_laws.proofs.Contact.OtherLandings.{acts-is, not-up, harmless}
-- a Confirm of first contact that B takes is in its row
pub use Rattle.link_laws.proofs.Contact.Owing.{joined-row}
-- all that the handshake owes after a history, from what first contact is there
pub use Rattle.link_laws.proofs.Contact.Owing.{owed}
-- an end that waits is not up, and its early state is that
pub use Rattle.link_laws.proofs.Contact.Same.{state-parts}
-- which kind of entry one is that has just the reply and the posts of the definitions
pub use Rattle.link_laws.proofs.Contact.Step.{kind-given}
-- the step: after an entry that has just the reply and the posts of the definitions, offers, rows, counts and "beyond" hold again
pub use Rattle.link_laws.proofs.Contact.Step.{contacted}
-- before anything has happened
pub use Rattle.link_laws.proofs.Contact.Step.{contacted-first}
-- of two managers the front is the next message, and never faulty
pub use Rattle.link_laws.proofs.Contact.TakenAtB.{front-head}
