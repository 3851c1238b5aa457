-- What an entry offers and lends, and in which states the ends of a socket are: by message, verdict and reply.
mod Ends
mod Lending
mod Offering
mod StateChanges
mod Streams
-- an end that has none expects nothing
pub use Rattle.history_laws.proofs.Offers.Ends.{none-expects}
-- a reset with the group
pub use Rattle.history_laws.proofs.Offers.Ends.{loss-own}
-- A and B wait for their own
pub use Rattle.history_laws.proofs.Offers.Ends.{never-waits}
-- a socket is opened only where it is new, and gets raw bytes only where it was not opened
pub use Rattle.history_laws.proofs.Offers.Ends.{opens-new}
-- after each history
pub use Rattle.history_laws.proofs.Offers.Ends.{states}
-- a loss makes no end where there was none
pub use Rattle.history_laws.proofs.Offers.Ends.{loss-none}
-- lists
pub use Rattle.history_laws.proofs.Offers.Lending.{in-append}
-- a message at the front of a stream of the managers
pub use Rattle.history_laws.proofs.Offers.Lending.{front-in}
-- a side that takes part in an offer
pub use Rattle.history_laws.proofs.Offers.Lending.{accept-new}
-- what the entry makes a side lend
pub use Rattle.history_laws.proofs.Offers.Lending.{begins}
-- an offer stays: no second one is made on its socket
pub use Rattle.history_laws.proofs.Offers.Lending.{kept}
-- where it was not there before, it is new
pub use Rattle.history_laws.proofs.Offers.Lending.{new-or-old}
-- after each history
pub use Rattle.history_laws.proofs.Offers.Lending.{all-offers}
-- what is in a list is in a longer one; a post that offers nothing lends nothing; and what an Accept and a Confirm that are taken make of both ends and their offers
pub use Rattle.history_laws.proofs.Offers.Lending.{in-front, in-back, in-drop, free-lends-all, not-none, taken-as, of-entry, accept-is, confirm-new}
-- whether a verdict sends an Accept, or a Confirm
pub use Rattle.history_laws.proofs.Offers.Offering.{sends-accept}
-- what can be said to an Accept, to a Proposal and to a Confirm
pub use Rattle.history_laws.proofs.Offers.Offering.{accept-step}
-- what was asked for, by the reply
pub use Rattle.history_laws.proofs.Offers.Offering.{posts-are}
-- what a verdict that offers was given on
pub use Rattle.history_laws.proofs.Offers.Offering.{sends-confirm, proposal-step, accepts-in, confirms-in}
-- the state of an end that is up, and of one that is not
pub use Rattle.history_laws.proofs.Offers.StateChanges.{state-up}
-- how a CLC event is answered: not at all; for bytes that are no message; or by the verdict on the message at the front
pub use Rattle.history_laws.proofs.Offers.StateChanges.{Answers, NotTaken, ForFault, ByVerdict}
-- what an event makes of a state, by its kind: nothing; what the answer to the CLC message says; or, without an end before, what raw bytes do
pub use Rattle.history_laws.proofs.Offers.StateChanges.{Does, DoesNothing, DoesTake, DoesBegin}
-- how a CLC event is answered, and what an entry makes of the state of an end
pub use Rattle.history_laws.proofs.Offers.StateChanges.{state-early, answers, does}
-- a CLC message of A that an entry posts: a Proposal as the socket is opened, a Decline as A declines, or a Confirm
pub use Rattle.history_laws.proofs.Offers.Streams.{NewMessage, AsOpened, AsDeclined, AsConfirmed}
-- the posts of A in what is asked for are all of its CLC messages
pub use Rattle.history_laws.proofs.Offers.Streams.{messages-are}
-- a CLC message that A posts is a Proposal as it opens, a Decline as it declines, or a Confirm
pub use Rattle.history_laws.proofs.Offers.Streams.{new-message}
