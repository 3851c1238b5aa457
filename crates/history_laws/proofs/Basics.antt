-- Small facts that stand in many proofs: of truth values, tables and sides, of the end at a side, and of what an end has sent as a list that lands and completes from its front.
mod Growth
mod Halves
mod Queues
mod Truths
-- whichever of two
pub use Rattle.history_laws.proofs.Basics.Growth.{either}
-- a message lands
pub use Rattle.history_laws.proofs.Basics.Growth.{lands-one}
-- a message that has landed completes
pub use Rattle.history_laws.proofs.Basics.Growth.{completes-one}
-- the end at a side after an item is what the item makes of it, settled; and only an end that is up is due
pub use Rattle.history_laws.proofs.Basics.Growth.{settled-half, is-up-where-due}
-- what holds of each thing that can become of an end holds of what an item makes of the end at a side
pub use Rattle.history_laws.proofs.Basics.Halves.{at-half}
-- a list of messages that begins with one
pub use Rattle.history_laws.proofs.Basics.Queues.{Begins}
-- the CDC messages under a token among posts
pub use Rattle.history_laws.proofs.Basics.Queues.{cdcs-append}
-- a post that lands goes over, where it is a CDC message
pub use Rattle.history_laws.proofs.Basics.Queues.{one-later}
-- an item that lands and completes nothing
pub use Rattle.history_laws.proofs.Basics.Queues.{is_no_message}
-- what an end has of landed messages begins with one
pub use Rattle.history_laws.proofs.Basics.Queues.{has-returning}
-- what is to land and what is returning of the messages that an end sent: nothing where none was sent, more where more is sent, one less where one lands or completes; and lists cut at 0
pub use Rattle.history_laws.proofs.Basics.Queues.{each-drop, lands-nothing, returns-nothing, begins, some-left, landing-grows, returning-same, landing-next, returning-next, returned-next, drop-none, take-none, same-link, either-way, returning-head}
-- what comes up
pub use Rattle.history_laws.proofs.Basics.Truths.{of_side}
-- a test whose other answer is true
pub use Rattle.history_laws.proofs.Basics.Truths.{not-true}
-- a side is this one or the other
pub use Rattle.history_laws.proofs.Basics.Truths.{either-side}
-- sides and links
pub use Rattle.history_laws.proofs.Basics.Truths.{same-self}
-- what is there
pub use Rattle.history_laws.proofs.Basics.Truths.{some-is}
-- an entry of an event
pub use Rattle.history_laws.proofs.Basics.Truths.{entry-of}
-- what is due is due of an end that is up
pub use Rattle.history_laws.proofs.Basics.Truths.{not-due}
-- the address of an RMB
pub use Rattle.history_laws.proofs.Basics.Truths.{rmb-of}
-- truth values, sides, options, phases and links: what a conjunction, a disjunction or a comparison tells
pub use Rattle.history_laws.proofs.Basics.Truths.{or-none, by-bool, if-same, and-false, and-both, and-left, and-true, or-right, or-true, same-is, link-is, none-is, by-side, or-shift, of-side, or-nothing, live-is, some-live, or-left, or-parts, standing-live, other-other, not-false, a-is-b, b-not-a}
