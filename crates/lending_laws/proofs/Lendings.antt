-- What is lent, how a lending ends, when its element is lent again, and what comes under its token after that.
mod All
mod Apart
mod Done
mod Fallen
mod Groups
mod Least
mod Lendings
mod Owed
mod Places
mod Returns
mod Reuse
mod Told
-- all that lendings want, after each history
pub use Rattle.lending_laws.proofs.Lendings.All.{all-owed}
-- what stands in A's stream, after each history
pub use Rattle.lending_laws.proofs.Lendings.All.{all-streams}
-- lendings are apart, held and done with, from what is owed after each history
pub use Rattle.lending_laws.proofs.Lendings.All.{are-done-all}
-- B accepts where an element is free and its group is beyond first contact, or in first contact where it has none
pub use Rattle.lending_laws.proofs.Lendings.Groups.{AcceptFacts}
-- an end of A that has offered goes out with its group alone
pub use Rattle.lending_laws.proofs.Lendings.Done.{out-ended}
-- a verdict that sends is none of those that hold or decline
pub use Rattle.lending_laws.proofs.Lendings.Groups.{if-not}
-- A confirms in first contact where it has no group, and else where it is in the group of the offer and an element is free
pub use Rattle.lending_laws.proofs.Lendings.Groups.{ConfirmFacts}
-- what a verdict that offers tells of group, link and element
pub use Rattle.lending_laws.proofs.Lendings.Groups.{accept-facts, confirm-facts}
-- and so of a verdict that was given
pub use Rattle.lending_laws.proofs.Lendings.Groups.{accept-facts-of, confirm-facts-of}
-- it does so of a Confirm alone, at an end that waits for it, on a socket that is not raw
pub use Rattle.lending_laws.proofs.Lendings.Least.{TakesConfirm}
-- what the agreement of wires and pipes wants with an entry
pub use Rattle.lending_laws.proofs.Lendings.Least.{go-on-plain}
-- what the agreement of wires and pipes wants of offers, without a word on parts
pub use Rattle.lending_laws.proofs.Lendings.Least.{plain-offers}
-- all that is owed, from the least
pub use Rattle.lending_laws.proofs.Lendings.Least.{from-least}
-- an element is lent again only when it is done with, from the least that is owed
pub use Rattle.lending_laws.proofs.Lendings.Least.{relending}
-- lendings are apart, held and done with, from the least that is owed
pub use Rattle.lending_laws.proofs.Lendings.Least.{lending-laws}
-- reuse from the least
pub use Rattle.lending_laws.proofs.Lendings.Least.{no-old-bytes}
-- an end that is ready takes a Confirm that it waited for
pub use Rattle.lending_laws.proofs.Lendings.Least.{ready-in}
-- what passes a filter
pub use Rattle.lending_laws.proofs.Lendings.Lendings.{in-filter}
-- what is lent was lent
pub use Rattle.lending_laws.proofs.Lendings.Lendings.{lent-was}
-- a new lending, by its offer
pub use Rattle.lending_laws.proofs.Lendings.Lendings.{in-new}
-- before it, the side had not offered there
pub use Rattle.lending_laws.proofs.Lendings.Lendings.{not-offered}
-- after each history
pub use Rattle.lending_laws.proofs.Lendings.Lendings.{all-lendings}
-- what an entry does to what is lent
pub use Rattle.lending_laws.proofs.Lendings.Lendings.{changes}
-- what is owed after a history, of what is owed after each
pub use Rattle.lending_laws.proofs.Lendings.Owed.{owed-now}
-- an offer's packet sequence number is its group
pub use Rattle.lending_laws.proofs.Lendings.Owed.{all-psn}
-- and is not 0
pub use Rattle.lending_laws.proofs.Lendings.Owed.{grouped-own}
-- a new lending is of the next free place, and of a place in range that is not lent
pub use Rattle.lending_laws.proofs.Lendings.Places.{new-place}
-- after each history what is lent is of the side's group
pub use Rattle.lending_laws.proofs.Lendings.Places.{all-groups}
-- an end that went out stays out
pub use Rattle.lending_laws.proofs.Lendings.Returns.{out-stays}
-- A's offer names the link that B's does
pub use Rattle.lending_laws.proofs.Lendings.Returns.{same-link}
-- a lending is of the group of its connection
pub use Rattle.lending_laws.proofs.Lendings.Returns.{lending-group}
-- what the peer of a lending that has ended has under way carries no bytes
pub use Rattle.lending_laws.proofs.Lendings.Reuse.{peer-quiet}
-- the token of what is lent names its lending; and a message without bytes is posted with no write before it
pub use Rattle.lending_laws.proofs.Lendings.Reuse.{names-record, no-writes}
