-- Links, groups and flows stay sound through each change: a table, one side, both sides, losses and reports, each message that lands, the beginnings of requests, and first contact.
mod AnyLanding
mod FirstContact
mod Frames
mod Grows
mod Landings
mod Losses
mod OneSide
mod Reports
mod Requests
mod Slots
mod Standing
mod Taken
-- whatever LLC message lands
pub use Rattle.link_laws.proofs.Sound.AnyLanding.{lands}
-- B begins a group, in which A is not
pub use Rattle.link_laws.proofs.Sound.FirstContact.{begins-b}
-- B asks to confirm the link; A is in first contact, if the link stands there
pub use Rattle.link_laws.proofs.Sound.FirstContact.{asks-first}
-- before anything has happened
pub use Rattle.link_laws.proofs.Sound.FirstContact.{at-first}
-- A joins, and the first link is made
pub use Rattle.link_laws.proofs.Sound.FirstContact.{joins}
-- nothing under way is always right
pub use Rattle.link_laws.proofs.Sound.Frames.{forgotten}
-- a side at which a link stands has the link's group
pub use Rattle.link_laws.proofs.Sound.Frames.{has-group}
-- a link that stands after the loss of a slot stood before, on another slot
pub use Rattle.link_laws.proofs.Sound.Frames.{stood}
-- Grow, told that ADD LINK was sent
pub use Rattle.link_laws.proofs.Sound.Grows.{grown}
-- what the reply to Grow tells
pub use Rattle.link_laws.proofs.Sound.Grows.{can-grow, none-adding}
-- in first contact no link is live
pub use Rattle.link_laws.proofs.Sound.Landings.{first-not-live}
-- it goes on only beyond first contact
pub use Rattle.link_laws.proofs.Sound.OneSide.{was-going}
-- a side beyond first contact
pub use Rattle.link_laws.proofs.Sound.OneSide.{IsGoing}
-- what is so of one side in a group, by its flow and its slots
pub use Rattle.link_laws.proofs.Sound.OneSide.{true-not-false, none-at, after-rises, going-of}
-- of its own, with a DELETE LINK
pub use Rattle.link_laws.proofs.Sound.Reports.{reported-a}
-- B reports a link
pub use Rattle.link_laws.proofs.Sound.Reports.{reported-b}
-- what a report posts: of the link flow, the request or the keys of B that were carried by the lost link
pub use Rattle.link_laws.proofs.Sound.Requests.{under-append}
-- a side reports a link of its own
pub use Rattle.link_laws.proofs.Sound.Requests.{reports-linked}
-- a side begins to ask for a key, to delete keys and to test a link; and what it posts again as it loses one
pub use Rattle.link_laws.proofs.Sound.Requests.{key-asked, delete-asked, test-asked, under-loss}
-- the phase that a known link has, none having none
pub use Rattle.link_laws.proofs.Sound.Slots.{phase_in}
-- the same of the link and of the phase
pub use Rattle.link_laws.proofs.Sound.Slots.{put-link}
-- a change of the phase on one slot
pub use Rattle.link_laws.proofs.Sound.Slots.{phase-link}
-- on another slot, and on this one
pub use Rattle.link_laws.proofs.Sound.Slots.{set-beside}
-- a link that stands is that of its slot
pub use Rattle.link_laws.proofs.Sound.Slots.{stands-at}
-- the lowest live link
pub use Rattle.link_laws.proofs.Sound.Slots.{lowest-is}
-- what stands on a slot as a link is put into a table, a phase is set, or all links die
pub use Rattle.link_laws.proofs.Sound.Slots.{link-self, put-phase, set-at, found-slot, set-link, set-here, set-dead, all-none, all-link, of-at, none-stands, some-live, at-stands}
-- a phase of what stands may change to live
pub use Rattle.link_laws.proofs.Sound.Standing.{live-stands}
-- what stands as a link is put into a table stood before, or is that link
pub use Rattle.link_laws.proofs.Sound.Standing.{put-stands}
-- what stands on a slot has the slot
pub use Rattle.link_laws.proofs.Sound.Taken.{slot-of}
-- the lowest live link of a side beyond first contact
pub use Rattle.link_laws.proofs.Sound.Taken.{lowest-lives}
