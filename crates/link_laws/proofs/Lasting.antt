-- Links over every history: what stood stands or was lost, a live link stays live or is lost, and how the group of a side changes.
mod EachEntry
mod Fates
mod GroupChanges
mod Links
mod Made
-- what an entry is to links
pub use Rattle.link_laws.proofs.Lasting.EachEntry.{Entered}
-- a Confirm among posts that offer nothing is none
pub use Rattle.link_laws.proofs.Lasting.EachEntry.{free-among}
-- what any entry is to links
pub use Rattle.link_laws.proofs.Lasting.EachEntry.{entered}
-- phases change: the live links followed by fates are those of the new table
pub use Rattle.link_laws.proofs.Lasting.Fates.{live-mapped}
-- no link of a group is live
pub use Rattle.link_laws.proofs.Lasting.Fates.{NoneLiveOf}
-- then there is no live link after fates where there was none before
pub use Rattle.link_laws.proofs.Lasting.Fates.{live-none}
-- live links after a link is made, and in groups that are over
pub use Rattle.link_laws.proofs.Lasting.Fates.{live-made, other-group, none-live-stands}
-- how a table changes while the group stays
pub use Rattle.link_laws.proofs.Lasting.GroupChanges.{Changed, ByPhase, ByPut}
-- what an entry does to a side
pub use Rattle.link_laws.proofs.Lasting.GroupChanges.{Shape, Stays, EndsHere, Starts}
-- after any entry
pub use Rattle.link_laws.proofs.Lasting.GroupChanges.{shapes}
-- a link is that of its slot, and live
pub use Rattle.link_laws.proofs.Lasting.Links.{LivesAt}
-- a link among the live ones is that of its slot, and live
pub use Rattle.link_laws.proofs.Lasting.Links.{live-at}
-- and the other way round
pub use Rattle.link_laws.proofs.Lasting.Links.{at-live}
-- what an entry does to live and to new links: a live one that still stands is live, and what comes to stand at one side stands at both
pub use Rattle.link_laws.proofs.Lasting.Links.{Turns}
-- after any entry
pub use Rattle.link_laws.proofs.Lasting.Links.{turns}
-- a live link stays live, or is lost
pub use Rattle.link_laws.proofs.Lasting.Links.{lasts-with}
-- a link that stands has stood
pub use Rattle.link_laws.proofs.Lasting.Links.{stands-known}
-- a link that ever stood stands at a side, or was lost there
pub use Rattle.link_laws.proofs.Lasting.Links.{stands-or-lost}
-- `again`
pub use Rattle.link_laws.proofs.Lasting.Links.{none-again}
-- the latest link of a slot, and each that ever stood, stands at a side and was not lost there, or was lost there and does not stand
pub use Rattle.link_laws.proofs.Lasting.Made.{one-of-both}
