-- What an entry gives a connection, and what that makes of the end at a side: when it is up, what it has sent, on which link, when it is over, and which of its side's links are live.
mod Entries
mod Live
mod Over
mod Sending
mod Sent
mod Shapes
mod Ups
-- tests over lists of items
pub use Rattle.history_laws.proofs.Items.Entries.{each-append}
-- what stands below the deeds of an entry
pub use Rattle.history_laws.proofs.Items.Entries.{below}
-- the items of an entry are its deeds above what stands below them, and entries of one event, reply and fabric give the same
pub use Rattle.history_laws.proofs.Items.Entries.{items-are, same-items}
-- what a fate makes of live links
pub use Rattle.history_laws.proofs.Items.Live.{meets}
-- fates, the oldest first
pub use Rattle.history_laws.proofs.Items.Live.{forth}
-- what an entry makes of the live links of an end, and of whether its group stands
pub use Rattle.history_laws.proofs.Items.Live.{entry-live}
-- with any news that can be
pub use Rattle.history_laws.proofs.Items.Over.{over-stays}
-- that an item leaves the end at a side, in this state, on its link
pub use Rattle.history_laws.proofs.Items.Sending.{StaysOn}
-- that each of some news does, the newest first
pub use Rattle.history_laws.proofs.Items.Sending.{AllStayOn}
-- what an end has sent since on its link, on which it stayed; where it isn't up it has sent nothing
pub use Rattle.history_laws.proofs.Items.Sending.{Sends}
-- how many have landed and completed
pub use Rattle.history_laws.proofs.Items.Sending.{Counts}
-- what a move that is due makes of an end: all that it sent is left behind, and it goes on, on its lowest live link
pub use Rattle.history_laws.proofs.Items.Sending.{MovesOff}
-- what an end sends goes on its link, through one item and through many; what lands and completes of it is counted; and a move begins anew on another link
pub use Rattle.history_laws.proofs.Items.Sending.{sends-on, sends-step, sends-all, counts-step, swallows-one, moves-step, less-step}
-- a validation message tells no last snapshot
pub use Rattle.history_laws.proofs.Items.Sent.{IsHonest}
-- some news
pub use Rattle.history_laws.proofs.Items.Sent.{news-grow}
-- what is posted with them
pub use Rattle.history_laws.proofs.Items.Sent.{posts-are-more}
-- a last snapshot is among what was sent before, or among what is posted
pub use Rattle.history_laws.proofs.Items.Sent.{last-either}
-- a fate, or the end of a group
pub use Rattle.history_laws.proofs.Items.Shapes.{is_below}
-- all that stands below the deeds leaves the end on its link
pub use Rattle.history_laws.proofs.Items.Shapes.{stay-all-below}
-- the deeds of an entry are none, one, or a move beside which it gives nothing; what stands below them sends, lands and completes nothing
pub use Rattle.history_laws.proofs.Items.Shapes.{all-ends, all-fates, of-side-is, below-messages, message-apart, counts-all, deed-stays, Shape, NoDeed, Deed, MoveDeed, shape}
-- an end that is not up has sent nothing since
pub use Rattle.history_laws.proofs.Items.Ups.{silent-after}
-- the end of the pipe is up where the end in the history is
pub use Rattle.history_laws.proofs.Items.Ups.{pipe-is-up}
-- an end that is not up posts nothing
pub use Rattle.history_laws.proofs.Items.Ups.{silent}
